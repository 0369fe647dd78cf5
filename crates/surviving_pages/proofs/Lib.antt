pub mod Reading
pub mod Tagged
pub mod Latest
pub mod Indexed
pub mod Laws
pub mod LostPlaces
