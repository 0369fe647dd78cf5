pub mod AnswerLaws
pub mod FindingExists
pub mod ContentExists
pub mod TreeExists
pub mod TwiceExists
pub mod RoomExists
pub mod AnswerExists
