-- Maps of the newest pages of a flash, passed on. Declares nothing.
pub use Rattle.pages.specs.NewestMaps.{IsNewestMap}
