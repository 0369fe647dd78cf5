-- What is said of the pages of a store.
use Rattle.std.specs.Prelude.{◌≡◌, true}
use Rattle.nand_model.specs.declared.geometry.Geometry.{Geometry}
use Rattle.pages.specs.Maps.{PageMap}
use Rattle.pages.specs.Sound.{OfSound}
use Rattle.pages.specs.State.{PagesState}
use Rattle.volume_terms.specs.Sizes.{Sizes}

-- this holds of the pages of a sound store, by the sizes of each volume with pages of its size
abbrev pub OfPages : PagesState → (Sizes → PageMap → Type 0) → Type 0
OfPages p A = OfSound p (λ z. A z p.present)

-- this holds by the sizes of each volume with pages of the store's size
abbrev pub OfPageBytes : PagesState → (Sizes → Type 0) → Type 0
OfPageBytes p A = (z : Sizes) → z.page_bytes ≡ p.page_bytes → A z

-- this holds of a sound store with pages of a device's size
abbrev pub OfSized : Geometry → PagesState → Type 0 → Type 0
OfSized g p A = p.sound ≡ true → g.bytes ≡ p.page_bytes → A
