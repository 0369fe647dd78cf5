-- What is said of a sound store.
use Rattle.std.specs.Prelude.{◌≡◌, true}
use Rattle.volume_terms.specs.Sizes.{Sizes}
use Rattle.pages.specs.State.{PagesState}

-- this holds of a sound store, by the sizes of each volume with pages of its size
abbrev pub OfSound : PagesState → (Sizes → Type 0) → Type 0
OfSound p A = p.sound ≡ true → (z : Sizes) → z.page_bytes ≡ p.page_bytes → A z
