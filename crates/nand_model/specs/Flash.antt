-- A flash: what each block and each page is.
use Rattle.std.specs.Prelude.{◌≡◌, ◌<◌, ◌≤◌, ℕ, Bool, false, Option, Some, None, List, length, slice_index}

-- what a page reads as
pub data Page : Type 0 where
  Erased : Page
  Written : (bytes tag : List ℕ) → Page
  Uncorrectable : Page

-- Which blocks are marked bad, the page of each block that can be programmed next, and each page.
pub record Flash : Type 0 where
  pub bad : ℕ → Bool
  pub next : ℕ → Option ℕ
  pub page : ℕ → ℕ → Page

-- The pages of a block from its next page on are erased.
abbrev pub IsClean : Flash → Type 0
IsClean flash = (b p q : ℕ) → flash.next b ≡ Some p → p ≤ q → flash.page b q ≡ Erased

-- What lies outside of so many blocks of so many pages is good, erased and can't be programmed.
pub record IsWithin (pages blocks : ℕ) (flash : Flash) : Type 0 where
  pub bad : (b : ℕ) → blocks ≤ b → flash.bad b ≡ false
  pub next : (b : ℕ) → blocks ≤ b → flash.next b ≡ None
  pub block : (b p : ℕ) → blocks ≤ b → flash.page b p ≡ Erased
  pub page : (b p : ℕ) → pages ≤ p → flash.page b p ≡ Erased
  pub next_page : (b p : ℕ) → flash.next b ≡ Some p → p ≤ pages

-- so many numbers, each of them a byte
pub record AreBytes (count : ℕ) (bytes : List ℕ) : Type 0 where
  pub len : length bytes ≡ count
  pub each : (i : ℕ) → slice_index bytes i < 256

-- A page that is written has so many bytes of data, and 48 of a tag.
abbrev pub IsSized : ℕ → Flash → Type 0
IsSized size flash = (b p : ℕ) (bytes tag : List ℕ) → flash.page b p ≡ Written bytes tag → AreBytes size bytes × AreBytes 48 tag
