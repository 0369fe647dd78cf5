-- The entries of a checkpoint, page by page.
use Rattle.std.specs.Prelude.{◌≡◌, ◌≤◌, ℕ, ◌+◌, ◌-◌, ◌*◌, ◌/◌, List, [], length, take}
use Rattle.volume_terms.specs.Rounding.{ceiling}
use Rattle.page_tags.specs.Checks.{check_head_bytes, check_page}
use Rattle.page_tags.specs.declared.check.CheckEntry.{CheckEntry}
use Rattle.mount_scan.specs.CheckpointParts.{AreEntries, Takes}

-- the bytes of a page: a number of parts of 32 bytes
pub record IsPageSize (d : ℕ) : Type 0 where
  pub least : 512 ≤ d
  pub most : d ≤ 4096
  pub parts : 32 * (d / 32) ≡ d

-- how many entries have room in the first i pages of d bytes, behind the head
abbrev pub entries_below : ℕ → ℕ → ℕ
entries_below d i = i * (d / 32) - 1

-- these are the bytes of page i of a checkpoint with these entries
abbrev pub IsPage : List ℕ → ℕ → List CheckEntry → Type 0
IsPage page i fs = page ≡ check_page (length page) fs i

-- Page 0 says that there are n entries, which take so many pages, and begins with the first of them.
pub record TakesFirst (n count : ℕ) (page : List ℕ) (new : List CheckEntry) : Type 0 where
  pub head : take 32 page ≡ check_head_bytes n
  pub size : count ≡ ceiling (32 * (1 + n)) (length page)
  pub takes : Takes n (entries_below (length page) 1) (λ fs. page ≡ check_page (length page) fs 0) [] new

-- no list of entries that takes so many pages has this page 0
abbrev pub RefusesFirst : ℕ → List ℕ → Type 0
RefusesFirst count page = (fs : List CheckEntry) → AreEntries (length fs) fs → count ≡ ceiling (32 * (1 + length fs)) (length page) → page ≡ check_page (length page) fs 0 → ⊥
