-- A flash as lists, so that a contract can remember one.
-- From: this project.
use Rattle.std.specs.Prelude.{ℕ, Bool, false, List, [], Option, Some, None, get_or}
use Rattle.nand_model.specs.Flash.{Flash, Page, Erased}

-- For each block whether it is bad, which page is next, and its pages.
pub record Snapshot : Type 0 where
  pub bad : List Bool
  pub next : List (Option ℕ)
  pub pages : List (List Page)

-- the flash that lists say: past their ends there are good blocks, and erased pages that cannot be programmed
abbrev pub flash_of : Snapshot → Flash
flash_of s = record {
  bad = λ b. get_or s.bad b false;
  next = λ b. get_or s.next b None;
  page = λ b p. get_or (get_or s.pages b []) p Erased;
}

-- the flash that is remembered, if one is
abbrev pub remembered_flash : Option Snapshot → Option Flash
remembered_flash None = None
remembered_flash (Some first) = Some (flash_of first)
