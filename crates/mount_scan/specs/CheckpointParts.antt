-- The entries of a checkpoint, part by part of 32 bytes.
use Rattle.std.specs.Prelude.{◌≡◌, ◌↔◌, ℕ, ◌-◌, ◌/◌, min, List, length, slice_get, replicate, flat_map, All, AllPairs, Some}
use Rattle.std.specs.List.{range_with_len}
use Rattle.std.specs.Option.{option_map_or}
use Rattle.page_tags.specs.Checks.{IsCheckEntry, IsEntryBefore, check_entry_bytes}
use Rattle.page_tags.specs.declared.check.CheckEntry.{CheckEntry}

-- entry k as bytes, and zeros behind the last
abbrev pub entry_part : List CheckEntry → ℕ → List ℕ
entry_part es k = option_map_or check_entry_bytes (slice_get es k) (replicate 32 0)

-- so many entries, which are in range and rise
pub record AreEntries (n : ℕ) (es : List CheckEntry) : Type 0 where
  pub count : length es ≡ n
  pub each : All IsCheckEntry es
  pub rise : AllPairs IsEntryBefore es

-- each entry of the one list is at its place in the other, which so begins with it
abbrev pub BeginsWith : List CheckEntry → List CheckEntry → Type 0
BeginsWith es fs = (k : ℕ) (e : CheckEntry) → slice_get es k ≡ Some e → slice_get fs k ≡ Some e

-- the entry is the last of the list
abbrev pub IsLast : List CheckEntry → CheckEntry → Type 0
IsLast es e = slice_get es (length es - 1) ≡ Some e

-- the bytes are those of the entries from this place on, part by part
abbrev pub ArePartsFrom : ℕ → List ℕ → List CheckEntry → Type 0
ArePartsFrom first bytes es = bytes ≡ flat_map (entry_part es) (range_with_len first (length bytes / 32))

-- What was read made the entries more, up to this place at most: lists of n entries begin with the new ones exactly where they
-- begin with the old and fit what was read.
pub record Takes (n reach : ℕ) (Fits : List CheckEntry → Type 0) (old new : List CheckEntry) : Type 0 where
  pub so_far : AreEntries (min n reach) new
  pub exact : (fs : List CheckEntry) → AreEntries n fs → BeginsWith new fs ↔ (BeginsWith old fs × Fits fs)

-- no list of n entries that begins with these fits what was read
abbrev pub Refuses : ℕ → (List CheckEntry → Type 0) → List CheckEntry → Type 0
Refuses n Fits old = (fs : List CheckEntry) → AreEntries n fs → BeginsWith old fs → Fits fs → ⊥
