-- The pages that were noted of a block.
use Rattle.std.specs.Prelude.{◌≡◌, ◌<◌, ℕ, zero, suc, List, Some, slice_get}
use Rattle.page_tags.specs.declared.check.CheckEntry.{CheckEntry}
use Rattle.chunk_index.specs.Maps.{CommittedMap}
use Rattle.flash_log.specs.SummaryMaking.{page_of}

-- the entry is of a page that is committed in the block
abbrev pub IsCommittedIn : ℕ → CommittedMap → CheckEntry → Type 0
IsCommittedIn b m e = (e.block ≡ b) × (m e.object e.chunk ≡ Some (page_of e))

-- the page lies behind that of the last of the first n entries, if there is one
abbrev pub LiesBehind : List CheckEntry → ℕ → ℕ → Type 0
LiesBehind entries zero page = Unit {0}
LiesBehind entries (suc n) page = (e : CheckEntry) → slice_get entries n ≡ Some e → e.page < page

-- The first n entries are of pages that are committed in the block, in their order.
pub record AreRising (b : ℕ) (m : CommittedMap) (entries : List CheckEntry) (n : ℕ) : Type 0 where
  pub each : (i : ℕ) (e : CheckEntry) → i < n → slice_get entries i ≡ Some e → IsCommittedIn b m e
  pub rise : (i j : ℕ) (e f : CheckEntry) → i < j → j < n → slice_get entries i ≡ Some e → slice_get entries j ≡ Some f → e.page < f.page
