-- What a store needs of the tables of a device.
use Rattle.std.specs.Prelude.{◌≡◌, ◌<◌, ◌≤◌, ◌^◌, ℕ, Some, None}
use Rattle.std.proofs.Common.{sym, ◌∙◌, inl, inr, arith}
use Rattle.std.proofs.lemmas.Bool.{cases_lt}
use Rattle.nand_model.specs.Calls.{Device}
use Rattle.flash_tree.specs.Newest.{Numbers}
use Rattle.block_state.specs.Table.{Table}
use Rattle.block_state.specs.laws.Committed.{free_where_closed}
use Rattle.chunk_index.specs.declared.index.Index.{Index}
use Rattle.flash_log.specs.Consistency.{IsConsistentLog, HasFreeBlocks, KeepsOrdinary}
use Rattle.page_store.specs.Opened.{AreLeft}
use Rattle.test_devices.specs.Keeping.{KeepsNewest}

-- What was tested of them.
pub record IsTested (spare : ℕ) (t : Table) (n : Numbers) : Type 0 where
  pub left : AreLeft n
  pub fits : (b : ℕ) → b < t.geometry.blocks → (t.entry b).committed ≤ t.geometry.pages
  pub free : HasFreeBlocks t spare
  pub limits : (t.next_group ≤ 2 ^ 62) × (t.next_seq ≤ 2 ^ 62)

-- a block has no more committed pages than it has pages, also where there is no such block
fits_all : (t : Table) (x : Index) (d : Device) (n : Numbers) → KeepsNewest d t x n → ((b : ℕ) → b < t.geometry.blocks → (t.entry b).committed ≤ t.geometry.pages)
    → (b : ℕ) → (t.entry b).committed ≤ t.geometry.pages
fits_all t x d n keeps fits b = elim (cases_lt b t.geometry.blocks) [
  | inl lt ↦ fits b lt
  | inr ge ↦ let none : (t.entry b).committed ≡ 0 = keeps.counts.counts b ∙ keeps.counts.within b ge in omega (arith, none)
]

-- what stands then
pub consistent_tested : (spare : ℕ) (d : Device) (t : Table) (x : Index) (n : Numbers) → KeepsNewest d t x n → IsTested spare t n → KeepsOrdinary x → IsConsistentLog spare d t x
consistent_tested spare d t x n keeps tested ordinary = record {
  tables = record {
    counts = keeps.counts;
    within = keeps.lie tested.left;
    fits = fits_all t x d n keeps tested.fits;
    written = λ o at. let both : None ≡ Some o = sym keeps.closed ∙ at in absurd cc;
    uncommitted = let same = free_where_closed t keeps.closed in omega (arith, same, tested.free);
    apart = λ c at. let both : None ≡ Some c = sym keeps.checkpoint ∙ at in absurd cc;
  };
  newest = λ honest power. keeps.newest honest;
  ordinary = λ _. ordinary;
  limits = tested.limits;
}
