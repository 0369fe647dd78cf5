-- What a store needs of the tables of a tree.
use Rattle.std.specs.Prelude.{◌≡◌, ◌<◌, ◌-◌, ◌^◌, ℕ, Bool, true, Option, Some, None}
use Rattle.std.specs.FinMap as map
use Rattle.std.specs.Option.{option_and_then}
use Rattle.std.proofs.Common.{refl, sym, ap, subst, ◌∙◌, arith}
use Rattle.volume_terms.specs.Sizes.{Sizes}
use Rattle.nand_model.specs.Flash.{Flash}
use Rattle.posix_profile.specs.State.{Object, Objects}
use Rattle.posix_profile.specs.WellFormed.{IsForest}
use Rattle.paged_objects.specs.Holding.{HoldsObject, HoldsObjects}
use Rattle.page_store.specs.Shown.{data_at, data_of, committed_data}
use Rattle.chunk_index.specs.Maps.{committed_pages}
use Rattle.nand_model.specs.Calls.{Device}
use Rattle.flash_tree.specs.Newest.{Numbers}
use Rattle.block_state.specs.Table.{Table}
use Rattle.block_state.specs.laws.Committed.{free_where_closed}
use Rattle.chunk_index.specs.declared.index.Index.{Index}
use Rattle.flash_log.specs.Consistency.{AreCommitted, KeepsOrdinary, IsConsistentLog, TablesAgree, HasFreeBlocks}
use Rattle.page_store.specs.Opened.{AreLeft}
use Rattle.mounting.specs.Marked.{AreFitting}
use Rattle.mounting.specs.Tables.{IsPruned}

-- where numbers are left and blocks enough are free, the tables agree
pub tables_pruned : (keeps : ℕ → ℕ → Bool) (spare : ℕ) (d : Device) (t : Table) (x : Index) (n : Numbers) → IsPruned keeps d t x n → AreLeft n → AreFitting t → HasFreeBlocks t spare
    → TablesAgree spare t x
tables_pruned keeps spare d t x n pruned left fits free = record {
  counts = pruned.tables.counts;
  within = pruned.tables.lie left;
  fits = fits;
  written = λ o at. let both : None ≡ Some o = sym pruned.tables.closed ∙ at in absurd cc;
  uncommitted = let same = free_where_closed t pruned.tables.closed in omega (arith, same, free);
  apart = pruned.tables.apart;
}

-- and a store can stand on them
pub consistent_pruned : (keeps : ℕ → ℕ → Bool) (spare : ℕ) (d : Device) (t : Table) (x : Index) (n : Numbers) → IsPruned keeps d t x n → AreLeft n → AreFitting t → HasFreeBlocks t spare
    → (d.honest ≡ true → KeepsOrdinary x) → IsConsistentLog spare d t x
consistent_pruned keeps spare d t x n pruned left fits free ordinary = record {
  tables = tables_pruned keeps spare d t x n pruned left fits free;
  newest = λ honest power. pruned.tables.newest honest;
  ordinary = ordinary;
  limits = (omega (arith, pruned.tables.group left, left.0), omega (arith, pruned.tables.seq left, left.1));
}

-- The committed pages are of the objects of a tree, and none of these has the number of checkpoints.
pub ordinary_shown : (z w : Sizes) (f : Flash) (x : Index) (objects : Objects) → IsForest z objects → HoldsObjects w (committed_data x f) objects → AreCommitted f (committed_pages x) → KeepsOrdinary x
ordinary_shown z w f x objects forest holds committed o c p is same =
    let has = (committed o c p is).newest.holds.has in
    let two : None ≡ Some has.bytes = sym empty ∙ ap (option_and_then (data_at f)) is ∙ ap data_of has.page in
    cc
  where
    none : map.get objects o ≡ None
    none = go (map.get objects o) refl where
      go : (m : Option Object) → map.get objects o ≡ m → map.get objects o ≡ None
      go None at = at
      go (Some object) at = let less : o < 2 ^ 64 - 1 = (forest.each o object at).number in absurd (omega (arith, less, same))

    empty : committed_data x f o c ≡ None
    empty = subst (HoldsObject w (committed_data x f) o) none (holds.each o) c
