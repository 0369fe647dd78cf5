-- What holds where room is made.
use Rattle.std.proofs.Common.{◌≡◌, ◌≤◌, ℕ, ◌+◌, ◌-◌, ◌*◌, Option, Some, Result, OnOk, refl, ap, inl, inr, arith}
use Rattle.std.specs.Option.{option_map_or}
use Rattle.std.proofs.lemmas.Bool.{cases_lt}
use Rattle.nand_model.specs.Calls.{Device}
use Rattle.block_state.specs.Committed.{bad_count, uncommitted_count, free_count, IsScarce}
use Rattle.block_state.specs.Table.{Table, IsFewest, room}
use Rattle.block_state.specs.laws.Committed.{free_where_uncommitted}
use Rattle.nand_model.specs.Counts.{ReadsFew, unfinished}
use Rattle.transactions.specs.Checking.{LogState}
use Rattle.flash_log.specs.Moving.{AnswersFailures}
use Rattle.flash_log.specs.Consistency.{HasFreeBlocks}
use Rattle.flash_log.specs.laws.Bills.{pays_none}
use Rattle.flash_log.specs.Gathering.{PaysGathering}
use Rattle.flash_log.specs.RoomMaking.{CostsUpTo, FitsOpen, HasMore, PaysRoom}
use Rattle.flash_log.specs.SummaryMaking.{HasClear, KeepsHeld, PaysNext}
use Rattle.flash_log.specs.SummarySource.{summary_size}
use Rattle.flash_log.specs.declared.fault.MoveFault.{MoveFault}
use Rattle.flash_log.specs.declared.room_fault.RoomFault.{RoomFault}

-- where the next block is opened as many are free as have to be
pub free_next : (spare count : ℕ) (d : Device) (t u : Table) → KeepsHeld t u → HasClear count d u → HasMore t spare → HasFreeBlocks u spare
free_next spare count d t u keeps opened more =
    let one : uncommitted_count u ≡ free_count u + 1 = free_where_uncommitted u opened.block opened.clear.open_block opened.clear.within opened.clear.good opened.clear.uncommitted in
    let same = keeps.uncommitted in omega (arith, one, same, more)

-- what it costs, where the next block is opened or not
pub pays_next : (spare count : ℕ) (old new : LogState) (next : Result (Unit {0}) MoveFault) (result : Result (Unit {0}) RoomFault) → bad_count old.table ≤ spare → HasMore old.table spare
    → PaysNext count old new next → OnOk result (AnswersFailures 0 0 old.device new.device old.table new.table) → ReadsFew (unfinished result) old.device new.device → PaysRoom spare old new result
pays_next spare count old new next result within_limit more opened answers reads =
    let costs = opened.pays.costs in
    record {
      pays = record { costs = omega (arith, costs, opened.fits); marks = opened.pays.marks; answers = answers; reads = reads };
      fewest = λ scarce v is. absurd (omega (arith, scarce, more, within_limit));
      takes = λ _. omega (arith, costs, opened.most);
    }

-- what it costs where nothing is done
pub pays_nothing : (spare : ℕ) (log : LogState) (result : Result (Unit {0}) RoomFault) → PaysRoom spare log log result
pays_nothing spare log result = record {
  pays = pays_none _ _ log result;
  fewest = λ scarce v is. none ((log.table.entry v).committed + summary_size log.device.geometry + 1);
  takes = λ _. none (summary_size log.device.geometry + 1);
} where
  none : (changes : ℕ) → CostsUpTo changes log.device log.device
  none changes = let one : (log.device.geometry.pages + 2) * (log.device.failures + 0) ≡ (log.device.geometry.pages + 2) * log.device.failures = omega arith in omega (arith, one)

-- where no block is to be taken, the collection of the block with the fewest committed pages
pub pays_collected : (spare v count : ℕ) (old new : LogState) (gathered : Result (Unit {0}) MoveFault) (result : Result (Unit {0}) RoomFault) → IsFewest old.table old.table.geometry.blocks v → (HasMore old.table spare → ⊥)
    → PaysGathering (old.table.entry v).committed count old new gathered → OnOk result (AnswersFailures 0 0 old.device new.device old.table new.table) → ReadsFew (unfinished result) old.device new.device
    → PaysRoom spare old new result
pays_collected spare v count old new gathered result fewest none pays answers reads =
    let costs = pays.pays.costs in
    record {
      pays = record { costs = omega (arith, costs, pays.fits); marks = pays.pays.marks; answers = answers; reads = reads };
      fewest = λ scarce w is. let within_limit : (old.table.entry v).committed ≤ (old.table.entry w).committed = fewest.least w is.within is.good is.some in omega (arith, within_limit, costs, pays.most);
      takes = λ more. absurd (none more);
    }

-- the open block has the pages that were not written
pub fits_open : (count w n : ℕ) (t : Table) → t.open_block ≡ Some w → (t.entry w).next ≡ n → n + count ≤ t.geometry.pages → FitsOpen count t
fits_open count w n t is next le =
    let pages : room t ≡ t.geometry.pages - (t.entry w).next = ap (λ (o : Option ℕ). option_map_or (λ b. t.geometry.pages - (t.entry b).next) o 0) is in
    omega (arith, pages, next, le)

-- the clear block has it
pub fits_clear : (count : ℕ) (d : Device) (t : Table) → HasClear count d t → FitsOpen count t
fits_clear count d t opened = fits_open count opened.block (t.entry opened.block).next t opened.clear.open_block refl opened.fits

-- where no block without a committed page is to be taken
pub scarce_unless : (spare : ℕ) (t : Table) → (HasMore t spare → ⊥) → IsScarce t spare
scarce_unless spare t none = elim (cases_lt (1 + spare) (uncommitted_count t + bad_count t)) [
  | inl more ↦ absurd (none more)
  | inr within_limit ↦ omega (arith, within_limit)
]
