-- What a free block is, and what it costs to take one.
use Rattle.std.proofs.Common.{◌≡◌, ◌<◌, ◌≤◌, ◌+◌, ◌∙◌, ap, ℕ, Bool, true, false, not, ◌&&◌, nat_eq, refl, Result, Ok, Err, inl, inr, arith}
use Rattle.std.proofs.lemmas.Bool.{eqb-true, cases_Bool}
use Rattle.nand_model.specs.Flash.{Flash}
use Rattle.nand_model.specs.Calls.{Device, Erases, Marks}
use Rattle.nand_model.specs.declared.nand.EraseFault.{EraseFault}
use Rattle.nand_model.specs.declared.nand.EraseFault.TheVariants as erase_faults
use Rattle.nand_model.specs.declared.nand.Gone.{Gone}
use Rattle.block_state.specs.Committed.{bad_count}
use Rattle.block_state.specs.laws.Committed.{mark_bad}
use Rattle.block_state.specs.Table.{Table, Sets, is_free, is_open}
use Rattle.transactions.specs.Marking.{NotesMark}

both : (x y z : Bool) → (not x && (y && z)) ≡ true → (x ≡ false) × (y ≡ true)
both false true z is = (refl, refl)
both false false z is = absurd cc
both true y z is = absurd cc

-- it is good and without a committed page
pub was_uncommitted : (t : Table) (b : ℕ) → is_free t b ≡ true → ((t.entry b).bad ≡ false) × ((t.entry b).committed ≡ 0)
was_uncommitted t b is = let parts = both (t.entry b).bad (nat_eq (t.entry b).committed 0) (not (is_open t.open_block b)) is in (parts.0, eqb-true (t.entry b).committed 0 parts.1)

-- with the mark of a good block one more is bad
pub one_more : (b : ℕ) (flash : Flash) (t t' : Table) → b < t.geometry.blocks → (t.entry b).bad ≡ false → flash.bad b ≡ true → NotesMark b flash t t' → bad_count t' ≡ bad_count t + 1
one_more b flash t t' within good is notes =
    let sets : Sets b (record (t.entry b) { bad = true }) t t' = record {
      here = notes.sets.here ∙ ap (λ x. record (t.entry b) { bad = x }) is;
      others = notes.sets.others;
      geometry = notes.sets.geometry;
      next_group = notes.sets.next_group;
    } in
    mark_bad t t' b sets within good

-- an erase is one change at most
pub erase_costs : (b : ℕ) (old new : Device) (result : Result (Unit {0}) EraseFault) → Erases b old new result → new.changes ≤ old.changes + 1
erase_costs b old new result does = elim (cases_Bool old.gone) [
  | inl gone ↦ let same : new.changes ≡ old.changes = ap (λ (d : Device). d.changes) (does.lasts.gone gone) in omega (arith, same)
  | inr power ↦ let one = does.changes power in omega (arith, one)
]

-- an erase that failed was in the count as a failure
pub erase_fails : (b : ℕ) (old new : Device) → Erases b old new (Err erase_faults.Failed) → old.failures + 1 ≤ new.failures
erase_fails b old new does = let failed = does.ends.failures in omega (arith, failed)

-- and so is a mark
pub mark_costs : (b : ℕ) (old new : Device) (result : Result (Unit {0}) Gone) → Marks b old new result → new.changes ≤ old.changes + 1
mark_costs b old new result does = elim (cases_Bool old.gone) [
  | inl gone ↦ let same : new.changes ≡ old.changes = ap (λ (d : Device). d.changes) (does.lasts.gone gone) in omega (arith, same)
  | inr power ↦ let one = does.changes power in omega (arith, one)
]

-- and no failure
pub mark_fails_not : (b : ℕ) (old new : Device) (result : Result (Unit {0}) Gone) → Marks b old new result → new.failures ≡ old.failures
mark_fails_not b old new (Ok done) does = does.ends.failures
mark_fails_not b old new (Err gone) does = does.ends.failures
