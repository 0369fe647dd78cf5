-- What holds of the numbers that are handed out.
use Rattle.std.specs.Prelude.{◌≡◌, ◌≤◌, ◌+◌, ◌-◌, ℕ, true, false, None, Result}
use Rattle.std.proofs.Common.{refl, sym, ◌∙◌, ap, arith, inl, inr}
use Rattle.std.proofs.lemmas.Bool.{cases_Bool}
use Rattle.nand_model.specs.Flash.{Flash}
use Rattle.nand_model.specs.Calls.{Device, Lasts, Erases, Marks}
use Rattle.nand_model.specs.laws.Changes.{shrinks-erase}
use Rattle.nand_model.specs.declared.nand.EraseFault.{EraseFault}
use Rattle.nand_model.specs.declared.nand.Gone.{Gone}
use Rattle.flash_tree.specs.Numbering.{AreBelow}
use Rattle.block_state.specs.Table.{Table}
use Rattle.transactions.specs.Handing.{HandsNumbers, HandsOut}
use Rattle.transactions.specs.Marking.{NotesMark}
use Rattle.transactions.specs.Opening.{MayLose}
use Rattle.transactions.specs.laws.Ready.{below_erased, below_marked}
use Rattle.flash_tree.specs.Truth.{KeepsTrue}
use Rattle.flash_tree.specs.laws.Truth.{true_on, true_same}
use Rattle.transactions.specs.laws.Truth.{true_noted, true_marked}

-- what is below some numbers is below greater ones
pub below_greater : (f : Flash) (g s h r : ℕ) → g ≤ h → s ≤ r → AreBelow f g s → AreBelow f h r
below_greater f g s h r groups seqs below b p u good has = let was = below b p u good has in (omega (arith, was, groups), omega (arith, was, groups), omega (arith, was, seqs))

-- what one call hands out and then another
numbers_on : (a b c : Device) (t u v : Table) → Lasts a b → Lasts b c → HandsNumbers a b t u → HandsNumbers b c u v → HandsNumbers a c t v
numbers_on a b c t u v before after first then = record {
  groups_rise = omega (arith, first.groups_rise, then.groups_rise);
  seqs_rise = omega (arith, first.seqs_rise, then.seqs_rise);
  seqs = omega (arith, first.seqs, then.seqs);
  groups = λ honest power. omega (arith, first.groups honest (had power), then.groups (before.honest ∙ honest) power);
  below = λ honest is. then.below (before.honest ∙ honest) (first.below honest is);
  written = written;
} where
  had : c.gone ≡ false → b.gone ≡ false
  had is = elim (cases_Bool b.gone) [
    | inr power ↦ power
    | inl gone ↦ let two : true ≡ false = sym gone ∙ sym (ap (λ (d : Device). d.gone) (after.gone gone)) ∙ is in absurd cc
  ]

  written : a.honest ≡ true → AreBelow a.flash t.next_group t.next_seq → (more : ℕ) → c.changes ≡ a.changes + more → AreBelow c.flash (t.next_group + more) (t.next_seq + more)
  written honest is more totaled = elim (cases_Bool b.gone) [
    | inl gone ↦ rw (after.gone gone) (first.written honest is more (ap (λ (d : Device). d.changes) (sym (after.gone gone)) ∙ totaled))
    | inr power ↦
        let still : b.honest ≡ true = before.honest ∙ honest in
        let rest : c.changes ≡ b.changes + (c.changes - b.changes) = omega (arith, after.changes) in
        below_greater c.flash (u.next_group + (c.changes - b.changes)) (u.next_seq + (c.changes - b.changes)) _ _
        (omega (arith, first.groups honest power, totaled, after.changes)) (omega (arith, first.seqs, totaled, after.changes))
        (then.written still (first.below honest is) (c.changes - b.changes) rest)
  ]

-- what two calls in turn hand out
pub hands_on : (a b c : Device) (t u v : Table) → Lasts a b → Lasts b c → HandsOut a b t u → HandsOut b c u v → HandsOut a c t v
hands_on a b c t u v before after first then = record {
  numbers = numbers_on a b c t u v before after first.numbers then.numbers;
  truth = true_on a b c t.checkpoint u.checkpoint v.checkpoint before first.truth then.truth;
}

-- no group's number is handed out, and no tag came
numbers_unwritten : (old new : Device) (t t' : Table) → t'.next_group ≡ t.next_group → t.next_seq ≤ t'.next_seq → t'.next_seq + old.changes ≤ t.next_seq + new.changes
    → (old.honest ≡ true → (group seq : ℕ) → AreBelow old.flash group seq → AreBelow new.flash group seq) → HandsNumbers old new t t'
numbers_unwritten old new t t' groups rise seqs stays = record {
  groups_rise = omega (arith, groups);
  seqs_rise = rise;
  seqs = seqs;
  groups = λ honest power. omega (arith, groups, rise, seqs);
  below = λ honest is. below_greater new.flash t.next_group t.next_seq _ _ (omega (arith, groups)) rise (stays honest _ _ is);
  written = λ honest is more totaled. below_greater new.flash t.next_group t.next_seq _ _ (omega arith) (omega arith) (stays honest _ _ is);
}

-- where no call is made none is handed out
pub hands_nothing : (a : Device) (t : Table) → HandsOut a a t t
hands_nothing a t = record { numbers = numbers_unwritten a a t t refl (omega arith) (omega arith) (λ honest group seq is. is); truth = true_same a t.checkpoint t.checkpoint refl }

-- nor where no block is open any longer
pub hands_closed : (a : Device) (t u : Table) → u ≡ record t { open_block = None } → HandsOut a a t u
hands_closed a t u is = record {
  numbers = numbers_unwritten a a t u (ap (λ (x : Table). x.next_group) is) (omega (arith, seqs)) (omega (arith, seqs)) (λ honest group seq below. below);
  truth = true_same a t.checkpoint u.checkpoint (ap (λ (x : Table). x.checkpoint) is);
} where
  seqs : u.next_seq ≡ t.next_seq
  seqs = ap (λ (x : Table). x.next_seq) is

-- tables of the same next numbers and the same checkpoint
pub hands_same : (a b : Device) (t u v : Table) → v.next_group ≡ u.next_group → v.next_seq ≡ u.next_seq → v.checkpoint ≡ u.checkpoint → HandsOut a b t u → HandsOut a b t v
hands_same a b t u v groups seqs noted hands = record {
  numbers = record {
    groups_rise = omega (arith, groups, hands.numbers.groups_rise);
    seqs_rise = omega (arith, seqs, hands.numbers.seqs_rise);
    seqs = omega (arith, seqs, hands.numbers.seqs);
    groups = λ honest power. omega (arith, groups, hands.numbers.groups honest power);
    below = λ honest is. below_greater b.flash u.next_group u.next_seq _ _ (omega (arith, groups)) (omega (arith, seqs)) (hands.numbers.below honest is);
    written = hands.numbers.written;
  };
  truth = true_noted a b t u v noted hands.truth;
}

-- a mark, done or cut, hands out none
pub hands_marked : (b : ℕ) (old new : Device) (t t' : Table) (result : Result (Unit {0}) Gone) → Marks b old new result → MayLose b t → NotesMark b new.flash t t' → HandsOut old new t t'
hands_marked b old new t t' result does first notes = record {
  numbers = numbers_unwritten old new t t' notes.sets.next_group (omega (arith, seqs)) (omega (arith, seqs, does.lasts.changes))
      (λ honest group seq. below_marked b old new group seq result honest does);
  truth = true_marked b old new t t' result does first notes;
} where
  seqs : t'.next_seq ≡ t.next_seq
  seqs = notes.next_seq

-- an erase, however it ends, hands out one block's number at most, and only where there was one
pub hands_erased : (b : ℕ) (old new : Device) (t t' : Table) (result : Result (Unit {0}) EraseFault) → Erases b old new result → t'.next_group ≡ t.next_group
    → t.next_seq ≤ t'.next_seq → t'.next_seq + old.changes ≤ t.next_seq + new.changes → KeepsTrue old new t.checkpoint t'.checkpoint → HandsOut old new t t'
hands_erased b old new t t' result does groups rise seqs truth = record {
  numbers = numbers_unwritten old new t t' groups rise seqs
      (λ honest group seq. below_erased b old.flash new.flash group seq (shrinks-erase b old new result honest does));
  truth = truth;
}
