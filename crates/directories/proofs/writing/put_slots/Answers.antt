use Rattle.std.proofs.Common.{◌≡◌, ◌<◌, ◌≤◌, ◌+◌, ◌-◌, ◌*◌, ◌%◌, ◌∙◌, ℕ, min, sym, ap, subst, inl, inr, arith}
use Rattle.std.proofs.Math.Nat.{div-add-mod'}
use Rattle.flash_tree.specs.Slots.{IsTreeSlot}
use Rattle.directories.specs.declared.writing.Writing.{Writing}
use Rattle.directories.proofs.Written.{below_end, second_apart, second_below, second_valid}
use Rattle.directories.proofs.writing.put_slots.Goals as goal

pub returns-clause-written : goal.returns-clause-written
returns-clause-written c = λ k e w same. elim w [
  | inl x ↦
      let n : ℕ = c.args.slots in
      let some : 1 ≤ n = c.requires.some in
      let small : k % n < n = omega (arith, some) in
      let on : c.args.chunk * n + k % n ≡ k = omega (arith, div-add-mod' k n, ap (λ j. j * n) same) in (
        subst IsTreeSlot (sym x.1) c.requires.valid,
        c.put_slot-2.ensures.others (k % n) (second_apart c.args.writing c.requires.second (c.args.chunk * n + k % n) (on ∙ x.0)) small ∙ c.put_slot.ensures.here k e x same,
      )
  | inr x ↦ (second_valid c.args.writing c.requires.second k e x, c.put_slot-2.ensures.here k e x same)
]

pub returns-clause-past : goal.returns-clause-past
returns-clause-past c = λ j le.
    let n : ℕ = c.args.slots in
    let writing : Writing = c.args.writing in
    let most : ℕ = min (writing.afterwards - c.args.chunk * n) n in
    c.put_slot-2.ensures.past most j (second_below writing c.requires.second c.args.chunk n c.requires.some) le
    ∙ c.put_slot.ensures.past most j (below_end writing.first.number c.args.chunk n writing.afterwards c.requires.some c.requires.within) le
