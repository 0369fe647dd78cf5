use Rattle.std.proofs.Common.{◌∙◌, ◌+◌, ◌-◌, sym, ap, inl, inr, arith}
use Rattle.std.proofs.lemmas.Bool.{cases_eq, cases_Bool}
use Rattle.std.specs.BTreeMap.{btree_map_len}
use Rattle.object_store.specs.Taken.{taken_in}
use Rattle.object_store.proofs.Free.{taken_few}
use Rattle.object_store.proofs.free_numbers.first_free.Goals as goal

pub returns-then-not-is_taken-clause-low : goal.returns-then-not-is_taken-clause-low
returns-then-not-is_taken-clause-low c = λ all. omega arith

pub returns-then-not-is_taken-clause-free : goal.returns-then-not-is_taken-clause-free
returns-then-not-is_taken-clause-free c = λ all. sym c.is_taken.ensures ∙ c.if-not-is_taken.true

pub returns-then-not-is_taken-clause-below : goal.returns-then-not-is_taken-clause-below
returns-then-not-is_taken-clause-below c = λ all. c.loop-number.invariant all

pub loop-number-preserved : goal.loop-number-preserved
loop-number-preserved c = λ all k two lt. elim (cases_eq k c.loop-number.number) [
  | inl is ↦ ap (taken_in c.args.facts.now) is ∙ sym c.is_taken.ensures ∙ c.if-not-is_taken.false
  | inr ne ↦ c.loop-number.invariant all k two (omega arith)
]

pub returns-clause-low : goal.returns-clause-low
returns-clause-low c = λ all.
    let within_limit = taken_few c.args.facts.now (c.args.from - 2) (λ k two lt. all k two (omega arith)) in
    omega (arith, within_limit, c.len.ensures.len)

pub returns-clause-free : goal.returns-clause-free
returns-clause-free c = λ all. elim (cases_Bool (taken_in c.args.facts.now (btree_map_len c.args.facts.now + 2))) [
  | inl yes' ↦
      let within_limit = taken_few c.args.facts.now (btree_map_len c.args.facts.now + 1) (λ k two lt. elim (cases_eq k (btree_map_len c.args.facts.now + 2)) [
        | inl is ↦ ap (taken_in c.args.facts.now) is ∙ yes'
        | inr ne ↦ c.loop-number.invariant all k two (omega (arith, c.len.ensures.len))
      ]) in
      absurd (omega (arith, within_limit))
  | inr no' ↦ ap (λ n. taken_in c.args.facts.now (n + 2)) c.len.ensures.len ∙ no'
]

pub returns-clause-below : goal.returns-clause-below
returns-clause-below c = λ all k two lt. c.loop-number.invariant all k two (omega arith)
