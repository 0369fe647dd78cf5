use Rattle.std.proofs.Common.{◌≡◌, ◌<◌, ◌∙◌, Some, slice_get, length, get_or, arith, true, false, sym, ap, subst, inl, inr, ◌≤◌}
use Rattle.std.proofs.lemmas.Bool.{cases_eq}
use Rattle.std.proofs.lemmas.Option.{slice_get-get_or, slice_get_within}
use Rattle.pages.specs.laws.Maps.{cut_cases}
use Rattle.pages.specs.declared.change.Cut.{Cut}
use Rattle.pages.proofs.change.is_cut.Goals as goal

abbrev none : Cut
none = record { object = 0; from = 0 }

pub returns-then-takes-clause-cut : goal.returns-then-takes-clause-cut
returns-then-takes-clause-cut c = λ _.
    let x : Cut = get_or c.args.cuts.now c.loop-cut.cut-index none in
    let at : slice_get c.args.cuts.now c.loop-cut.cut-index ≡ Some x = slice_get-get_or c.args.cuts.now c.loop-cut.cut-index none c.loop-cut-test.true in
    elim (cut_cases x c.args.key.object c.args.key.chunk) [
      | inl of ↦ (c.loop-cut.cut-index, record { cut = x; there = at; object = of.1; chunk = of.2 })
      | inr other ↦ let two : true ≡ false = sym c.if-takes.true ∙ c.takes.ensures ∙ other.0 in absurd cc
    ]

pub loop-cut-preserved : goal.loop-cut-preserved
loop-cut-preserved c = λ k less of.
    let x : Cut = get_or c.args.cuts.now c.loop-cut.cut-index none in
    let at : slice_get c.args.cuts.now c.loop-cut.cut-index ≡ Some x = slice_get-get_or c.args.cuts.now c.loop-cut.cut-index none c.loop-cut-test.true in
    elim (cases_eq k c.loop-cut.cut-index) [
      | inr other ↦ c.loop-cut.invariant k (omega (arith, less, other)) of
      | inl here ↦
          let both : Some of.cut ≡ Some x = sym of.there ∙ ap (slice_get c.args.cuts.now) here ∙ at in
          let one : of.cut ≡ x = cc in
          elim (cut_cases x c.args.key.object c.args.key.chunk) [
            | inl is ↦ let two : true ≡ false = sym is.0 ∙ sym c.takes.ensures ∙ c.if-takes.false in absurd cc
            | inr other ↦ other.1 (ap (λ (y : Cut). y.object) (sym one) ∙ of.object) (subst (λ (y : Cut). y.from ≤ c.args.key.chunk) one of.chunk)
          ]
    ]

pub returns-clause-not : goal.returns-clause-not
returns-clause-not c = λ _ i of.
    let within : i < length c.args.cuts.now = slice_get_within c.args.cuts.now i of.cut of.there in
    c.loop-cut.invariant i (omega (arith, within, c.loop-cut-test.false)) of
