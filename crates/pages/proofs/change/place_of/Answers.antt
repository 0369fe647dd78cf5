use Rattle.std.proofs.Common.{◌≡◌, ◌<◌, ◌∙◌, Some, slice_get, length, arith, true, false, refl, sym, ap, inl, inr}
use Rattle.std.proofs.lemmas.Bool.{cases_eq}
use Rattle.std.proofs.lemmas.Option.{slice_get_read, slice_get_within}
use Rattle.pages.specs.laws.Maps.{key_cases}
use Rattle.flash_tree.specs.declared.place.FreshPage.{FreshPage}
use Rattle.pages.proofs.change.place_of.Goals as goal

pub returns-then-eq-clause-first : goal.returns-then-eq-clause-first
returns-then-eq-clause-first c =
    let less : c.loop-place.place < length c.args.pages.now = omega arith in
    let at : slice_get c.args.pages.now c.loop-place.place ≡ Some c.index-pages-place.result = slice_get_read c.args.pages.now (length c.args.pages.now) c.loop-place.place c.index-pages-place.result refl less c.index-pages-place.is in
    elim (key_cases c.index-pages-place.result c.args.key.object c.args.key.chunk) [
      | inl of ↦ (record { page = c.index-pages-place.result; there = at; object = of.1; chunk = of.2 }, c.loop-place.invariant)
      | inr other ↦ let two : true ≡ false = sym c.if-eq.true ∙ c.eq.ensures ∙ other.0 in absurd cc
    ]

pub loop-place-preserved : goal.loop-place-preserved
loop-place-preserved c = λ k less of.
    let within : c.loop-place.place < length c.args.pages.now = omega arith in
    let at : slice_get c.args.pages.now c.loop-place.place ≡ Some c.index-pages-place.result = slice_get_read c.args.pages.now (length c.args.pages.now) c.loop-place.place c.index-pages-place.result refl within c.index-pages-place.is in
    elim (cases_eq k c.loop-place.place) [
      | inr other ↦ c.loop-place.invariant k (omega (arith, less, other)) of
      | inl here ↦
          let both : Some of.page ≡ Some c.index-pages-place.result = sym of.there ∙ ap (slice_get c.args.pages.now) here ∙ at in
          let one : of.page ≡ c.index-pages-place.result = cc in
          elim (key_cases c.index-pages-place.result c.args.key.object c.args.key.chunk) [
            | inl is ↦ let two : true ≡ false = sym is.0 ∙ sym c.eq.ensures ∙ c.if-eq.false in absurd cc
            | inr other ↦ other.1 (ap (λ (p : FreshPage). p.key.object) (sym one) ∙ of.object) (ap (λ (p : FreshPage). p.key.chunk) (sym one) ∙ of.chunk)
          ]
    ]

pub returns-clause-none : goal.returns-clause-none
returns-clause-none c = λ i of.
    let within : i < length c.args.pages.now = slice_get_within c.args.pages.now i of.page of.there in
    c.loop-place.invariant i (omega (arith, within, c.loop-place-test.false)) of
