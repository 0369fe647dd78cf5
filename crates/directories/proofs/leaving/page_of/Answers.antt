use Rattle.std.proofs.Common.{◌≡◌, ◌<◌, ◌∙◌, Some, slice_get, length, arith, true, false, refl, sym, ap, inl, inr}
use Rattle.std.proofs.lemmas.Bool.{cases_eq}
use Rattle.std.proofs.lemmas.Option.{slice_get_read}
use Rattle.flash_tree.specs.declared.place.FreshPage.{FreshPage}
use Rattle.pages.specs.laws.Maps.{key_cases}
use Rattle.directories.proofs.leaving.page_of.Goals as goal

pub returns-then-eq-clause-first : goal.returns-then-eq-clause-first
returns-then-eq-clause-first c =
    let within : c.loop-page.page-index < length c.args.pages.now = omega arith in
    let at : slice_get c.args.pages.now c.loop-page.page-index ≡ Some c.page-item.result =
    slice_get_read c.args.pages.now (length c.args.pages.now) c.loop-page.page-index c.page-item.result refl within c.page-item.is in
    elim (key_cases c.page-item.result c.args.key.object c.args.key.chunk) [
      | inl of ↦ (c.loop-page.page-index, (record { page = c.page-item.result; there = at; object = of.1; chunk = of.2 }, c.loop-page.invariant), c.deref.ensures.value)
      | inr other ↦ let two : true ≡ false = sym c.if-eq.true ∙ c.eq.ensures ∙ other.0 in absurd cc
    ]

pub returns-then-eq-clause-size : goal.returns-then-eq-clause-size
returns-then-eq-clause-size c =
    let within : c.loop-page.page-index < length c.args.pages.now = omega arith in
    let at : slice_get c.args.pages.now c.loop-page.page-index ≡ Some c.page-item.result =
    slice_get_read c.args.pages.now (length c.args.pages.now) c.loop-page.page-index c.page-item.result refl within c.page-item.is in
    ap length c.deref.ensures.value ∙ c.requires c.loop-page.page-index c.page-item.result at

pub loop-page-preserved : goal.loop-page-preserved
loop-page-preserved c = λ k less of.
    let within : c.loop-page.page-index < length c.args.pages.now = omega arith in
    let at : slice_get c.args.pages.now c.loop-page.page-index ≡ Some c.page-item.result =
    slice_get_read c.args.pages.now (length c.args.pages.now) c.loop-page.page-index c.page-item.result refl within c.page-item.is in
    elim (cases_eq k c.loop-page.page-index) [
      | inr other ↦ c.loop-page.invariant k (omega (arith, less, other)) of
      | inl here ↦
          let both : Some of.page ≡ Some c.page-item.result = sym of.there ∙ ap (slice_get c.args.pages.now) here ∙ at in
          let one : of.page ≡ c.page-item.result = cc in
          elim (key_cases c.page-item.result c.args.key.object c.args.key.chunk) [
            | inl is ↦ let two : true ≡ false = sym is.0 ∙ sym c.eq.ensures ∙ c.if-eq.false in absurd cc
            | inr other ↦ other.1 (ap (λ (p : FreshPage). p.key.object) (sym one) ∙ of.object) (ap (λ (p : FreshPage). p.key.chunk) (sym one) ∙ of.chunk)
          ]
    ]
