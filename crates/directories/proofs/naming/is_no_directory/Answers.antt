use Rattle.std.proofs.Common.{◌≡◌, ◌<◌, ◌∙◌, ℕ, List, Some, slice_get, length, arith, true, false, not, refl, sym, ap, subst, inl, inr}
use Rattle.std.proofs.lemmas.Bool.{cases_eq}
use Rattle.std.proofs.lemmas.Option.{slice_get_read}
use Rattle.flash_tree.specs.declared.place.FreshPage.{FreshPage}
use Rattle.page_tags.specs.Headers.{IsHeaderOf}
use Rattle.pages.specs.laws.Maps.{key_cases}
use Rattle.directories.proofs.naming.is_no_directory.Goals as goal

pub returns-then-eq : goal.returns-then-eq
returns-then-eq c = λ is.
    let within : c.loop-page.page-index < length c.args.pages.now = omega arith in
    let at : slice_get c.args.pages.now c.loop-page.page-index ≡ Some c.page-item.result =
    slice_get_read c.args.pages.now (length c.args.pages.now) c.loop-page.page-index c.page-item.result refl within c.page-item.is in
    elim (key_cases c.page-item.result c.args.object 0) [
      | inl of ↦ (
        c.loop-page.page-index,
        (record { page = c.page-item.result; there = at; object = of.1; chunk = of.2 }, c.loop-page.invariant),
        λ f header kind.
            let reported : c.is_directory_page.result ≡ true = c.is_directory_page.ensures f (subst (λ (xs : List ℕ). IsHeaderOf xs f) (sym c.deref.ensures.value) header) kind in
            let two : false ≡ true = sym (ap not reported) ∙ is in
            absurd cc,
      )
      | inr other ↦ let two : true ≡ false = sym c.if-eq.true ∙ c.eq.ensures ∙ other.0 in absurd cc
    ]

pub loop-page-preserved : goal.loop-page-preserved
loop-page-preserved c = λ k less of.
    let within : c.loop-page.page-index < length c.args.pages.now = omega arith in
    let at : slice_get c.args.pages.now c.loop-page.page-index ≡ Some c.page-item.result =
    slice_get_read c.args.pages.now (length c.args.pages.now) c.loop-page.page-index c.page-item.result refl within c.page-item.is in
    elim (cases_eq k c.loop-page.page-index) [
      | inr other ↦ c.loop-page.invariant k (omega (arith, less, other)) of
      | inl here ↦
          let both : Some of.page ≡ Some c.page-item.result = sym of.there ∙ ap (slice_get c.args.pages.now) here ∙ at in
          let one : of.page ≡ c.page-item.result = cc in
          elim (key_cases c.page-item.result c.args.object 0) [
            | inl is ↦ let two : true ≡ false = sym is.0 ∙ sym c.eq.ensures ∙ c.if-eq.false in absurd cc
            | inr other ↦ other.1 (ap (λ (p : FreshPage). p.key.object) (sym one) ∙ of.object) (ap (λ (p : FreshPage). p.key.chunk) (sym one) ∙ of.chunk)
          ]
    ]
