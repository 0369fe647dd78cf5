use Rattle.std.proofs.Common.{◌≡◌, ◌<◌, ◌∙◌, Some, slice_get, length, arith, rules, refl, sym, ap, subst, inl, inr}
use Rattle.std.proofs.lemmas.Bool.{cases_eq}
use Rattle.std.proofs.lemmas.Option.{slice_get_read, slice_get_within}
use Rattle.pages.specs.Changes.{IsTreeKey}
use Rattle.flash_tree.specs.declared.place.Key.{Key}
use Rattle.flash_tree.specs.declared.place.FreshPage.{FreshPage}
use Rattle.paged_objects.proofs.planning.are_of_trees.Goals as goal

pub loop-page-preserved : goal.loop-page-preserved
loop-page-preserved c = λ i p less at.
    let within : c.loop-page.page-index < length c.args.pages.now = omega arith in
    let here : slice_get c.args.pages.now c.loop-page.page-index ≡ Some c.page-item.result =
    slice_get_read c.args.pages.now (length c.args.pages.now) c.loop-page.page-index c.page-item.result refl within c.page-item.is in
    elim (cases_eq i c.loop-page.page-index) [
      | inr other ↦ c.loop-page.invariant i p (omega (arith, less, other)) at
      | inl same ↦
          let both : Some p ≡ Some c.page-item.result = sym at ∙ ap (slice_get c.args.pages.now) same ∙ here in
          let one : p ≡ c.page-item.result = cc in
          let key : p.key ≡ c.page-item.result.key = ap (λ (q : FreshPage). q.key) one in
          subst (λ (k : Key). IsTreeKey k) (sym key) (search rules)
    ]

pub returns-then-not-is_tree_key-clause-not : goal.returns-then-not-is_tree_key-clause-not
returns-then-not-is_tree_key-clause-not c = λ _.
    let within : c.loop-page.page-index < length c.args.pages.now = omega arith in
    let here : slice_get c.args.pages.now c.loop-page.page-index ≡ Some c.page-item.result =
    slice_get_read c.args.pages.now (length c.args.pages.now) c.loop-page.page-index c.page-item.result refl within c.page-item.is in
    (c.loop-page.page-index, c.page-item.result, here, search rules)

pub returns-clause-trees : goal.returns-clause-trees
returns-clause-trees c = λ _ i p at.
    let within : i < length c.args.pages.now = slice_get_within c.args.pages.now i p at in
    c.loop-page.invariant i p (omega (arith, within, c.loop-page-test.false)) at
