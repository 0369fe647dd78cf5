use Rattle.std.proofs.Common.{ℕ, List, subst, inl}
use Rattle.pages.specs.Maps.{IsPageOf}
use Rattle.flash_tree.specs.declared.place.FreshPage.{FreshPage}
use Rattle.pages.proofs.Folding.{where_none}
use Rattle.pages.proofs.change.put_behind.Goals as goal

pub returns-in_ok-push : goal.returns-in_ok-push
returns-in_ok-push c =
    let none = where_none ((i : ℕ) → IsPageOf c.deref.result.now c.args.page.key.object c.args.page.key.chunk i → ⊥) c.place_of.result c.is_none.result c.is_none.ensures c.if-is_none.true c.place_of.ensures.none in
    inl (
      subst (λ (ps : List FreshPage). (i : ℕ) → IsPageOf ps c.args.page.key.object c.args.page.key.chunk i → ⊥) c.deref.ensures.value none,
      c.is_cut.ensures.not c.if-not-is_cut.true,
      c.in_ok-push.ensures.items,
    )
