use Rattle.std.proofs.Common.{◌≡◌, None, Some, false, refl, inl, inr, rules}
use Rattle.std.specs.BTreeSet as set
use Rattle.std.specs.Ordering.{nat_cmp}
use Rattle.pages.specs.Maps.{has}
use Rattle.pages.specs.State.{PagesState}
use Rattle.salvage.specs.SeenBy.{seen_by}
use Rattle.salvage.specs.Reported.{SaysInfo}
use Rattle.salvage.proofs.orphans.put_unnamed.Goals as goal

pub returns-in_ok-push-in-Some-clause-puts : goal.returns-in_ok-push-in-Some-clause-puts
returns-in_ok-push-in-Some-clause-puts g c = λ z is.
    let old : PagesState = seen_by c.args.pages.now in
    let says : SaysInfo z (has old.present) c.args.object (Some c.in-Some._info) = rw c.in-Some.is at c.in_ok-_info.ensures.info z is in
    let unnamed : set.contains nat_cmp c.args.named.now c.args.object ≡ false = search rules in
    inl (record { other = c.if-object-eq-ROOT.false; unnamed = unnamed; fields = says.0; has = says.1 }, c.in_ok-push-in-Some.ensures.items)

pub returns-in-None-clause-puts : goal.returns-in-None-clause-puts
returns-in-None-clause-puts g c = λ z is.
    let old : PagesState = seen_by c.args.pages.now in
    let says : SaysInfo z (has old.present) c.args.object None = rw c.in-None.is at c.in_ok-_info.ensures.info z is in
    inr (λ u. says u.fields u.has, refl)
