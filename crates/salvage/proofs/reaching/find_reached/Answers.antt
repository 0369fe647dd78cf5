use Rattle.std.proofs.Common.{◌+◌, sym, subst, arith}
use Rattle.pages.specs.Maps.{PageMap, has}
use Rattle.pages.specs.State.{PagesState}
use Rattle.pages.specs.laws.State.{finds_none, finds_on}
use Rattle.salvage.specs.Reaching.{IsReaching}
use Rattle.salvage.specs.SeenBy.{seen_by}
use Rattle.salvage.proofs.Going.{begins_reaching, reached_all}
use Rattle.salvage.proofs.Seeing.{still_seen}
use Rattle.salvage.proofs.reaching.find_reached.Goals as goal

pub step-requires-clause-knows : goal.step-requires-clause-knows
step-requires-clause-knows g c = c.loop-place.invariant.knows

pub loop-place-init : goal.loop-place-init
loop-place-init g c = record {
  lookups = finds_none (seen_by c.args.pages.now);
  knows = c.in_ok-named.ensures.begins.knows;
  reaching = λ z is. begins_reaching z (has (seen_by c.args.pages.now).present) c.args.from c.in_ok-named.named.objects.items c.in_ok-named.ensures.begins.objects;
}

pub loop-place-preserved : goal.loop-place-preserved
loop-place-preserved g c = record {
  lookups = finds_on _ _ _ c.loop-place.invariant.lookups c.step.ensures.lookups;
  knows = c.in_ok-step.ensures.knows;
  reaching = λ z is.
      let old : PagesState = seen_by c.args.pages.now in
      let now : PagesState = seen_by c.loop-place.pages in
      let lookups = c.loop-place.invariant.lookups in
      let before = subst (λ (m : PageMap). IsReaching z (has m) c.args.from c.loop-place.place c.loop-place.named.objects.items) (sym lookups.present) (c.loop-place.invariant.reaching z is) in
      subst (λ (m : PageMap). IsReaching z (has m) c.args.from (c.loop-place.place + 1) c.step.new.self.objects.items) lookups.present
      (c.in_ok-step.ensures.goes c.args.from z (still_seen z old now lookups is) before);
}

pub returns-clause-reached : goal.returns-clause-reached
returns-clause-reached g c = λ z is.
    reached_all z (has (seen_by c.args.pages.now).present) c.args.from c.loop-place.place c.loop-place.named.objects.items (c.loop-place.invariant.reaching z is) (omega (arith, c.loop-place-test.false))
