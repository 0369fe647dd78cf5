use Rattle.std.proofs.Common.{◌≡◌, ◌+◌, ◌∙◌, length, take, refl, sym, ap, subst, inl, inr, arith}
use Rattle.std.proofs.lemmas.Result.{err_from_is_err_and}
use Rattle.std.specs.Prelude.{sum_by}
use Rattle.std.proofs.lemmas.List.{take_all}
use Rattle.std.proofs.lemmas.Option.{slice_get_within}
use Rattle.pages.specs.Maps.{PageMap, has}
use Rattle.pages.specs.State.{PagesState}
use Rattle.pages.specs.laws.State.{finds_none, finds_on}
use Rattle.tree_walk.specs.Trees.{AreNamesOf, IsWrongBy}
use Rattle.tree_walk.specs.declared.broken.Broken.{Broken}
use Rattle.tree_walk.specs.Hashes.{CoversHeads}
use Rattle.tree_walk.specs.Visits.{reported_pages}
use Rattle.tree_walk.specs.Walks.{IsGoing, StopsOn}
use Rattle.tree_walk.proofs.Going.{begins_going}
use Rattle.tree_walk.proofs.Seeing.{page_size, single, still_seen}
use Rattle.tree_walk.proofs.Reporting.{reports_as, lacks_memory}
use Rattle.tree_walk.proofs.Stopping.{wrong_by_stop}
use Rattle.tree_walk.proofs.Twice.{gone_through, twice_names, names_twice}
use Rattle.tree_walk.proofs.walking.walk.Goals as goal

pub step-requires-clause-knows : goal.step-requires-clause-knows
step-requires-clause-knows g c = c.loop-place.invariant.knows

pub loop-place-init : goal.loop-place-init
loop-place-init g c = record {
  lookups = finds_none (g.P.Pages.state c.args.pages.now);
  power = refl;
  knows = c.in_ok-walk.ensures.begins.knows;
  going = λ z seen. begins_going z (has (g.P.Pages.state c.args.pages.now).present) c.in_ok-walk.walk c.in_ok-walk.ensures.begins;
  hashes = λ z seen o head there. absurd (c.in_ok-walk.ensures.begins.heads o head there);
  within_limit = λ z seen. omega arith;
}

pub loop-place-preserved : goal.loop-place-preserved
loop-place-preserved g c = record {
  lookups = finds_on _ _ _ c.loop-place.invariant.lookups c.step.ensures.lookups;
  power = c.in_ok-step.ensures.power ∙ c.loop-place.invariant.power;
  knows = c.in_ok-step.ensures.knows;
  going = λ z seen.
      let old : PagesState = g.P.Pages.state c.args.pages.now in
      let now : PagesState = g.P.Pages.state c.loop-place.pages in
      let lookups = c.loop-place.invariant.lookups in
      let going = subst (λ (m : PageMap). IsGoing z (has m) c.loop-place.place c.loop-place.walk) (sym lookups.present) (c.loop-place.invariant.going z seen) in
      subst (λ (m : PageMap). IsGoing z (has m) (c.loop-place.place + 1) c.step.new.self) lookups.present
      (c.in_ok-step.ensures.goes z (still_seen z old now lookups seen) going);
  hashes = λ z seen.
      let old : PagesState = g.P.Pages.state c.args.pages.now in
      let now : PagesState = g.P.Pages.state c.loop-place.pages in
      let lookups = c.loop-place.invariant.lookups in
      let covers = subst (λ (m : PageMap). CoversHeads c.loop-place.names z m c.loop-place.walk.heads) (sym lookups.present) (c.loop-place.invariant.hashes z seen) in
      subst (λ (m : PageMap). CoversHeads c.step.new.names z m c.step.new.self.heads) lookups.present
      (c.in_ok-step.ensures.hashes z (still_seen z old now lookups seen) covers);
  within_limit = λ z seen.
      let old : PagesState = g.P.Pages.state c.args.pages.now in
      let now : PagesState = g.P.Pages.state c.loop-place.pages in
      let lookups = c.loop-place.invariant.lookups in
      let going = subst (λ (m : PageMap). IsGoing z (has m) c.loop-place.place c.loop-place.walk) (sym lookups.present) (c.loop-place.invariant.going z seen) in
      let more = c.in_ok-step.ensures.issued z (still_seen z old now lookups seen) going in
      let before = c.loop-place.invariant.within_limit z seen in
      omega (arith, more, before);
}

pub returns-in_err-step-clause-fault : goal.returns-in_err-step-clause-fault
returns-in_err-step-clause-fault g c = λ z seen.
    let old : PagesState = g.P.Pages.state c.args.pages.now in
    let now : PagesState = g.P.Pages.state c.loop-place.pages in
    let lookups = c.loop-place.invariant.lookups in
    let going = c.loop-place.invariant.going z seen in
    let p = err_from_is_err_and c.from_residual-in_err-step.result c.from_residual-in_err-step.ensures.1 in
    rw (p.1, p.2) (reports_as (StopsOn z (has now.present) c.loop-place.walk c.loop-place.place) (IsWrongBy z (has old.present))
    (λ b stop. wrong_by_stop z (has old.present) c.loop-place.place c.loop-place.walk going b (subst (λ (m : PageMap). StopsOn z (has m) c.loop-place.walk c.loop-place.place b) lookups.present stop))
    (g.P.Pages.state c.step.new.pages) _ (c.in_err-step.ensures.stops z (still_seen z old now lookups seen)))

pub returns-in_err-walk-clause-fault : goal.returns-in_err-walk-clause-fault
returns-in_err-walk-clause-fault g c = λ z seen.
    let p = err_from_is_err_and c.from_residual.result c.from_residual.ensures.1 in
    rw (p.1, p.2) (lacks_memory (IsWrongBy z (has (g.P.Pages.state c.args.pages.now).present)) (g.P.Pages.state c.args.pages.now) _ c.in_err-walk.ensures.why)

pub returns-in_err-walk-clause-why : goal.returns-in_err-walk-clause-why
returns-in_err-walk-clause-why g c =
    let p = err_from_is_err_and c.from_residual.result c.from_residual.ensures.1 in
    rw (p.1, p.2) (lacks_memory (λ (broken : Broken). Unit {0}) (g.P.Pages.state c.args.pages.now) _ c.in_err-walk.ensures.why)

pub returns-in-Some-clause-fault : goal.returns-in-Some-clause-fault
returns-in-Some-clause-fault g c = λ z seen.
    let old : PagesState = g.P.Pages.state c.args.pages.now in
    let walk = c.loop-place.walk in
    let going = c.loop-place.invariant.going z seen in
    let sized = g.met.P.Pages.sized c.args.pages.now in
    let size = page_size z old sized.0 sized.1 seen in
    let all : length walk.objects.items ≡ c.loop-place.place = omega (arith, going.within, c.loop-place-test.false, c.len.ensures) in
    let again = twice_names z size (has old.present) (single old.present) c.loop-place.place walk going all c.in-Some.object c.in-Some.ensures.is in
    (inr (refl, (again.list, again.through, again.twice)), ((refl, again), inl refl))

pub returns-clause-tree : goal.returns-clause-tree
returns-clause-tree g c = λ z seen.
    let old : PagesState = g.P.Pages.state c.args.pages.now in
    let walk = c.loop-place.walk in
    let going = c.loop-place.invariant.going z seen in
    let sized = g.met.P.Pages.sized c.args.pages.now in
    let size = page_size z old sized.0 sized.1 seen in
    let all : length walk.objects.items ≡ c.loop-place.place = omega (arith, going.within, c.loop-place-test.false, c.len.ensures) in
    record {
      through = gone_through z size (has old.present) (single old.present) c.loop-place.place walk going all;
      once = λ twice.
          let d = names_twice z size (has old.present) (single old.present) c.loop-place.place walk going all twice in
          c.in_default.ensures.not d.0 d.1;
      heads = record {
        each = λ i o is. going.heads i o (omega (arith, all, slice_get_within walk.objects.items i o is)) is;
        only = λ o head there. let w = going.only o head there in (w.0, w.2);
        says = λ o head there. going.says o head there;
      };
      names = subst (λ n. AreNamesOf z (has old.present) walk.objects.items n walk.names.items) (sym all) going.names;
    }

pub returns-clause-issued : goal.returns-clause-issued
returns-clause-issued g c = λ z seen.
    let walk = c.loop-place.walk in
    let within_limit = c.loop-place.invariant.within_limit z seen in
    let whole : take c.loop-place.place walk.objects.items ≡ walk.objects.items = take_all c.loop-place.place walk.objects.items (omega (arith, c.loop-place-test.false, c.len.ensures)) in
    let same = ap (sum_by (reported_pages z walk.heads)) whole in
    omega (arith, within_limit, same)
