use Rattle.std.proofs.Common.{◌≡◌, ℕ, Some, slice_get, slice_index, subst, arith}
use Rattle.std.proofs.lemmas.Option.{slice_get-get_or}
use Rattle.pages.specs.Maps.{PageMap, has}
use Rattle.pages.specs.State.{PagesState}
use Rattle.pages.specs.laws.State.{finds_none, finds_on}
use Rattle.salvage.specs.Orphans.{Adds}
use Rattle.salvage.specs.Reached.{LeadsTo}
use Rattle.salvage.specs.SeenBy.{seen_by}
use Rattle.salvage.proofs.Seeing.{still_seen}
use Rattle.salvage.proofs.Unnamed.{naming_none, naming_more, naming_all}
use Rattle.salvage.proofs.orphans.find_named.Goals as goal

pub loop-place-init : goal.loop-place-init
loop-place-init g c = record {
  lookups = finds_none (seen_by c.args.pages.now);
  naming = λ z is. naming_none z (has (seen_by c.args.pages.now).present) c.args.directories.now c.new-named.result c.new-named.ensures.empty;
}

pub loop-place-preserved : goal.loop-place-preserved
loop-place-preserved g c = record {
  lookups = finds_on _ _ _ c.loop-place.invariant.lookups c.add_named.ensures.lookups;
  naming = λ z is.
      let old : PagesState = seen_by c.args.pages.now in
      let now : PagesState = seen_by c.loop-place.pages in
      let lookups = c.loop-place.invariant.lookups in
      let list = c.args.directories.now in
      let d : ℕ = slice_index list c.loop-place.place in
      let at : slice_get list c.loop-place.place ≡ Some d = slice_get-get_or list c.loop-place.place 0 c.loop-place-test.true in
      let adds = subst (λ (m : PageMap). Adds (LeadsTo z (has m) d) c.loop-place.named c.add_named.new.named) lookups.present (c.in_ok-add_named.ensures.adds z (still_seen z old now lookups is)) in
      naming_more z (has old.present) list c.loop-place.place d c.loop-place.named c.add_named.new.named (c.loop-place.invariant.naming z is) at adds;
}

pub returns-clause-named : goal.returns-clause-named
returns-clause-named g c = λ z is.
    naming_all z (has (seen_by c.args.pages.now).present) c.args.directories.now c.loop-place.place c.loop-place.named (c.loop-place.invariant.naming z is) (omega (arith, c.loop-place-test.false))
