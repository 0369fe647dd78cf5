use Rattle.std.proofs.Common.{◌≡◌, ℕ, Some, length, slice_get, slice_index, sym, subst, rules}
use Rattle.std.proofs.lemmas.Option.{slice_get-get_or}
use Rattle.pages.specs.Maps.{PageMap, has}
use Rattle.pages.specs.State.{PagesState}
use Rattle.pages.specs.laws.State.{finds_none, finds_on}
use Rattle.salvage.specs.Orphans.{IsUnnamed, ListsUnnamed, PutsUnnamed}
use Rattle.salvage.specs.SeenBy.{seen_by}
use Rattle.salvage.proofs.Seeing.{still_seen}
use Rattle.salvage.proofs.Unnamed.{unnamed_none, unnamed_more}
use Rattle.salvage.proofs.orphans.find_unnamed.Goals as goal

pub loop-place-init : goal.loop-place-init
loop-place-init g c = record {
  lookups = finds_none (seen_by c.args.pages.now);
  unnamed = λ z is.
      subst (ListsUnnamed z (has (seen_by c.args.pages.now).present) c.args.named.now c.args.objects.now 0) (sym c.new-list.ensures.items)
      (unnamed_none z (has (seen_by c.args.pages.now).present) c.args.named.now c.args.objects.now);
}

pub loop-place-preserved : goal.loop-place-preserved
loop-place-preserved g c = record {
  lookups = finds_on _ _ _ c.loop-place.invariant.lookups c.put_unnamed.ensures.lookups;
  unnamed = λ z is.
      let old : PagesState = seen_by c.args.pages.now in
      let now : PagesState = seen_by c.loop-place.pages in
      let lookups = c.loop-place.invariant.lookups in
      let objects = c.args.objects.now in
      let o : ℕ = slice_index objects c.loop-place.place in
      let at : slice_get objects c.loop-place.place ≡ Some o = slice_get-get_or objects c.loop-place.place 0 c.loop-place-test.true in
      let puts = subst (λ (m : PageMap). PutsUnnamed (IsUnnamed z (has m) c.args.named.now o) o c.loop-place.list.items c.put_unnamed.new.list.items) lookups.present
      (c.in_ok-put_unnamed.ensures.puts z (still_seen z old now lookups is)) in
      unnamed_more z (has old.present) c.args.named.now objects c.loop-place.place o c.loop-place.list.items c.put_unnamed.new.list.items (c.loop-place.invariant.unnamed z is) at puts;
}

pub returns-clause-unnamed : goal.returns-clause-unnamed
returns-clause-unnamed g c = λ z is.
    let last : c.loop-place.place ≡ length c.args.objects.now = search rules in
    subst (λ n. ListsUnnamed z (has (seen_by c.args.pages.now).present) c.args.named.now c.args.objects.now n c.loop-place.list.items) last (c.loop-place.invariant.unnamed z is)
