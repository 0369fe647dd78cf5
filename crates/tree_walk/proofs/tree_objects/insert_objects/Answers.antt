use Rattle.std.proofs.Common.{◌≡◌, ◌<◌, ◌∙◌, ℕ, List, Some, length, slice_get, slice_index, sym, ap, subst, arith}
use Rattle.std.proofs.lemmas.Option.{slice_get-get_or}
use Rattle.std.specs.FinMap as map
use Rattle.volume_terms.specs.Sizes.{Sizes}
use Rattle.flash_tree.specs.Tree.{IsPageSize}
use Rattle.object_store.specs.Built.{sizes_built, CanCome}
use Rattle.tree_walk.specs.Trees.{objects_listed}
use Rattle.tree_walk.specs.declared.tree.Tree.{Tree}
use Rattle.tree_walk.proofs.Bare.{bare, bare_said, begins_bare, can_come, bare_more, nameless}
use Rattle.tree_walk.proofs.Reported.{once, there, listed, head_of, page_size}
use Rattle.tree_walk.proofs.tree_objects.insert_objects.Goals as goal

pub loop-place-init : goal.loop-place-init
loop-place-init c = record {
  size = c.make_room.ensures.size;
  builds = λ m objects shown start. (map.empty, begins_bare objects (objects_listed c.args.tree.now), c.make_room.ensures.same map.empty start);
}

pub loop-place-preserved : goal.loop-place-preserved
loop-place-preserved c = record {
  size = c.in_ok-insert_object.ensures.size ∙ c.loop-place.invariant.size;
  builds = λ m objects shown start.
      let z : Sizes = sizes_built c.args.builder.now in
      let size : IsPageSize z.page_bytes = page_size z shown.sizes in
      let tree : Tree = c.args.tree.now in
      let list : List ℕ = objects_listed tree in
      let n : ℕ = c.loop-place.place in
      let same : c.objects-objects.result.now ≡ list = c.objects-objects.ensures in
      let lt : n < length list = omega (arith, c.loop-place-test.true, ap length same) in
      let o : ℕ = slice_index c.objects-objects.result.now n in
      let at : slice_get list n ≡ Some o = slice_get-get_or list n 0 lt ∙ ap (λ (xs : List ℕ). Some (slice_index xs n)) (sym same) in
      let so_far = c.loop-place.invariant.builds m objects shown start in
      let all_once = once z size m tree objects shown.tree_of shown.shows in
      let x = there z size m tree objects shown.tree_of shown.shows n o at in
      let head = head_of z size m tree objects shown.tree_of shown.shows o x.0 x.1 in
      let come = can_come z shown.sizes objects shown.fit list all_once n so_far.0 so_far.1 o at x.0 x.1 in (
        map.insert so_far.0 o (bare x.0),
        bare_more z shown.sizes objects shown.fit list all_once n so_far.0 so_far.1 o at x.0 x.1,
        c.in_ok-insert_object.ensures.inserts head.0 so_far.0 (bare x.0) head.1 so_far.2 (bare_said head.0 x.0 head.2)
            (subst (λ (s : Sizes). CanCome s so_far.0 o (bare x.0)) (sym c.loop-place.invariant.size) come),
      );
}

pub returns-clause-builds : goal.returns-clause-builds
returns-clause-builds c = λ m objects shown start.
    let z : Sizes = sizes_built c.args.builder.now in
    let size : IsPageSize z.page_bytes = page_size z shown.sizes in
    let list : List ℕ = objects_listed c.args.tree.now in
    let same : length c.objects-objects.result.now ≡ length list = ap length c.objects-objects.ensures in
    let so_far = c.loop-place.invariant.builds m objects shown start in
    (so_far.0, nameless objects list c.loop-place.place so_far.0 (listed z size m c.args.tree.now objects shown.tree_of shown.shows) so_far.1 (omega (arith, c.loop-place-test.false, same)), so_far.2)
