use Rattle.std.proofs.Common.{◌≡◌, ◌<◌, length, slice_get, Some, refl, sym, ◌∙◌, arith}
use Rattle.std.proofs.lemmas.Option.{slice_get_read}
use Rattle.exerciser.specs.Keeping.{after_reported}
use Rattle.exerciser.proofs.Following.{after_next}
use Rattle.exerciser.proofs.keeping.follow_first.Goals as goal

pub loop-place-preserved : goal.loop-place-preserved
loop-place-preserved c =
    let asked_at : c.loop-place.place < length c.args.script.now = omega (arith, c.requires.issued) in
    let reported_at : c.loop-place.place < length c.args.replies.now = omega (arith, c.requires.answered) in
    let issued : slice_get c.args.script.now c.loop-place.place ≡ Some c.index-script-place.result = slice_get_read c.args.script.now (length c.args.script.now) c.loop-place.place c.index-script-place.result refl asked_at c.index-script-place.is in
    let reported : slice_get c.args.replies.now c.loop-place.place ≡ Some c.index-replies-place.result = slice_get_read c.args.replies.now (length c.args.replies.now) c.loop-place.place c.index-replies-place.result refl reported_at c.index-replies-place.is in
    record {
      sizes = c.follow.ensures.sizes ∙ c.loop-place.invariant.sizes;
      read_only = c.follow.ensures.read_only ∙ c.loop-place.invariant.read_only;
      state = c.in_ok-follow.ensures.state
          ∙ (λ i. after_reported (c.loop-place.invariant.sizes i) (c.loop-place.invariant.read_only i) (c.loop-place.invariant.state i) c.index-script-place.result c.index-replies-place.result)
          ∙ sym (after_next c.args.tree.now.sizes c.args.tree.now.read_only c.args.tree.now.state c.args.script.now c.args.replies.now c.loop-place.place c.index-script-place.result c.index-replies-place.result issued reported);
    }
