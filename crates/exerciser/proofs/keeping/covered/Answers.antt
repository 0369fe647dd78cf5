use Rattle.std.proofs.Common.{◌≡◌, ◌<◌, length, slice_get, Some, refl, sym, ap, ◌∙◌, arith}
use Rattle.std.proofs.lemmas.Option.{slice_get_read}
use Rattle.posix_profile.specs.Losses.{is_synced}
use Rattle.exerciser.proofs.Covering.{covers_other, covers_all}
use Rattle.exerciser.proofs.keeping.covered.Goals.{then-is_synced, else-is_synced}
use Rattle.exerciser.proofs.keeping.covered.Goals as goal

pub loop-place-preserved : goal.loop-place-preserved
loop-place-preserved c =
    let asked_at : c.loop-place.place < length c.args.script.now = omega (arith, c.min-place-end.ensures) in
    let reported_at : c.loop-place.place < length c.args.replies.now = omega (arith, c.min-place-end.ensures) in
    let issued : slice_get c.args.script.now c.loop-place.place ≡ Some c.index-script-place.result = slice_get_read c.args.script.now (length c.args.script.now) c.loop-place.place c.index-script-place.result refl asked_at c.index-script-place.is in
    let reported : slice_get c.args.replies.now c.loop-place.place ≡ Some c.index-replies-place.result = slice_get_read c.args.replies.now (length c.args.replies.now) c.loop-place.place c.index-replies-place.result refl reported_at c.index-replies-place.is in
    elim c.if-is_synced.branch [
      | then-is_synced w ↦ record {
        covers = λ i within_limit sync. omega (arith, within_limit, w.covered-is);
        least = λ k covers. omega (
          arith,
          w.covered-is,
          covers c.loop-place.place (c.index-script-place.result, c.index-replies-place.result, issued, reported, ap (λ x. is_synced x.command c.index-replies-place.result) c.index-script-place.is ∙ sym c.is_synced.ensures ∙ w.if-is_synced.true),
        );
        within = omega (arith, w.covered-is);
      }
      | else-is_synced w ↦ record {
        covers = λ i within_limit sync. omega (
          arith,
          w.covered-is,
          covers_other c.args.script.now c.args.replies.now c.loop-place.place c.loop-place.covered c.index-script-place.result c.index-replies-place.result
              c.loop-place.invariant.covers issued reported (ap (λ x. is_synced x.command c.index-replies-place.result) c.index-script-place.is ∙ sym c.is_synced.ensures ∙ w.if-is_synced.false) i within_limit sync,
        );
        least = λ k covers. omega (arith, w.covered-is, c.loop-place.invariant.least k covers);
        within = omega (arith, w.covered-is, c.loop-place.invariant.within);
      }
    ]

pub returns-clause-covers : goal.returns-clause-covers
returns-clause-covers c =
    covers_all c.args.script.now c.args.replies.now c.loop-place.place c.loop-place.covered (λ i issued reported. omega (arith, c.min-place-end.ensures)) c.loop-place.invariant.covers
