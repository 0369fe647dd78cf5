use Rattle.std.proofs.Common.{◌≡◌, ◌≤◌, ◌<◌, length, slice_get, Some, refl, sym, subst, ap, ◌∙◌, arith}
use Rattle.std.proofs.lemmas.Option.{slice_get_read}
use Rattle.plain_volume.specs.Views.{PlainView}
use Rattle.posix_profile.specs.Names.{settle}
use Rattle.posix_profile.specs.State.{State}
use Rattle.posix_profile.specs.WellFormed.{IsTree}
use Rattle.plain_volume.specs.Lists.{Lists}
use Rattle.volume_terms.specs.Sizes.{Sizes}
use Rattle.exerciser.specs.Keeping.{after_reported, shown_after}
use Rattle.exerciser.proofs.Covering.{covers_more}
use Rattle.exerciser.proofs.Following.{not_both, after_next, none_next, least_found}
use Rattle.exerciser.proofs.keeping.least_committed.Goals.{then-done-answered+in_ok-follow, else-done-answered}
use Rattle.exerciser.proofs.keeping.least_committed.Goals as goal

pub returns-then-branch-clause-covers : goal.returns-then-branch-clause-covers
returns-then-branch-clause-covers c = covers_more c.args.script.now c.args.replies.now c.covered-covered.result c.loop-done.done c.loop-done.invariant.least c.loop-done.invariant.covers

pub returns-then-branch-clause-least : goal.returns-then-branch-clause-least
returns-then-branch-clause-least c =
    let within_limit : c.loop-done.done ≤ c.min-answered.result = omega arith in
    let listed : Lists c.args.list.now (shown_after c.args.before.now c.args.script.now c.args.replies.now c.loop-done.done) = subst (λ (s : State). Lists c.args.list.now (settle s).objects) (c.loop-done.invariant.state within_limit) (c.in_ok-has.ensures.listed.0 c.if-branch.true) in
    least_found c.args.before.now c.args.script.now c.args.replies.now (Lists c.args.list.now) c.loop-done.done (record {
      covers = covers_more c.args.script.now c.args.replies.now c.covered-covered.result c.loop-done.done c.loop-done.invariant.least c.loop-done.invariant.covers;
      issued = omega (arith, within_limit, c.min-answered.ensures);
      answered = omega (arith, within_limit, c.min-answered.ensures);
      such = listed;
    }) c.loop-done.invariant.none

pub returns-then-branch-clause-shows : goal.returns-then-branch-clause-shows
returns-then-branch-clause-shows c =
    let within_limit : c.loop-done.done ≤ c.min-answered.result = omega arith in
    subst (λ (z : Sizes). IsTree z (shown_after c.args.before.now c.args.script.now c.args.replies.now c.loop-done.done)) c.loop-done.invariant.sizes
    (subst (λ (s : State). IsTree c.loop-done.tree.sizes (settle s).objects) (c.loop-done.invariant.state within_limit) c.in_ok-has.ensures.shows)

pub loop-done-preserved : goal.loop-done-preserved
loop-done-preserved c =
    let within_limit : c.loop-done.done ≤ c.min-answered.result = omega arith in
    let state = c.loop-done.invariant.state within_limit in
    let none = none_next c.args.before.now c.args.script.now c.args.replies.now (Lists c.args.list.now) c.loop-done.done
    (λ listed. not_both c.in_ok-has.field-0 c.if-branch.false (c.in_ok-has.ensures.listed.1 (subst (λ (s : State). Lists c.args.list.now (settle s).objects) (sym state) listed))) c.loop-done.invariant.none in
    elim c.if-done-answered.branch [
      | then-done-answered+in_ok-follow w ↦
          let asked_at : c.loop-done.done < length c.args.script.now = omega (arith, w.if-done-answered.true, c.min-answered.ensures) in
          let reported_at : c.loop-done.done < length c.args.replies.now = omega (arith, w.if-done-answered.true, c.min-answered.ensures) in
          let issued : slice_get c.args.script.now c.loop-done.done ≡ Some w.index-script-done.result = slice_get_read c.args.script.now (length c.args.script.now) c.loop-done.done w.index-script-done.result refl asked_at w.index-script-done.is in
          let reported : slice_get c.args.replies.now c.loop-done.done ≡ Some w.index-replies-done.result = slice_get_read c.args.replies.now (length c.args.replies.now) c.loop-done.done w.index-replies-done.result refl reported_at w.index-replies-done.is in
          record {
            sizes = ap (λ (t : PlainView). t.sizes) w.tree-is ∙ w.in_ok-follow.ensures.sizes ∙ c.loop-done.invariant.sizes;
            read_only = ap (λ (t : PlainView). t.read_only) w.tree-is ∙ w.in_ok-follow.ensures.read_only ∙ c.loop-done.invariant.read_only;
            state = λ more.
                ap (λ (t : PlainView). t.state) w.tree-is ∙ w.in_ok-follow.ensures.state
                ∙ (λ i. after_reported (c.loop-done.invariant.sizes i) (c.loop-done.invariant.read_only i) (state i) w.index-script-done.result w.index-replies-done.result)
                ∙ sym (after_next c.args.before.now.sizes c.args.before.now.read_only c.args.before.now.state c.args.script.now c.args.replies.now c.loop-done.done w.index-script-done.result w.index-replies-done.result issued reported);
            covers = c.loop-done.invariant.covers;
            least = omega (arith, c.loop-done.invariant.least);
            none = none;
          }
      | else-done-answered w ↦ record {
        sizes = ap (λ (t : PlainView). t.sizes) w.tree-is ∙ c.loop-done.invariant.sizes;
        read_only = ap (λ (t : PlainView). t.read_only) w.tree-is ∙ c.loop-done.invariant.read_only;
        state = λ more. absurd (omega (arith, more, w.if-done-answered.false));
        covers = c.loop-done.invariant.covers;
        least = omega (arith, c.loop-done.invariant.least);
        none = none;
      }
    ]
