use Rattle.std.specs.Prelude.{◌≡◌, ◌+◌, ◌++◌, ◌<◌, List, [], ◌∷◌, length, Some, slice_get}
use Rattle.std.proofs.Common.{refl, sym, ◌∙◌, ap, subst, arith}
use Rattle.std.proofs.lemmas.List.{length_push}
use Rattle.posix_profile.specs.declared.reply.Reply.{Reply}
use Rattle.paged_objects.specs.laws.Going.{goes_here, goes_on}
use Rattle.page_store.specs.PagesOf.{mounted_pages}
use Rattle.posix_calls.specs.Volumes.{over_pages}
use Rattle.powercut.specs.Commands.{Does, meaning_of}
use Rattle.powercut.proofs.Lists.{at_index}
use Rattle.powercut.proofs.Ended.{call_does}
use Rattle.powercut.proofs.Doing.{GoesSoFar, well_none, well_more, does_stopped, does_all}
use Rattle.powercut.proofs.commands.do_commands.Goals as goal

pub loop-stamped-init : goal.loop-stamped-init
loop-stamped-init g c =
    let none : c.new-replies.result.items ≡ [] = c.new-replies.ensures.items in
    record {
      count = ap (λ (rs : List Reply). length rs) none;
      goes_on = goes_here _;
      read_only = refl;
      still = λ going. going;
      does = subst (λ (rs : List Reply). GoesSoFar (meaning_of mounted_pages over_pages) c.args.commands.now rs c.args.volume.now c.args.volume.now) (sym none) (well_none _ c.args.commands.now c.args.volume.now);
    }

pub loop-stamped-preserved : goal.loop-stamped-preserved
loop-stamped-preserved g c =
    let commands = c.args.commands.now in
    let was = c.loop-stamped.invariant in
    let reported = c.loop-stamped.replies.items in
    let stamped = c.stamped-item.result in
    let reply = c.call-reply.result in
    let lt : c.loop-stamped.stamped-index < length commands = omega (arith, c.loop-stamped-test.true) in
    let at : slice_get commands (length reported) ≡ Some stamped = ap (slice_get commands) was.count ∙ at_index commands c.loop-stamped.stamped-index stamped lt c.stamped-item.is in
    let pushed : c.push.new.self.items ≡ reported ++ reply ∷ [] = c.in_ok-push.ensures.items ∙ ap (λ (rs : List Reply). rs ++ reply ∷ []) c.reserve.ensures.items in
    record {
      count = let more : length c.push.new.self.items ≡ length reported + 1 = ap (λ (rs : List Reply). length rs) pushed ∙ length_push reported reply in more ∙ ap (λ n. n + 1) was.count;
      goes_on = goes_on _ _ _ was.goes_on c.call-reply.ensures.goes_on;
      read_only = c.call-reply.ensures.read_only ∙ was.read_only;
      still = λ _. sym c.stopped.ensures ∙ c.if-stopped.false;
      does = subst (λ (rs : List Reply). GoesSoFar (meaning_of mounted_pages over_pages) commands rs c.args.volume.now c.call-reply.new.self) (sym pushed)
          (well_more _ commands reported stamped reply c.args.volume.now c.loop-stamped.volume c.call-reply.new.self at was.read_only was.does (call_does mounted_pages over_pages c.loop-stamped.volume c.call-reply.new.self stamped reply c.call-reply.ensures) c.call-reply.ensures.stops
          (sym c.stopped.ensures ∙ c.if-stopped.false));
    }

pub returns-then-stopped : goal.returns-then-stopped
returns-then-stopped g c =
    let commands = c.args.commands.now in
    let was = c.loop-stamped.invariant in
    let reported = c.loop-stamped.replies.items in
    let stamped = c.stamped-item.result in
    let reply = c.call-reply.result in
    let lt : c.loop-stamped.stamped-index < length commands = omega (arith, c.loop-stamped-test.true) in
    let at : slice_get commands (length reported) ≡ Some stamped = ap (slice_get commands) was.count ∙ at_index commands c.loop-stamped.stamped-index stamped lt c.stamped-item.is in
    let pushed : c.push.new.self.items ≡ reported ++ reply ∷ [] = c.in_ok-push.ensures.items ∙ ap (λ (rs : List Reply). rs ++ reply ∷ []) c.reserve.ensures.items in
    subst (λ (rs : List Reply). Does (meaning_of mounted_pages over_pages) commands rs c.args.volume.now c.call-reply.new.self) (sym pushed)
    (does_stopped _ commands reported stamped reply c.args.volume.now c.loop-stamped.volume c.call-reply.new.self at was.read_only was.does (call_does mounted_pages over_pages c.loop-stamped.volume c.call-reply.new.self stamped reply c.call-reply.ensures) c.call-reply.ensures.stops
    (sym c.stopped.ensures ∙ c.if-stopped.true)
    (goes_on _ _ _ was.goes_on c.call-reply.ensures.goes_on) (c.call-reply.ensures.read_only ∙ was.read_only) was.still)

pub returns : goal.returns
returns g c =
    let was = c.loop-stamped.invariant in
    let all : length c.loop-stamped.replies.items ≡ length c.args.commands.now = omega (arith, was.count, c.loop-stamped-test.false, c.loop-stamped.auto.stamped-index-end) in
    does_all _ c.args.commands.now c.loop-stamped.replies.items c.args.volume.now c.loop-stamped.volume all was.does was.goes_on was.read_only
