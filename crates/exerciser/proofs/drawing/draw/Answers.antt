use Rattle.std.proofs.Common.{◌≤◌, ◌+◌, ◌++◌, ◌∷◌, [], ◌∙◌, ap, arith}
use Rattle.std.specs.Prelude.{vec_capacity}
use Rattle.rand_core.specs.Stream.{next_u64}
use Rattle.exerciser.specs.Words.{answers}
use Rattle.exerciser.proofs.Words.{none_drawn, one_more}
use Rattle.exerciser.proofs.drawing.draw.Goals as goal

pub loop-page-init : goal.loop-page-init
loop-page-init c =
    let start = none_drawn (next_u64 (answers c.args.generator.now)).1 (answers c.next_u64.new.self) (ap (λ p. p.1) c.next_u64.ensures) in
    record {
      fates = c.in_ok-fates.ensures.items ∙ start.0;
      left = start.1;
      len = c.in_ok-fates.ensures.len;
      room = c.in_ok-fates.ensures.capacity;
    }

pub loop-page-preserved : goal.loop-page-preserved
loop-page-preserved c =
    let more = one_more c.loop-page._page (next_u64 (answers c.args.generator.now)).1 (answers c.loop-page.generator) (answers c.next_u64-in-loop-page.new.self)
    c.loop-page.fates.items c.next_u64-in-loop-page.result c.loop-page.invariant.fates c.loop-page.invariant.left c.next_u64-in-loop-page.ensures in
    record {
      fates = c.in_ok-push.ensures.items ∙ ap (λ fate. c.loop-page.fates.items ++ (fate ∷ [])) c.fate_of.ensures ∙ more.0;
      left = more.1;
      len = c.in_ok-push.ensures.len ∙ ap (λ n. n + 1) c.loop-page.invariant.len;
      room = let before : c.args.pages ≤ vec_capacity c.loop-page.fates = c.loop-page.invariant.room in let grows : vec_capacity c.loop-page.fates ≤ vec_capacity c.push.new.self = c.in_ok-push.ensures.capacity in omega arith;
    }
