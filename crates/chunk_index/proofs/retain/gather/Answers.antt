use Rattle.std.proofs.Common.{arith, ap, sym, refl, subst, ◌∙◌, ◌≡◌, ◌<◌, length, take}
use Rattle.block_state.specs.TableOf.{table}
use Rattle.chunk_index.specs.Entries.{one_at, committed_of}
use Rattle.chunk_index.specs.Counts.{Recounts}
use Rattle.chunk_index.specs.Retained.{retained}
use Rattle.chunk_index.proofs.Finding.{same_element}
use Rattle.chunk_index.proofs.Gathering.{IsLeft, at_first, left_more, gathers_from, next_counted, gathers_left, gathers_gone, gathers_items, gathers_counts}
use Rattle.chunk_index.proofs.Retaining.{retained_by}
use Rattle.chunk_index.proofs.retain.gather.Goals.{in-Some, in_default}
use Rattle.chunk_index.proofs.retain.gather.Goals as goal

pub loop-at-init : goal.loop-at-init
loop-at-init g c = gathers_from (IsLeft (retained_by (g.F.KeyFilter.keeps c.args.filter.now c.args.object))) _ 0 _ refl

pub retained-requires-clause-totaled : goal.retained-requires-clause-totaled
retained-requires-clause-totaled g c = next_counted (IsLeft (retained_by (g.F.KeyFilter.keeps c.args.filter.now c.args.object))) _ _ _ _ _ _ c.loop-at.invariant (omega (arith, c.loop-at-test.true, c.len-at-end.ensures)) c.unpack-entry.result (same_element _ c.loop-at.at _ _ c.unpack-entry.ensures.entry c.index.ensures) c.requires.totaled

pub loop-at-preserved : goal.loop-at-preserved
loop-at-preserved g c =
    let left = retained_by (g.F.KeyFilter.keeps c.args.filter.now c.args.object) in
    let n = c.loop-at.at in
    let first = c.args.entries.now.items in
    let now = c.loop-at.entries.items in
    let e = c.unpack-entry.result in
    let here = same_element _ c.loop-at.at _ _ c.unpack-entry.ensures.entry c.index.ensures in
    let t = table c.args.blocks.now in
    let u = table c.loop-at.blocks in
    let after = table c.retained.new.blocks in
    let lt : n < length first = omega (arith, c.loop-at-test.true, c.len-at-end.ensures) in
    let at = at_first (IsLeft left) first n now c.loop-at.committed t u c.loop-at.invariant lt e here in
    let front = take c.loop-at.committed now in
    let result : c.retained.result ≡ left e = c.retained.ensures.result ∙ ap (λ b. retained b e) c.keeps-stays.ensures in
    elim c.match-retained.branch [
      | in-Some w ↦
          let counts = subst (λ v. Recounts (one_at e.committed) (one_at (committed_of v)) u after) w.in-Some.is c.retained.ensures.counts in
          rw (w.entries-is, w.committed-is, w.pack.ensures) (gathers_left (IsLeft left) first n now c.loop-at.committed t u c.loop-at.invariant lt e here w.in-Some.left after (left_more left first n e lt at front _ (sym w.in-Some.is ∙ result)) counts)
      | in_default w ↦
          let counts = subst (λ v. Recounts (one_at e.committed) (one_at (committed_of v)) u after) w.in_default.is c.retained.ensures.counts in
          rw (w.entries-is, w.committed-is) (gathers_gone (IsLeft left) first n now c.loop-at.committed t u c.loop-at.invariant lt e here after (left_more left first n e lt at front _ (sym w.in_default.is ∙ result)) counts)
    ]

pub returns-clause-items : goal.returns-clause-items
returns-clause-items g c = c.truncate.ensures.items ∙ gathers_items (IsLeft (retained_by (g.F.KeyFilter.keeps c.args.filter.now c.args.object))) _ c.loop-at.at _ _ _ _ c.loop-at.invariant (omega (arith, c.loop-at-test.false, c.len-at-end.ensures))

pub returns-clause-counts : goal.returns-clause-counts
returns-clause-counts g c = gathers_counts (IsLeft (retained_by (g.F.KeyFilter.keeps c.args.filter.now c.args.object))) _ c.loop-at.at _ _ _ _ c.loop-at.invariant (omega (arith, c.loop-at-test.false, c.len-at-end.ensures)) _ c.truncate.ensures.items
