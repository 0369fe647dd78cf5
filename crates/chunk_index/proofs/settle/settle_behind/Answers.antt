use Rattle.std.proofs.Common.{arith, sym, ◌∙◌, ◌<◌, length}
use Rattle.block_state.specs.TableOf.{table}
use Rattle.chunk_index.proofs.Gathering.{gathers_from, gathers_items, gathers_counts}
use Rattle.chunk_index.proofs.SettlingEntries.{IsSettledBehind, settled_none, settled_here, settled_moved, settled_gone, next_may}
use Rattle.chunk_index.proofs.settle.settle_behind.Goals.{then-not-settle, then-kept-at, else-kept-at, else-not-settle}
use Rattle.chunk_index.proofs.settle.settle_behind.Goals as goal

pub loop-at-init : goal.loop-at-init
loop-at-init c = gathers_from (IsSettledBehind c.args.first c.args.group c.args.entries.now.items) c.args.entries.now.items c.args.first (table c.args.blocks.now) (settled_none c.args.first c.args.group c.args.entries.now.items)

pub settle-requires : goal.settle-requires
settle-requires c =
    record {
      may = next_may c.args.first c.args.group c.args.entries.now.items c.loop-at.at c.loop-at.entries.items c.loop-at.kept (table c.args.blocks.now) (table c.loop-at.blocks) c.loop-at.invariant (omega (arith, c.loop-at-test.true, c.len-at-end.ensures)) c.index_mut.result.now
          c.index_mut.ensures.value c.requires.may;
    }

pub loop-at-preserved : goal.loop-at-preserved
loop-at-preserved c =
    let whole = c.args.entries.now.items in
    let g = c.args.group in
    let n = c.loop-at.at in
    let now = c.loop-at.entries.items in
    let kept = c.loop-at.kept in
    let t = table c.args.blocks.now in
    let u = table c.loop-at.blocks in
    let after = table c.settle.new.blocks in
    let e = c.index_mut.result.now in
    let here = c.index_mut.ensures.value in
    let x = c.settle.new.self in
    let to = c.settle.ensures.entry in
    let counts = c.settle.ensures.counts in
    let was = c.loop-at.invariant in
    let first = c.args.first in
    let le = c.loop-at.auto.at in
    let lt : n < length whole = omega (arith, c.loop-at-test.true, c.len-at-end.ensures) in
    elim c.if-not-settle.branch [
      | then-not-settle w ↦
          let stays = sym c.settle.ensures.goes ∙ w.if-not-settle.true in
          elim w.if-kept-at.branch [
            | then-kept-at v ↦ rw (w.entries-is, w.kept-is, v.entries-is, v.swap.ensures.items) (settled_moved first g whole n now kept t u after was lt le e here x to counts stays v.if-kept-at.true)
            | else-kept-at v ↦ rw (w.entries-is, w.kept-is, v.entries-is) (settled_here first g whole n now kept t u after was lt le e here x to counts stays v.if-kept-at.false)
          ]
      | else-not-settle w ↦ rw (w.entries-is, w.kept-is) (settled_gone first g whole n now kept t u after was lt le e here x to counts (sym c.settle.ensures.goes ∙ w.if-not-settle.false))
    ]

pub returns-clause-items : goal.returns-clause-items
returns-clause-items c n end =
    let whole = c.args.entries.now.items in
    c.truncate.ensures.items ∙ gathers_items (IsSettledBehind c.args.first c.args.group whole) whole c.loop-at.at _ _ _ _ c.loop-at.invariant (omega (arith, c.loop-at-test.false, c.len-at-end.ensures)) n end

pub returns-clause-counts : goal.returns-clause-counts
returns-clause-counts c =
    let whole = c.args.entries.now.items in
    gathers_counts (IsSettledBehind c.args.first c.args.group whole) whole c.loop-at.at _ _ _ _ c.loop-at.invariant (omega (arith, c.loop-at-test.false, c.len-at-end.ensures)) _ c.truncate.ensures.items
