use Rattle.std.proofs.Common.{◌<◌, ◌≤◌, ◌+◌, ◌-◌, length, sym, subst, arith}
use Rattle.block_state.specs.TableOf.{table}
use Rattle.chunk_index.specs.Adding.{ArePagesOf, keys_of}
use Rattle.chunk_index.proofs.AddingRuns.{chunk_absent, chunks_more, page_room, pages_more}
use Rattle.chunk_index.proofs.Counting.{room_after}
use Rattle.chunk_index.proofs.object.ObjectEntries.add_run.Goals as goal

pub add_page-requires-clause-room : goal.add_page-requires-clause-room
add_page-requires-clause-room c =
    let ks = keys_of c.args.pages in
    let es = c.args.self.now.entries.items in
    let was = c.loop-at.invariant.adds in
    page_room (table c.loop-at.blocks) c.loop-at.self.entries.items (length es + (length ks - c.args.from)) (room_after c.requires.room was.counts) (omega (arith, was.size, c.loop-at-test.true, c.loop-at.auto.at, c.len-at-end.ensures, c.requires.from))

pub loop-at-preserved : goal.loop-at-preserved
loop-at-preserved c =
    let ks = keys_of c.args.pages in
    let from = c.args.from in
    let n = c.loop-at.at in
    let x = c.at-page.result in
    let le : from ≤ n = omega (arith, c.loop-at.auto.at) in
    let of : ArePagesOf ks from n x.key.object = subst (ArePagesOf ks from n) (sym c.if-page-object.false) c.loop-at.invariant.object in
    let old = c.args.self.now.entries.items in
    let mid = c.loop-at.self.entries.items in
    let t = table c.args.blocks.now in
    let u = table c.loop-at.blocks in
    let was = c.loop-at.invariant.adds in
    let none = chunk_absent ks from n old mid t u x c.requires.may.once c.at-page.ensures le was of c.args.object c.requires.absent c.if-page-object.false in
    record {
      adds = chunks_more ks from n old mid t u x c.requires.may.once c.at-page.ensures le was of c.add_page.new.self.entries.items (table c.add_page.new.blocks) none c.in-Ok.ensures.ok c.in-Ok.ensures.counts;
      object = pages_more ks from n c.args.object x c.loop-at.invariant.object c.at-page.ensures c.if-page-object.false;
    }
