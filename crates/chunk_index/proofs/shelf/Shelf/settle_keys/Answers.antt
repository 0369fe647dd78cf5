use Rattle.std.proofs.Common.{arith, inl}
use Rattle.chunk_index.specs.Shelves.{IsListed}
use Rattle.chunk_index.specs.Settled.{IsListedIn}
use Rattle.chunk_index.proofs.Noting.{IsAmong, among_none, where_none, where_then, where_fewer, may_after}
use Rattle.chunk_index.proofs.SettlingKeys.{among_run}
use Rattle.chunk_index.proofs.shelf.Shelf.settle_keys.Goals as goal

pub loop-done-init : goal.loop-done-init
loop-done-init c = where_none c.args.group (IsAmong c.args.keys.now 0) _ _ (among_none c.args.keys.now) c.requires.tallies

pub settle_run-done-requires-clause-may : goal.settle_run-done-requires-clause-may
settle_run-done-requires-clause-may c = may_after c.args.group (IsAmong c.args.keys.now c.loop-done.done) _ _ _ _ c.requires c.loop-done.invariant

pub loop-done-preserved : goal.loop-done-preserved
loop-done-preserved c =
    let keys = c.args.keys.now in
    let n = c.loop-done.done in
    let end = c.settle_run-done.result in
    where_then c.args.group (IsAmong keys n) (IsListedIn keys n end) (IsAmong keys end) _ _ _ _ _ _ c.loop-done.invariant c.settle_run-done.ensures.settles (among_run keys n end c.loop-done.self.objects)

pub returns : goal.returns
returns c =
    let keys = c.args.keys.now in
    let n = c.loop-done.done in
    where_fewer c.args.group (IsAmong keys n) (IsListed keys) _ _ _ _ c.loop-done.invariant (λ o l at. inl (at.0, (let lt = at.1 in omega (arith, lt, c.loop-done-test.false)), at.2))
