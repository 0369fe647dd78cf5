use Rattle.std.proofs.Common.{arith, inl, ◌+◌, get_or}
use Rattle.std.proofs.lemmas.List.{get_or_default}
use Rattle.flash_tree.specs.declared.place.Key.{Key}
use Rattle.chunk_index.specs.Noted.{IsCut}
use Rattle.chunk_index.specs.Settled.{IsFrom}
use Rattle.chunk_index.proofs.Noting.{IsCutAmong, cut_none, cut_more, where_none, where_then, where_fewer, may_after}
use Rattle.chunk_index.proofs.shelf.Shelf.settle_cuts.Goals as goal

pub loop-from-init : goal.loop-from-init
loop-from-init c = where_none c.args.group (IsCutAmong c.args.cuts.now 0) _ _ (cut_none c.args.cuts.now) c.requires.tallies

pub settle_from-requires : goal.settle_from-requires
settle_from-requires c = may_after c.args.group (IsCutAmong c.args.cuts.now c.loop-from.from-index) _ _ _ _ c.requires c.loop-from.invariant

pub loop-from-preserved : goal.loop-from-preserved
loop-from-preserved c =
    let keys = c.args.cuts.now in
    let n = c.loop-from.from-index in
    let d : Key = record { object = 0; chunk = 0 } in
    let k = get_or keys n d in
    where_then c.args.group (IsCutAmong keys n) (IsFrom k) (IsCutAmong keys (n + 1)) _ _ _ _ _ _ c.loop-from.invariant c.settle_from.ensures (cut_more keys n k (λ e. get_or_default keys n e d c.loop-from-test.true) c.loop-from.self.objects)

pub returns : goal.returns
returns c =
    let keys = c.args.cuts.now in
    let n = c.loop-from.from-index in
    where_fewer c.args.group (IsCutAmong keys n) (IsCut keys) _ _ _ _ c.loop-from.invariant (λ o l at. inl (at.0, (let lt = at.1 in omega (arith, lt, c.loop-from-test.false)), at.2))
