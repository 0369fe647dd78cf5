use Rattle.std.proofs.Common.{None, Some}
use Rattle.flash_tree.specs.declared.place.Key.{Key}
use Rattle.chunk_index.specs.Settled.{IsFrom, IsAny}
use Rattle.chunk_index.proofs.Noting.{IsPast, past_none, past_more, past_all, where_none, where_then, where_fewer, may_after}
use Rattle.chunk_index.proofs.shelf.Shelf.settle_all.Goals as goal

pub loop-object-init : goal.loop-object-init
loop-object-init c = where_none c.args.group (IsPast None) _ _ past_none c.requires.tallies

pub settle_from-requires : goal.settle_from-requires
settle_from-requires c = may_after c.args.group (IsPast c.loop-object.done) _ _ _ _ c.requires c.loop-object.invariant

pub loop-object-preserved : goal.loop-object-preserved
loop-object-preserved c =
    let k : Key = record { object = c.in-Some.object; chunk = 0 } in
    where_then c.args.group (IsPast c.loop-object.done) (IsFrom k) (IsPast (Some c.in-Some.object)) _ _ _ _ _ _ c.loop-object.invariant c.settle_from.ensures (past_more c.loop-object.done c.loop-object.self.objects c.in-Some.object c.in-Some.ensures)

pub returns : goal.returns
returns c = where_fewer c.args.group (IsPast c.loop-object.done) IsAny _ _ _ _ c.loop-object.invariant (past_all c.loop-object.done c.loop-object.self.objects c.in_default.ensures)
