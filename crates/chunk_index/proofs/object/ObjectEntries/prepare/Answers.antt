use Rattle.std.proofs.Common.{refl, arith}
use Rattle.chunk_index.proofs.Altering.{gap_absurd}
use Rattle.chunk_index.proofs.InPlace.{element_found}
use Rattle.chunk_index.proofs.Preparing.{prepares_kept, prepares_bare, one_more}
use Rattle.chunk_index.proofs.object.ObjectEntries.prepare.Goals as goal

pub returns-in-Ok-clause-ok : goal.returns-in-Ok-clause-ok
returns-in-Ok-clause-ok c =
    let is = element_found _ c.args.self.now.rises _ _ c.in-Ok.ensures.found c.index_mut.result.now c.index_mut.result.now refl c.index_mut.ensures.value in
    prepares_kept _ c.args.self.now.rises _ _ c.in-Ok.ensures.found c.index_mut.result.now is _ c.keep.ensures

pub returns-then-room-eq0-clause-succeeds : goal.returns-then-room-eq0-clause-succeeds
returns-then-room-eq0-clause-succeeds c here = absurd (gap_absurd _ _ _ c.in-Err.ensures.absent here)

pub returns-in_err-insert_at-in-Err-clause-succeeds : goal.returns-in_err-insert_at-in-Err-clause-succeeds
returns-in_err-insert_at-in-Err-clause-succeeds c here = absurd (gap_absurd _ _ _ c.in-Err.ensures.absent here)

pub returns-in_ok-insert_at-in-Err-clause-ok : goal.returns-in_ok-insert_at-in-Err-clause-ok
returns-in_ok-insert_at-in-Err-clause-ok c = prepares_bare _ _ _ _ c.in-Err.ensures.absent c.bare.result c.bare.ensures.entry c.in_ok-insert_at-in-Err.ensures.ok

pub returns-in_ok-insert_at-in-Err-clause-put : goal.returns-in_ok-insert_at-in-Err-clause-put
returns-in_ok-insert_at-in-Err-clause-put c = (one_more _ _ _ _ c.in-Err.ensures.absent c.bare.result c.bare.ensures.entry c.in_ok-insert_at-in-Err.ensures.ok, omega (arith, c.if-room-eq0.false))
