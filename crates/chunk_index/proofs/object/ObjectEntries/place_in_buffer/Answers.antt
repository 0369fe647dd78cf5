use Rattle.std.proofs.Common.{sym, ap, refl, ◌∙◌}
use Rattle.chunk_index.specs.Entries.{chunk}
use Rattle.chunk_index.specs.InPlace.{state_in, with_buffered}
use Rattle.chunk_index.proofs.Altering.{gap_absurd}
use Rattle.chunk_index.proofs.InPlace.{element_found, rises_at, alters_by}
use Rattle.chunk_index.proofs.object.ObjectEntries.place_in_buffer.Goals as goal

pub invariant_of-self : goal.invariant_of-self
invariant_of-self c =
    let e = c.index_mut.result.now in
    let is = element_found _ c.args.self.now.rises _ _ c.in-Ok.ensures.found e e refl c.index_mut.ensures.value in
    record { rises = rises_at _ c.args.self.now.rises _ _ c.in-Ok.ensures.found e is c.put_in_buffer.new.self (ap chunk c.put_in_buffer.ensures.entry) }

pub returns-in-Ok-clause-alters : goal.returns-in-Ok-clause-alters
returns-in-Ok-clause-alters c =
    let e = c.index_mut.result.now in
    let is = element_found _ c.args.self.now.rises _ _ c.in-Ok.ensures.found e e refl c.index_mut.ensures.value in
    alters_by _ c.args.self.now.rises _ _ c.in-Ok.ensures.found e is c.put_in_buffer.new.self (ap chunk c.put_in_buffer.ensures.entry) (with_buffered c.args.page) c.put_in_buffer.ensures.entry

pub returns-in-Ok-clause-state : goal.returns-in-Ok-clause-state
returns-in-Ok-clause-state c =
    let e = c.index_mut.result.now in
    let is = element_found _ c.args.self.now.rises _ _ c.in-Ok.ensures.found e e refl c.index_mut.ensures.value in
    c.put_in_buffer.ensures.state ∙ sym (ap state_in is)

pub returns-in-Err-clause-alters : goal.returns-in-Err-clause-alters
returns-in-Err-clause-alters c = absurd (gap_absurd _ _ _ c.in-Err.ensures.absent c.requires.here)

pub returns-in-Err-clause-state : goal.returns-in-Err-clause-state
returns-in-Err-clause-state c = absurd (gap_absurd _ _ _ c.in-Err.ensures.absent c.requires.here)
