use Rattle.std.proofs.Common.{sym, ap, refl, ◌∙◌}
use Rattle.chunk_index.specs.Entries.{chunk, same_of, with_state}
use Rattle.chunk_index.proofs.Altering.{gap_absurd}
use Rattle.chunk_index.proofs.InPlace.{element_found, rises_at, alters_by}
use Rattle.chunk_index.proofs.object.ObjectEntries.place.Goals as goal

pub invariant_of-self : goal.invariant_of-self
invariant_of-self c =
    let e = c.index_mut.result.now in
    let is = element_found _ c.args.self.now.rises _ _ c.in-Ok.ensures.found e e refl c.index_mut.ensures.value in
    record { rises = rises_at _ c.args.self.now.rises _ _ c.in-Ok.ensures.found e is c.set_state.new.self (ap chunk c.set_state.ensures) }

pub returns-in-Ok-clause-alters : goal.returns-in-Ok-clause-alters
returns-in-Ok-clause-alters c =
    let e = c.index_mut.result.now in
    let is = element_found _ c.args.self.now.rises _ _ c.in-Ok.ensures.found e e refl c.index_mut.ensures.value in
    alters_by _ c.args.self.now.rises _ _ c.in-Ok.ensures.found e is c.set_state.new.self (ap chunk c.set_state.ensures) (with_state c.args.state) c.set_state.ensures

pub returns-in-Ok-clause-same : goal.returns-in-Ok-clause-same
returns-in-Ok-clause-same c =
    let e = c.index.result.now in
    let is = element_found _ c.args.self.now.rises _ _ c.in-Ok.ensures.found e e refl c.index.ensures in
    c.is_same-same.ensures ∙ sym (ap same_of is)

pub returns-in-Err-clause-alters : goal.returns-in-Err-clause-alters
returns-in-Err-clause-alters c = absurd (gap_absurd _ _ _ c.in-Err.ensures.absent c.requires.here)

pub returns-in-Err-clause-same : goal.returns-in-Err-clause-same
returns-in-Err-clause-same c = absurd (gap_absurd _ _ _ c.in-Err.ensures.absent c.requires.here)
