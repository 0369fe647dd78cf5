use Rattle.chunk_index.specs.Noted.{IsNoted}
use Rattle.chunk_index.proofs.Mapping.{noted_after}
use Rattle.chunk_index.proofs.index.Index.place.Goals as goal

pub invariant_of-self : goal.invariant_of-self
invariant_of-self c =
    let self = c.args.self.now in
    record { noted = noted_after c.place.ensures.alters (λ k l. ∥ IsNoted self.changes k l ∥₁) (λ k l. ∥ IsNoted c.note.new.self k l ∥₁) self.noted c.note.ensures.notes (λ not. c.note.ensures.noted) }
