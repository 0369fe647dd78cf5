use Rattle.chunk_index.specs.Noted.{IsNoted}
use Rattle.chunk_index.proofs.Mapping.{noted_after}
use Rattle.chunk_index.proofs.index.Index.place_in_buffer.Goals as goal

pub invariant_of-self-in-Same : goal.invariant_of-self-in-Same
invariant_of-self-in-Same c =
    let self = c.args.self.now in
    record { noted = noted_after c.place_in_buffer.ensures.alters (λ k l. ∥ IsNoted self.changes k l ∥₁) (λ k l. ∥ IsNoted c.note.new.self k l ∥₁) self.noted c.note.ensures.notes (λ not. c.note.ensures.noted) }
