use Rattle.std.proofs.Common.{sym, ap, ◌∙◌}
use Rattle.std.specs.Option.{option_map}
use mathlib.Core.Bool.{false≢true}
use Rattle.chunk_index.specs.Dropped.{dropped_from}
use Rattle.chunk_index.specs.Entries.{present_of, same_of, stays_of}
use Rattle.chunk_index.specs.Noted.{IsNoted}
use Rattle.chunk_index.proofs.Dropping.{drops_noted, drops_other, drops_gone}
use Rattle.chunk_index.proofs.index.Index.cut.Goals as goal

pub invariant_of-self : goal.invariant_of-self
invariant_of-self c =
    let self = c.args.self.now in
    record { noted = drops_noted c.drop_from.ensures.drops (λ k l. ∥ IsNoted self.changes k l ∥₁) (λ k l. ∥ IsNoted c.note_from.new.self k l ∥₁) self.noted c.note_from.ensures.notes (λ l le not. c.note_from.ensures.noted l le) }

pub invariant_of-self-else-drop_from : goal.invariant_of-self-else-drop_from
invariant_of-self-else-drop_from c =
    let self = c.args.self.now in
    record {
      noted = drops_noted c.drop_from.ensures.drops (λ k l. ∥ IsNoted self.changes k l ∥₁) (λ k l. ∥ IsNoted self.changes k l ∥₁) self.noted (λ k l h. h) (λ l le not.
          absurd (false≢true (sym not ∙ ap same_of (c.drop_from.ensures.drops.here l) ∙ ap (λ v. same_of (option_map (dropped_from c.args.from) v)) (c.drop_from.ensures.none.0 c.if-drop_from.false l le))));
    }

pub returns-then-drop_from-clause-cuts : goal.returns-then-drop_from-clause-cuts
returns-then-drop_from-clause-cuts c = record { gone = drops_gone c.drop_from.ensures.drops; others = λ k l other. ap present_of (drops_other c.drop_from.ensures.drops k l other) }

pub returns-then-drop_from-clause-has_room : goal.returns-then-drop_from-clause-has_room
returns-then-drop_from-clause-has_room c k l other is = ap stays_of (drops_other c.drop_from.ensures.drops k l other) ∙ is

pub returns-else-drop_from-clause-cuts : goal.returns-else-drop_from-clause-cuts
returns-else-drop_from-clause-cuts c = record { gone = drops_gone c.drop_from.ensures.drops; others = λ k l other. ap present_of (drops_other c.drop_from.ensures.drops k l other) }

pub returns-else-drop_from-clause-has_room : goal.returns-else-drop_from-clause-has_room
returns-else-drop_from-clause-has_room c k l other is = ap stays_of (drops_other c.drop_from.ensures.drops k l other) ∙ is
