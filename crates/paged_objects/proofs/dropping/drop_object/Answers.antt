use Rattle.std.proofs.Common.{Option, ℕ, sym, subst}
use Rattle.object_store.specs.Changes.{without}
use Rattle.paged_objects.specs.Naming.{HasNames}
use Rattle.paged_objects.proofs.Dropped.{object_dropped}
use Rattle.paged_objects.proofs.dropping.drop_object.Goals as goal

pub returns-in-Some : goal.returns-in-Some
returns-in-Some c = λ z m objects names.
    subst (λ (x : Option ℕ). HasNames c.drop_directory.new.self z m (without x objects)) (sym c.in-Some.is)
    (object_dropped c.args.names.now c.drop_directory.new.self z m objects c.in-Some.number c.drop_directory.ensures
    (subst (λ (x : Option ℕ). HasNames c.args.names.now z m (without x objects)) c.in-Some.is names))
