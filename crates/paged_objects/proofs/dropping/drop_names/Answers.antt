use Rattle.std.proofs.Common.{sym, subst}
use Rattle.posix_profile.specs.Changes.{with_name, without_name}
use Rattle.object_store.specs.Changes.{made}
use Rattle.object_store.specs.declared.change.ObjectChange.{ObjectChange}
use Rattle.paged_objects.specs.Naming.{HasNames}
use Rattle.paged_objects.specs.Changing.{HasLeftBy}
use Rattle.paged_objects.proofs.dropping.drop_names.Goals as goal

pub returns-in-Remove : goal.returns-in-Remove
returns-in-Remove c = λ z m objects names reports left.
    let w = c.in-Remove in
    let new = made objects c.args.change.now in
    let first = c.drop_name.ensures z m new names reports (subst (λ (x : ObjectChange). HasLeftBy z m new x c.args.left) w.is left) in
    subst (λ (x : ObjectChange). HasNames c.drop_object.new.names z m (made objects x)) (sym w.is)
    (c.drop_object.ensures z m (without_name objects w.moment w.entry.directory w.entry.name.now)
    (subst (λ (x : ObjectChange). HasNames c.drop_name.new.names z m (made objects x)) w.is first))

pub returns-in-Move : goal.returns-in-Move
returns-in-Move c = λ z m objects names reports left.
    let w = c.in-Move in
    let new = made objects c.args.change.now in
    let first = c.drop_name-in-Move.ensures z m new names reports (subst (λ (x : ObjectChange). HasLeftBy z m new x c.args.left) w.is left) in
    subst (λ (x : ObjectChange). HasNames c.drop_object-in-Move.new.names z m (made objects x)) (sym w.is)
    (c.drop_object-in-Move.ensures z m (with_name (without_name objects w.moment w.from.directory w.from.name.now) w.moment w.to.directory w.to.name.now w.number)
    (subst (λ (x : ObjectChange). HasNames c.drop_name-in-Move.new.names z m (made objects x)) w.is first))
