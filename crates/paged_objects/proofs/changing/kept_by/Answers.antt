use Rattle.posix_profile.specs.State.{IsFile}
use Rattle.object_store.specs.Changes.{IsAbsent}
use Rattle.paged_objects.proofs.changing.kept_by.Goals as goal

pub returns-in-Create : goal.returns-in-Create
returns-in-Create c = λ z objects reports make.
    let s : IsAbsent objects c.in-Create.entry = rw c.in-Create.is at make.sensible in
    rw c.in-Create.is (c.kept_in.ensures objects reports s.directory)

pub returns-in-Name : goal.returns-in-Name
returns-in-Name c = λ z objects reports make.
    let s : IsAbsent objects c.in-Name.entry × IsFile objects c.in-Name.number = rw c.in-Name.is at make.sensible in
    rw c.in-Name.is (c.kept_in-in-Name.ensures objects reports s.0.directory)
