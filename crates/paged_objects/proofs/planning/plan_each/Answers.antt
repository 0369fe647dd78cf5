use Rattle.std.proofs.Common.{◌≡◌, ◌⊎◌, ℕ, Some, None}
use Rattle.std.specs.FinMap as map
use Rattle.posix_profile.specs.State.{IsFile}
use Rattle.object_store.specs.Changes.{IsAbsent, LeadsTo, IsTarget}
use Rattle.paged_objects.proofs.Growing.{fewer_names, fewer_on, less_dropped, less_file, less_removed}
use Rattle.paged_objects.proofs.Results.{on_any}
use Rattle.paged_objects.proofs.Sensible.{file_number, target_directory, target_name}
use Rattle.paged_objects.proofs.planning.plan_each.Goals as goal

pub returns-in-Name-clause-fault : goal.returns-in-Name-clause-fault
returns-in-Name-clause-fault g c = λ z objects n can make is.
    let s : IsAbsent objects c.in-Name.entry × IsFile objects c.in-Name.number = rw c.in-Name.is at make.sensible in
    c.name.ensures.fault z objects n.holds can s.0 (file_number z objects can c.in-Name.number s.1)

pub returns-in-Remove-clause-makes : goal.returns-in-Remove-clause-makes
returns-in-Remove-clause-makes g c = λ z objects n make is.
    let s : (o : ℕ) × LeadsTo objects c.in-Remove.entry o × ((c.in-Remove.dropped ≡ None) ⊎ (c.in-Remove.dropped ≡ Some o)) = rw c.in-Remove.is at make.sensible in
    rw c.in-Remove.is (c.remove.ensures.removes s.0 z objects s.0 n s.1)

pub returns-in-Remove-clause-fault : goal.returns-in-Remove-clause-fault
returns-in-Remove-clause-fault g c = λ z objects n can make is.
    let s : (o : ℕ) × LeadsTo objects c.in-Remove.entry o × ((c.in-Remove.dropped ≡ None) ⊎ (c.in-Remove.dropped ≡ Some o)) = rw c.in-Remove.is at make.sensible in
    c.remove.ensures.fault z objects s.0 n s.1

pub returns-in-Move-clause-makes : goal.returns-in-Move-clause-makes
returns-in-Move-clause-makes g c = λ z objects n make is.
    let s : LeadsTo objects c.in-Move.from c.in-Move.number × IsTarget objects c.in-Move.to c.in-Move.number c.in-Move.dropped = rw c.in-Move.is at make.sensible in
    rw c.in-Move.is (c.move_name.ensures.moves None z objects n s.0 (target_directory objects c.in-Move.to c.in-Move.number c.in-Move.dropped s.1))

pub returns-in-Move-clause-fault : goal.returns-in-Move-clause-fault
returns-in-Move-clause-fault g c = λ z objects n can make is.
    let s : LeadsTo objects c.in-Move.from c.in-Move.number × IsTarget objects c.in-Move.to c.in-Move.number c.in-Move.dropped = rw c.in-Move.is at make.sensible in
    c.move_name.ensures.fault z objects n can s.0 (target_directory objects c.in-Move.to c.in-Move.number c.in-Move.dropped s.1) (target_name z objects can c.in-Move.to c.in-Move.number c.in-Move.dropped s.1)

pub returns-in-Create-clause-slots : goal.returns-in-Create-clause-slots
returns-in-Create-clause-slots g c = λ z objects n make.
    let s : IsAbsent objects c.in-Create.entry = rw c.in-Create.is at make.sensible in
    rw c.in-Create.is (c.create.ensures.slots z objects n.holds s)

pub returns-in-Name-clause-slots : goal.returns-in-Name-clause-slots
returns-in-Name-clause-slots g c = λ z objects n make.
    let s : IsAbsent objects c.in-Name.entry × IsFile objects c.in-Name.number = rw c.in-Name.is at make.sensible in
    rw c.in-Name.is (c.name.ensures.slots z objects n.holds s.0)

pub returns-in-Remove-clause-slots : goal.returns-in-Remove-clause-slots
returns-in-Remove-clause-slots g c = λ z objects n make.
    rw c.in-Remove.is (fewer_on z objects _ c.remove.result (less_dropped c.in-Remove.dropped objects c.in-Remove.moment c.in-Remove.entry.directory c.in-Remove.entry.name.now))

pub returns-in-Move-clause-slots : goal.returns-in-Move-clause-slots
returns-in-Move-clause-slots g c = λ z objects n make.
    let s : LeadsTo objects c.in-Move.from c.in-Move.number × IsTarget objects c.in-Move.to c.in-Move.number c.in-Move.dropped = rw c.in-Move.is at make.sensible in
    rw c.in-Move.is (c.move_name.ensures.slots None z objects n s.0 (target_directory objects c.in-Move.to c.in-Move.number c.in-Move.dropped s.1))

pub returns-in-Write-clause-slots : goal.returns-in-Write-clause-slots
returns-in-Write-clause-slots g c = λ z objects n make. rw c.in-Write.is (fewer_on z objects _ c.write.result (less_file objects c.in-Write.number c.in-Write.moment _))

pub returns-in-Resize-clause-slots : goal.returns-in-Resize-clause-slots
returns-in-Resize-clause-slots g c = λ z objects n make. rw c.in-Resize.is (fewer_on z objects _ c.resize.result (less_file objects c.in-Resize.number c.in-Resize.moment _))

pub returns-in_ok-forget-in-Forget-clause-slots : goal.returns-in_ok-forget-in-Forget-clause-slots
returns-in_ok-forget-in-Forget-clause-slots g c = λ z objects n make.
    rw c.in-Forget.is (fewer_names z c.in_ok-forget-in-Forget.field-0 objects (map.remove objects c.in-Forget.number) (less_removed objects c.in-Forget.number))

pub returns-in-Create-clause-keeps : goal.returns-in-Create-clause-keeps
returns-in-Create-clause-keeps g c = λ z objects n make is.
    let s : IsAbsent objects c.in-Create.entry = rw c.in-Create.is at make.sensible in
    rw c.in-Create.is (c.create.ensures.keeps z objects n.holds is s)

pub returns-in-Name-clause-keeps : goal.returns-in-Name-clause-keeps
returns-in-Name-clause-keeps g c = λ z objects n make is.
    let s : IsAbsent objects c.in-Name.entry × IsFile objects c.in-Name.number = rw c.in-Name.is at make.sensible in
    rw c.in-Name.is (c.name.ensures.keeps z objects n.holds s.0)

pub returns-in-Remove-clause-keeps : goal.returns-in-Remove-clause-keeps
returns-in-Remove-clause-keeps g c = λ z objects n make is. rw c.in-Remove.is (on_any c.remove.result)

pub returns-in-Move-clause-keeps : goal.returns-in-Move-clause-keeps
returns-in-Move-clause-keeps g c = λ z objects n make is. rw c.in-Move.is (on_any c.move_name.result)

pub returns-in-Write-clause-keeps : goal.returns-in-Write-clause-keeps
returns-in-Write-clause-keeps g c = λ z objects n make is. rw c.in-Write.is (on_any c.write.result)

pub returns-in-Resize-clause-keeps : goal.returns-in-Resize-clause-keeps
returns-in-Resize-clause-keeps g c = λ z objects n make is. rw c.in-Resize.is (on_any c.resize.result)

pub returns-in_ok-forget-in-Forget-clause-keeps : goal.returns-in_ok-forget-in-Forget-clause-keeps
returns-in_ok-forget-in-Forget-clause-keeps g c = λ z objects n make is. rw c.in-Forget.is tt
