use Rattle.command_tests.specs.declared.committed.CommittedObjects.{CommittedObjects}
use Rattle.command_tests.proofs.Copies.{maps_have, store_finds}
use Rattle.command_tests.proofs.committed.CommittedObjectsObjectStore.find.Goals as goal

pub returns-clause-lookups : goal.returns-clause-lookups
returns-clause-lookups c z objects has is =
    store_finds (λ (a : CommittedObjects). a.objects) (λ (a : CommittedObjects). a.shown) _ c.args.self.now (record c.args.self.now { objects = c.find.new.self }) c.find.result (c.find.ensures.lookups z objects (maps_have (λ (a : CommittedObjects). a.objects) (λ (a : CommittedObjects). a.shown) z objects c.args.self.now has) is)
