use Rattle.command_tests.specs.declared.committed.CommittedObjects.{CommittedObjects}
use Rattle.command_tests.proofs.Copies.{maps_have}
use Rattle.command_tests.proofs.committed.CommittedObjectsObjectStore.parent.Goals as goal

pub returns : goal.returns
returns c z objects has is = c.parent.ensures z objects (maps_have (λ (a : CommittedObjects). a.objects) (λ (a : CommittedObjects). a.shown) z objects c.args.self.now has) is
