use Rattle.std.proofs.Common.{◌∙◌, sym, subst}
use Rattle.std.specs.Prelude.{Some, None}
use Rattle.posix_profile.specs.State.{Objects}
use Rattle.object_store.specs.Facts.{NamedBy}
use Rattle.plain_volume.specs.PlainState.{objects_in}
use Rattle.plain_volume.proofs.Fitting.{named_by, named_none}
use Rattle.plain_volume.proofs.objects.store.PlainObjectsObjectStore.parent.Goals as goal

pub returns-then-is_named : goal.returns-then-is_named
returns-then-is_named c z objects has dir =
    subst (λ (o : Objects). NamedBy o c.args.directory (Some c.parent.result)) has.represents
    (subst (λ p. NamedBy (objects_in c.args.self.now.objects) c.args.directory (Some p)) (sym c.parent.ensures) (named_by (objects_in c.args.self.now.objects) c.args.directory (sym c.is_named.ensures ∙ c.if-is_named.true)))

pub returns-else-is_named : goal.returns-else-is_named
returns-else-is_named c z objects has dir =
    subst (λ (o : Objects). NamedBy o c.args.directory None) has.represents (named_none (objects_in c.args.self.now.objects) c.args.directory (sym c.is_named.ensures ∙ c.if-is_named.false))
