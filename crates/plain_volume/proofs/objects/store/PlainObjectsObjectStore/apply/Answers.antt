use Rattle.std.proofs.Common.{◌≡◌, sym, subst}
use Rattle.std.specs.Prelude.{true}
use Rattle.posix_profile.specs.Charge.{fits}
use Rattle.posix_profile.specs.State.{Objects}
use Rattle.volume_terms.specs.VolumeSizes.{sizes_of}
use Rattle.plain_volume.specs.PlainState.{objects_in}
use Rattle.plain_volume.proofs.Fitting.{forget_fits}
use Rattle.plain_volume.proofs.objects.store.PlainObjectsObjectStore.apply.Goals as goal

pub invariant_of-self : goal.invariant_of-self
invariant_of-self c = record {
  fit = subst (λ (o : Objects). fits (sizes_of c.args.self.now.sizes) o ≡ true) (sym c.forget.ensures) (forget_fits (sizes_of c.args.self.now.sizes) (objects_in c.args.self.now.objects) _ c.args.self.now.fit);
}
