use Rattle.std.proofs.Common.{◌≡◌, sym, subst}
use Rattle.std.specs.Prelude.{true}
use Rattle.std.specs.FinMap as map
use Rattle.posix_profile.specs.Charge.{fits}
use Rattle.posix_profile.specs.State.{Objects}
use Rattle.posix_profile.specs.laws.Charge.{settle_fits}
use Rattle.volume_terms.specs.VolumeSizes.{sizes_of}
use Rattle.plain_volume.specs.PlainState.{objects_in}
use Rattle.plain_volume.proofs.objects.store.PlainObjects.settled.Goals as goal

pub invariant_of-result : goal.invariant_of-result
invariant_of-result c =
    let z = sizes_of c.args.self.now.sizes in
    record {
      fit = subst (λ (o : Objects). fits z o ≡ true) (sym c.in_ok-objects.ensures)
          (settle_fits z (record { objects = objects_in c.args.self.now.objects; handles = map.empty }) c.args.self.now.fit);
    }
