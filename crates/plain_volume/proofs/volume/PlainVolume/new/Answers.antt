use Rattle.std.proofs.Common.{◌∙◌, ap}
use Rattle.volume_terms.specs.VolumeSizes.{sizes_of}
use Rattle.posix_profile.specs.State.{State}
use Rattle.posix_profile.specs.laws.Fresh.{fresh, fresh_sound, fresh_well_formed}
use Rattle.posix_profile.specs.laws.Prune.{prune_same}
use Rattle.plain_volume.specs.PlainMeaning.{objects_of, numbers_of}
use Rattle.plain_volume.proofs.Plain.{none_open, plain_from}
use Rattle.plain_volume.proofs.volume.PlainVolume.new.Goals as goal

pub invariant_of-result : goal.invariant_of-result
invariant_of-result c =
    let z = sizes_of c.args.sizes in
    let made = c.in_ok-volume.ensures in
    let objects = ap objects_of made.store ∙ c.in_ok-objects.ensures.objects in
    plain_from z fresh c.in_ok-volume.volume c.requires (fresh_sound z c.requires) (ap numbers_of made.store ∙ c.in_ok-objects.ensures.sizes) (λ i. record { objects = objects i; handles = made.handles i }) made.goes_on
    none_open (ap (λ (s : State). s.objects) (prune_same z fresh (fresh_well_formed z)))
