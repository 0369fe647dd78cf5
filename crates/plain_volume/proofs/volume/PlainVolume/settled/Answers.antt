use Rattle.std.proofs.Common.{◌∙◌, ap}
use Rattle.posix_profile.specs.Names.{settle}
use Rattle.posix_profile.specs.State.{State}
use Rattle.posix_profile.specs.laws.Prune.{settle_again}
use Rattle.posix_profile.specs.laws.Step.{settle_sound}
use Rattle.object_store.specs.Stores.{settled}
use Rattle.object_commands.specs.Volumes.{store_of}
use Rattle.plain_volume.specs.PlainMeaning.{objects_of, numbers_of}
use Rattle.plain_volume.specs.Representing.{state_of}
use Rattle.plain_volume.proofs.Plain.{none_open, plain_from}
use Rattle.plain_volume.proofs.volume.PlainVolume.settled.Goals as goal

pub invariant_of-result : goal.invariant_of-result
invariant_of-result c =
    let v = c.self.inside.volume in
    let z = numbers_of (store_of v) in
    let made = c.in_ok-volume.ensures in
    let objects = ap objects_of made.store ∙ c.in_ok-objects.ensures.objects ∙ ap (λ a. settled (objects_of a)) c.store.ensures in
    plain_from z (settle (state_of v)) c.in_ok-volume.volume c.self.invariant.numbers (settle_sound z (state_of v) c.self.invariant.sound)
    (ap numbers_of made.store ∙ c.in_ok-objects.ensures.sizes ∙ ap numbers_of c.store.ensures) (λ i. record { objects = objects i; handles = made.handles i }) made.goes_on
    none_open (ap (λ (s : State). s.objects) (settle_again z (state_of v) c.self.invariant.sound.well_formed))

pub returns-clause-sound : goal.returns-clause-sound
returns-clause-sound c = (invariant_of-result c).sound
