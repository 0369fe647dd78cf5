-- The honesty of a device by itself, from before its mount until it is given back.
use Rattle.std.proofs.Common.{◌≡◌, ◌∙◌, ap, sym}
use Rattle.nand_model.specs.Calls.{Device}
use Rattle.posix_calls.specs.Calls.{VolumeGoesOn}
use Rattle.posix_calls.specs.PageVolumes.{pages_of}
use Rattle.posix_calls.specs.declared.page_volume.PageVolume.{PageVolume}
use Rattle.pages.specs.State.{PagesState}
use Rattle.posix_calls.specs.Endings.{LiesOn}
use Rattle.posix_calls.specs.Mounts.{IsMounted}
use Rattle.posix_calls.proofs.law.a_device_given_back_is_as_honest.Goals as goal

-- a device is as honest by itself as it is seen
as_seen : (p : PagesState) (device : Device) → LiesOn p device → device.honest_itself ≡ p.device.honest_itself
as_seen p device (reported, is) = sym (ap (λ (d : Device). d.honest_itself) is)

-- and as the pages of its volume are since the mount
since_mount : {P : Type 0} (state : P → PagesState) (device : Device) (v w : PageVolume P) → IsMounted state device v → VolumeGoesOn state v w
    → (state (pages_of w)).device.honest_itself ≡ device.honest_itself
since_mount state device v w mounted goes =
    goes.pages.device.honest_itself ∙ ap (λ (d : Device). d.honest_itself) mounted.since.read.seen_is ∙ mounted.since.read.reads.lasts.honest_itself

pub returns-clause-abandoned : goal.returns-clause-abandoned
returns-clause-abandoned g c device back v w mounted goes lies = as_seen (g.P.Pages.state (pages_of w)) back lies ∙ since_mount g.P.Pages.state device v w mounted goes

pub returns-clause-unmounted : goal.returns-clause-unmounted
returns-clause-unmounted g c device back v w reply mounted goes ended =
    as_seen ended.pages back ended.device_is ∙ ended.ends_on.device.honest_itself ∙ since_mount g.P.Pages.state device v w mounted goes
