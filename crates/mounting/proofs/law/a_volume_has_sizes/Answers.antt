use Rattle.mounting.proofs.VolumeSizes.{sizes_are}
use Rattle.mounting.proofs.law.a_volume_has_sizes.Goals as goal

pub returns : goal.returns
returns c = λ g m spare volume. sizes_are g spare volume.room
