use Rattle.std.proofs.Common.{◌∙◌, w32}
use Rattle.std.proofs.lemmas.Int.{to_z-of_z}
use Rattle.flash_c.proofs.devices.end.Goals as goal

pub returns : goal.returns
returns g c = record {
  reply = c.unmount-device.result.1;
  unmounted = c.unmount-device.ensures.ends;
  number_is = to_z-of_z w32 c.done_number-number.result (search (c.done_number-number.type_inv)) ∙ c.done_number-number.ensures;
}
