use Rattle.std.proofs.Common.{◌∙◌, w32}
use Rattle.std.proofs.lemmas.Int.{to_z-of_z}
use Rattle.flash_c.proofs.devices.mount_device.Goals as goal

pub returns-in-Err-clause-fault : goal.returns-in-Err-clause-fault
returns-in-Err-clause-fault g c = record {
  fault = c.in-Err.fault;
  number_is = to_z-of_z w32 c.mount_number.result (search (c.mount_number.type_inv)) ∙ c.mount_number.ensures.number;
  reads = c.in-Err.ensures.back;
  why = c.in-Err.ensures.fault;
}
