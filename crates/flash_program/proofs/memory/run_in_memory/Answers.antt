use Rattle.std.proofs.Common.{inr}
use Rattle.nand_model.specs.MemoryState.{device}
use Rattle.flash_program.proofs.memory.run_in_memory.Goals as goal

pub returns : goal.returns
returns g c = inr (device c.in_ok-device.device, _, c.in_ok-device.ensures.fresh, c.answer_lines-ended.ensures)
