use Rattle.nand_model.specs.MemoryState.{device}
use Rattle.nand_image.proofs.Cuts.{erase_cut}
use Rattle.nand_image.proofs.device.ImageNandNand.erase.Goals as goal

pub returns-then-is_err-clause-erases : goal.returns-then-is_err-clause-erases
returns-then-is_err-clause-erases g c = erase_cut c.args.block (device c.args.self.now.memory) (device c.cut_change.new.self) c.cut_change.ensures.cuts
