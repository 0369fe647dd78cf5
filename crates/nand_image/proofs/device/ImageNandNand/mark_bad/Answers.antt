use Rattle.nand_model.specs.MemoryState.{device}
use Rattle.nand_image.proofs.Cuts.{mark_cut}
use Rattle.nand_image.proofs.device.ImageNandNand.mark_bad.Goals as goal

pub returns-then-is_err-clause-marks : goal.returns-then-is_err-clause-marks
returns-then-is_err-clause-marks g c = mark_cut c.args.block (device c.args.self.now.memory) (device c.cut_mark.new.self) _ c.cut_mark.ensures.cuts
