use Rattle.nand_model.specs.MemoryState.{device}
use Rattle.nand_image.proofs.Cuts.{program_cut}
use Rattle.nand_image.proofs.device.ImageNandNand.program.Goals as goal

pub returns-then-is_err-clause-programs : goal.returns-then-is_err-clause-programs
returns-then-is_err-clause-programs g c =
    let old = c.args.self.now.memory in
    program_cut c.args.block c.args.page c.args.bytes.now c.args.tag.now (device old) (device c.cut_change.new.self) old.whole.clean c.requires.next c.cut_change.ensures.cuts
