use Rattle.nand_model.specs.Flash.{Flash}
use Rattle.mount_scan.specs.NewestMap.{HasEachNewest}
use Rattle.chip_map.specs.Valid.{AreNoted, AreValid, Notes}
use Rattle.chip_map.proofs.marking.note_valid.Given as goal

abbrev pub invariant-loop-i : goal.invariant-loop-i
invariant-loop-i l = (flash : Flash) → AreValid flash l.valid → HasEachNewest flash l.newest → AreNoted flash l.block_pages l.initial.pages → Notes flash l.block_pages l.valid l.i l.pages
