use Rattle.nand_image.specs.Writes.{Adds, erase_writes}
use Rattle.nand_image.proofs.writing.write_erase.Given as goal

-- the pages before this one are written
abbrev pub invariant-loop-page : goal.invariant-loop-page
invariant-loop-page g l = Adds (g.F.WriteAt.writes l.initial.file) (g.F.WriteAt.writes l.file) (erase_writes l.geometry l.block l.page)
