use Rattle.std.proofs.Common.{◌*◌, length, replicate}
use Rattle.std.specs.Io.KnownBytes.{Appends}
use Rattle.nand_image.proofs.creation.write_slots.Given as goal

-- so many pages are written
abbrev pub invariant-loop-place : goal.invariant-loop-place
invariant-loop-place g l = Appends (g.F.Write.contents l.initial.file) (g.F.Write.contents l.file) (replicate (l._place * length l.slot) 0)
