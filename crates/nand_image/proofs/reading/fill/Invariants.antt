use Rattle.std.proofs.Common.{◌≤◌, length, take}
use Rattle.std.specs.Io.KnownBytes.{Consumes}
use Rattle.nand_image.proofs.reading.fill.Given as goal

-- what was read stands in front
abbrev pub invariant-loop-turn : goal.invariant-loop-turn
invariant-loop-turn g l = record {
  within : l.at ≤ length l.buffer;
  read : Consumes (g.F.Read.remaining l.initial.file) (g.F.Read.remaining l.file) (take l.at l.buffer);
}
