use Rattle.std.proofs.Common.{◌≡◌, false}
use Rattle.port_nand.specs.Driving.{IsCommittedKey}
use Rattle.port_nand.specs.Opening.{IssuesMarks}
use Rattle.port_nand.proofs.driver.Driver.read_marks.Given as goal

-- the marks of the blocks before this one are looked up
abbrev pub invariant-loop-block : goal.invariant-loop-block
invariant-loop-block g l = record {
  committed : IsCommittedKey g.P.Port.calls l.self;
  geometry : l.self.geometry ≡ l.fn.self.geometry;
  power : l.self.gone ≡ false;
  asks : IssuesMarks (g.P.Port.calls l.fn.self.port) l.block (g.P.Port.calls l.self.port);
}
