use Rattle.std.proofs.Common.{◌≡◌, length}
use Rattle.transactions.specs.Written.{Progress, group_at}
use Rattle.transactions.proofs.page.write_first.Given as goal

abbrev pub invariant-loop-i : goal.invariant-loop-i
invariant-loop-i g l = Progress (g.N.Nand.state l.fn.device) (g.N.Nand.state l.device) (group_at l.place)
    (g.S.PageSource.name l.source l.place.group) (g.S.PageSource.bytes l.source (g.N.Nand.state l.fn.device).flash) l.i
    × (length l.scratch ≡ length l.fn.scratch)
    × (g.S.PageSource.quiet l.source → (g.N.Nand.state l.device).reads ≡ (g.N.Nand.state l.fn.device).reads)
