use Rattle.mount_scan.proofs.WrittenTags.{HasPassed}
use Rattle.mount_scan.proofs.written.read_written_tags.Given as goal

abbrev pub invariant-loop-page : goal.invariant-loop-page
invariant-loop-page g l = HasPassed (g.N.Nand.state l.fn.device) (g.N.Nand.state l.device) l.block l.page l.end l.tags.items
