use Rattle.flash_log.proofs.SummaryRows.{WritesRows}
use Rattle.flash_log.proofs.summary_parts.write_parts.Given as goal

abbrev pub invariant-loop-k : goal.invariant-loop-k
invariant-loop-k l = WritesRows l.head l.entries l.first l.k l.fn.page l.page
