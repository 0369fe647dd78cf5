use Rattle.std.proofs.Common.{arith, subst}
use Rattle.chunk_index.specs.Maps.{committed_pages}
use Rattle.flash_log.specs.Noted.{LiesBehind}
use Rattle.flash_log.proofs.NotedPages.{rising_more}
use Rattle.flash_log.proofs.noted.keep_entry.Goals as goal

pub returns-then-lies_behind-clause-rising : goal.returns-then-lies_behind-clause-rising
returns-then-lies_behind-clause-rising c are =
    rising_more c.args.block (committed_pages c.args.index.now) c.args.entries.now.items c.args.committed c.index.result.now (omega (arith, c.requires.at, c.requires.committed)) (c.is_committed.ensures.0 c.if-is_committed.true)
    (subst (λ xs. LiesBehind xs c.args.committed c.index.result.now.page) c.deref.ensures.value (c.lies_behind.ensures.0 c.if-lies_behind.true)) are
