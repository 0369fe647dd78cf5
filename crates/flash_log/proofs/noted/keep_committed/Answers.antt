use Rattle.std.proofs.Common.{length, sym, subst, arith}
use Rattle.std.specs.Prelude.{List}
use Rattle.std.proofs.lemmas.List.{length-take}
use Rattle.page_tags.specs.declared.check.CheckEntry.{CheckEntry}
use Rattle.chunk_index.specs.Maps.{committed_pages}
use Rattle.flash_log.specs.Noted.{AreRising}
use Rattle.flash_log.proofs.NotedPages.{rising_taken}
use Rattle.flash_log.proofs.noted.keep_committed.Goals as goal

pub returns-clause-rising : goal.returns-clause-rising
returns-clause-rising c =
    let items = c.truncate.ensures.items in
    subst (λ (es : List CheckEntry). AreRising c.args.block (committed_pages c.args.index.now) es (length es)) (sym items)
    (rising_taken c.args.block (committed_pages c.args.index.now) c.loop-at.entries.items c.loop-at.committed (omega (arith, length-take c.loop-at.committed c.loop-at.entries.items)) c.loop-at.invariant.rising)
