use Rattle.std.proofs.Common.{rules}
use Rattle.mount_scan.proofs.NamedPages.{summarized_none}
use Rattle.mount_scan.proofs.summary_pages.SummaryPages.new.Goals as goal

pub returns-clause-summarized : goal.returns-clause-summarized
returns-clause-summarized c d same =
    summarized_none d c.args.blocks (record { done = c.in_ok-done.done; newest = c.in_ok-newest.newest }) same (c.in_ok-done.ensures.items_if_clones_equal (λ y is. search rules)) c.in_ok-newest.ensures
