use Rattle.std.proofs.Common.{refl, subst}
use Rattle.mount_scan.specs.FoundSummary.{summary_of}
use Rattle.mount_scan.specs.Copies.{pages_named}
use Rattle.mount_scan.specs.Keys.{ThinsFound}
use Rattle.mount_scan.specs.Listed.{listed}
use Rattle.mount_scan.proofs.NamedPages.{summary_added}
use Rattle.mount_scan.proofs.summary_pages.SummaryPages.add.Goals as goal

pub returns-clause-summarized : goal.returns-clause-summarized
returns-clause-summarized c d noted may were =
    summary_added d c.args.pages.now (summary_of c.args.summary.now) c.args.self.now _ noted may (c.has_seq.ensures.0 c.if-not-has_seq.false)
    (subst (λ xs. ThinsFound (pages_named c.args.summary.now.head.seq xs) (listed c.args.self.now.newest) (listed c.add_named.new.self)) c.deref.ensures.value c.in_ok-add_named.ensures) refl were
