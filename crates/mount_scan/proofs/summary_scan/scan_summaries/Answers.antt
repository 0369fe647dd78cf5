use Rattle.std.proofs.Common.{sym, subst, arith}
use Rattle.nand_model.specs.Calls.{Device}
use Rattle.nand_model.specs.laws.Changes.{only_reads_here}
use Rattle.flash_tree.specs.Places.{numbers_of}
use Rattle.mount_scan.specs.FewReads.{summary_size}
use Rattle.mount_scan.specs.FirstPages.{AreAllNoted, AreGoodFirsts}
use Rattle.mount_scan.specs.Listed.{listed}
use Rattle.mount_scan.specs.SummaryScan.{IsScannedAll}
use Rattle.mount_scan.proofs.FewPages.{all_done, sum_at_most}
use Rattle.mount_scan.proofs.OneSummary.{size_fits}
use Rattle.mount_scan.proofs.SummaryFinds.{finds_needed, greatest_summarized}
use Rattle.mount_scan.proofs.summary_scan.scan_summaries.Goals as goal

pub read_summaries-requires-clause-good : goal.read_summaries-requires-clause-good
read_summaries-requires-clause-good g c = subst (AreGoodFirsts (g.N.Nand.state c.args.device.now)) (sym c.deref.ensures.value) c.requires.noted.good

pub returns-clause-newest : goal.returns-clause-newest
returns-clause-newest g c =
    let d : Device = g.N.Nand.state c.args.device.now in
    let noted : AreAllNoted d c.deref.result.now = subst (AreAllNoted d) (sym c.deref.ensures.value) c.requires.noted in
    let scanned : IsScannedAll d c.in_ok-scan.scan = c.in_ok-scan.ensures.scanned d c.in_ok-summarized.ensures.reads.only c.requires (c.in_ok-summarized.ensures.summarized d (record { only = only_reads_here d; noted = noted })) in
    finds_needed d (listed c.in_ok-scan.scan.newest) (listed c.keep_newest.new.self) (numbers_of c.in_ok-scan.scan.numbers) (g.met.N.Nand.within c.args.device.now) scanned c.keep_newest.ensures

pub returns-clause-numbers : goal.returns-clause-numbers
returns-clause-numbers g c summarized =
    let d : Device = g.N.Nand.state c.args.device.now in
    let noted : AreAllNoted d c.deref.result.now = subst (AreAllNoted d) (sym c.deref.ensures.value) c.requires.noted in
    let scanned : IsScannedAll d c.in_ok-scan.scan = c.in_ok-scan.ensures.scanned d c.in_ok-summarized.ensures.reads.only c.requires (c.in_ok-summarized.ensures.summarized d (record { only = only_reads_here d; noted = noted })) in
    greatest_summarized d summarized (g.met.N.Nand.within c.args.device.now) (listed c.in_ok-scan.scan.newest) (numbers_of c.in_ok-scan.scan.numbers) scanned

pub returns-clause-least : goal.returns-clause-least
returns-clause-least g c honest =
    let d : Device = g.N.Nand.state c.args.device.now in
    let noted : AreAllNoted d c.deref.result.now = subst (AreAllNoted d) (sym c.deref.ensures.value) c.requires.noted in
    let scanned : IsScannedAll d c.in_ok-scan.scan = c.in_ok-scan.ensures.scanned d c.in_ok-summarized.ensures.reads.only c.requires (c.in_ok-summarized.ensures.summarized d (record { only = only_reads_here d; noted = noted })) in
    scanned.least honest

pub returns-in_err-summarized-clause-reads_bounded : goal.returns-in_err-summarized-clause-reads_bounded
returns-in_err-summarized-clause-reads_bounded g c honest sizes costs fits are =
    let d : Device = g.N.Nand.state c.args.device.now in
    let noted : AreAllNoted d c.deref.result.now = subst (AreAllNoted d) (sym c.deref.ensures.value) c.requires.noted in
    let sizes_fit = sum_at_most (summary_size c.deref.result.now) sizes d.geometry.blocks (size_fits d.flash c.deref.result.now sizes (noted.noted honest) fits) in
    omega (arith, c.in_err-summarized.ensures.reads_bounded, sizes_fit)

pub returns-in_err-scan-clause-reads_bounded : goal.returns-in_err-scan-clause-reads_bounded
returns-in_err-scan-clause-reads_bounded g c honest sizes costs fits are =
    let d : Device = g.N.Nand.state c.args.device.now in
    let noted : AreAllNoted d c.deref.result.now = subst (AreAllNoted d) (sym c.deref.ensures.value) c.requires.noted in
    let sizes_fit = sum_at_most (summary_size c.deref.result.now) sizes d.geometry.blocks (size_fits d.flash c.deref.result.now sizes (noted.noted honest) fits) in
    let all = all_done d c.in_ok-summarized.summarized honest (g.met.N.Nand.within c.args.device.now) (c.in_ok-summarized.ensures.done d (record { only = only_reads_here d; noted = noted })) in
    let last = c.in_err-scan.ensures.reads_bounded d (record { only = c.in_ok-summarized.ensures.reads.only; firsts_are = c.requires; done = all }) honest costs are in
    omega (arith, c.in_ok-summarized.ensures.reads_bounded, sizes_fit, last)

pub returns-clause-reads_bounded : goal.returns-clause-reads_bounded
returns-clause-reads_bounded g c honest sizes costs fits are =
    let d : Device = g.N.Nand.state c.args.device.now in
    let noted : AreAllNoted d c.deref.result.now = subst (AreAllNoted d) (sym c.deref.ensures.value) c.requires.noted in
    let sizes_fit = sum_at_most (summary_size c.deref.result.now) sizes d.geometry.blocks (size_fits d.flash c.deref.result.now sizes (noted.noted honest) fits) in
    let all = all_done d c.in_ok-summarized.summarized honest (g.met.N.Nand.within c.args.device.now) (c.in_ok-summarized.ensures.done d (record { only = only_reads_here d; noted = noted })) in
    let last = c.in_ok-scan.ensures.reads_bounded d (record { only = c.in_ok-summarized.ensures.reads.only; firsts_are = c.requires; done = all }) honest costs are in
    omega (arith, c.in_ok-summarized.ensures.reads_bounded, sizes_fit, last)
