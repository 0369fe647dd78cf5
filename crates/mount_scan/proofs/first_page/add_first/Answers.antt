use Rattle.mount_scan.proofs.NotedFirsts.{firsts_more, best_more}
use Rattle.mount_scan.proofs.first_page.add_first.Goals as goal

pub returns-clause-below : goal.returns-clause-below
returns-clause-below g c d only were =
    best_more d (g.N.Nand.state c.args.device.now) c.args.block c.args.reads.now
    (record { firsts = record { pages = c.push.new.self; numbers = c.raised-reads.result; renewed = c.renewed-reads.result }; best = c.best_with-reads.result }) c.in_ok-read.read _ only c.requires
    c.in_ok-read.ensures.valid c.in_ok-read.ensures.read c.tag.ensures c.best_with-reads.ensures.candidate c.best_with-reads.ensures.greatest
    (firsts_more d (g.N.Nand.state c.args.device.now) c.args.block c.args.reads.now.firsts (record { pages = c.push.new.self; numbers = c.raised-reads.result; renewed = c.renewed-reads.result }) c.in_ok-read.read c.page.result only
    c.in_ok-push.ensures.items c.in_ok-read.ensures.valid c.in_ok-read.ensures.read c.page.ensures.noted c.page.ensures.good c.raised-reads.ensures c.renewed-reads.ensures) were
