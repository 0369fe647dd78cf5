use Rattle.std.proofs.Common.{◌∙◌, sym}
use Rattle.page_store.specs.Newest.{seen_pages}
use Rattle.page_store.specs.laws.Reading.{fault_seen, not_absent}
use Rattle.page_store.proofs.newest_pages.NewestPagesPages.find.Goals as goal

pub returns-in-Some-clause-fault : goal.returns-in-Some-clause-fault
returns-in-Some-clause-fault g c =
    let self = c.args.self.now in
    let new = c.read.new.self in
    fault_seen (seen_pages (g.N.Nand.state self.device) self.index self.page.items) (g.N.Nand.state self.device) (g.N.Nand.state new.device) self.index new.index new.page.items c.args.key.object c.args.key.chunk c.in-Some.at c.read.result
    c.read.ensures.reads (sym c.committed.ensures ∙ c.in-Some.is) self.written c.read.ensures.fault

pub returns-in-Some-clause-absent : goal.returns-in-Some-clause-absent
returns-in-Some-clause-absent g c = λ sound none.
    let self = c.args.self.now in
    absurd (not_absent (g.N.Nand.state self.device) self.index c.args.key.object c.args.key.chunk c.in-Some.at (sym c.committed.ensures ∙ c.in-Some.is) self.written sound none)
