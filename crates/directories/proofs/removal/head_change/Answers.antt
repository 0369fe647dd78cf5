use Rattle.std.proofs.Common.{length, arith}
use Rattle.pages.specs.declared.change.Change.{Change}
use Rattle.directories.proofs.Written.{one_head, one_only, one_pages}
use Rattle.directories.proofs.removal.head_change.Goals as goal

pub returns-clause-change : goal.returns-clause-change
returns-clause-change c =
    let change : Change = record { pages = c.in_ok-pages.pages; cuts = c.new.result } in
    one_only c.args.directory (length c.args.frame.items) c.args.head change c.new.ensures.items c.head_page.result c.head_page.ensures 2 (omega arith) c.in_ok-pages.ensures.items

pub returns-clause-writes : goal.returns-clause-writes
returns-clause-writes c = λ z old size.
    let change : Change = record { pages = c.in_ok-pages.pages; cuts = c.new.result } in
    one_head c.args.directory (length c.args.frame.items) c.head_page.result c.args.head c.head_page.ensures change c.in_ok-pages.ensures.items c.new.ensures.items old z size

pub returns-clause-pages : goal.returns-clause-pages
returns-clause-pages c = λ old k some.
    let change : Change = record { pages = c.in_ok-pages.pages; cuts = c.new.result } in
    one_pages c.args.directory (length c.args.frame.items) c.head_page.result c.args.head c.head_page.ensures change c.in_ok-pages.ensures.items c.new.ensures.items old k some
