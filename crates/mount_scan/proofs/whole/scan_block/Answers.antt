use Rattle.std.proofs.Common.{sym, subst, length}
use Rattle.nand_model.specs.Calls.{Device}
use Rattle.flash_tree.specs.Places.{numbers_of}
use Rattle.mount_scan.specs.Runs.{AddsCounted}
use Rattle.mount_scan.specs.Blocks.{AreRaisedBy}
use Rattle.mount_scan.proofs.Tagged.{reports_bad, reports_block}
use Rattle.mount_scan.proofs.Latest.{one_block, no_block}
use Rattle.mount_scan.proofs.Raised.{greatest_bad, greatest_block, raises_block}
use Rattle.mount_scan.proofs.whole.scan_block.Goals as goal

pub returns-then-is_bad-clause-valid_pages : goal.returns-then-is_bad-clause-valid_pages
returns-then-is_bad-clause-valid_pages g c =
    reports_bad (g.N.Nand.state c.args.device.now) c.args.block _ (sym c.if-is_bad.ensures)

pub returns-then-is_bad-clause-numbers : goal.returns-then-is_bad-clause-numbers
returns-then-is_bad-clause-numbers g c = λ honest is.
    greatest_bad _ c.args.block (numbers_of c.args.seen.now.numbers) (sym c.if-is_bad.ensures) is

pub returns-clause-valid_pages : goal.returns-clause-valid_pages
returns-clause-valid_pages g c =
    reports_block (g.N.Nand.state c.args.device.now) c.args.block _ (g.met.N.Nand.within c.args.device.now) c.in_ok-read_tags.ensures.len c.in_ok-read_tags.ensures.tags _ _
    (sym c.if-is_bad.ensures)
    (subst (λ xs. AddsCounted c.args.block xs (length xs) c.args.seen.now.valid_pages.items c.add_counted.new.valid_pages.items) c.deref-2.ensures.value c.in_ok-add_counted.ensures)

pub returns-clause-numbers : goal.returns-clause-numbers
returns-clause-numbers g c = λ honest is.
    let old : Device = g.N.Nand.state c.args.device.now in
    greatest_block old.flash c.args.block old.geometry.pages old.geometry.blocks _ (numbers_of c.args.seen.now.numbers) (numbers_of c.raised_by-seen.result) (g.met.N.Nand.within c.args.device.now)
    c.in_ok-read_tags.ensures.len (c.in_ok-read_tags.ensures.tags honest) (sym c.if-is_bad.ensures)
    (subst (λ xs. AreRaisedBy xs (length xs) (numbers_of c.args.seen.now.numbers) (numbers_of c.raised_by-seen.result)) c.deref.ensures.value c.raised_by-seen.ensures) is

pub returns-then-is_bad-clause-alone : goal.returns-then-is_bad-clause-alone
returns-then-is_bad-clause-alone g c = λ empty. no_block (g.N.Nand.state c.args.device.now) c.args.block _ (sym c.if-is_bad.ensures) empty

pub returns-clause-alone : goal.returns-clause-alone
returns-clause-alone g c = λ empty.
    one_block (g.N.Nand.state c.args.device.now) c.args.block _ (g.met.N.Nand.within c.args.device.now) c.in_ok-read_tags.ensures.len c.in_ok-read_tags.ensures.tags _ _
    (sym c.if-is_bad.ensures)
    (subst (λ xs. AddsCounted c.args.block xs (length xs) c.args.seen.now.valid_pages.items c.add_counted.new.valid_pages.items) c.deref-2.ensures.value c.in_ok-add_counted.ensures) empty

pub returns-clause-raised : goal.returns-clause-raised
returns-clause-raised g c = λ honest.
    let old : Device = g.N.Nand.state c.args.device.now in
    raises_block old.flash c.args.block old.geometry.pages old.geometry.blocks _ (numbers_of c.args.seen.now.numbers) (numbers_of c.raised_by-seen.result) (g.met.N.Nand.within c.args.device.now)
    c.in_ok-read_tags.ensures.len (c.in_ok-read_tags.ensures.tags honest) (sym c.if-is_bad.ensures)
    (subst (λ xs. AreRaisedBy xs (length xs) (numbers_of c.args.seen.now.numbers) (numbers_of c.raised_by-seen.result)) c.deref.ensures.value c.raised_by-seen.ensures)
