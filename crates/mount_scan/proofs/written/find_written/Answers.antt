use Rattle.std.proofs.Common.{length, subst}
use Rattle.flash_tree.specs.Places.{numbers_of}
use Rattle.mount_scan.specs.Blocks.{AreRaisedBy}
use Rattle.mount_scan.specs.Keys.{ThinsFound}
use Rattle.mount_scan.specs.Listed.{listed}
use Rattle.mount_scan.specs.Runs.{AddsCounted}
use Rattle.mount_scan.proofs.WrittenTags.{adds_written, raises_written}
use Rattle.mount_scan.proofs.written.find_written.Goals as goal

pub returns-clause-adds : goal.returns-clause-adds
returns-clause-adds g c =
    adds_written (g.N.Nand.state c.args.device.now) c.args.block _ _ _ (listed c.args.found.now) (listed c.add_all.new.self) (g.met.N.Nand.within c.args.device.now) c.in_ok-read_written_tags.ensures.len
    c.in_ok-read_written_tags.ensures.tags c.clear.ensures.items
    (subst (λ xs. AddsCounted c.args.block xs (length xs) c.clear.new.self.items c.add_counted.new.valid_pages.items) c.deref-2.ensures.value c.in_ok-add_counted.ensures)
    (subst (λ xs. ThinsFound xs (listed c.args.found.now) (listed c.add_all.new.self)) c.deref-3.ensures.value c.in_ok-add_all.ensures)

pub returns-clause-raised : goal.returns-clause-raised
returns-clause-raised g c honest =
    raises_written (g.N.Nand.state c.args.device.now).flash c.args.block (g.N.Nand.state c.args.device.now).geometry.pages _ (numbers_of c.args.seen.now.numbers) (numbers_of c.raised_by-seen.result)
    c.in_ok-read_written_tags.ensures.len (c.in_ok-read_written_tags.ensures.tags honest)
    (subst (λ xs. AreRaisedBy xs (length xs) (numbers_of c.args.seen.now.numbers) (numbers_of c.raised_by-seen.result)) c.deref.ensures.value c.raised_by-seen.ensures)
