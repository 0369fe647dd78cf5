use Rattle.std.proofs.Common.{sym}
use Rattle.chunk_index.specs.laws.Maps.{below_copied}
use Rattle.log_tests.proofs.worked_index.Store.copy.Goals as goal

pub invariant_of-self : goal.invariant_of-self
invariant_of-self c =
    let self = c.args.self.now in
    record {
      agree = c.copied.ensures.agree;
      within_limit = below_copied 8 c.args.key.object c.args.key.chunk c.args.place _ self.index c.copied.new.self (c.copied.ensures.copies _ (sym c.in-Some.ensures)) self.within_limit;
      eight = rw c.copied.ensures.counts.geometry self.eight;
      pages = rw c.copied.ensures.counts.geometry self.pages;
    }
