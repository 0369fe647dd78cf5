use Rattle.std.proofs.Common.{◌≡◌, ◌∙◌, ◌≤◌, ◌+◌, ◌-◌, sym, ℕ, true, arith}
use Rattle.nand_model.specs.Calls.{Device}
use Rattle.transactions.specs.Written.{group_at}
use Rattle.transactions.proofs.ProgressLaws.{progress_ends, progress_grows}
use Rattle.transactions.proofs.page.write_pages.Goals as goal

pub write_last-requires-clause-has : goal.write_last-requires-clause-has
write_last-requires-clause-has g c = λ honest.
    let so_far = c.in_ok-write_first.ensures.writes in
    let was : (g.N.Nand.state c.args.device.now).honest ≡ true = sym so_far.lasts.honest ∙ honest in
    let erased = λ (l : ℕ) (le : c.args.place.now.first ≤ l). g.met.N.Nand.clean c.args.device.now was c.args.place.now.block (c.args.place.now.first + 0) l c.requires.may.next (omega (arith, le)) in
    g.met.S.PageSource.stays c.args.source.now _ _ (c.args.place.now.count - 1) (c.requires.has was _ (omega (arith, c.requires.count, c.requires.not_empty))) (progress_grows _ _ _ _ _ _ so_far was erased)

pub returns : goal.returns
returns g c =
    let so_far = c.in_ok-write_first.ensures.writes in
    let old : Device = g.N.Nand.state c.args.device.now in
    let mid : Device = g.N.Nand.state c.write_first.new.device in
    let erased = λ (was : old.honest ≡ true) (l : ℕ) (le : c.args.place.now.first ≤ l). g.met.N.Nand.clean c.args.device.now was c.args.place.now.block (c.args.place.now.first + 0) l c.requires.may.next (omega (arith, le)) in
    let same = λ (was : old.honest ≡ true). g.met.S.PageSource.same c.args.source.now old.flash mid.flash (c.args.place.now.count - 1) (c.requires.has was _ (omega (arith, c.requires.count, c.requires.not_empty))) (progress_grows _ _ _ _ _ _ so_far was (erased was)) in
    record {
      quiet = λ quiet. omega (arith, c.in_ok-write_first.ensures.quiet quiet, so_far.failures, c.write_last.ensures.quiet quiet);
      writes = progress_ends old mid (g.N.Nand.state c.write_last.new.device) (group_at c.args.place.now) _ _ _ (c.args.place.now.count - 1) so_far same c.write_last.result (omega (arith, c.requires.not_empty)) erased c.write_last.ensures.writes;
    }
