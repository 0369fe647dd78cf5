use Rattle.std.proofs.Common.{◌≡◌, ◌∙◌, ◌≤◌, ◌+◌, sym, ℕ, true, arith}
use Rattle.std.proofs.lemmas.Result.{err_from_is_err_and}
use Rattle.nand_model.specs.Calls.{Device}
use Rattle.transactions.specs.Written.{group_at}
use Rattle.transactions.proofs.ProgressLaws.{progress_more, progress_stops, progress_grows}
use Rattle.transactions.proofs.page.write_first.Goals as goal

pub write_page-requires-clause-has : goal.write_page-requires-clause-has
write_page-requires-clause-has g c = λ honest.
    let so_far = c.loop-i.invariant.0 in
    let was : (g.N.Nand.state c.args.device.now).honest ≡ true = sym so_far.lasts.honest ∙ honest in
    let erased = λ (l : ℕ) (le : c.args.place.now.first ≤ l). g.met.N.Nand.clean c.args.device.now was c.args.place.now.block (c.args.place.now.first + 0) l c.requires.may.next (omega (arith, le)) in
    g.met.S.PageSource.stays c.args.source.now _ _ c.loop-i.i (c.requires.has was _ (omega (arith, c.requires.count, c.loop-i-test.true))) (progress_grows _ _ _ _ _ _ so_far was erased)

pub returns-in_err-write_page-clause-writes : goal.returns-in_err-write_page-clause-writes
returns-in_err-write_page-clause-writes g c =
    let so_far = c.loop-i.invariant.0 in
    let old : Device = g.N.Nand.state c.args.device.now in
    let mid : Device = g.N.Nand.state c.loop-i.device in
    let erased = λ (was : old.honest ≡ true) (l : ℕ) (le : c.args.place.now.first ≤ l). g.met.N.Nand.clean c.args.device.now was c.args.place.now.block (c.args.place.now.first + 0) l c.requires.may.next (omega (arith, le)) in
    let same = λ (was : old.honest ≡ true). g.met.S.PageSource.same c.args.source.now old.flash mid.flash c.loop-i.i (c.requires.has was _ (omega (arith, c.requires.count, c.loop-i-test.true))) (progress_grows _ _ _ _ _ _ so_far was (erased was)) in
    let p = err_from_is_err_and c.from_residual.result c.from_residual.ensures.1 in
    rw (p.1, p.2) (progress_stops old mid (g.N.Nand.state c.write_page.new.device) (group_at c.args.place.now) _ _ _ c.loop-i.i so_far same _ (omega (arith, c.loop-i-test.true)) erased c.in_err-write_page.ensures.writes)

pub loop-i-preserved : goal.loop-i-preserved
loop-i-preserved g c =
    let so_far = c.loop-i.invariant.0 in
    let old : Device = g.N.Nand.state c.args.device.now in
    let mid : Device = g.N.Nand.state c.loop-i.device in
    let erased = λ (was : old.honest ≡ true) (l : ℕ) (le : c.args.place.now.first ≤ l). g.met.N.Nand.clean c.args.device.now was c.args.place.now.block (c.args.place.now.first + 0) l c.requires.may.next (omega (arith, le)) in
    let same = λ (was : old.honest ≡ true). g.met.S.PageSource.same c.args.source.now old.flash mid.flash c.loop-i.i (c.requires.has was _ (omega (arith, c.requires.count, c.loop-i-test.true))) (progress_grows _ _ _ _ _ _ so_far was (erased was)) in (
      progress_more old mid (g.N.Nand.state c.write_page.new.device) (group_at c.args.place.now) _ _ _ c.loop-i.i so_far same (omega (arith, c.loop-i-test.true)) c.in_ok-write_page.ensures.writes,
      c.in_ok-write_page.ensures.size ∙ c.loop-i.invariant.1,
      λ quiet. c.in_ok-write_page.ensures.quiet quiet ∙ c.loop-i.invariant.2 quiet,
    )
