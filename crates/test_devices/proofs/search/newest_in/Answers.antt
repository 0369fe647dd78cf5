use Rattle.std.proofs.Common.{◌≡◌, sym, ap, subst, arith}
use Rattle.nand_model.specs.Calls.{Device}
use Rattle.nand_model.specs.declared.geometry.Geometry.{Geometry}
use Rattle.test_devices.specs.Searching.{IsBest}
use Rattle.test_devices.proofs.Best.{best_past_bad, best_past_block}
use Rattle.test_devices.proofs.search.newest_in.Goals as goal

pub returns-then-is_bad-clause-best : goal.returns-then-is_bad-clause-best
returns-then-is_bad-clause-best g c = λ honest is.
    best_past_bad _ _ _ c.args.block c.args.best (sym c.if-is_bad.ensures) is

pub returns-clause-best : goal.returns-clause-best
returns-clause-best g c = λ honest is.
    let old : Device = g.N.Nand.state c.args.device.now in
    let end : c.loop-page.page ≡ old.geometry.pages = omega (arith, c.pages-page-end.ensures, ap (λ (x : Geometry). x.pages) c.geometry.ensures) in
    best_past_block _ _ _ old.geometry.pages old.geometry.blocks c.args.block c.loop-page.best (g.met.N.Nand.within c.args.device.now)
    (subst (λ p. IsBest old.flash c.args.key.object c.args.key.chunk c.args.block p c.loop-page.best) end (c.loop-page.invariant.best honest is))
