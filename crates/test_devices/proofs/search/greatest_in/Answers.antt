use Rattle.std.proofs.Common.{◌≡◌, sym, ap, subst, arith}
use Rattle.nand_model.specs.Calls.{Device}
use Rattle.nand_model.specs.declared.geometry.Geometry.{Geometry}
use Rattle.flash_tree.specs.Places.{numbers_of}
use Rattle.test_devices.specs.Searching.{AreGreatestBefore}
use Rattle.test_devices.proofs.Raising.{greatest_past_bad, greatest_past_block}
use Rattle.test_devices.proofs.search.greatest_in.Goals as goal

pub returns-then-is_bad-clause-greatest : goal.returns-then-is_bad-clause-greatest
returns-then-is_bad-clause-greatest g c = λ honest is.
    greatest_past_bad _ c.args.block (numbers_of c.args.numbers) (sym c.if-is_bad.ensures) is

pub returns-clause-greatest : goal.returns-clause-greatest
returns-clause-greatest g c = λ honest is.
    let old : Device = g.N.Nand.state c.args.device.now in
    let end : c.loop-page.page ≡ old.geometry.pages = omega (arith, c.pages-page-end.ensures, ap (λ (x : Geometry). x.pages) c.geometry.ensures) in
    greatest_past_block _ old.geometry.pages old.geometry.blocks c.args.block (numbers_of c.loop-page.numbers) (g.met.N.Nand.within c.args.device.now)
    (subst (λ p. AreGreatestBefore old.flash c.args.block p (numbers_of c.loop-page.numbers)) end (c.loop-page.invariant.greatest honest is))
