use Rattle.std.proofs.Common.{◌≡◌, ap, subst, arith}
use Rattle.nand_model.specs.Calls.{Device}
use Rattle.nand_model.specs.declared.geometry.Geometry.{Geometry}
use Rattle.flash_tree.specs.Places.{numbers_of}
use Rattle.test_devices.specs.Searching.{AreGreatestBefore}
use Rattle.test_devices.proofs.Raising.{greatest_at_end}
use Rattle.test_devices.proofs.search.greatest.Goals as goal

pub returns-clause-greatest : goal.returns-clause-greatest
returns-clause-greatest g c = λ honest.
    let old : Device = g.N.Nand.state c.args.device.now in
    let end : c.loop-block.block ≡ old.geometry.blocks = omega (arith, c.blocks-block-end.ensures, ap (λ (x : Geometry). x.blocks) c.geometry.ensures) in
    greatest_at_end _ old.geometry.pages old.geometry.blocks (numbers_of c.loop-block.numbers) (g.met.N.Nand.within c.args.device.now)
    (subst (λ b. AreGreatestBefore old.flash b 0 (numbers_of c.loop-block.numbers)) end (c.loop-block.invariant.greatest honest))
