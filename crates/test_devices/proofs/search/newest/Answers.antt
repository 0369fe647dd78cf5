use Rattle.std.proofs.Common.{◌≡◌, ap, subst, arith}
use Rattle.nand_model.specs.Calls.{Device}
use Rattle.nand_model.specs.declared.geometry.Geometry.{Geometry}
use Rattle.test_devices.specs.Searching.{IsBest}
use Rattle.test_devices.proofs.Best.{newest_at_end, none_at_end}
use Rattle.test_devices.proofs.search.newest.Goals as goal

pub returns-clause-found : goal.returns-clause-found
returns-clause-found g c = λ honest.
    let old : Device = g.N.Nand.state c.args.device.now in
    let end : c.loop-block.block ≡ old.geometry.blocks = omega (arith, c.blocks-block-end.ensures, ap (λ (x : Geometry). x.blocks) c.geometry.ensures) in
    newest_at_end _ _ _ old.geometry.pages old.geometry.blocks c.loop-block.best (g.met.N.Nand.within c.args.device.now)
    (subst (λ b. IsBest old.flash c.args.key.object c.args.key.chunk b 0 c.loop-block.best) end (c.loop-block.invariant.best honest))

pub returns-clause-none : goal.returns-clause-none
returns-clause-none g c = λ honest.
    let old : Device = g.N.Nand.state c.args.device.now in
    let end : c.loop-block.block ≡ old.geometry.blocks = omega (arith, c.blocks-block-end.ensures, ap (λ (x : Geometry). x.blocks) c.geometry.ensures) in
    none_at_end _ _ _ old.geometry.pages old.geometry.blocks c.loop-block.best (g.met.N.Nand.within c.args.device.now)
    (subst (λ b. IsBest old.flash c.args.key.object c.args.key.chunk b 0 c.loop-block.best) end (c.loop-block.invariant.best honest))
