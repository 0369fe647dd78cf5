use Rattle.std.proofs.Common.{◌<◌, ◌+◌, ap, subst, arith}
use Rattle.nand_model.specs.Calls.{Device}
use Rattle.nand_model.specs.declared.geometry.Geometry.{Geometry}
use Rattle.flash_tree.specs.declared.place.FreshPage.{FreshPage}
use Rattle.formatting.specs.Formatting.{single_tag, Takes}
use Rattle.formatting.proofs.Writing.{writes_first}
use Rattle.formatting.proofs.root.write_first.Goals as goal

pub returns-in-Written-clause-written : goal.returns-in-Written-clause-written
returns-in-Written-clause-written g c = λ is.
    let old : Device = g.N.Nand.state c.args.device.now in
    let mid : Device = g.N.Nand.state c.loop-block.device in
    let new : Device = g.N.Nand.state c.write_at.new.device in
    let page : FreshPage = c.args.page.now in
    let loop = c.loop-block.invariant in
    let takes = subst (Takes mid new c.loop-block.block page.bytes.items (single_tag page.key (c.loop-block.failed + 1))) c.in-Written.is c.in_ok-write_at.ensures.takes in
    let inside : c.loop-block.block < old.geometry.blocks = omega (arith, c.blocks-block-end.ensures, ap (λ (x : Geometry). x.blocks) c.geometry.ensures) in
    writes_first old mid new c.loop-block.block c.loop-block.failed page loop.keeps c.write_at.ensures.keeps loop.failed loop.within_limit inside loop.bad loop.can_write c.write_at.ensures.others takes
    (g.met.N.Nand.clean c.write_at.new.device) (g.met.N.Nand.within c.write_at.new.device)
