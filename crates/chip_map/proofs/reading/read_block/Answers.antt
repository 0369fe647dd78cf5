use Rattle.std.proofs.Common.{◌<◌, [], ◌∷◌, length, ap, arith}
use Rattle.std.proofs.lemmas.List.{length-append}
use Rattle.nand_model.specs.Calls.{Device}
use Rattle.nand_model.specs.declared.geometry.Geometry.{Geometry}
use Rattle.chip_map.specs.Valid.{IsNoted}
use Rattle.chip_map.proofs.Adding.{power_on, noted_pushed, page_back}
use Rattle.chip_map.proofs.reading.read_block.Goals as goal

pub loop-page-preserved : goal.loop-page-preserved
loop-page-preserved g c =
    let old : Device = g.N.Nand.state c.args.device.now in
    let only = c.loop-page.invariant.read.only in
    let pages : c.loop-page.page < old.geometry.pages = omega (arith, c.loop-page-test.true, c.pages-page-end.ensures, ap (λ (x : Geometry). x.pages) c.geometry.ensures) in
    record {
      read = power_on _ _ _ c.loop-page.invariant.read c.in_ok-read.ensures.reads c.in_ok-read.ensures.powered;
      len = omega (arith, c.loop-page.invariant.len, ap length c.in_ok-push.ensures.items, length-append c.loop-page.pages.items (c.in_ok-read.read ∷ []));
      noted = λ honest before.
          let is : IsNoted old.flash c.args.block c.loop-page.page c.in_ok-read.read =
          page_back old (g.N.Nand.state c.loop-page.device) c.args.block c.loop-page.page c.in_ok-read.read only honest c.in_ok-read.ensures.noted in
          noted_pushed old.flash old.geometry.pages c.args.block c.loop-page.page c.loop-page.pages.items c.push.new.self.items c.in_ok-read.read c.in_ok-push.ensures.items pages c.loop-page.invariant.len is
          (c.loop-page.invariant.noted honest before);
    }
