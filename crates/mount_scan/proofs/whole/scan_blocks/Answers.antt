use Rattle.std.proofs.Common.{◌≡◌, ◌<◌, ◌+◌, ◌∙◌, sym, ap, subst, arith}
use Rattle.std.proofs.lemmas.Result.{err_from_is_err_and}
use Rattle.nand_model.specs.Calls.{Device}
use Rattle.nand_model.specs.declared.geometry.Geometry.{Geometry}
use Rattle.flash_tree.specs.Places.{numbers_of}
use Rattle.flash_tree.specs.laws.Place.{same_flash}
use Rattle.mount_scan.specs.Blocks.{ReportsBelow, AreGreatestBelow}
use Rattle.mount_scan.proofs.Tagged.{reports_on, reports_back, reports_all}
use Rattle.mount_scan.proofs.Reading.{block_read, block_ends}
use Rattle.mount_scan.proofs.Raised.{greatest_all}
use Rattle.mount_scan.proofs.whole.scan_blocks.Goals as goal

pub returns-in_err-scan_block-clause-reads : goal.returns-in_err-scan_block-clause-reads
returns-in_err-scan_block-clause-reads g c =
    let p = err_from_is_err_and c.from_residual.result c.from_residual.ensures.1 in
    let within : c.loop-block.block < (g.N.Nand.state c.args.device.now).geometry.blocks = omega (arith, c.loop-block-test.true, c.blocks-block-end.ensures, ap (λ (x : Geometry). x.blocks) c.geometry.ensures) in
    rw (p.1, p.2) (block_ends _ _ _ _ _ c.loop-block.block _ _ within c.loop-block.invariant.read c.in_err-scan_block.ensures.reads)

pub loop-block-preserved : goal.loop-block-preserved
loop-block-preserved g c =
    let only = c.loop-block.invariant.read.only in
    record {
      read = block_read _ _ _ c.loop-block.block tt c.loop-block.invariant.read c.in_ok-scan_block.ensures.reads;
      valid_pages = reports_back _ _ _ _ only (c.in_ok-scan_block.ensures.valid_pages (reports_on _ _ _ _ only c.loop-block.invariant.valid_pages));
      numbers = λ honest.
          let same = same_flash _ _ only honest in
          subst (λ f. AreGreatestBelow f (c.loop-block.block + 1) (numbers_of c.scan_block.new.seen.numbers)) same (c.in_ok-scan_block.ensures.numbers (only.lasts.honest ∙ honest)
          (subst (λ f. AreGreatestBelow f c.loop-block.block (numbers_of c.loop-block.seen.numbers)) (sym same) (c.loop-block.invariant.numbers honest)));
    }

pub returns-clause-valid_pages : goal.returns-clause-valid_pages
returns-clause-valid_pages g c =
    let old : Device = g.N.Nand.state c.args.device.now in
    let end : c.loop-block.block ≡ old.geometry.blocks = omega (arith, c.blocks-block-end.ensures, ap (λ (x : Geometry). x.blocks) c.geometry.ensures) in
    reports_all old _ (g.met.N.Nand.within c.args.device.now) (subst (λ b. ReportsBelow old b c.loop-block.seen.valid_pages.items) end c.loop-block.invariant.valid_pages)

pub returns-clause-numbers : goal.returns-clause-numbers
returns-clause-numbers g c = λ honest.
    let old : Device = g.N.Nand.state c.args.device.now in
    let end : c.loop-block.block ≡ old.geometry.blocks = omega (arith, c.blocks-block-end.ensures, ap (λ (x : Geometry). x.blocks) c.geometry.ensures) in
    greatest_all old.flash old.geometry.pages old.geometry.blocks (numbers_of c.loop-block.seen.numbers) (g.met.N.Nand.within c.args.device.now)
    (subst (λ b. AreGreatestBelow old.flash b (numbers_of c.loop-block.seen.numbers)) end (c.loop-block.invariant.numbers honest))
