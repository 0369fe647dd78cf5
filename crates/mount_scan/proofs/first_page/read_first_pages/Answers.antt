use Rattle.std.proofs.Common.{◌≡◌, ◌≤◌, ◌+◌, refl, ap, subst, arith}
use Rattle.std.proofs.lemmas.Result.{err_from_is_err_and}
use Rattle.nand_model.specs.Calls.{Device}
use Rattle.nand_model.specs.declared.geometry.Geometry.{Geometry}
use Rattle.mount_scan.specs.FirstPages.{FirstReadsBelow}
use Rattle.mount_scan.proofs.NotedFirsts.{best_none}
use Rattle.mount_scan.proofs.ReadCount.{read_none, read_on, ends_so, ends_well}
use Rattle.mount_scan.proofs.first_page.read_first_pages.Goals as goal

pub loop-block-init : goal.loop-block-init
loop-block-init g c = record {
  read = read_none (g.N.Nand.state c.args.device.now);
  below = best_none (g.N.Nand.state c.args.device.now) _ c.in_ok-with_capacity.ensures.items refl refl refl;
}

pub add_first-requires : goal.add_first-requires
add_first-requires g c =
    omega (arith, c.loop-block-test.true, c.blocks-blocks.ensures, ap (λ (x : Geometry). x.blocks) c.geometry.ensures, ap (λ (x : Geometry). x.blocks) c.loop-block.invariant.read.only.lasts.geometry)

pub returns-in_err-add_first-clause-reads : goal.returns-in_err-add_first-clause-reads
returns-in_err-add_first-clause-reads g c =
    let p = err_from_is_err_and c.from_residual-in_err-add_first.result c.from_residual-in_err-add_first.ensures.1 in
    let within : c.loop-block.block + 1 ≤ (g.N.Nand.state c.args.device.now).geometry.blocks = omega (arith, c.loop-block-test.true, c.blocks-blocks.ensures, ap (λ (x : Geometry). x.blocks) c.geometry.ensures) in
    rw (p.1, p.2) (ends_so _ _ c.loop-block.block 1 _ _ _ _ _ c.loop-block.invariant.read within c.in_err-add_first.ensures.reads)

pub loop-block-preserved : goal.loop-block-preserved
loop-block-preserved g c =
    let only = c.loop-block.invariant.read.only in
    record {
      read = read_on c.loop-block.block 1 (c.loop-block.block + 1) _ _ _ tt c.loop-block.invariant.read c.in_ok-add_first.ensures.reads (omega arith);
      below = c.in_ok-add_first.ensures.below (g.N.Nand.state c.args.device.now) only c.loop-block.invariant.below;
    }

pub returns-clause-reads : goal.returns-clause-reads
returns-clause-reads g c =
    ends_well c.loop-block.block _ _ _ _ c.loop-block.invariant.read (omega (arith, c.loop-block.auto.block-end, c.blocks-blocks.ensures, ap (λ (x : Geometry). x.blocks) c.geometry.ensures))

pub returns-clause-firsts : goal.returns-clause-firsts
returns-clause-firsts g c =
    let old : Device = g.N.Nand.state c.args.device.now in
    let end : c.loop-block.block ≡ old.geometry.blocks = omega (arith, c.loop-block-test.false, c.loop-block.auto.block-end, c.blocks-blocks.ensures, ap (λ (x : Geometry). x.blocks) c.geometry.ensures) in
    subst (λ b. FirstReadsBelow old b c.loop-block.reads) end c.loop-block.invariant.below
