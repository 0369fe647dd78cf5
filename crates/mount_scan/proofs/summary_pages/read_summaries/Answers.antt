use Rattle.std.proofs.Common.{◌≡◌, ◌<◌, ◌≤◌, ◌∙◌, sym, ap, subst, arith}
use Rattle.std.proofs.Math.Nat.{mul-le-mul_left}
use Rattle.std.proofs.lemmas.Result.{err_from_is_err_and}
use Rattle.nand_model.specs.Calls.{Device}
use Rattle.nand_model.specs.declared.geometry.Geometry.{Geometry}
use Rattle.nand_model.specs.laws.Changes.{only_reads_on}
use Rattle.mount_scan.specs.FewReads.{AreDoneBelow, sum_below, summary_size}
use Rattle.mount_scan.proofs.FewPages.{sum_more, sum_within}
use Rattle.mount_scan.proofs.NamedPages.{good_on}
use Rattle.mount_scan.proofs.ReadCount.{read_zero, read_pages, ends_pages, ends_well}
use Rattle.mount_scan.proofs.summary_pages.read_summaries.Goals as goal

pub loop-block-init : goal.loop-block-init
loop-block-init g c = record {
  read = read_zero (g.N.Nand.state c.args.device.now).geometry.pages (g.N.Nand.state c.args.device.now);
  len = c.in_ok-summarized.ensures.len ∙ c.blocks-blocks.ensures ∙ ap (λ (x : Geometry). x.blocks) c.geometry.ensures;
  bounded = omega arith;
  done = λ d kept honest s lt. absurd (omega (arith, lt));
  summarized = λ d kept. c.in_ok-summarized.ensures.summarized d (ap (λ (x : Geometry). x.blocks) (sym kept.only.lasts.geometry) ∙ sym (c.blocks-blocks.ensures ∙ ap (λ (x : Geometry). x.blocks) c.geometry.ensures));
}

pub add_summary-requires-clause-good : goal.add_summary-requires-clause-good
add_summary-requires-clause-good g c = good_on _ _ c.args.pages.now c.loop-block.invariant.read.only c.requires.good

pub add_summary-requires-clause-block : goal.add_summary-requires-clause-block
add_summary-requires-clause-block g c =
    omega (arith, c.loop-block-test.true, c.blocks-blocks.ensures, ap (λ (x : Geometry). x.blocks) c.geometry.ensures, ap (λ (x : Geometry). x.blocks) c.loop-block.invariant.read.only.lasts.geometry)

pub returns-in_err-add_summary-clause-reads : goal.returns-in_err-add_summary-clause-reads
returns-in_err-add_summary-clause-reads g c =
    let p = err_from_is_err_and c.from_residual-in_err-add_summary.result c.from_residual-in_err-add_summary.ensures.1 in
    let within : c.loop-block.block < (g.N.Nand.state c.args.device.now).geometry.blocks = omega (arith, c.loop-block-test.true, c.blocks-blocks.ensures, ap (λ (x : Geometry). x.blocks) c.geometry.ensures) in
    rw (p.1, p.2) (ends_pages _ _ c.loop-block.block _ _ _ _ _ within c.loop-block.invariant.read c.in_err-add_summary.ensures.reads)

pub loop-block-preserved : goal.loop-block-preserved
loop-block-preserved g c =
    let only = c.loop-block.invariant.read.only in
    record {
      read = read_pages c.loop-block.block _ _ _ tt c.loop-block.invariant.read c.in_ok-add_summary.ensures.reads;
      len = c.in_ok-add_summary.ensures.len ∙ c.loop-block.invariant.len;
      bounded = omega (arith, c.loop-block.invariant.bounded, c.in_ok-add_summary.ensures.reads_bounded, sum_more (summary_size c.args.pages.now) c.loop-block.block);
      done = λ d kept. c.in_ok-add_summary.ensures.done d (record { only = only_reads_on d _ _ kept.only only; noted = kept.noted }) (c.loop-block.invariant.done d kept);
      summarized = λ d kept. c.in_ok-add_summary.ensures.summarized d (record { only = only_reads_on d _ _ kept.only only; noted = kept.noted }) (c.loop-block.invariant.summarized d kept);
    }

pub returns-clause-reads : goal.returns-clause-reads
returns-clause-reads g c =
    let end : c.loop-block.block ≤ (g.N.Nand.state c.args.device.now).geometry.blocks = omega (arith, c.loop-block.auto.block-end, c.blocks-blocks.ensures, ap (λ (x : Geometry). x.blocks) c.geometry.ensures) in
    ends_well _ _ _ _ _ c.loop-block.invariant.read (mul-le-mul_left (g.N.Nand.state c.args.device.now).geometry.pages end)

pub returns-in_err-add_summary-clause-reads_bounded : goal.returns-in_err-add_summary-clause-reads_bounded
returns-in_err-add_summary-clause-reads_bounded g c =
    let a : Device = g.N.Nand.state c.args.device.now in
    let lt : c.loop-block.block < a.geometry.blocks = omega (arith, c.loop-block-test.true, c.blocks-blocks.ensures, ap (λ (x : Geometry). x.blocks) c.geometry.ensures) in
    omega (arith, c.loop-block.invariant.bounded, c.in_err-add_summary.ensures.reads_bounded, sum_within (summary_size c.args.pages.now) c.loop-block.block a.geometry.blocks lt)

pub returns-clause-reads_bounded : goal.returns-clause-reads_bounded
returns-clause-reads_bounded g c =
    let end : c.loop-block.block ≡ (g.N.Nand.state c.args.device.now).geometry.blocks = omega (arith, c.loop-block.auto.block-end, c.loop-block-test.false, c.blocks-blocks.ensures, ap (λ (x : Geometry). x.blocks) c.geometry.ensures) in
    omega (arith, c.loop-block.invariant.bounded, ap (sum_below (summary_size c.args.pages.now)) end)

pub returns-clause-done : goal.returns-clause-done
returns-clause-done g c d kept =
    let end : c.loop-block.block ≡ d.geometry.blocks = omega (arith, c.loop-block.auto.block-end, c.loop-block-test.false, c.blocks-blocks.ensures, ap (λ (x : Geometry). x.blocks) c.geometry.ensures, ap (λ (x : Geometry). x.blocks) kept.only.lasts.geometry) in
    subst (λ b. AreDoneBelow d b c.loop-block.summarized) end (c.loop-block.invariant.done d kept)
