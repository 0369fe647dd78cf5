use Rattle.std.proofs.Common.{◌≡◌, ◌<◌, ◌∙◌, Some, refl, sym, ap, subst, arith}
use Rattle.std.proofs.lemmas.Option.{slice_get-get_or}
use Rattle.nand_model.specs.declared.geometry.Geometry.{Geometry}
use Rattle.nand_model.specs.laws.Changes.{only_reads_on}
use Rattle.flash_tree.specs.Places.{numbers_of}
use Rattle.mount_scan.specs.FewReads.{IsOther, sum_below}
use Rattle.mount_scan.specs.Listed.{listed}
use Rattle.mount_scan.specs.SummaryScan.{IsNextBlock, IsScannedBelow}
use Rattle.mount_scan.proofs.FewPages.{other_after, other_here, others_more, others_end}
use Rattle.mount_scan.proofs.ReadCount.{read_zero, read_pages, within_back}
use Rattle.mount_scan.proofs.SummaryRest.{rest_none}
use Rattle.mount_scan.proofs.summary_scan.find_rest.Goals as goal

pub loop-block-init : goal.loop-block-init
loop-block-init g c = record {
  read = read_zero (g.N.Nand.state c.args.device.now).geometry.pages (g.N.Nand.state c.args.device.now);
  renewed = refl;
  bounded = λ d costs notes honest are. omega (arith, ap (λ (x : Geometry). x.pages) notes.only.lasts.geometry);
  rest = λ d only firsts is. rest_none d c.args.firsts.now c.args.summarized _ refl c.with.ensures.numbers refl refl firsts is;
}

pub loop-block-preserved : goal.loop-block-preserved
loop-block-preserved g c =
    let only = c.loop-block.invariant.read.only in
    let within : c.loop-block.block < (g.N.Nand.state c.args.device.now).geometry.blocks = omega (arith, c.loop-block-test.true, c.blocks-block-end.ensures, ap (λ (x : Geometry). x.blocks) c.geometry.ensures) in
    record {
      read = read_pages c.loop-block.block _ _ _ tt c.loop-block.invariant.read c.in_ok-find_left.ensures.reads;
      renewed = c.in_ok-find_left.ensures.renewed ∙ c.loop-block.invariant.renewed;
      bounded = λ d costs notes honest are.
          let lt : c.loop-block.block < d.geometry.blocks = omega (arith, within, ap (λ (x : Geometry). x.blocks) notes.only.lasts.geometry) in
          let other = other_here d costs c.loop-block.block c.args.firsts.now c.args.summarized.done.items c.index.result.now c.index-in-loop-block.result.now honest
          (within_back d _ notes.only (g.met.N.Nand.within c.args.device.now) honest) notes.firsts_are notes.done are lt (omega (arith, within, c.requires.done)) c.index.ensures c.index-in-loop-block.ensures in
          others_more d.geometry.pages costs c.loop-block.block _ _ _ (c.loop-block.invariant.bounded d costs notes honest are)
          (c.in_ok-find_left.ensures.left (costs c.loop-block.block)
          (subst (λ seq. IsOther (g.N.Nand.state c.loop-block.device) c.loop-block.block c.index.result.now c.index-in-loop-block.result.now seq (costs c.loop-block.block)) (sym c.loop-block.invariant.renewed)
          (other_after d (g.N.Nand.state c.loop-block.device) c.loop-block.block _ _ _ _ (only_reads_on d _ _ notes.only only) other)));
      rest = λ d before firsts is.
          let next : IsNextBlock d c.loop-block.block c.args.summarized.done.items c.index.result.now c.index-in-loop-block.result.now = record {
            block = omega (arith, within, ap (λ (x : Geometry). x.blocks) before.lasts.geometry);
            first_page = λ honest. firsts.noted.noted honest c.loop-block.block _ (slice_get-get_or _ c.loop-block.block c.index.result.now (omega (arith, within, c.requires.pages)) ∙ ap Some (sym c.index.ensures));
            noted = slice_get-get_or _ c.loop-block.block c.index-in-loop-block.result.now (omega (arith, within, c.requires.done)) ∙ ap Some (sym c.index-in-loop-block.ensures);
          } in
          c.in_ok-find_left.ensures.scans d c.args.summarized.done.items (only_reads_on d _ _ before only) next (c.loop-block.invariant.rest d before firsts is);
    }

pub returns-clause-scanned : goal.returns-clause-scanned
returns-clause-scanned g c d only firsts is =
    let end : c.loop-block.block ≡ d.geometry.blocks = omega (arith, c.loop-block.auto.block-end, c.loop-block-test.false, c.blocks-block-end.ensures, ap (λ (x : Geometry). x.blocks) c.geometry.ensures, ap (λ (x : Geometry). x.blocks) only.lasts.geometry) in
    subst (λ b. IsScannedBelow d b (listed c.loop-block.rest.newest) (numbers_of c.loop-block.rest.seen.numbers)) end (c.loop-block.invariant.rest d only firsts is).below

pub returns-in_err-find_left-clause-reads_bounded : goal.returns-in_err-find_left-clause-reads_bounded
returns-in_err-find_left-clause-reads_bounded g c d notes honest costs are =
    let only = c.loop-block.invariant.read.only in
    let within : c.loop-block.block < (g.N.Nand.state c.args.device.now).geometry.blocks = omega (arith, c.loop-block-test.true, c.blocks-block-end.ensures, ap (λ (x : Geometry). x.blocks) c.geometry.ensures) in
    let lt : c.loop-block.block < d.geometry.blocks = omega (arith, within, ap (λ (x : Geometry). x.blocks) notes.only.lasts.geometry) in
    let other = other_here d costs c.loop-block.block c.args.firsts.now c.args.summarized.done.items c.index.result.now c.index-in-loop-block.result.now honest
    (within_back d _ notes.only (g.met.N.Nand.within c.args.device.now) honest) notes.firsts_are notes.done are lt (omega (arith, within, c.requires.done)) c.index.ensures c.index-in-loop-block.ensures in
    others_end d.geometry.pages costs c.loop-block.block d.geometry.blocks _ _ _ lt (c.loop-block.invariant.bounded d costs notes honest are)
    (c.in_err-find_left.ensures.reads_bounded (costs c.loop-block.block)
    (subst (λ seq. IsOther (g.N.Nand.state c.loop-block.device) c.loop-block.block c.index.result.now c.index-in-loop-block.result.now seq (costs c.loop-block.block)) (sym c.loop-block.invariant.renewed)
    (other_after d (g.N.Nand.state c.loop-block.device) c.loop-block.block _ _ _ _ (only_reads_on d _ _ notes.only only) other)))

pub returns-clause-reads_bounded : goal.returns-clause-reads_bounded
returns-clause-reads_bounded g c d notes honest costs are =
    let end : c.loop-block.block ≡ d.geometry.blocks = omega (arith, c.loop-block.auto.block-end, c.loop-block-test.false, c.blocks-block-end.ensures, ap (λ (x : Geometry). x.blocks) c.geometry.ensures, ap (λ (x : Geometry). x.blocks) notes.only.lasts.geometry) in
    let was = c.loop-block.invariant.bounded d costs notes honest are in
    omega (arith, was, ap (sum_below costs) end)
