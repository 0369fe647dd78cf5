use Rattle.std.proofs.Common.{◌≡◌, ◌<◌, ◌+◌, ◌∙◌, sym, ap, subst, arith}
use Rattle.std.proofs.lemmas.Result.{err_from_is_err_and}
use Rattle.nand_model.specs.Calls.{Device}
use Rattle.nand_model.specs.declared.geometry.Geometry.{Geometry}
use Rattle.flash_tree.specs.laws.Place.{same_flash}
use Rattle.mount_scan.specs.Listed.{listed}
use Rattle.surviving_pages.specs.Latest.{LieBelow, HasLatestBelow}
use Rattle.surviving_pages.specs.Lost.{ListsLostBelow}
use Rattle.surviving_pages.specs.Surviving.{IsSurvivor}
use Rattle.surviving_pages.proofs.Latest.{lie_none, latest_none, lie_all, newest_all}
use Rattle.surviving_pages.proofs.LostPlaces.{lost_none, lost_all}
use Rattle.surviving_pages.proofs.Reading.{block_read, block_ends, read_none}
use Rattle.surviving_pages.proofs.scan.find_survivors.Goals as goal

pub returns-in_err-add_block-clause-reads : goal.returns-in_err-add_block-clause-reads
returns-in_err-add_block-clause-reads g c =
    let p = err_from_is_err_and c.from_residual-in_err-add_block.result c.from_residual-in_err-add_block.ensures.1 in
    let within : c.loop-block.block < (g.N.Nand.state c.args.device.now).geometry.blocks = omega (arith, c.loop-block-test.true, c.blocks-block-end.ensures, ap (λ (x : Geometry). x.blocks) c.geometry.ensures) in
    rw (p.1, p.2) (block_ends _ _ _ c.loop-block.block c.loop-block.invariant.read _ _ _ _ within c.in_err-add_block.ensures.reads)

pub loop-block-init : goal.loop-block-init
loop-block-init g c = record {
  read = read_none _;
  placed = lie_none _ _ c.in_ok-found.ensures;
  latest = λ honest. latest_none _ _ c.in_ok-found.ensures;
  lost = λ honest. subst (ListsLostBelow (g.N.Nand.state c.args.device.now).flash 0) (sym c.new-lost.ensures.items) (lost_none (g.N.Nand.state c.args.device.now).flash);
}

pub loop-block-preserved : goal.loop-block-preserved
loop-block-preserved g c =
    let old : Device = g.N.Nand.state c.args.device.now in
    let only = c.loop-block.invariant.read.only in
    let b = c.loop-block.block in
    record {
      read = block_read _ _ _ b c.loop-block.invariant.read tt c.in_ok-add_block.ensures.reads;
      placed = subst (λ (x : Geometry). LieBelow x.pages (b + 1) (listed c.add_block.new.found)) only.lasts.geometry (c.in_ok-add_block.ensures.placed
          (subst (λ (x : Geometry). LieBelow x.pages b (listed c.loop-block.found)) (sym only.lasts.geometry) c.loop-block.invariant.placed));
      latest = λ honest.
          let same = same_flash _ _ only honest in
          subst (λ f. HasLatestBelow (IsSurvivor f) (b + 1) (listed c.add_block.new.found)) same (c.in_ok-add_block.ensures.latest (only.lasts.honest ∙ honest)
          (subst (λ f. HasLatestBelow (IsSurvivor f) b (listed c.loop-block.found)) (sym same) (c.loop-block.invariant.latest honest)));
      lost = λ honest.
          let same = same_flash _ _ only honest in
          subst (λ f. ListsLostBelow f (b + 1) c.add_block.new.lost.items) same (c.in_ok-add_block.ensures.lost (only.lasts.honest ∙ honest)
          (subst (λ f. ListsLostBelow f b c.loop-block.lost.items) (sym same) (c.loop-block.invariant.lost honest)));
    }

pub returns-clause-listed : goal.returns-clause-listed
returns-clause-listed g c =
    let old : Device = g.N.Nand.state c.args.device.now in
    let end : c.loop-block.block ≡ old.geometry.blocks = omega (arith, c.blocks-block-end.ensures, ap (λ (x : Geometry). x.blocks) c.geometry.ensures) in
    lie_all old.geometry _ _ (subst (λ b. LieBelow old.geometry.pages b (listed c.loop-block.found)) end c.loop-block.invariant.placed) c.keep_newest.ensures

pub returns-clause-newest : goal.returns-clause-newest
returns-clause-newest g c = λ honest.
    let old : Device = g.N.Nand.state c.args.device.now in
    let end : c.loop-block.block ≡ old.geometry.blocks = omega (arith, c.blocks-block-end.ensures, ap (λ (x : Geometry). x.blocks) c.geometry.ensures) in
    newest_all old.flash (IsSurvivor old.flash) (λ s is. is.has) old.geometry.pages old.geometry.blocks (g.met.N.Nand.within c.args.device.now) _ _
    (subst (λ b. LieBelow old.geometry.pages b (listed c.loop-block.found)) end c.loop-block.invariant.placed)
    (subst (λ b. HasLatestBelow (IsSurvivor old.flash) b (listed c.loop-block.found)) end (c.loop-block.invariant.latest honest))
    c.keep_newest.ensures

pub returns-clause-lost : goal.returns-clause-lost
returns-clause-lost g c = λ honest.
    let old : Device = g.N.Nand.state c.args.device.now in
    let end : c.loop-block.block ≡ old.geometry.blocks = omega (arith, c.blocks-block-end.ensures, ap (λ (x : Geometry). x.blocks) c.geometry.ensures) in
    lost_all old.flash old.geometry.pages old.geometry.blocks _ (g.met.N.Nand.within c.args.device.now)
    (subst (λ b. ListsLostBelow old.flash b c.loop-block.lost.items) end (c.loop-block.invariant.lost honest))
