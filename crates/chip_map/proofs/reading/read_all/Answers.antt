use Rattle.std.proofs.Common.{◌+◌, ◌*◌, ap, ◌∙◌}
use Rattle.nand_model.specs.declared.geometry.Geometry.{Geometry}
use Rattle.chip_map.proofs.Adding.{power_on, noted_back, noted_on}
use Rattle.chip_map.proofs.reading.read_all.Goals as goal

pub loop-block-preserved : goal.loop-block-preserved
loop-block-preserved g c =
    let only = c.loop-block.invariant.read.only in
    record {
      read = power_on _ _ _ c.loop-block.invariant.read c.in_ok-read_block.ensures.reads c.in_ok-read_block.ensures.gone;
      len = c.in_ok-read_block.ensures.len ∙ ap (λ (x : Geometry). (c.loop-block.block + 1) * x.pages) only.lasts.geometry;
      noted = λ honest. noted_back _ _ _ only honest (c.in_ok-read_block.ensures.noted (only.lasts.honest ∙ honest) (noted_on _ _ _ only honest (c.loop-block.invariant.noted honest)));
    }
