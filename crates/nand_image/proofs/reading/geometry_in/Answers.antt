use Rattle.std.proofs.Common.{refl}
use Rattle.nand_image.proofs.Heads.{sizes_reported, no_size}
use Rattle.nand_image.proofs.reading.geometry_in.Goals as goal

pub returns-in-Ok-clause-sizes : goal.returns-in-Ok-clause-sizes
returns-in-Ok-clause-sizes c =
    sizes_reported c.args.head.now c.in-Ok.geometry c.number_at-bytes.result c.number_at-pages.result c.number_at-blocks.result
    c.number_at-bytes.ensures c.number_at-pages.ensures c.number_at-blocks.ensures c.in-Ok.ensures.ok

pub returns-in-Err-clause-fault : goal.returns-in-Err-clause-fault
returns-in-Err-clause-fault c = (
  refl,
  no_size c.args.head.now c.number_at-bytes.result c.number_at-pages.result c.number_at-blocks.result
      c.number_at-bytes.ensures c.number_at-pages.ensures c.number_at-blocks.ensures c.in-Err.ensures.err,
)
