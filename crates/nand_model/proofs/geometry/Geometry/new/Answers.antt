use Rattle.std.proofs.Common.{rules}
use Rattle.nand_model.specs.Size.{IsSize}
use Rattle.nand_model.proofs.Sizes.{bounds}
use Rattle.nand_model.proofs.geometry.Geometry.new.Goals as goal

pub invariant_of-result : goal.invariant_of-result
invariant_of-result c =
    let size : IsSize c.args.bytes c.args.pages c.args.blocks = c.is_size.ensures.0 (search rules) in
    let b = bounds c.args.bytes c.args.pages c.args.blocks size in
    record {
      least_bytes = b.least_bytes;
      most_bytes = b.most_bytes;
      least_pages = b.least_pages;
      most_pages = b.most_pages;
      least_blocks = size.few_blocks.0;
      most_blocks = size.few_blocks.1;
      sizes = ∣ size ∣₁;
    }
