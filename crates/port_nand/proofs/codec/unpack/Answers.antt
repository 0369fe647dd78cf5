use Rattle.std.proofs.Common.{ap, ◌∙◌}
use Rattle.page_tags.specs.Tags.{tag_bytes}
use Rattle.port_nand.specs.Packed.{unpacked}
use Rattle.port_nand.specs.laws.Packed.{same_packed}
use Rattle.port_nand.proofs.codec.unpack.Goals as goal

pub returns-clause-only : goal.returns-clause-only
unfolding unpacked
returns-clause-only c other says =
    same_packed other c.args.packed.now says.0 (record { len = c.told-packed; each = c.fits-packed }) (says.1 ∙ c.encode.ensures ∙ ap tag_bytes c.read.ensures)
