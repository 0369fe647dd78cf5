use Rattle.flash_c.specs.laws.Placed.{write_in_place}
use Rattle.flash_c.proofs.law.a_write_at_an_offset_leaves_the_descriptors.Goals as goal

pub returns : goal.returns
returns c = write_in_place
