use Rattle.flash_c.specs.laws.Placed.{read_in_place}
use Rattle.flash_c.proofs.law.a_read_at_an_offset_leaves_the_state.Goals as goal

pub returns : goal.returns
returns c = read_in_place
