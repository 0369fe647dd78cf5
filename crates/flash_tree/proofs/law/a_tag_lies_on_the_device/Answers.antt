use Rattle.flash_tree.specs.laws.Place.{tag_placed}
use Rattle.flash_tree.proofs.law.a_tag_lies_on_the_device.Goals as goal

pub returns : goal.returns
returns c = tag_placed
