use Rattle.paged_objects.specs.laws.OnFlash.{shown_sound}
use Rattle.paged_objects.proofs.law.a_shown_tree_is_on_the_flash.Goals as goal

pub returns : goal.returns
returns c = shown_sound
