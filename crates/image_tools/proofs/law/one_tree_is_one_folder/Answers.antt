use Rattle.image_tools.specs.laws.Folders.{one_folder}
use Rattle.image_tools.proofs.law.one_tree_is_one_folder.Goals as goal

pub returns : goal.returns
returns c = one_folder
