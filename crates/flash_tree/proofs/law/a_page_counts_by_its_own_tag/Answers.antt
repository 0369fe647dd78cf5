use Rattle.flash_tree.specs.laws.Place.{counts_by_tag}
use Rattle.flash_tree.proofs.law.a_page_counts_by_its_own_tag.Goals as goal

pub returns : goal.returns
returns c = counts_by_tag
