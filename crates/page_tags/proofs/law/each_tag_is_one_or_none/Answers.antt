use Rattle.page_tags.specs.laws.Tag.{tag_or_none}
use Rattle.page_tags.proofs.law.each_tag_is_one_or_none.Goals as goal

pub returns : goal.returns
returns c = tag_or_none
