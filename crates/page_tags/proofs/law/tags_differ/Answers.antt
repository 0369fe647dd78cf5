use Rattle.page_tags.specs.laws.Tag.{same_tag}
use Rattle.page_tags.proofs.law.tags_differ.Goals as goal

pub returns : goal.returns
returns c = same_tag
