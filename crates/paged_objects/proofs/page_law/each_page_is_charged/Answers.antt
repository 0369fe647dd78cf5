use Rattle.paged_objects.specs.laws.Counting.{pages_charged}
use Rattle.paged_objects.proofs.page_law.each_page_is_charged.Goals as goal

pub returns : goal.returns
returns c = λ z m objects numbers holds keys once each. pages_charged z m objects numbers holds keys once each
