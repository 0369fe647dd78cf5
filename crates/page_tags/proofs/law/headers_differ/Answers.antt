use Rattle.page_tags.specs.laws.Header.{same_fields}
use Rattle.page_tags.proofs.law.headers_differ.Goals as goal

pub returns : goal.returns
returns c = same_fields
