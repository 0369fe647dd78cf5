use Rattle.std.proofs.Common.{List, ℕ, ◌∙◌, ap, get_or, eq-eqb}
use Rattle.page_tags.specs.Headers.{kind_number}
use Rattle.page_tags.specs.laws.Header.{kind_at}
use Rattle.directories.proofs.naming.is_directory_page.Goals as goal

pub returns : goal.returns
returns c = λ f header kind. eq-eqb _ _ (ap (λ (xs : List ℕ). get_or xs 5 0) header.encodes ∙ kind_at f ∙ ap kind_number kind)
