use Rattle.std.proofs.Common.{subst}
use Rattle.name_index.specs.Covering.{HasHashes}
use Rattle.posix_profile.specs.State.{Dir}
use Rattle.tree_walk.proofs.Reported.{head_of, page_size}
use Rattle.tree_walk.proofs.table_law.the_names_of_a_tree_are_those_of_its_objects.Goals as goal

pub returns : goal.returns
returns c = λ z m tree objects index sizes of shown covered o moment entries is.
    let h = head_of z (page_size z sizes) m tree objects of shown o (Dir moment entries) is in
    subst (HasHashes index z m o) h.2.2 (covered o h.0 h.1 h.2.0)
