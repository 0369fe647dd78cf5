use Rattle.tree_walk.proofs.Reported.{looked_up, page_size, some_slots}
use Rattle.tree_walk.proofs.table_law.the_pages_of_a_tree_are_those_of_its_objects.Goals as goal

pub returns : goal.returns
returns c = λ z m tree objects sizes of shown. looked_up z (page_size z sizes) m tree objects of shown (some_slots z sizes)
