use Rattle.mounting.proofs.NewestMaps.{no_volume, wrong_root, wrong_object, two_names, wrong_tree, breaks, chunk_low, first_broken}
use Rattle.mounting.proofs.law.a_map_of_the_newest_pages_answers.Goals as goal

pub returns : goal.returns
returns c = record { no_volume = no_volume; root = wrong_root; object = wrong_object; names = two_names; tree = wrong_tree; breaks = breaks; low = chunk_low; first = first_broken }
