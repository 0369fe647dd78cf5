use Rattle.std.proofs.Common.{map as list_map}
use Rattle.plain_volume.specs.Items.{item_of, paths_of}
use Rattle.plain_volume.specs.Reading.{Reports}
use Rattle.plain_volume.specs.laws.Listing.{AreReadSoFar}
use Rattle.plain_volume.proofs.reading.read_tree.Given as goal

-- the entries are the first of the tree
abbrev pub invariant-loop-round : goal.invariant-loop-round
invariant-loop-round g l = record { reported : Reports g.V.Answers.shows l.initial.volume l.volume (λ objects. AreReadSoFar objects (paths_of l.waiting.items) (list_map item_of l.entries.items)) }
