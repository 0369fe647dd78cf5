use Rattle.std.proofs.Common.{◌≡◌, []}
use Rattle.std.proofs.Common.{map as list_map}
use Rattle.plain_volume.specs.Items.{item_of}
use Rattle.image_tools.specs.FirstNames.{Knows}
use Rattle.image_tools.specs.Folders.{entry_of, entries_after}
use Rattle.image_tools.proofs.unpacking.folder_of.Given as goal

-- the entries are those of the items so far, and their first paths are noted
abbrev pub invariant-loop-entry : goal.invariant-loop-entry
invariant-loop-entry l = record {
  are : list_map entry_of l.entries.items ≡ entries_after [] (list_map item_of l.yielded);
  knows : Knows l.names (list_map item_of l.yielded);
}
