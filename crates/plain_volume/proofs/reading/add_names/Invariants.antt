use Rattle.std.proofs.Common.{◌≡◌, ◌++◌, take}
use Rattle.std.proofs.Common.{map as list_map}
use Rattle.plain_volume.specs.Items.{path_below, paths_of}
use Rattle.plain_volume.proofs.reading.add_names.Given as goal

-- the first names wait
abbrev pub invariant-loop-number : goal.invariant-loop-number
invariant-loop-number l = record { waits : paths_of l.waiting.items ≡ paths_of l.initial.waiting.items ++ list_map (path_below l.directory) (take l.number l.names) }
