use Rattle.std.proofs.Common.{◌≡◌, ◌++◌, ℕ, map as list_map}
use Rattle.std.specs.Global.{Vec}
use Rattle.std.specs.FinMap as map
use Rattle.name_map.specs.NameEntries.{entries_in}
use Rattle.plain_volume.proofs.objects.names.names_of.Given as goal

-- the names so far and those that are left are all
abbrev pub invariant-loop-name : goal.invariant-loop-name
invariant-loop-name l = l.names.items ++ list_map (λ (k : Vec ℕ). k.items) l.name-iterator ≡ map.keys (entries_in l.fn.entries)
