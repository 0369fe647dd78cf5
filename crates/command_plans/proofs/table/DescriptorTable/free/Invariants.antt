use Rattle.std.proofs.Common.{◌≡◌, ◌-◌, not}
use Rattle.std.specs.List.{find, range_with_len}
use Rattle.std.specs.FinMap as map
use Rattle.posix_profile.specs.Changes.{free_descriptor}
use Rattle.command_plans.specs.Tables.{handles_in}
use Rattle.command_plans.proofs.table.DescriptorTable.free.Given as goal

-- the least free descriptor is not below this one
abbrev pub invariant-loop-fd : goal.invariant-loop-fd
invariant-loop-fd l = find (λ n. not (map.contains_key (handles_in l.self) n)) (range_with_len l.fd (64 - l.fd)) ≡ free_descriptor (handles_in l.fn.self)
