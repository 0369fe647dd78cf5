use Rattle.std.proofs.Common.{◌≡◌, ◌-◌, unwrap_or, not}
use Rattle.std.specs.List.{find, range_with_len}
use Rattle.std.specs.FinMap as map
use Rattle.posix_profile.specs.Changes.{new_number}
use Rattle.plain_volume.specs.PlainState.{objects_in}
use Rattle.plain_volume.proofs.state.change.new_number.Given as goal

abbrev pub invariant-loop-number : goal.invariant-loop-number
invariant-loop-number l = unwrap_or (find (λ n. not (map.contains_key (objects_in l.objects) n)) (range_with_len l.number (l.end - l.number))) 0 ≡ new_number (objects_in l.fn.objects)
