use Rattle.std.proofs.Common.{◌≡◌, ◌≤◌, take, map}
use Rattle.std.specs.Prelude.{vec_capacity}
use Rattle.flash_log.specs.SummaryMaking.{entry_of_key}
use Rattle.flash_log.proofs.room.enter_all.Given as goal

abbrev pub invariant-loop-listed : goal.invariant-loop-listed
invariant-loop-listed l = record {
  entries : l.entries.items ≡ map entry_of_key (take l.listed-index l.keys);
  capacity : vec_capacity l.fn.entries ≤ vec_capacity l.entries;
}
