use Rattle.std.proofs.Common.{◌≡◌, ◌+◌, length}
use Rattle.nand_model.specs.MemoryState.{device}
use Rattle.powercut.specs.Living.{HasLived}
use Rattle.powercut.specs.Sessions.{records_of, AreEnded, cuts_in}
use Rattle.powercut.proofs.life.live.Given as goal

-- so many sessions are done
abbrev pub invariant-loop-session : goal.invariant-loop-session
invariant-loop-session l = record {
  count : length l.ends.items ≡ l.session-index;
  lived : HasLived (device l.fn.nand) (device l.last) (records_of l.sessions l.ends.items);
  ended : AreEnded l.sessions l.ends.items (device l.fn.nand) (device l.last);
  cuts : (device l.last).cuts ≡ (device l.fn.nand).cuts + cuts_in l.ends.items;
}
