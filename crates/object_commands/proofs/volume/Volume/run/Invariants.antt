use Rattle.std.proofs.Common.{◌≡◌}
use Rattle.object_commands.specs.Running.{Runs}
use Rattle.object_commands.proofs.volume.Volume.run.Given as goal

-- so many are answered
abbrev pub invariant-loop-i : goal.invariant-loop-i
invariant-loop-i g l = record {
  lasts : g.S.ObjectStore.meaning.lasts l.fn.self.store l.self.store;
  keeps : l.self.read_only ≡ l.fn.self.read_only;
  runs : Runs g.S.ObjectStore.meaning l.commands l.i l.fn.replies.items l.replies.items l.fn.self l.self;
}
