use Rattle.std.proofs.Common.{◌≡◌, []}
use Rattle.std.specs.Prelude.{true}
use Rattle.nand_model.specs.MemoryState.{device}
use Rattle.exerciser.specs.Words.{answers}
use Rattle.exerciser.specs.Causes.{IsTreeOn}
use Rattle.exerciser.specs.Draws.{words_after}
use Rattle.exerciser.proofs.Sessions.{SoFar}
use Rattle.exerciser.proofs.cutting.cut.Given as goal

-- each session so far held a tree and took its words, and the next one has the same commands, no failure and an unmount
abbrev pub invariant-loop-before : goal.invariant-loop-before
invariant-loop-before g l = record {
  commands : l.session.commands ≡ l.fn.script;
  failures : l.session.failures.items ≡ [];
  unmounts : l.session.unmount ≡ true;
  words : answers l.generator ≡ words_after l.fn.seed (device l.fn.nand).geometry.pages l.before;
  on : IsTreeOn (device l.known_device.device) l.known_device.tree;
  reported : SoFar (record { first = device l.fn.nand; seed = l.fn.seed; commands = l.fn.script.items; sessions = l.fn.sessions }) l.before (device l.known_device.device) l.known_device.tree
      (g.W.Write.contents l.initial.writer) (g.W.Write.contents l.writer);
}
