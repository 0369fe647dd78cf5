use Rattle.std.proofs.Common.{◌<◌, ◌≤◌, ℕ}
use Rattle.block_state.specs.TableOf.{table}
use Rattle.test_devices.proofs.consistency.fit.Given as goal

abbrev pub invariant-loop-block : goal.invariant-loop-block
invariant-loop-block l = (b : ℕ) → b < l.block → ((table l.blocks).entry b).committed ≤ (table l.blocks).geometry.pages
