use Rattle.std.proofs.Common.{◌≡◌, ◌≤◌, ◌+◌, ◌-◌, None}
use Rattle.block_state.specs.Committed.{bad_count}
use Rattle.block_state.specs.TableOf.{table}
use Rattle.flash_log.specs.LogOf.{SameTerms, log_state, terms_of}
use Rattle.flash_log.proofs.RetireTurns.{Retiring}
use Rattle.flash_log.proofs.log.Log.retire_all.Given as goal

abbrev pub invariant-loop-suspect : goal.invariant-loop-suspect
invariant-loop-suspect g l = record {
  terms : SameTerms (terms_of l.fn.self) (terms_of l.self);
  retiring : Retiring l.fn.self.spare l.block (log_state l.fn.self) (log_state l.self) l.fn.self.index l.self.index l.suspect;
  empty : ((table l.fn.self.blocks).entry l.block).committed ≡ 0 → ((g.N.Nand.state l.self.device).changes ≤ (g.N.Nand.state l.fn.self.device).changes + 1) × (l.suspect ≡ None);
}

abbrev pub decreases-loop-suspect : goal.decreases-loop-suspect
decreases-loop-suspect g l = l.fn.self.spare - bad_count (table l.self.blocks)
