use Rattle.std.proofs.Common.{inl, inr, rules}
use Rattle.nand_model.specs.Calls.{Device}
use Rattle.block_state.specs.Table.{Table}
use Rattle.block_state.specs.TableOf.{table}
use Rattle.flash_log.specs.Refreshing.{MovesNothing}
use Rattle.flash_log.specs.laws.Moves.{are_held}
use Rattle.flash_log.specs.laws.Steps.{step_none}
use Rattle.flash_log.proofs.Refreshed.{anew_idle}
use Rattle.flash_log.proofs.log.Log.refresh.Goals as goal
use Rattle.flash_log.proofs.log.Log.refresh.Goals.{then-entry-via-then-entry, then-entry-via-else-entry+then-entry-eq0}

pub returns-then-entry-clause-step : goal.returns-then-entry-clause-step
returns-then-entry-clause-step g c = step_none c.args.self.now.spare (g.N.Nand.state c.args.self.now.device) (table c.args.self.now.blocks) c.args.self.now.index c.args.self.now.can_write c.args.self.now.consistent

pub returns-then-entry-clause-anew : goal.returns-then-entry-clause-anew
returns-then-entry-clause-anew g c =
    let self = c.args.self.now in
    let d : Device = g.N.Nand.state self.device in
    let t : Table = table self.blocks in
    let idle : MovesNothing c.args.block t = elim c.then-entry.branch [
      | then-entry-via-then-entry w ↦ inr (search rules)
      | then-entry-via-else-entry+then-entry-eq0 w ↦ inl (search rules)
    ] in
    anew_idle self.spare c.args.block d t self.index self.can_write self.consistent (are_held t self.index (c.the_counts_are_of_the_keys.ensures.none self.index) self.consistent.tables.counts) idle
