use Rattle.std.proofs.Common.{◌≤◌, sym, subst, arith, inr}
use Rattle.nand_model.specs.declared.geometry.Geometry.{Geometry}
use Rattle.block_state.specs.TableOf.{table}
use Rattle.flash_log.specs.laws.Steps.{step_none}
use Rattle.flash_log.proofs.IndexStays.{holds_counts, holds_here}
use Rattle.flash_log.proofs.Summarized.{clear_fresh_block}
use Rattle.flash_log.proofs.Writing.{fresh_taken}
use Rattle.flash_log.proofs.log.Log.open_plain.Goals as goal

pub returns-then-bad_count-self-clause-step : goal.returns-then-bad_count-self-clause-step
returns-then-bad_count-self-clause-step g c = step_none c.args.self.now.spare (g.N.Nand.state c.args.self.now.device) (table c.args.self.now.blocks) c.args.self.now.index c.args.self.now.can_write c.args.self.now.consistent

pub returns-then-bad_count-self-clause-ends : goal.returns-then-bad_count-self-clause-ends
returns-then-bad_count-self-clause-ends g c = λ count fits. inr (inr (let more = c.if-bad_count-self.true in let count = c.bad_count.ensures in omega (arith, more, count), c.requires.power))

pub returns-clause-ends : goal.returns-clause-ends
returns-clause-ends g c =
    let log = c.args.self.now in
    let mid = c.allocate_block.new.self in
    let took = c.in_ok-allocate_block.ensures in
    let fresh = fresh_taken c.in_ok-allocate_block.field-0 (g.N.Nand.state log.device) (g.N.Nand.state mid.device) (table log.blocks) (table mid.blocks) took.passes took.step.can_write took.ends.0 took.ends.1 in
    let group = took.passes.next_group in
    λ count within_limit. (
      clear_fresh_block c.in_ok-allocate_block.field-0 count (g.N.Nand.state mid.device) (table mid.blocks) fresh (subst (λ (x : Geometry). count ≤ x.pages) (sym took.passes.geometry) within_limit),
      λ less. omega (arith, group, less),
    )

pub returns-then-bad_count-self-clause-holds : goal.returns-then-bad_count-self-clause-holds
returns-then-bad_count-self-clause-holds g c = holds_here (table c.args.self.now.blocks)

pub returns-in_err-allocate_block-clause-holds : goal.returns-in_err-allocate_block-clause-holds
returns-in_err-allocate_block-clause-holds g c =
    let passes = c.allocate_block.ensures.passes in
    holds_counts (table c.args.self.now.blocks) (table c.allocate_block.new.self.blocks) passes.committed passes.marked passes.uncommitted

pub returns-clause-holds : goal.returns-clause-holds
returns-clause-holds g c =
    let passes = c.allocate_block.ensures.passes in
    holds_counts (table c.args.self.now.blocks) (table c.allocate_block.new.self.blocks) passes.committed passes.marked passes.uncommitted
