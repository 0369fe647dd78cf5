use Rattle.std.proofs.Common.{◌≡◌, ◌≤◌, ◌∙◌, refl, sym, ap, subst, arith, rules}
use Rattle.nand_model.specs.laws.Calls.{lasts_on}
use Rattle.block_state.specs.Committed.{bad_count}
use Rattle.block_state.specs.Table.{Table}
use Rattle.block_state.specs.TableOf.{table}
use Rattle.transactions.specs.Ready.{IsReady}
use Rattle.transactions.specs.laws.Handing.{hands_on, hands_closed}
use Rattle.transactions.specs.laws.Ready.{ready_closed}
use Rattle.flash_log.proofs.Passing.{passes_on, passes_closed, takes_from}
use Rattle.flash_log.proofs.Turning.{turn_from, same_turns_on, same_turns_closed}
use Rattle.flash_log.proofs.take.take_block.Goals as goal

pub returns-then-next_seq-ge-NUMBER_END-clause-can_write : goal.returns-then-next_seq-ge-NUMBER_END-clause-can_write
returns-then-next_seq-ge-NUMBER_END-clause-can_write g c = subst (IsReady (g.N.Nand.state c.args.device.now)) (sym c.close.ensures) (ready_closed _ (table c.args.blocks.now) c.requires.can_write)

pub returns-then-next_seq-ge-NUMBER_END-clause-passes : goal.returns-then-next_seq-ge-NUMBER_END-clause-passes
returns-then-next_seq-ge-NUMBER_END-clause-passes g c = passes_closed (g.N.Nand.state c.args.device.now) (table c.args.blocks.now) _ c.close.ensures

pub loop-block-init : goal.loop-block-init
loop-block-init g c = record {
  lasts = search rules;
  can_write = subst (IsReady (g.N.Nand.state c.args.device.now)) (sym c.close.ensures) (ready_closed _ (table c.args.blocks.now) c.requires.can_write);
  numbers = hands_closed _ (table c.args.blocks.now) _ c.close.ensures;
  passes = passes_closed (g.N.Nand.state c.args.device.now) (table c.args.blocks.now) _ c.close.ensures;
  none = search rules;
  answers = let same : bad_count (table c.close.new.self) ≡ bad_count (table c.args.blocks.now) = ap bad_count c.close.ensures in omega (arith, same);
  costs = omega arith;
  reads = refl;
  within_limit = subst (λ (x : Table). bad_count x ≤ c.args.spare) (sym c.close.ensures) c.requires.uncommitted.bad;
  turns = same_turns_closed (table c.args.blocks.now) _ c.close.ensures;
  apart = λ k is. ap (λ (x : Table). (x.entry k).committed) c.close.ensures ∙ c.requires.uncommitted.apart k (sym (ap (λ (x : Table). x.checkpoint) c.close.ensures) ∙ is);
}

pub loop-block-preserved : goal.loop-block-preserved
loop-block-preserved g c =
    let so_far = c.loop-block.invariant in
    let tried = rw c.in-Ok-Marked.field-0-is at c.in-Ok-Marked.ensures in
    record {
      lasts = lasts_on _ _ _ so_far.lasts tried.lasts;
      can_write = tried.can_write;
      numbers = hands_on _ _ _ (table c.args.blocks.now) _ _ so_far.lasts tried.lasts so_far.numbers tried.numbers;
      passes = passes_on _ _ _ (table c.args.blocks.now) _ _ so_far.lasts so_far.passes tried.passes;
      none = record { open_block = tried.ends.0.open_block; next_seq = tried.ends.0.next_seq ∙ so_far.none.next_seq };
      answers = omega (arith, so_far.answers, tried.answers);
      costs = omega (arith, so_far.costs, tried.costs);
      reads = tried.reads ∙ so_far.reads;
      within_limit = search rules;
      turns = same_turns_on (table c.args.blocks.now) _ _ tried.passes.marks_stay so_far.turns tried.turn;
      apart = λ k is. tried.passes.committed k ∙ so_far.apart k (tried.turn.from k is);
    }

pub returns-in-Ok-Taken-clause-passes : goal.returns-in-Ok-Taken-clause-passes
returns-in-Ok-Taken-clause-passes g c = let so_far = c.loop-block.invariant in passes_on _ _ _ (table c.args.blocks.now) _ _ so_far.lasts so_far.passes c.try_block.ensures.passes

pub returns-then-bad_count-spare-clause-passes : goal.returns-then-bad_count-spare-clause-passes
returns-then-bad_count-spare-clause-passes g c = let so_far = c.loop-block.invariant in passes_on _ _ _ (table c.args.blocks.now) _ _ so_far.lasts so_far.passes c.try_block.ensures.passes

pub returns-in-Err-clause-passes : goal.returns-in-Err-clause-passes
returns-in-Err-clause-passes g c = let so_far = c.loop-block.invariant in passes_on _ _ _ (table c.args.blocks.now) _ _ so_far.lasts so_far.passes c.try_block.ensures.passes

pub returns-in-Ok-Taken-clause-ends : goal.returns-in-Ok-Taken-clause-ends
returns-in-Ok-Taken-clause-ends g c =
    let so_far = c.loop-block.invariant in
    let took = rw c.in-Ok-Taken.field-0-is at c.in-Ok-Taken.ensures in
    (takes_from _ _ _ _ _ _ _ so_far.passes so_far.none took.ends.0, took.ends.1)

pub returns-in-Ok-Taken-clause-costs : goal.returns-in-Ok-Taken-clause-costs
returns-in-Ok-Taken-clause-costs g c =
    let took = rw c.in-Ok-Taken.field-0-is at c.in-Ok-Taken.ensures in
    record { changes = omega (arith, c.loop-block.invariant.costs, took.costs); reads = took.reads ∙ c.loop-block.invariant.reads }

pub returns-then-bad_count-spare-clause-costs : goal.returns-then-bad_count-spare-clause-costs
returns-then-bad_count-spare-clause-costs g c =
    let tried = rw c.in-Ok-Marked.field-0-is at c.in-Ok-Marked.ensures in
    record { changes = omega (arith, c.loop-block.invariant.costs, tried.costs); reads = tried.reads ∙ c.loop-block.invariant.reads }

pub returns-in-Err-clause-costs : goal.returns-in-Err-clause-costs
returns-in-Err-clause-costs g c =
    record { changes = omega (arith, c.loop-block.invariant.costs, c.in-Err.ensures.costs); reads = c.in-Err.ensures.reads ∙ c.loop-block.invariant.reads }

pub returns-then-next_seq-ge-NUMBER_END-clause-numbers : goal.returns-then-next_seq-ge-NUMBER_END-clause-numbers
returns-then-next_seq-ge-NUMBER_END-clause-numbers g c = hands_closed _ (table c.args.blocks.now) _ c.close.ensures

pub returns-in-Ok-Taken-clause-numbers : goal.returns-in-Ok-Taken-clause-numbers
returns-in-Ok-Taken-clause-numbers g c =
    let so_far = c.loop-block.invariant in
    hands_on _ _ _ (table c.args.blocks.now) (table c.loop-block.blocks) _ so_far.lasts c.try_block.ensures.lasts so_far.numbers c.try_block.ensures.numbers

pub returns-then-bad_count-spare-clause-numbers : goal.returns-then-bad_count-spare-clause-numbers
returns-then-bad_count-spare-clause-numbers g c =
    let so_far = c.loop-block.invariant in
    hands_on _ _ _ (table c.args.blocks.now) (table c.loop-block.blocks) _ so_far.lasts c.try_block.ensures.lasts so_far.numbers c.try_block.ensures.numbers

pub returns-in-Err-clause-numbers : goal.returns-in-Err-clause-numbers
returns-in-Err-clause-numbers g c =
    let so_far = c.loop-block.invariant in
    hands_on _ _ _ (table c.args.blocks.now) (table c.loop-block.blocks) _ so_far.lasts c.try_block.ensures.lasts so_far.numbers c.try_block.ensures.numbers

pub returns-in-Ok-Taken-clause-turn : goal.returns-in-Ok-Taken-clause-turn
returns-in-Ok-Taken-clause-turn g c =
    let so_far = c.loop-block.invariant in
    let took = rw c.in-Ok-Taken.field-0-is at c.in-Ok-Taken.ensures in
    record { turn = turn_from _ _ _ _ _ _ _ so_far.passes took.passes so_far.turns took.turn; bad = omega (arith, so_far.within_limit, took.within_limit) }

pub returns-in-Ok-Taken-clause-answers : goal.returns-in-Ok-Taken-clause-answers
returns-in-Ok-Taken-clause-answers g c =
    let took = rw c.in-Ok-Taken.field-0-is at c.in-Ok-Taken.ensures in
    omega (arith, c.loop-block.invariant.answers, took.answers)

pub try_block-requires-clause-uncommitted : goal.try_block-requires-clause-uncommitted
try_block-requires-clause-uncommitted g c =
    let so_far = c.loop-block.invariant in
    (c.args.spare, record { bad = so_far.within_limit; uncommitted = omega (arith, so_far.passes.uncommitted, c.requires.uncommitted.uncommitted); apart = so_far.apart })
