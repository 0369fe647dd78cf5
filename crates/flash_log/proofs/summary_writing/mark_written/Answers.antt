use Rattle.std.proofs.Common.{◌≡◌, ◌+◌, ◌∙◌, arith}
use Rattle.block_state.specs.Committed.{bad_count}
use Rattle.block_state.specs.TableOf.{table}
use Rattle.flash_log.specs.laws.Found.{found_marked}
use Rattle.flash_log.proofs.CheckpointKeeping.{most_one}
use Rattle.flash_log.proofs.Free.{one_more}
use Rattle.flash_log.proofs.Summarized.{mark_counts}
use Rattle.flash_log.proofs.summary_writing.mark_written.Goals as goal

pub returns-in-Ok-clause-keeps : goal.returns-in-Ok-clause-keeps
returns-in-Ok-clause-keeps g c =
    let m = c.mark_block.ensures in
    mark_counts c.args.block _ _ (table c.args.blocks.now) _ _ c.requires.empty m.marks m.can_write m.notes m.numbers

pub returns-in-Ok-clause-found : goal.returns-in-Ok-clause-found
returns-in-Ok-clause-found g c = found_marked c.args.block _ _ (table c.args.blocks.now) _ c.requires.empty.uncommitted c.mark_block.ensures.marks

pub returns-in-Ok-clause-ends : goal.returns-in-Ok-clause-ends
returns-in-Ok-clause-ends g c =
    let m = c.in-Ok.ensures in
    let more : bad_count (table c.mark_block.new.blocks) ≡ bad_count (table c.args.blocks.now) + 1 = one_more c.args.block _ (table c.args.blocks.now) _ c.requires.empty.within c.requires.empty.good m.marks.bad m.notes in
    (m.notes.open_block ∙ c.requires.closed, more, m.notes.sets.next_group, m.marks.ends.is)

pub returns-in-Err-clause-keeps : goal.returns-in-Err-clause-keeps
returns-in-Err-clause-keeps g c =
    let m = c.mark_block.ensures in
    mark_counts c.args.block _ _ (table c.args.blocks.now) _ _ c.requires.empty m.marks m.can_write m.notes m.numbers

pub returns-in-Err-clause-found : goal.returns-in-Err-clause-found
returns-in-Err-clause-found g c = found_marked c.args.block _ _ (table c.args.blocks.now) _ c.requires.empty.uncommitted c.mark_block.ensures.marks

pub returns-in-Err-clause-ends : goal.returns-in-Err-clause-ends
returns-in-Err-clause-ends g c =
    let m = c.in-Err.ensures in
    let one = most_one c.args.block _ _ (table c.args.blocks.now) _ _ c.requires.empty.within c.requires.empty.good c.requires.empty.uncommitted m.marks m.notes in
    (m.marks.ends.is, omega (arith, one))
