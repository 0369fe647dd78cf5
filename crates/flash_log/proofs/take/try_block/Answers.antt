use Rattle.std.proofs.Common.{ℕ, sym, ◌∙◌, ap, subst, arith, rules}
use Rattle.std.proofs.lemmas.Result.{err_from_is_err_and}
use Rattle.block_state.specs.laws.Committed.{free_where_closed, none_free, same_bad_count}
use Rattle.block_state.specs.Table.{Table}
use Rattle.block_state.specs.TableOf.{table}
use Rattle.transactions.specs.Marking.{NotesMark}
use Rattle.transactions.specs.Opening.{MayLose}
use Rattle.transactions.specs.laws.Handing.{hands_on}
use Rattle.flash_log.proofs.Passing.{gains_erased, passes_erased, passes_opened, passes_marked, same_opened}
use Rattle.flash_log.proofs.Free.{was_uncommitted, one_more, erase_costs, erase_fails, mark_costs}
use Rattle.flash_log.specs.laws.Erased.{erased_cut, erased_failed, erased_opened}
use Rattle.flash_log.specs.laws.Found.{found_erased}
use Rattle.flash_log.proofs.Turning.{first_taken, goes_next, noted_next, opened_in_turn, turns_marked}
use Rattle.flash_log.proofs.take.try_block.Goals as goal

pub unreachable-requires : goal.unreachable-requires
unreachable-requires g c =
    let t : Table = table c.args.blocks.now in
    let free = free_where_closed t c.requires.closed in
    let none = none_free t (rw c.in_default.is at c.next_taken.ensures).none in
    let some = c.requires.uncommitted.1 in
    omega (arith, free, none, some.bad, some.uncommitted)

pub returns-in-Ok-clause-passes : goal.returns-in-Ok-clause-passes
returns-in-Ok-clause-passes g c =
    let t : Table = table c.args.blocks.now in
    let free = was_uncommitted t c.in-Some.block c.in-Some.ensures.found.free in
    let does = c.erase_and_open.ensures in
    let opens = c.in-Ok.ensures.opens in
    passes_opened c.in-Some.block _ _ t _ _ c.requires.seq free.1 does.erases does.newest opens
    (erased_opened c.in-Some.block _ _ t _ _ (λ honest. goes_next _ t c.in-Some.block c.requires.can_write c.requires.uncommitted.1.apart c.requires.closed c.in-Some.ensures.found) free.1 c.in-Ok.ensures.erases opens)

pub returns-in-Ok-clause-ends : goal.returns-in-Ok-clause-ends
returns-in-Ok-clause-ends g c =
    let t : Table = table c.args.blocks.now in
    let free = was_uncommitted t c.in-Some.block c.in-Some.ensures.found.free in
    let does = c.in-Ok.ensures in (
      record {
        within = c.in-Some.ensures.found.within;
        good = free.0;
        uncommitted = free.1;
        open_block = does.opens.open_block;
        next = ap (λ e. e.next) does.opens.sets.here;
        seq = ap (λ e. e.seq) does.opens.sets.here;
        next_seq = does.opens.next_seq;
        below = λ honest. does.below (sym does.erases.lasts.honest ∙ honest);
      },
      does.erases.ends.is,
    )

pub returns-in-Ok-clause-within_limit : goal.returns-in-Ok-clause-within_limit
returns-in-Ok-clause-within_limit g c = same_bad_count (table c.args.blocks.now) _ (same_opened c.in-Some.block _ _ c.in-Ok.ensures.opens)

pub returns-in_ok-mark_block-in-Err-Failed-clause-passes : goal.returns-in_ok-mark_block-in-Err-Failed-clause-passes
returns-in_ok-mark_block-in-Err-Failed-clause-passes g c =
    let t : Table = table c.args.blocks.now in
    let block : ℕ = c.in-Some.block in
    let free = was_uncommitted t block c.in-Some.ensures.found.free in
    let erased = rw c.in-Err-Failed.field-0-is at c.in-Err-Failed.ensures in
    let marked = c.mark_block.ensures in
    let notes = subst (λ (x : Table). NotesMark block (g.N.Nand.state c.mark_block.new.device).flash x (table c.mark_block.new.blocks)) erased.unchanged marked.notes in
    passes_marked block _ _ _ t _ _ c.in-Some.ensures.found.within free.0 free.1 erased.erases.lasts (erase_fails block _ _ erased.erases) erased.newest (gains_erased block _ _ t _ free.1 erased.erases) (found_erased block _ _ t _ free.1 erased.erases) marked.marks marked.newest notes
    (erased_failed block _ _ _ t _ _ _ (λ honest. goes_next _ t block c.requires.can_write c.requires.uncommitted.1.apart c.requires.closed c.in-Some.ensures.found)
    (noted_next _ t block c.requires.can_write c.requires.uncommitted.1.apart c.in-Some.ensures.found) c.requires.closed erased.erases marked.marks notes)

pub returns-in_err-mark_block-in-Err-Failed-clause-passes : goal.returns-in_err-mark_block-in-Err-Failed-clause-passes
returns-in_err-mark_block-in-Err-Failed-clause-passes g c =
    let t : Table = table c.args.blocks.now in
    let block : ℕ = c.in-Some.block in
    let free = was_uncommitted t block c.in-Some.ensures.found.free in
    let erased = rw c.in-Err-Failed.field-0-is at c.in-Err-Failed.ensures in
    let marked = c.mark_block.ensures in
    let notes = subst (λ (x : Table). NotesMark block (g.N.Nand.state c.mark_block.new.device).flash x (table c.mark_block.new.blocks)) erased.unchanged marked.notes in
    passes_marked block _ _ _ t _ _ c.in-Some.ensures.found.within free.0 free.1 erased.erases.lasts (erase_fails block _ _ erased.erases) erased.newest (gains_erased block _ _ t _ free.1 erased.erases) (found_erased block _ _ t _ free.1 erased.erases) marked.marks marked.newest notes
    (erased_failed block _ _ _ t _ _ _ (λ honest. goes_next _ t block c.requires.can_write c.requires.uncommitted.1.apart c.requires.closed c.in-Some.ensures.found)
    (noted_next _ t block c.requires.can_write c.requires.uncommitted.1.apart c.in-Some.ensures.found) c.requires.closed erased.erases marked.marks notes)

pub returns-in_ok-mark_block-in-Err-Failed-clause-ends : goal.returns-in_ok-mark_block-in-Err-Failed-clause-ends
returns-in_ok-mark_block-in-Err-Failed-clause-ends g c =
    let t : Table = table c.args.blocks.now in
    let block : ℕ = c.in-Some.block in
    let free = was_uncommitted t block c.in-Some.ensures.found.free in
    let erased = rw c.in-Err-Failed.field-0-is at c.in-Err-Failed.ensures in
    let marked = c.mark_block.ensures in
    let notes = subst (λ (x : Table). NotesMark block (g.N.Nand.state c.mark_block.new.device).flash x (table c.mark_block.new.blocks)) erased.unchanged marked.notes in
    let done = c.in_ok-mark_block-in-Err-Failed.ensures in (
      record { open_block = notes.open_block ∙ c.requires.closed; next_seq = notes.next_seq },
      one_more block _ t _ c.in-Some.ensures.found.within free.0 done.marks.bad notes,
      done.marks.ends.is,
    )

pub returns-in-Err-Gone-clause-passes : goal.returns-in-Err-Gone-clause-passes
returns-in-Err-Gone-clause-passes g c =
    let t : Table = table c.args.blocks.now in
    let free = was_uncommitted t c.in-Some.block c.in-Some.ensures.found.free in
    let erased = rw c.in-Err-Gone.field-0-is at c.in-Err-Gone.ensures in
    passes_erased c.in-Some.block _ _ t _ _ erased.unchanged free.1 erased.erases erased.newest
    (erased_cut c.in-Some.block _ _ t _ _ (λ honest. goes_next _ t c.in-Some.block c.requires.can_write c.requires.uncommitted.1.apart c.requires.closed c.in-Some.ensures.found)
    (noted_next _ t c.in-Some.block c.requires.can_write c.requires.uncommitted.1.apart c.in-Some.ensures.found) c.requires.closed erased.unchanged erased.erases erased.erases.ends.is)

pub returns-in-Ok-clause-costs : goal.returns-in-Ok-clause-costs
returns-in-Ok-clause-costs g c = let erase = erase_costs _ _ _ _ c.erase_and_open.ensures.erases in omega (arith, erase, c.erase_and_open.ensures.erases.lasts.failures)

pub returns-in-Err-Gone-clause-costs : goal.returns-in-Err-Gone-clause-costs
returns-in-Err-Gone-clause-costs g c = let erase = erase_costs _ _ _ _ c.erase_and_open.ensures.erases in omega (arith, erase, c.erase_and_open.ensures.erases.lasts.failures)

pub returns-in_ok-mark_block-in-Err-Failed-clause-costs : goal.returns-in_ok-mark_block-in-Err-Failed-clause-costs
returns-in_ok-mark_block-in-Err-Failed-clause-costs g c =
    let erased = rw c.in-Err-Failed.field-0-is at c.in-Err-Failed.ensures in
    omega (arith, erase_costs _ _ _ _ c.erase_and_open.ensures.erases, mark_costs _ _ _ _ c.mark_block.ensures.marks, erased.erases.ends.failures, c.mark_block.ensures.marks.lasts.failures)

pub returns-in_err-mark_block-in-Err-Failed-clause-costs : goal.returns-in_err-mark_block-in-Err-Failed-clause-costs
returns-in_err-mark_block-in-Err-Failed-clause-costs g c =
    let erased = rw c.in-Err-Failed.field-0-is at c.in-Err-Failed.ensures in
    let p = err_from_is_err_and c.from_residual.result c.from_residual.ensures.1 in
    rw p.1 (omega (arith, erase_costs _ _ _ _ c.erase_and_open.ensures.erases, mark_costs _ _ _ _ c.mark_block.ensures.marks, erased.erases.ends.failures, c.mark_block.ensures.marks.lasts.failures))

pub returns-in_err-mark_block-in-Err-Failed-clause-numbers : goal.returns-in_err-mark_block-in-Err-Failed-clause-numbers
returns-in_err-mark_block-in-Err-Failed-clause-numbers g c =
    let erased = c.erase_and_open.ensures in
    let marked = c.mark_block.ensures in
    hands_on _ _ _ (table c.args.blocks.now) (table c.erase_and_open.new.blocks) _ erased.erases.lasts marked.marks.lasts erased.numbers marked.numbers

pub returns-in_ok-mark_block-in-Err-Failed-clause-numbers : goal.returns-in_ok-mark_block-in-Err-Failed-clause-numbers
returns-in_ok-mark_block-in-Err-Failed-clause-numbers g c =
    let erased = c.erase_and_open.ensures in
    let marked = c.mark_block.ensures in
    hands_on _ _ _ (table c.args.blocks.now) (table c.erase_and_open.new.blocks) _ erased.erases.lasts marked.marks.lasts erased.numbers marked.numbers

pub returns-in-Ok-clause-turn : goal.returns-in-Ok-clause-turn
returns-in-Ok-clause-turn g c = opened_in_turn c.in-Some.block _ (table c.args.blocks.now) _ c.requires.can_write c.requires.uncommitted.1.apart c.requires.closed c.in-Some.ensures.found c.in-Ok.ensures.opens

pub returns-in_ok-mark_block-in-Err-Failed-clause-turn : goal.returns-in_ok-mark_block-in-Err-Failed-clause-turn
returns-in_ok-mark_block-in-Err-Failed-clause-turn g c =
    let t : Table = table c.args.blocks.now in
    let block : ℕ = c.in-Some.block in
    let erased = rw c.in-Err-Failed.field-0-is at c.in-Err-Failed.ensures in
    let notes = subst (λ (x : Table). NotesMark block (g.N.Nand.state c.mark_block.new.device).flash x (table c.mark_block.new.blocks)) erased.unchanged c.mark_block.ensures.notes in
    turns_marked block _ t _ notes c.in_ok-mark_block-in-Err-Failed.ensures.marks.bad

pub returns-in-Ok-clause-answers : goal.returns-in-Ok-clause-answers
returns-in-Ok-clause-answers g c =
    let same = same_bad_count (table c.args.blocks.now) _ (same_opened c.in-Some.block _ _ c.in-Ok.ensures.opens) in
    omega (arith, same, c.in-Ok.ensures.erases.ends.failures)

pub returns-in_ok-mark_block-in-Err-Failed-clause-answers : goal.returns-in_ok-mark_block-in-Err-Failed-clause-answers
returns-in_ok-mark_block-in-Err-Failed-clause-answers g c =
    let t : Table = table c.args.blocks.now in
    let block : ℕ = c.in-Some.block in
    let free = was_uncommitted t block c.in-Some.ensures.found.free in
    let erased = rw c.in-Err-Failed.field-0-is at c.in-Err-Failed.ensures in
    let notes = subst (λ (x : Table). NotesMark block (g.N.Nand.state c.mark_block.new.device).flash x (table c.mark_block.new.blocks)) erased.unchanged c.mark_block.ensures.notes in
    let done = c.in_ok-mark_block-in-Err-Failed.ensures in
    let more = one_more block _ t _ c.in-Some.ensures.found.within free.0 done.marks.bad notes in
    omega (arith, more, erased.erases.ends.failures, done.marks.ends.failures)

pub erase_and_open-requires-clause-block : goal.erase_and_open-requires-clause-block
erase_and_open-requires-clause-block g c =
    record {
      within = search rules;
      good = search rules;
      closed = search rules;
      first = first_taken _ (table c.args.blocks.now) _ c.in-Some.block c.requires.can_write c.requires.uncommitted.1.apart c.in-Some.ensures.found;
      seq = search rules;
    }

pub mark_block-requires-clause-first : goal.mark_block-requires-clause-first
mark_block-requires-clause-first g c =
    let erased = rw c.in-Err-Failed.field-0-is at c.in-Err-Failed.ensures in
    subst (MayLose c.in-Some.block) (sym erased.unchanged) (first_taken _ (table c.args.blocks.now) _ c.in-Some.block c.requires.can_write c.requires.uncommitted.1.apart c.in-Some.ensures.found)
