use Rattle.std.proofs.Common.{◌≡◌, ◌+◌, ◌∙◌, ap, Ok, Err, refl, sym, subst, length, arith, inl, rules}
use Rattle.std.proofs.lemmas.Bool.{false≢true}
use Rattle.nand_model.specs.Calls.{Device}
use Rattle.block_state.specs.Committed.{bad_count}
use Rattle.block_state.specs.laws.Committed.{same_bad_count}
use Rattle.block_state.specs.Table.{Table}
use Rattle.block_state.specs.TableOf.{table}
use Rattle.transactions.specs.Checking.{log_of}
use Rattle.transactions.specs.Groups.{closed}
use Rattle.transactions.specs.Marking.{NotesMark}
use Rattle.transactions.specs.laws.Ready.{none_waits}
use Rattle.flash_tree.specs.laws.Truth.{none_after}
use Rattle.transactions.specs.declared.group.GroupFault.TheVariants as groups
use Rattle.flash_log.proofs.Free.{one_more, mark_costs, mark_fails_not}
use Rattle.flash_log.specs.laws.Keeping.{same_ends}
use Rattle.flash_log.proofs.CommittedPages.{has_copies}
use Rattle.flash_log.proofs.Writing.{begun_still, copies_written, open_after, passes_failed, pages_failed, pages_written, changes_marked, pays_cut, pays_ended, pays_marked, pays_written, reads_marked}
use Rattle.flash_log.proofs.copying.write_copies.Goals as goal

pub write_group-requires-clause-has : goal.write_group-requires-clause-has
write_group-requires-clause-has g c = λ honest i lt. has_copies c.args.copies.now _ (c.requires.copies.newest honest c.requires.clear.power) i

pub write_group-requires-clause-ordinary : goal.write_group-requires-clause-ordinary
write_group-requires-clause-ordinary g c = c.requires.copies.ordinary

pub mark_block-requires-clause-first : goal.mark_block-requires-clause-first
mark_block-requires-clause-first g c =
    let none = none_waits (g.N.Nand.state c.args.device.now) (table c.args.blocks.now) c.args.block c.requires.can_write c.requires.clear.open_block in
    inl (none_after _ _ _ _ c.write_group.ensures.numbers.truth none)

pub returns-in-Ok-clause-ends : goal.returns-in-Ok-clause-ends
returns-in-Ok-clause-ends g c = λ spare. (
  record {
    within = search rules;
    good = search rules;
    uncommitted = search rules;
    fits = let wrote = c.in-Ok.ensures in let reported = wrote.group.placed c.args.block c.requires.clear.open_block in let first = reported.first in omega (arith, first, c.requires.fits);
    begun =
        let wrote = c.in-Ok.ensures in
        let reported = wrote.group.placed c.args.block c.requires.clear.open_block in
        let first = reported.first in
        let begun = begun_still (length c.args.copies.now) c.in-Ok.placed.block (table c.args.blocks.now) (table c.write_group.new.blocks) (Ok c.in-Ok.placed) wrote.group.table in
        let here : ((table c.args.blocks.now).entry c.in-Ok.placed.block).next ≡ ((table c.args.blocks.now).entry c.args.block).next = ap (λ k. ((table c.args.blocks.now).entry k).next) reported.block in
        omega (arith, first, begun, here);
    open_block =
        let wrote = c.in-Ok.ensures in
        let reported = wrote.group.placed c.args.block c.requires.clear.open_block in
        open_after (length c.args.copies.now) c.args.block c.in-Ok.placed (table c.args.blocks.now) (table c.write_group.new.blocks) c.requires.clear.open_block reported wrote.group.table;
    checkpoint = none_after _ _ (table c.args.blocks.now).checkpoint _ c.write_group.ensures.numbers.truth (none_waits _ (table c.args.blocks.now) c.args.block c.requires.can_write c.requires.clear.open_block);
  },
  search rules,
)

pub returns-in-Ok-clause-within_limit : goal.returns-in-Ok-clause-within_limit
returns-in-Ok-clause-within_limit g c = λ spare within_limit.
    let wrote = c.in-Ok.ensures in
    let same : bad_count (table c.write_group.new.blocks) ≡ bad_count (table c.args.blocks.now) = same_bad_count _ _ (same_ends (length c.args.copies.now) _ _ (Ok c.in-Ok.placed) wrote.group.table) in
    omega (arith, same, within_limit)

pub returns-in-Ok-mark_block-clause-ends : goal.returns-in-Ok-mark_block-clause-ends
returns-in-Ok-mark_block-clause-ends g c = λ spare.
    let t : Table = table c.args.blocks.now in
    let wrote = rw c.in-Err-Failed.field-0-is at c.in-Err-Failed.ensures in
    let marked = c.mark_block.ensures in
    let notes = subst (λ (x : Table). NotesMark c.args.block (g.N.Nand.state c.mark_block.new.device).flash x (table c.mark_block.new.blocks)) wrote.group.table marked.notes in
    let marks = c.in-Ok-mark_block.ensures.marks in
    let more : bad_count (table c.mark_block.new.blocks) ≡ bad_count t + 1 = one_more c.args.block _ (closed t) _ c.requires.clear.within c.requires.clear.good marks.bad notes in
    (notes.open_block, omega (arith, more), marks.ends.is)

pub returns-in-Ok-clause-pages : goal.returns-in-Ok-clause-pages
returns-in-Ok-clause-pages g c =
    let d0 : Device = g.N.Nand.state c.args.device.now in
    let d1 : Device = g.N.Nand.state c.write_group.new.device in
    let t : Table = table c.args.blocks.now in
    let wrote = c.in-Ok.ensures in
    let reported = wrote.group.placed c.args.block c.requires.clear.open_block in
    pages_written c.args.copies.now c.args.block d0 d1 t (table c.write_group.new.blocks) c.requires.clear c.requires.copies c.requires.group wrote.lasts wrote.numbers (Ok c.in-Ok.placed) _
    c.requires.can_write wrote.can_write wrote.group.table wrote.group.stays.bad wrote.group.writes (λ honest. wrote.group.groups honest c.args.block c.requires.clear.open_block)
    (λ honest power. rw (reported.block, reported.first) (copies_written c.args.copies.now c.args.block d0 d1 t c.requires.clear c.requires.copies honest (wrote.group.writes honest).grows c.in-Ok.placed (wrote.group.groups honest c.args.block c.requires.clear.open_block)))

pub returns-in-Ok-clause-pays : goal.returns-in-Ok-clause-pays
returns-in-Ok-clause-pays g c =
    let wrote = c.in-Ok.ensures in
    let same : bad_count (table c.write_group.new.blocks) ≡ bad_count (table c.args.blocks.now) = same_bad_count _ _ (same_ends (length c.args.copies.now) _ _ (Ok c.in-Ok.placed) wrote.group.table) in
    pays_written (length c.args.copies.now) _ (log_of (g.N.Nand.state c.args.device.now) (table c.args.blocks.now)) (log_of (g.N.Nand.state c.write_group.new.device) (table c.write_group.new.blocks)) _
    refl same wrote.group.ends.0 wrote.group.ends.2 wrote.group.reads

pub returns-in-Err-Lost-clause-pages : goal.returns-in-Err-Lost-clause-pages
returns-in-Err-Lost-clause-pages g c =
    let wrote = rw c.in-Err-Lost.field-0-is at c.in-Err-Lost.ensures in
    pages_written c.args.copies.now c.args.block (g.N.Nand.state c.args.device.now) (g.N.Nand.state c.write_group.new.device) (table c.args.blocks.now) (table c.write_group.new.blocks)
    c.requires.clear c.requires.copies c.requires.group wrote.lasts wrote.numbers (Err groups.Lost) _
    c.requires.can_write wrote.can_write wrote.group.table wrote.group.stays.bad wrote.group.writes (λ honest. wrote.group.groups honest c.args.block c.requires.clear.open_block)
    (λ honest power. absurd (false≢true (sym wrote.group.ends.0 ∙ honest)))

pub returns-in-Err-Lost-clause-pays : goal.returns-in-Err-Lost-clause-pays
returns-in-Err-Lost-clause-pays g c =
    let wrote = rw c.in-Err-Lost.field-0-is at c.in-Err-Lost.ensures in
    pays_ended (length c.args.copies.now) (log_of (g.N.Nand.state c.args.device.now) (table c.args.blocks.now)) (log_of (g.N.Nand.state c.write_group.new.device) (table c.write_group.new.blocks)) _
    (same_bad_count (table c.args.blocks.now) (table c.write_group.new.blocks) (same_ends (length c.args.copies.now) (table c.args.blocks.now) (table c.write_group.new.blocks) (Err groups.Lost) wrote.group.table)) wrote.lasts wrote.group.ends.1 wrote.group.reads

pub returns-in-Err-Gone-clause-pages : goal.returns-in-Err-Gone-clause-pages
returns-in-Err-Gone-clause-pages g c =
    let wrote = rw c.in-Err-Gone.field-0-is at c.in-Err-Gone.ensures in
    pages_written c.args.copies.now c.args.block (g.N.Nand.state c.args.device.now) (g.N.Nand.state c.write_group.new.device) (table c.args.blocks.now) (table c.write_group.new.blocks)
    c.requires.clear c.requires.copies c.requires.group wrote.lasts wrote.numbers (Err groups.Gone) _
    c.requires.can_write wrote.can_write wrote.group.table wrote.group.stays.bad wrote.group.writes (λ honest. wrote.group.groups honest c.args.block c.requires.clear.open_block)
    (λ honest power. absurd (false≢true (sym power ∙ wrote.group.ends.0)))

pub returns-in-Err-Gone-clause-pays : goal.returns-in-Err-Gone-clause-pays
returns-in-Err-Gone-clause-pays g c =
    let wrote = rw c.in-Err-Gone.field-0-is at c.in-Err-Gone.ensures in
    pays_ended (length c.args.copies.now) (log_of (g.N.Nand.state c.args.device.now) (table c.args.blocks.now)) (log_of (g.N.Nand.state c.write_group.new.device) (table c.write_group.new.blocks)) _
    (same_bad_count (table c.args.blocks.now) (table c.write_group.new.blocks) (same_ends (length c.args.copies.now) (table c.args.blocks.now) (table c.write_group.new.blocks) (Err groups.Gone) wrote.group.table)) wrote.lasts wrote.group.ends.1 wrote.group.reads

pub returns-in-Err-clause-pages : goal.returns-in-Err-clause-pages
returns-in-Err-clause-pages g c =
    let d0 : Device = g.N.Nand.state c.args.device.now in
    let d1 : Device = g.N.Nand.state c.write_group.new.device in
    let d2 : Device = g.N.Nand.state c.mark_block.new.device in
    let t : Table = table c.args.blocks.now in
    let wrote = rw c.in-Err-Failed.field-0-is at c.in-Err-Failed.ensures in
    let marked = c.mark_block.ensures in
    let passes = passes_failed c.args.copies.now c.args.block d0 d1 d2 t (table c.write_group.new.blocks) (table c.mark_block.new.blocks) _ c.requires.clear c.requires.copies
    c.requires.can_write wrote.numbers wrote.lasts wrote.group.ends.0 wrote.group.writes (λ honest. wrote.group.groups honest c.args.block c.requires.clear.open_block) wrote.group.table marked.marks marked.newest marked.notes in
    pages_failed c.args.copies.now c.args.block d0 d1 t (table c.write_group.new.blocks) c.requires.clear c.requires.copies c.requires.group wrote.lasts wrote.numbers
    d2 (table c.mark_block.new.blocks) _ passes marked.marks.lasts marked.numbers marked.can_write (λ committed. committed)

pub returns-in-Err-clause-pays : goal.returns-in-Err-clause-pays
returns-in-Err-clause-pays g c =
    let d0 : Device = g.N.Nand.state c.args.device.now in
    let d1 : Device = g.N.Nand.state c.write_group.new.device in
    let d2 : Device = g.N.Nand.state c.mark_block.new.device in
    let t : Table = table c.args.blocks.now in
    let wrote = rw c.in-Err-Failed.field-0-is at c.in-Err-Failed.ensures in
    let marked = c.mark_block.ensures in
    let passes = passes_failed c.args.copies.now c.args.block d0 d1 d2 t (table c.write_group.new.blocks) (table c.mark_block.new.blocks) _ c.requires.clear c.requires.copies
    c.requires.can_write wrote.numbers wrote.lasts wrote.group.ends.0 wrote.group.writes (λ honest. wrote.group.groups honest c.args.block c.requires.clear.open_block) wrote.group.table marked.marks marked.newest marked.notes in
    let same = mark_fails_not c.args.block d1 d2 _ marked.marks in
    pays_cut (length c.args.copies.now) (log_of d0 t) (log_of d2 (table c.mark_block.new.blocks)) c.requires.copies.within_limit (same ∙ wrote.group.ends.0)
    (changes_marked (length c.args.copies.now) d0 d1 d2 (mark_costs c.args.block d1 d2 _ marked.marks) wrote.group.ends.3) _ passes.failures
    (reads_marked 1 d0 d1 d2 wrote.group.reads marked.marks.reads marked.marks.lasts.changes same)

pub returns-in-Ok-mark_block-clause-pages : goal.returns-in-Ok-mark_block-clause-pages
returns-in-Ok-mark_block-clause-pages g c =
    let d0 : Device = g.N.Nand.state c.args.device.now in
    let d1 : Device = g.N.Nand.state c.write_group.new.device in
    let d2 : Device = g.N.Nand.state c.mark_block.new.device in
    let t : Table = table c.args.blocks.now in
    let wrote = rw c.in-Err-Failed.field-0-is at c.in-Err-Failed.ensures in
    let marked = c.mark_block.ensures in
    let passes = passes_failed c.args.copies.now c.args.block d0 d1 d2 t (table c.write_group.new.blocks) (table c.mark_block.new.blocks) _ c.requires.clear c.requires.copies
    c.requires.can_write wrote.numbers wrote.lasts wrote.group.ends.0 wrote.group.writes (λ honest. wrote.group.groups honest c.args.block c.requires.clear.open_block) wrote.group.table marked.marks marked.newest marked.notes in
    pages_failed c.args.copies.now c.args.block d0 d1 t (table c.write_group.new.blocks) c.requires.clear c.requires.copies c.requires.group wrote.lasts wrote.numbers
    d2 (table c.mark_block.new.blocks) _ passes marked.marks.lasts marked.numbers marked.can_write (λ committed. committed)

pub returns-in-Ok-mark_block-clause-pays : goal.returns-in-Ok-mark_block-clause-pays
returns-in-Ok-mark_block-clause-pays g c =
    let d0 : Device = g.N.Nand.state c.args.device.now in
    let d1 : Device = g.N.Nand.state c.write_group.new.device in
    let d2 : Device = g.N.Nand.state c.mark_block.new.device in
    let t : Table = table c.args.blocks.now in
    let wrote = rw c.in-Err-Failed.field-0-is at c.in-Err-Failed.ensures in
    let marks = c.in-Ok-mark_block.ensures.marks in
    let notes = subst (λ (x : Table). NotesMark c.args.block d2.flash x (table c.mark_block.new.blocks)) wrote.group.table c.mark_block.ensures.notes in
    let more : bad_count (table c.mark_block.new.blocks) ≡ bad_count t + 1 = one_more c.args.block _ (closed t) _ c.requires.clear.within c.requires.clear.good marks.bad notes in
    pays_marked (length c.args.copies.now) (log_of d0 t) (log_of d2 (table c.mark_block.new.blocks)) c.requires.copies.within_limit (marks.ends.failures ∙ wrote.group.ends.0)
    (changes_marked (length c.args.copies.now) d0 d1 d2 (mark_costs c.args.block d1 d2 _ marks) wrote.group.ends.3) more
    (reads_marked 0 d0 d1 d2 wrote.group.reads marks.reads marks.lasts.changes marks.ends.failures)
