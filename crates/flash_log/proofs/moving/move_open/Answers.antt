use Rattle.std.proofs.Common.{◌≡◌, ◌≢◌, ◌<◌, ◌≤◌, ℕ, ◌+◌, length, Bool, if◌then◌else◌, sym, ap, subst, ◌∙◌, arith, inr}
use Rattle.std.proofs.lemmas.Result.{err_from_is_err_and}
use Rattle.nand_model.specs.Calls.{Device}
use Rattle.nand_model.specs.declared.geometry.Geometry.{Geometry}
use Rattle.block_state.specs.Table.{Table}
use Rattle.block_state.specs.TableOf.{table}
use Rattle.flash_log.specs.SummaryMaking.{HasClear}
use Rattle.flash_log.specs.laws.FreeBlocks.{free_copied}
use Rattle.flash_log.specs.laws.Moves.{are_held, consistent_committed}
use Rattle.flash_log.specs.laws.Steps.{step_committed}
use Rattle.flash_log.proofs.IndexStays.{holds_counts}
use Rattle.flash_log.proofs.Moves.{none_noted, may_be_copied, same_bads, step_moved, moves_out, pays_opened, is_left, lies_behind, lies_in}
use Rattle.flash_log.proofs.moving.move_open.Goals as goal

-- the block of the copies had no committed page
unlike : (v w : ℕ) (t : Table) → 1 ≤ (t.entry v).committed → (t.entry w).committed ≡ 0 → v ≢ w
unlike v w t some none e = let same : (t.entry v).committed ≡ (t.entry w).committed = ap (λ b. (t.entry b).committed) e in omega (arith, same, some, none)

pub write_copies-requires-clause-copies : goal.write_copies-requires-clause-copies
write_copies-requires-clause-copies g c =
    may_be_copied c.args.spare c.requires.listed.0 _ (table c.args.blocks.now) c.args.index.now c.args.copies.now c.requires.can.can_write c.requires.can.consistent c.requires.listed.1

pub returns-in_err-target-clause-step : goal.returns-in_err-target-clause-step
returns-in_err-target-clause-step g c =
    let d0 : Device = g.N.Nand.state c.args.device.now in
    let d1 : Device = g.N.Nand.state c.write_copies.new.device in
    let t0 : Table = table c.args.blocks.now in
    let t1 : Table = table c.write_copies.new.blocks in
    let x = c.args.index.now in
    let can = c.requires.can in
    let held = are_held t0 x (c.the_counts_are_of_the_keys.ensures.none x) can.consistent.tables.counts in
    let copied = c.in_err-target.ensures in
    let stays_consistent = consistent_committed c.args.spare d0 d1 t0 t1 x held copied.pages.keeps can.consistent (copied.ends c.args.spare).0 copied.pages.newest in
    let free = free_copied c.args.spare d0 d1 t0 t1 x held copied.pages.keeps can.consistent stays_consistent.tables c.requires.listed.0 c.args.copies.now c.requires.listed.1 copied.pages.apart in
    step_committed c.args.spare d0 d1 t0 t1 x held copied.pages.keeps can.consistent stays_consistent copied.pages.stored copied.pages.found free

pub returns-in_err-target-clause-ends : goal.returns-in_err-target-clause-ends
returns-in_err-target-clause-ends g c =
    let p = err_from_is_err_and c.from_residual.result c.from_residual.ensures.1 in
    λ v listed count clear. rw (p.1, p.2) ((c.in_err-target.ensures.ends c.args.spare).1)

pub report_copies-requires-clause-within : goal.report_copies-requires-clause-within
report_copies-requires-clause-within g c =
    let d0 : Device = g.N.Nand.state c.args.device.now in
    let d1 : Device = g.N.Nand.state c.write_copies.new.device in
    let t0 : Table = table c.args.blocks.now in
    let t1 : Table = table c.write_copies.new.blocks in
    let x = c.args.index.now in
    let can = c.requires.can in
    let held = are_held t0 x (c.the_counts_are_of_the_keys.ensures.none x) can.consistent.tables.counts in
    let copied = rw c.in-Into.is at c.in_ok-target.ensures in
    let target = c.in-Into.target in
    let v : ℕ = c.requires.listed.0 in
    let listed = c.requires.listed.1 in
    let ended = copied.ends c.args.spare in
    subst (λ (x : Geometry). target.block < x.blocks) (sym copied.pages.keeps.geometry) ended.0.within

pub report_copies-requires-clause-agree : goal.report_copies-requires-clause-agree
report_copies-requires-clause-agree g c =
    let d0 : Device = g.N.Nand.state c.args.device.now in
    let d1 : Device = g.N.Nand.state c.write_copies.new.device in
    let t0 : Table = table c.args.blocks.now in
    let t1 : Table = table c.write_copies.new.blocks in
    let x = c.args.index.now in
    let can = c.requires.can in
    let held = are_held t0 x (c.the_counts_are_of_the_keys.ensures.none x) can.consistent.tables.counts in
    let copied = rw c.in-Into.is at c.in_ok-target.ensures in
    let target = c.in-Into.target in
    let v : ℕ = c.requires.listed.0 in
    let listed = c.requires.listed.1 in
    let ended = copied.ends c.args.spare in
    let agree = can.consistent.tables.counts in
    record { counts = λ b. copied.pages.keeps.committed b ∙ agree.counts b; within = λ b le. agree.within b (subst (λ (x : Geometry). x.blocks ≤ b) copied.pages.keeps.geometry le) }

pub report_copies-requires-clause-within_limit : goal.report_copies-requires-clause-within_limit
report_copies-requires-clause-within_limit g c =
    let d0 : Device = g.N.Nand.state c.args.device.now in
    let d1 : Device = g.N.Nand.state c.write_copies.new.device in
    let t0 : Table = table c.args.blocks.now in
    let t1 : Table = table c.write_copies.new.blocks in
    let x = c.args.index.now in
    let can = c.requires.can in
    let held = are_held t0 x (c.the_counts_are_of_the_keys.ensures.none x) can.consistent.tables.counts in
    let copied = rw c.in-Into.is at c.in_ok-target.ensures in
    let target = c.in-Into.target in
    let v : ℕ = c.requires.listed.0 in
    let listed = c.requires.listed.1 in
    let ended = copied.ends c.args.spare in
    subst (λ (x : Geometry). target.first + length c.args.copies.now ≤ x.pages) (sym copied.pages.keeps.geometry) ended.0.fits

pub report_copies-requires-clause-listed : goal.report_copies-requires-clause-listed
report_copies-requires-clause-listed g c =
    let d0 : Device = g.N.Nand.state c.args.device.now in
    let d1 : Device = g.N.Nand.state c.write_copies.new.device in
    let t0 : Table = table c.args.blocks.now in
    let t1 : Table = table c.write_copies.new.blocks in
    let x = c.args.index.now in
    let can = c.requires.can in
    let held = are_held t0 x (c.the_counts_are_of_the_keys.ensures.none x) can.consistent.tables.counts in
    let copied = rw c.in-Into.is at c.in_ok-target.ensures in
    let target = c.in-Into.target in
    let v : ℕ = c.requires.listed.0 in
    let listed = c.requires.listed.1 in
    let ended = copied.ends c.args.spare in
    (v, listed.lists, unlike v target.block t0 listed.some ended.0.uncommitted)

pub returns-then-target-clause-step : goal.returns-then-target-clause-step
returns-then-target-clause-step g c =
    let d0 : Device = g.N.Nand.state c.args.device.now in
    let d1 : Device = g.N.Nand.state c.write_copies.new.device in
    let t0 : Table = table c.args.blocks.now in
    let t1 : Table = table c.write_copies.new.blocks in
    let x = c.args.index.now in
    let can = c.requires.can in
    let held = are_held t0 x (c.the_counts_are_of_the_keys.ensures.none x) can.consistent.tables.counts in
    let copied = rw c.in-Into.is at c.in_ok-target.ensures in
    let target = c.in-Into.target in
    let v : ℕ = c.requires.listed.0 in
    let listed = c.requires.listed.1 in
    let ended = copied.ends c.args.spare in
    let t2 : Table = table c.report_copies.new.blocks in
    let y = c.report_copies.new.index in
    let reported = c.report_copies.ensures.reports v listed.lists (unlike v target.block t0 listed.some ended.0.uncommitted) in
    let agree = c.report_copies.ensures.agree in
    step_moved c.args.spare v target d0 d1 t0 t1 t2 x y c.args.copies.now listed held copied.pages.keeps can.consistent ended.0 reported agree copied.pages.newest (are_held t2 y (c.the_counts_are_of_the_keys.ensures.none y) agree) ended.1 copied.pages.stored copied.pages.found

pub returns-then-target-clause-out : goal.returns-then-target-clause-out
returns-then-target-clause-out g c =
    let d0 : Device = g.N.Nand.state c.args.device.now in
    let d1 : Device = g.N.Nand.state c.write_copies.new.device in
    let t0 : Table = table c.args.blocks.now in
    let t1 : Table = table c.write_copies.new.blocks in
    let x = c.args.index.now in
    let can = c.requires.can in
    let held = are_held t0 x (c.the_counts_are_of_the_keys.ensures.none x) can.consistent.tables.counts in
    let copied = rw c.in-Into.is at c.in_ok-target.ensures in
    let target = c.in-Into.target in
    let v : ℕ = c.requires.listed.0 in
    let listed = c.requires.listed.1 in
    let ended = copied.ends c.args.spare in
    let t2 : Table = table c.report_copies.new.blocks in
    let y = c.report_copies.new.index in
    let agree = c.report_copies.ensures.agree in
    λ v listed.
    let reported = c.report_copies.ensures.reports v listed.lists (unlike v target.block t0 listed.some ended.0.uncommitted) in
    moves_out c.args.spare v target d0 d1 t0 t1 t2 x y c.args.copies.now listed held copied.pages.keeps can.consistent ended.0 reported agree copied.pages.newest

pub returns-then-target-clause-pays : goal.returns-then-target-clause-pays
returns-then-target-clause-pays g c =
    let d0 : Device = g.N.Nand.state c.args.device.now in
    let d1 : Device = g.N.Nand.state c.write_copies.new.device in
    let t0 : Table = table c.args.blocks.now in
    let t1 : Table = table c.write_copies.new.blocks in
    let x = c.args.index.now in
    let can = c.requires.can in
    let held = are_held t0 x (c.the_counts_are_of_the_keys.ensures.none x) can.consistent.tables.counts in
    let copied = rw c.in-Into.is at c.in_ok-target.ensures in
    let target = c.in-Into.target in
    let v : ℕ = c.requires.listed.0 in
    let listed = c.requires.listed.1 in
    let ended = copied.ends c.args.spare in
    let t2 : Table = table c.report_copies.new.blocks in
    let y = c.report_copies.new.index in
    let reported = c.report_copies.ensures.reports v listed.lists (unlike v target.block t0 listed.some ended.0.uncommitted) in
    let agree = c.report_copies.ensures.agree in
    pays_opened c.args.spare v target d0 d1 t0 t1 t2 x y c.args.copies.now listed held copied.pages.keeps can.consistent ended.0 reported agree copied.pages.newest 1 _ (ap (λ (s : Bool). if s then 1 else 0) c.if-target.true) copied.pays

pub returns-then-target-clause-within_limit : goal.returns-then-target-clause-within_limit
returns-then-target-clause-within_limit g c =
    let d0 : Device = g.N.Nand.state c.args.device.now in
    let d1 : Device = g.N.Nand.state c.write_copies.new.device in
    let t0 : Table = table c.args.blocks.now in
    let t1 : Table = table c.write_copies.new.blocks in
    let x = c.args.index.now in
    let can = c.requires.can in
    let held = are_held t0 x (c.the_counts_are_of_the_keys.ensures.none x) can.consistent.tables.counts in
    let copied = rw c.in-Into.is at c.in_ok-target.ensures in
    let target = c.in-Into.target in
    let v : ℕ = c.requires.listed.0 in
    let listed = c.requires.listed.1 in
    let ended = copied.ends c.args.spare in
    let t2 : Table = table c.report_copies.new.blocks in
    let y = c.report_copies.new.index in
    let reported = c.report_copies.ensures.reports v listed.lists (unlike v target.block t0 listed.some ended.0.uncommitted) in
    let agree = c.report_copies.ensures.agree in
    let same = same_bads c.args.spare v target d0 d1 t0 t1 t2 x y c.args.copies.now listed held copied.pages.keeps can.consistent ended.0 reported agree copied.pages.newest in
    let within_limit = copied.within_limit c.args.spare can.within_limit in
    omega (arith, same, within_limit)

pub returns-then-target-clause-ends : goal.returns-then-target-clause-ends
returns-then-target-clause-ends g c =
    let d0 : Device = g.N.Nand.state c.args.device.now in
    let d1 : Device = g.N.Nand.state c.write_copies.new.device in
    let t0 : Table = table c.args.blocks.now in
    let t1 : Table = table c.write_copies.new.blocks in
    let x = c.args.index.now in
    let can = c.requires.can in
    let held = are_held t0 x (c.the_counts_are_of_the_keys.ensures.none x) can.consistent.tables.counts in
    let copied = rw c.in-Into.is at c.in_ok-target.ensures in
    let target = c.in-Into.target in
    let v : ℕ = c.requires.listed.0 in
    let listed = c.requires.listed.1 in
    let ended = copied.ends c.args.spare in
    let t2 : Table = table c.report_copies.new.blocks in
    let y = c.report_copies.new.index in
    let agree = c.report_copies.ensures.agree in
    λ v listed count clear.
    let reported = c.report_copies.ensures.reports v listed.lists (unlike v target.block t0 listed.some ended.0.uncommitted) in (
      is_left c.args.spare v target d0 d1 t0 t1 t2 x y c.args.copies.now listed held copied.pages.keeps can.consistent ended.0 reported agree copied.pages.newest,
      lies_in c.args.spare v target d0 d1 t0 t1 t2 x y c.args.copies.now listed held copied.pages.keeps can.consistent ended.0 reported agree copied.pages.newest,
      none_noted c.args.spare v target d0 d1 t0 t1 t2 x y c.args.copies.now listed held copied.pages.keeps can.consistent ended.0 reported agree copied.pages.newest,
      ended.1,
    )

pub returns-else-target-clause-step : goal.returns-else-target-clause-step
returns-else-target-clause-step g c =
    let d0 : Device = g.N.Nand.state c.args.device.now in
    let d1 : Device = g.N.Nand.state c.write_copies.new.device in
    let t0 : Table = table c.args.blocks.now in
    let t1 : Table = table c.write_copies.new.blocks in
    let x = c.args.index.now in
    let can = c.requires.can in
    let held = are_held t0 x (c.the_counts_are_of_the_keys.ensures.none x) can.consistent.tables.counts in
    let copied = rw c.in-Into.is at c.in_ok-target.ensures in
    let target = c.in-Into.target in
    let v : ℕ = c.requires.listed.0 in
    let listed = c.requires.listed.1 in
    let ended = copied.ends c.args.spare in
    let t2 : Table = table c.report_copies.new.blocks in
    let y = c.report_copies.new.index in
    let reported = c.report_copies.ensures.reports v listed.lists (unlike v target.block t0 listed.some ended.0.uncommitted) in
    let agree = c.report_copies.ensures.agree in
    step_moved c.args.spare v target d0 d1 t0 t1 t2 x y c.args.copies.now listed held copied.pages.keeps can.consistent ended.0 reported agree copied.pages.newest (are_held t2 y (c.the_counts_are_of_the_keys.ensures.none y) agree) ended.1 copied.pages.stored copied.pages.found

pub returns-else-target-clause-out : goal.returns-else-target-clause-out
returns-else-target-clause-out g c =
    let d0 : Device = g.N.Nand.state c.args.device.now in
    let d1 : Device = g.N.Nand.state c.write_copies.new.device in
    let t0 : Table = table c.args.blocks.now in
    let t1 : Table = table c.write_copies.new.blocks in
    let x = c.args.index.now in
    let can = c.requires.can in
    let held = are_held t0 x (c.the_counts_are_of_the_keys.ensures.none x) can.consistent.tables.counts in
    let copied = rw c.in-Into.is at c.in_ok-target.ensures in
    let target = c.in-Into.target in
    let v : ℕ = c.requires.listed.0 in
    let listed = c.requires.listed.1 in
    let ended = copied.ends c.args.spare in
    let t2 : Table = table c.report_copies.new.blocks in
    let y = c.report_copies.new.index in
    let agree = c.report_copies.ensures.agree in
    λ v listed.
    let reported = c.report_copies.ensures.reports v listed.lists (unlike v target.block t0 listed.some ended.0.uncommitted) in
    moves_out c.args.spare v target d0 d1 t0 t1 t2 x y c.args.copies.now listed held copied.pages.keeps can.consistent ended.0 reported agree copied.pages.newest

pub returns-else-target-clause-pays : goal.returns-else-target-clause-pays
returns-else-target-clause-pays g c =
    let d0 : Device = g.N.Nand.state c.args.device.now in
    let d1 : Device = g.N.Nand.state c.write_copies.new.device in
    let t0 : Table = table c.args.blocks.now in
    let t1 : Table = table c.write_copies.new.blocks in
    let x = c.args.index.now in
    let can = c.requires.can in
    let held = are_held t0 x (c.the_counts_are_of_the_keys.ensures.none x) can.consistent.tables.counts in
    let copied = rw c.in-Into.is at c.in_ok-target.ensures in
    let target = c.in-Into.target in
    let v : ℕ = c.requires.listed.0 in
    let listed = c.requires.listed.1 in
    let ended = copied.ends c.args.spare in
    let t2 : Table = table c.report_copies.new.blocks in
    let y = c.report_copies.new.index in
    let reported = c.report_copies.ensures.reports v listed.lists (unlike v target.block t0 listed.some ended.0.uncommitted) in
    let agree = c.report_copies.ensures.agree in
    pays_opened c.args.spare v target d0 d1 t0 t1 t2 x y c.args.copies.now listed held copied.pages.keeps can.consistent ended.0 reported agree copied.pages.newest 0 _ (ap (λ (s : Bool). if s then 1 else 0) c.if-target.false) copied.pays

pub returns-else-target-clause-within_limit : goal.returns-else-target-clause-within_limit
returns-else-target-clause-within_limit g c =
    let d0 : Device = g.N.Nand.state c.args.device.now in
    let d1 : Device = g.N.Nand.state c.write_copies.new.device in
    let t0 : Table = table c.args.blocks.now in
    let t1 : Table = table c.write_copies.new.blocks in
    let x = c.args.index.now in
    let can = c.requires.can in
    let held = are_held t0 x (c.the_counts_are_of_the_keys.ensures.none x) can.consistent.tables.counts in
    let copied = rw c.in-Into.is at c.in_ok-target.ensures in
    let target = c.in-Into.target in
    let v : ℕ = c.requires.listed.0 in
    let listed = c.requires.listed.1 in
    let ended = copied.ends c.args.spare in
    let t2 : Table = table c.report_copies.new.blocks in
    let y = c.report_copies.new.index in
    let reported = c.report_copies.ensures.reports v listed.lists (unlike v target.block t0 listed.some ended.0.uncommitted) in
    let agree = c.report_copies.ensures.agree in
    let same = same_bads c.args.spare v target d0 d1 t0 t1 t2 x y c.args.copies.now listed held copied.pages.keeps can.consistent ended.0 reported agree copied.pages.newest in
    let within_limit = copied.within_limit c.args.spare can.within_limit in
    omega (arith, same, within_limit)

pub returns-else-target-clause-ends : goal.returns-else-target-clause-ends
returns-else-target-clause-ends g c =
    let d0 : Device = g.N.Nand.state c.args.device.now in
    let d1 : Device = g.N.Nand.state c.write_copies.new.device in
    let t0 : Table = table c.args.blocks.now in
    let t1 : Table = table c.write_copies.new.blocks in
    let x = c.args.index.now in
    let can = c.requires.can in
    let held = are_held t0 x (c.the_counts_are_of_the_keys.ensures.none x) can.consistent.tables.counts in
    let copied = rw c.in-Into.is at c.in_ok-target.ensures in
    let target = c.in-Into.target in
    let v : ℕ = c.requires.listed.0 in
    let listed = c.requires.listed.1 in
    let ended = copied.ends c.args.spare in
    let t2 : Table = table c.report_copies.new.blocks in
    let y = c.report_copies.new.index in
    let agree = c.report_copies.ensures.agree in
    λ v listed count clear.
    let reported = c.report_copies.ensures.reports v listed.lists (unlike v target.block t0 listed.some ended.0.uncommitted) in (
      is_left c.args.spare v target d0 d1 t0 t1 t2 x y c.args.copies.now listed held copied.pages.keeps can.consistent ended.0 reported agree copied.pages.newest,
      lies_behind c.args.spare v target d0 d1 t0 t1 t2 x y c.args.copies.now listed held copied.pages.keeps can.consistent ended.0 reported agree copied.pages.newest count c.in-Some.block (sym c.open_block.ensures ∙ c.in-Some.is) copied.first (subst (λ n. HasClear (n + count) d0 t0) (sym listed.count) clear) c.if-target.false,
      none_noted c.args.spare v target d0 d1 t0 t1 t2 x y c.args.copies.now listed held copied.pages.keeps can.consistent ended.0 reported agree copied.pages.newest,
      ended.1,
    )

pub returns-then-bad_count-spare-clause-step : goal.returns-then-bad_count-spare-clause-step
returns-then-bad_count-spare-clause-step g c =
    let d0 : Device = g.N.Nand.state c.args.device.now in
    let d1 : Device = g.N.Nand.state c.write_copies.new.device in
    let t0 : Table = table c.args.blocks.now in
    let t1 : Table = table c.write_copies.new.blocks in
    let x = c.args.index.now in
    let can = c.requires.can in
    let held = are_held t0 x (c.the_counts_are_of_the_keys.ensures.none x) can.consistent.tables.counts in
    let copied = rw c.in-Marked.is at c.in_ok-target.ensures in
    let stays_consistent = consistent_committed c.args.spare d0 d1 t0 t1 x held copied.pages.keeps can.consistent (copied.ends c.args.spare).0 copied.pages.newest in
    let free = free_copied c.args.spare d0 d1 t0 t1 x held copied.pages.keeps can.consistent stays_consistent.tables c.requires.listed.0 c.args.copies.now c.requires.listed.1 copied.pages.apart in
    step_committed c.args.spare d0 d1 t0 t1 x held copied.pages.keeps can.consistent stays_consistent copied.pages.stored copied.pages.found free

pub returns-else-bad_count-spare-clause-step : goal.returns-else-bad_count-spare-clause-step
returns-else-bad_count-spare-clause-step g c =
    let d0 : Device = g.N.Nand.state c.args.device.now in
    let d1 : Device = g.N.Nand.state c.write_copies.new.device in
    let t0 : Table = table c.args.blocks.now in
    let t1 : Table = table c.write_copies.new.blocks in
    let x = c.args.index.now in
    let can = c.requires.can in
    let held = are_held t0 x (c.the_counts_are_of_the_keys.ensures.none x) can.consistent.tables.counts in
    let copied = rw c.in-Marked.is at c.in_ok-target.ensures in
    let stays_consistent = consistent_committed c.args.spare d0 d1 t0 t1 x held copied.pages.keeps can.consistent (copied.ends c.args.spare).0 copied.pages.newest in
    let free = free_copied c.args.spare d0 d1 t0 t1 x held copied.pages.keeps can.consistent stays_consistent.tables c.requires.listed.0 c.args.copies.now c.requires.listed.1 copied.pages.apart in
    step_committed c.args.spare d0 d1 t0 t1 x held copied.pages.keeps can.consistent stays_consistent copied.pages.stored copied.pages.found free

pub returns-then-bad_count-spare-clause-ends : goal.returns-then-bad_count-spare-clause-ends
returns-then-bad_count-spare-clause-ends g c =
    let d0 : Device = g.N.Nand.state c.args.device.now in
    let d1 : Device = g.N.Nand.state c.write_copies.new.device in
    let t0 : Table = table c.args.blocks.now in
    let t1 : Table = table c.write_copies.new.blocks in
    let x = c.args.index.now in
    let can = c.requires.can in
    let held = are_held t0 x (c.the_counts_are_of_the_keys.ensures.none x) can.consistent.tables.counts in
    let copied = rw c.in-Marked.is at c.in_ok-target.ensures in
    λ v listed count clear. inr (inr (let more = c.if-bad_count-spare.true in let bad = c.bad_count.ensures in omega (arith, more, bad), (copied.ends c.args.spare).2))

pub returns-else-bad_count-spare-clause-ends : goal.returns-else-bad_count-spare-clause-ends
returns-else-bad_count-spare-clause-ends g c =
    let d0 : Device = g.N.Nand.state c.args.device.now in
    let d1 : Device = g.N.Nand.state c.write_copies.new.device in
    let t0 : Table = table c.args.blocks.now in
    let t1 : Table = table c.write_copies.new.blocks in
    let x = c.args.index.now in
    let can = c.requires.can in
    let held = are_held t0 x (c.the_counts_are_of_the_keys.ensures.none x) can.consistent.tables.counts in
    let copied = rw c.in-Marked.is at c.in_ok-target.ensures in
    let keeps = copied.pages.keeps in
    λ v listed count clear. ((copied.ends c.args.spare).1, holds_counts t0 t1 keeps.committed keeps.marked keeps.uncommitted, (copied.ends c.args.spare).2)
