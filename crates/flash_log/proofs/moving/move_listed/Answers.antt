use Rattle.std.proofs.Common.{◌≡◌, ◌≢◌, ◌<◌, ◌≤◌, ℕ, ◌+◌, length, Bool, if◌then◌else◌, sym, ap, subst, ◌∙◌, arith}
use Rattle.std.proofs.lemmas.Result.{err_from_is_err_and}
use Rattle.nand_model.specs.Calls.{Device}
use Rattle.nand_model.specs.declared.geometry.Geometry.{Geometry}
use Rattle.block_state.specs.Table.{Table}
use Rattle.block_state.specs.TableOf.{table}
use Rattle.flash_log.specs.laws.FreeBlocks.{free_copied}
use Rattle.flash_log.specs.laws.Moves.{are_held, moves_out_none, consistent_committed}
use Rattle.flash_log.specs.laws.Steps.{step_committed}
use Rattle.flash_log.proofs.Moves.{none_noted, fills_anew, may_be_copied, same_bads, step_moved, moves_out, pays_moved, is_left, lies_in, lies_open, is_closed}
use Rattle.flash_log.proofs.moving.move_listed.Goals as goal

pub copy_listed-requires-clause-copies : goal.copy_listed-requires-clause-copies
copy_listed-requires-clause-copies g c = may_be_copied c.args.spare c.requires.listed.0 _ (table c.args.blocks.now) c.args.index.now c.args.copies.now c.requires.can.can_write c.requires.can.consistent c.requires.listed.1

pub report_copies-requires-clause-within : goal.report_copies-requires-clause-within
report_copies-requires-clause-within g c =
    let copied = c.in_ok-target.ensures in
    subst (λ (geometry : Geometry). c.in_ok-target.target.block < geometry.blocks) (sym copied.pages.keeps.geometry) copied.ends.0.within

pub report_copies-requires-clause-agree : goal.report_copies-requires-clause-agree
report_copies-requires-clause-agree g c =
    let copied = c.in_ok-target.ensures in
    let agree = c.requires.can.consistent.tables.counts in
    record { counts = λ b. copied.pages.keeps.committed b ∙ agree.counts b; within = λ b le. agree.within b (subst (λ (geometry : Geometry). geometry.blocks ≤ b) copied.pages.keeps.geometry le) }

pub report_copies-requires-clause-within_limit : goal.report_copies-requires-clause-within_limit
report_copies-requires-clause-within_limit g c =
    let copied = c.in_ok-target.ensures in
    subst (λ (geometry : Geometry). c.in_ok-target.target.first + length c.args.copies.now ≤ geometry.pages) (sym copied.pages.keeps.geometry) copied.ends.0.fits

-- the block of the copies had no committed page
unlike : (v w : ℕ) (t : Table) → 1 ≤ (t.entry v).committed → (t.entry w).committed ≡ 0 → v ≢ w
unlike v w t some none e = let same : (t.entry v).committed ≡ (t.entry w).committed = ap (λ b. (t.entry b).committed) e in omega (arith, same, some, none)

pub report_copies-requires-clause-listed : goal.report_copies-requires-clause-listed
report_copies-requires-clause-listed g c =
    let listed = c.requires.listed in
    (listed.0, listed.1.lists, unlike listed.0 c.in_ok-target.target.block (table c.args.blocks.now) listed.1.some c.in_ok-target.ensures.ends.0.uncommitted)

pub returns-in_err-target-clause-step : goal.returns-in_err-target-clause-step
returns-in_err-target-clause-step g c =
    let d0 : Device = g.N.Nand.state c.args.device.now in
    let d1 : Device = g.N.Nand.state c.copy_listed.new.device in
    let t0 : Table = table c.args.blocks.now in
    let t1 : Table = table c.copy_listed.new.blocks in
    let x = c.args.index.now in
    let held = are_held t0 x (c.the_counts_are_of_the_keys.ensures.none x) c.requires.can.consistent.tables.counts in
    let copied = c.in_err-target.ensures in
    let stays_consistent = consistent_committed c.args.spare d0 d1 t0 t1 x held copied.pages.keeps c.requires.can.consistent copied.ends.0 copied.pages.newest in
    let free = free_copied c.args.spare d0 d1 t0 t1 x held copied.pages.keeps c.requires.can.consistent stays_consistent.tables c.requires.listed.0 c.args.copies.now c.requires.listed.1 copied.pages.apart in
    step_committed c.args.spare d0 d1 t0 t1 x held copied.pages.keeps c.requires.can.consistent stays_consistent copied.pages.stored copied.pages.found free

pub returns-in_err-target-clause-out : goal.returns-in_err-target-clause-out
returns-in_err-target-clause-out g c = λ v listed. moves_out_none v c.args.index.now

pub returns-in_err-target-clause-pays : goal.returns-in_err-target-clause-pays
returns-in_err-target-clause-pays g c =
    let p = err_from_is_err_and c.from_residual.result c.from_residual.ensures.1 in
    let copied = c.in_err-target.ensures in
    rw p.1 (record { costs = copied.pays.costs; marks = copied.pays.marks; answers = tt; reads = copied.pays.reads })

pub returns-in_err-target-clause-ends : goal.returns-in_err-target-clause-ends
returns-in_err-target-clause-ends g c = λ v listed.
    let p = err_from_is_err_and c.from_residual.result c.from_residual.ensures.1 in
    rw (p.1, p.2) (c.in_err-target.ensures.ends.1)

pub returns-then-suspect : goal.returns-then-suspect
returns-then-suspect g c =
    let d0 : Device = g.N.Nand.state c.args.device.now in
    let d1 : Device = g.N.Nand.state c.copy_listed.new.device in
    let t0 : Table = table c.args.blocks.now in
    let t1 : Table = table c.copy_listed.new.blocks in
    let t2 : Table = table c.report_copies.new.blocks in
    let x = c.args.index.now in
    let y = c.report_copies.new.index in
    let held = are_held t0 x (c.the_counts_are_of_the_keys.ensures.none x) c.requires.can.consistent.tables.counts in
    let copied = c.in_ok-target.ensures in
    let target = c.in_ok-target.target in
    let v : ℕ = c.requires.listed.0 in
    let listed = c.requires.listed.1 in
    let reported = c.report_copies.ensures.reports v listed.lists (unlike v target.block t0 listed.some copied.ends.0.uncommitted) in
    let agree = c.report_copies.ensures.agree in
    record {
      step = step_moved c.args.spare v target d0 d1 t0 t1 t2 x y c.args.copies.now listed held copied.pages.keeps c.requires.can.consistent copied.ends.0 reported agree copied.pages.newest (are_held t2 y (c.the_counts_are_of_the_keys.ensures.none y) agree) copied.ends.1 copied.pages.stored copied.pages.found;
      out = λ v listed.
          let reported = c.report_copies.ensures.reports v listed.lists (unlike v target.block t0 listed.some copied.ends.0.uncommitted) in
          moves_out c.args.spare v target d0 d1 t0 t1 t2 x y c.args.copies.now listed held copied.pages.keeps c.requires.can.consistent copied.ends.0 reported agree copied.pages.newest;
      pays = pays_moved c.args.spare v target d0 d1 t0 t1 t2 x y c.args.copies.now listed held copied.pages.keeps c.requires.can.consistent copied.ends.0 reported agree copied.pages.newest 1 _ (ap (λ (s : Bool). if s then 1 else 0) c.if-suspect.true) copied.pays;
      within_limit = let same = same_bads c.args.spare v target d0 d1 t0 t1 t2 x y c.args.copies.now listed held copied.pages.keeps c.requires.can.consistent copied.ends.0 reported agree copied.pages.newest in omega (arith, same, copied.within_limit);
      anew = fills_anew c.args.spare v target d0 d1 t0 t1 t2 x y c.args.copies.now listed held copied.pages.keeps c.requires.can.consistent copied.ends.0 reported agree copied.pages.newest;
      ends = λ v listed.
          let reported = c.report_copies.ensures.reports v listed.lists (unlike v target.block t0 listed.some copied.ends.0.uncommitted) in (
            is_left c.args.spare v target d0 d1 t0 t1 t2 x y c.args.copies.now listed held copied.pages.keeps c.requires.can.consistent copied.ends.0 reported agree copied.pages.newest,
            (lies_in c.args.spare v target d0 d1 t0 t1 t2 x y c.args.copies.now listed held copied.pages.keeps c.requires.can.consistent copied.ends.0 reported agree copied.pages.newest, is_closed c.args.spare v target d0 d1 t0 t1 t2 x y c.args.copies.now listed held copied.pages.keeps c.requires.can.consistent copied.ends.0 reported agree copied.pages.newest c.if-suspect.true),
            copied.ends.1,
            none_noted c.args.spare v target d0 d1 t0 t1 t2 x y c.args.copies.now listed held copied.pages.keeps c.requires.can.consistent copied.ends.0 reported agree copied.pages.newest,
          );
    }

pub returns : goal.returns
returns g c =
    let d0 : Device = g.N.Nand.state c.args.device.now in
    let d1 : Device = g.N.Nand.state c.copy_listed.new.device in
    let t0 : Table = table c.args.blocks.now in
    let t1 : Table = table c.copy_listed.new.blocks in
    let t2 : Table = table c.report_copies.new.blocks in
    let x = c.args.index.now in
    let y = c.report_copies.new.index in
    let held = are_held t0 x (c.the_counts_are_of_the_keys.ensures.none x) c.requires.can.consistent.tables.counts in
    let copied = c.in_ok-target.ensures in
    let target = c.in_ok-target.target in
    let v : ℕ = c.requires.listed.0 in
    let listed = c.requires.listed.1 in
    let reported = c.report_copies.ensures.reports v listed.lists (unlike v target.block t0 listed.some copied.ends.0.uncommitted) in
    let agree = c.report_copies.ensures.agree in
    record {
      step = step_moved c.args.spare v target d0 d1 t0 t1 t2 x y c.args.copies.now listed held copied.pages.keeps c.requires.can.consistent copied.ends.0 reported agree copied.pages.newest (are_held t2 y (c.the_counts_are_of_the_keys.ensures.none y) agree) copied.ends.1 copied.pages.stored copied.pages.found;
      out = λ v listed.
          let reported = c.report_copies.ensures.reports v listed.lists (unlike v target.block t0 listed.some copied.ends.0.uncommitted) in
          moves_out c.args.spare v target d0 d1 t0 t1 t2 x y c.args.copies.now listed held copied.pages.keeps c.requires.can.consistent copied.ends.0 reported agree copied.pages.newest;
      pays = pays_moved c.args.spare v target d0 d1 t0 t1 t2 x y c.args.copies.now listed held copied.pages.keeps c.requires.can.consistent copied.ends.0 reported agree copied.pages.newest 0 _ (ap (λ (s : Bool). if s then 1 else 0) c.if-suspect.false) copied.pays;
      within_limit = let same = same_bads c.args.spare v target d0 d1 t0 t1 t2 x y c.args.copies.now listed held copied.pages.keeps c.requires.can.consistent copied.ends.0 reported agree copied.pages.newest in omega (arith, same, copied.within_limit);
      anew = fills_anew c.args.spare v target d0 d1 t0 t1 t2 x y c.args.copies.now listed held copied.pages.keeps c.requires.can.consistent copied.ends.0 reported agree copied.pages.newest;
      ends = λ v listed.
          let reported = c.report_copies.ensures.reports v listed.lists (unlike v target.block t0 listed.some copied.ends.0.uncommitted) in (
            is_left c.args.spare v target d0 d1 t0 t1 t2 x y c.args.copies.now listed held copied.pages.keeps c.requires.can.consistent copied.ends.0 reported agree copied.pages.newest,
            (target.block, lies_open c.args.spare v target d0 d1 t0 t1 t2 x y c.args.copies.now listed held copied.pages.keeps c.requires.can.consistent copied.ends.0 reported agree copied.pages.newest copied.first c.if-suspect.false),
            copied.ends.1,
            none_noted c.args.spare v target d0 d1 t0 t1 t2 x y c.args.copies.now listed held copied.pages.keeps c.requires.can.consistent copied.ends.0 reported agree copied.pages.newest,
          );
    }
