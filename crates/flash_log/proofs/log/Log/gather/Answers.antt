use Rattle.std.proofs.Common.{◌≡◌, ◌<◌, ◌≤◌, ℕ, ◌+◌, None, Some, Ok, sym, ap, subst, ◌∙◌, arith}
use Rattle.std.proofs.lemmas.Result.{err_from_is_err_and}
use Rattle.nand_model.specs.declared.geometry.Geometry.{Geometry}
use Rattle.block_state.specs.declared.blocks.BlockEntry.{BlockEntry}
use Rattle.block_state.specs.Committed.{bad_count}
use Rattle.block_state.specs.TableOf.{table}
use Rattle.transactions.specs.Checking.{log_of}
use Rattle.flash_log.specs.Gathering.{OpenEnds, PaysOpen}
use Rattle.flash_log.specs.Moving.{MovesOut}
use Rattle.flash_log.specs.Steps.{Step}
use Rattle.flash_log.specs.SummaryMaking.{HasClear, PaysNext}
use Rattle.flash_log.specs.declared.moving.Moved.TheVariants as places
use Rattle.flash_log.specs.laws.Keeping.{bad_rises}
use Rattle.flash_log.specs.laws.Steps.{step_none, step_on}
use Rattle.flash_log.proofs.Collected.{out_retired}
use Rattle.flash_log.proofs.Gathered.{gathered_again, gathered_behind, gathered_retired, pays_again, pays_short, pays_suspect, pays_trusted}
use Rattle.flash_log.proofs.log.Log.gather.Goals as goal

pub returns-then-next_group-ge-NUMBER_END-clause-step : goal.returns-then-next_group-ge-NUMBER_END-clause-step
returns-then-next_group-ge-NUMBER_END-clause-step g c =
    step_none c.args.self.now.spare (g.N.Nand.state c.args.self.now.device) (table c.args.self.now.blocks) c.args.self.now.index c.args.self.now.can_write c.args.self.now.consistent

pub move_behind-requires-clause-good : goal.move_behind-requires-clause-good
move_behind-requires-clause-good g c =
    c.in_ok-open_next.ensures.holds.good c.args.block c.requires.has_committed c.requires.good

pub returns-in_err-move_behind-clause-step : goal.returns-in_err-move_behind-clause-step
returns-in_err-move_behind-clause-step g c =
    let log = c.args.self.now in
    let mid = c.open_next.new.self in
    let end = c.move_behind.new.self in
    let a = log_of (g.N.Nand.state log.device) (table log.blocks) in
    let b = log_of (g.N.Nand.state mid.device) (table mid.blocks) in
    let e = log_of (g.N.Nand.state end.device) (table end.blocks) in
    let opened = c.in_ok-open_next.ensures in
    let moved = c.move_behind.ensures in
    let v : ℕ = c.args.block in
    let committed : c.entry-committed.result.committed ≡ (a.table.entry v).committed = ap (λ (x : BlockEntry). x.committed) c.entry-committed.ensures in
    let same : (b.table.entry v).committed ≡ (a.table.entry v).committed = opened.holds.committed v in
    let rises : bad_count b.table ≤ bad_count e.table = bad_rises b.table e.table moved.step.geometry moved.step.marks in
    let step = step_on log.spare a b e log.index mid.index end.index opened.step (subst (λ n. Step n b e mid.index end.index) opened.terms.spare moved.step) in
    let next = subst (λ n. PaysNext (n + c.args.count) a b (Ok (tt {0}))) committed opened.pays in
    let wrote = subst (λ n. PaysOpen n b e c.move_behind.result) same moved.pays in
    let clear = subst (λ n. HasClear (n + c.args.count) b.device b.table) (committed ∙ sym same) opened.ends.0 in
    let ended = moved.ends c.args.count clear in
    let within_limit = c.requires.fits in
    step

pub returns-in_err-move_behind-clause-pays : goal.returns-in_err-move_behind-clause-pays
returns-in_err-move_behind-clause-pays g c =
    let log = c.args.self.now in
    let mid = c.open_next.new.self in
    let end = c.move_behind.new.self in
    let a = log_of (g.N.Nand.state log.device) (table log.blocks) in
    let b = log_of (g.N.Nand.state mid.device) (table mid.blocks) in
    let e = log_of (g.N.Nand.state end.device) (table end.blocks) in
    let opened = c.in_ok-open_next.ensures in
    let moved = c.move_behind.ensures in
    let v : ℕ = c.args.block in
    let committed : c.entry-committed.result.committed ≡ (a.table.entry v).committed = ap (λ (x : BlockEntry). x.committed) c.entry-committed.ensures in
    let same : (b.table.entry v).committed ≡ (a.table.entry v).committed = opened.holds.committed v in
    let rises : bad_count b.table ≤ bad_count e.table = bad_rises b.table e.table moved.step.geometry moved.step.marks in
    let step = step_on log.spare a b e log.index mid.index end.index opened.step (subst (λ n. Step n b e mid.index end.index) opened.terms.spare moved.step) in
    let next = subst (λ n. PaysNext (n + c.args.count) a b (Ok (tt {0}))) committed opened.pays in
    let wrote = subst (λ n. PaysOpen n b e c.move_behind.result) same moved.pays in
    let clear = subst (λ n. HasClear (n + c.args.count) b.device b.table) (committed ∙ sym same) opened.ends.0 in
    let ended = moved.ends c.args.count clear in
    let within_limit = c.requires.fits in
    let p = err_from_is_err_and c.from_residual-in_err-move_behind.result c.from_residual-in_err-move_behind.ensures.1 in
    rw p.1 (pays_short (a.table.entry v).committed c.args.count a b e _ p.0 opened.step.lasts rises next (subst (λ r. PaysOpen (a.table.entry v).committed b e r) c.in_err-move_behind.was wrote))

pub returns-in_err-move_behind-clause-ends : goal.returns-in_err-move_behind-clause-ends
returns-in_err-move_behind-clause-ends g c =
    let log = c.args.self.now in
    let mid = c.open_next.new.self in
    let end = c.move_behind.new.self in
    let a = log_of (g.N.Nand.state log.device) (table log.blocks) in
    let b = log_of (g.N.Nand.state mid.device) (table mid.blocks) in
    let e = log_of (g.N.Nand.state end.device) (table end.blocks) in
    let opened = c.in_ok-open_next.ensures in
    let moved = c.move_behind.ensures in
    let v : ℕ = c.args.block in
    let committed : c.entry-committed.result.committed ≡ (a.table.entry v).committed = ap (λ (x : BlockEntry). x.committed) c.entry-committed.ensures in
    let same : (b.table.entry v).committed ≡ (a.table.entry v).committed = opened.holds.committed v in
    let rises : bad_count b.table ≤ bad_count e.table = bad_rises b.table e.table moved.step.geometry moved.step.marks in
    let step = step_on log.spare a b e log.index mid.index end.index opened.step (subst (λ n. Step n b e mid.index end.index) opened.terms.spare moved.step) in
    let next = subst (λ n. PaysNext (n + c.args.count) a b (Ok (tt {0}))) committed opened.pays in
    let wrote = subst (λ n. PaysOpen n b e c.move_behind.result) same moved.pays in
    let clear = subst (λ n. HasClear (n + c.args.count) b.device b.table) (committed ∙ sym same) opened.ends.0 in
    let ended = moved.ends c.args.count clear in
    let within_limit = c.requires.fits in
    let p = err_from_is_err_and c.from_residual-in_err-move_behind.result c.from_residual-in_err-move_behind.ensures.1 in
    let why = subst (OpenEnds v c.args.count mid.spare b e) c.in_err-move_behind.was ended in
    rw (p.1, p.2) (rw (sym opened.terms.spare) why)

pub retire-requires-clause-none : goal.retire-requires-clause-none
retire-requires-clause-none g c =
    let log = c.args.self.now in
    let mid = c.open_next.new.self in
    let end = c.move_behind.new.self in
    let a = log_of (g.N.Nand.state log.device) (table log.blocks) in
    let b = log_of (g.N.Nand.state mid.device) (table mid.blocks) in
    let e = log_of (g.N.Nand.state end.device) (table end.blocks) in
    let opened = c.in_ok-open_next.ensures in
    let moved = c.move_behind.ensures in
    let v : ℕ = c.args.block in
    let committed : c.entry-committed.result.committed ≡ (a.table.entry v).committed = ap (λ (x : BlockEntry). x.committed) c.entry-committed.ensures in
    let same : (b.table.entry v).committed ≡ (a.table.entry v).committed = opened.holds.committed v in
    let rises : bad_count b.table ≤ bad_count e.table = bad_rises b.table e.table moved.step.geometry moved.step.marks in
    let step = step_on log.spare a b e log.index mid.index end.index opened.step (subst (λ n. Step n b e mid.index end.index) opened.terms.spare moved.step) in
    let next = subst (λ n. PaysNext (n + c.args.count) a b (Ok (tt {0}))) committed opened.pays in
    let wrote = subst (λ n. PaysOpen n b e c.move_behind.result) same moved.pays in
    let clear = subst (λ n. HasClear (n + c.args.count) b.device b.table) (committed ∙ sym same) opened.ends.0 in
    let ended = moved.ends c.args.count clear in
    let within_limit = c.requires.fits in
    let w : ℕ = c.in-Some-Suspect.copies in
    let is : c.move_behind.result ≡ Ok (Some (places.Suspect c.in-Some-Suspect.copies)) = c.in_ok-move_behind.was ∙ ap Ok (c.in-Some-Suspect.is ∙ ap Some c.in-Some-Suspect.field-0-is) in
    let ends_is = subst (OpenEnds v c.args.count mid.spare b e) is ended in
    ends_is.2

pub retire-requires-clause-block : goal.retire-requires-clause-block
retire-requires-clause-block g c =
    let log = c.args.self.now in
    let mid = c.open_next.new.self in
    let end = c.move_behind.new.self in
    let a = log_of (g.N.Nand.state log.device) (table log.blocks) in
    let b = log_of (g.N.Nand.state mid.device) (table mid.blocks) in
    let e = log_of (g.N.Nand.state end.device) (table end.blocks) in
    let opened = c.in_ok-open_next.ensures in
    let moved = c.move_behind.ensures in
    let v : ℕ = c.args.block in
    let committed : c.entry-committed.result.committed ≡ (a.table.entry v).committed = ap (λ (x : BlockEntry). x.committed) c.entry-committed.ensures in
    let same : (b.table.entry v).committed ≡ (a.table.entry v).committed = opened.holds.committed v in
    let rises : bad_count b.table ≤ bad_count e.table = bad_rises b.table e.table moved.step.geometry moved.step.marks in
    let step = step_on log.spare a b e log.index mid.index end.index opened.step (subst (λ n. Step n b e mid.index end.index) opened.terms.spare moved.step) in
    let next = subst (λ n. PaysNext (n + c.args.count) a b (Ok (tt {0}))) committed opened.pays in
    let wrote = subst (λ n. PaysOpen n b e c.move_behind.result) same moved.pays in
    let clear = subst (λ n. HasClear (n + c.args.count) b.device b.table) (committed ∙ sym same) opened.ends.0 in
    let ended = moved.ends c.args.count clear in
    let within_limit = c.requires.fits in
    let w : ℕ = c.in-Some-Suspect.copies in
    let is : c.move_behind.result ≡ Ok (Some (places.Suspect c.in-Some-Suspect.copies)) = c.in_ok-move_behind.was ∙ ap Ok (c.in-Some-Suspect.is ∙ ap Some c.in-Some-Suspect.field-0-is) in
    let ends_is = subst (OpenEnds v c.args.count mid.spare b e) is ended in
    record {
      within = subst (λ (x : Geometry). w < x.blocks) (moved.step.geometry ∙ mid.can_write.geometry ∙ sym moved.step.lasts.geometry) (subst (λ (x : Geometry). w < x.blocks) (sym moved.step.geometry) ends_is.1.within);
      good = ends_is.1.good;
    }

pub collect-requires-clause-good : goal.collect-requires-clause-good
collect-requires-clause-good g c =
    let log = c.args.self.now in
    let mid = c.open_next.new.self in
    let end = c.move_behind.new.self in
    let a = log_of (g.N.Nand.state log.device) (table log.blocks) in
    let b = log_of (g.N.Nand.state mid.device) (table mid.blocks) in
    let e = log_of (g.N.Nand.state end.device) (table end.blocks) in
    let opened = c.in_ok-open_next.ensures in
    let moved = c.move_behind.ensures in
    let v : ℕ = c.args.block in
    let committed : c.entry-committed.result.committed ≡ (a.table.entry v).committed = ap (λ (x : BlockEntry). x.committed) c.entry-committed.ensures in
    let same : (b.table.entry v).committed ≡ (a.table.entry v).committed = opened.holds.committed v in
    let rises : bad_count b.table ≤ bad_count e.table = bad_rises b.table e.table moved.step.geometry moved.step.marks in
    let step = step_on log.spare a b e log.index mid.index end.index opened.step (subst (λ n. Step n b e mid.index end.index) opened.terms.spare moved.step) in
    let next = subst (λ n. PaysNext (n + c.args.count) a b (Ok (tt {0}))) committed opened.pays in
    let wrote = subst (λ n. PaysOpen n b e c.move_behind.result) same moved.pays in
    let clear = subst (λ n. HasClear (n + c.args.count) b.device b.table) (committed ∙ sym same) opened.ends.0 in
    let ended = moved.ends c.args.count clear in
    let within_limit = c.requires.fits in
    let is : c.move_behind.result ≡ Ok None = c.in_ok-move_behind.was ∙ ap Ok c.in-None.is in
    let ends_is = subst (OpenEnds v c.args.count mid.spare b e) is ended in
    ends_is.1.good v (omega (arith, same, c.requires.has_committed)) (opened.holds.good v c.requires.has_committed c.requires.good)

pub collect-requires-clause-has_committed : goal.collect-requires-clause-has_committed
collect-requires-clause-has_committed g c =
    let log = c.args.self.now in
    let mid = c.open_next.new.self in
    let end = c.move_behind.new.self in
    let a = log_of (g.N.Nand.state log.device) (table log.blocks) in
    let b = log_of (g.N.Nand.state mid.device) (table mid.blocks) in
    let e = log_of (g.N.Nand.state end.device) (table end.blocks) in
    let opened = c.in_ok-open_next.ensures in
    let moved = c.move_behind.ensures in
    let v : ℕ = c.args.block in
    let committed : c.entry-committed.result.committed ≡ (a.table.entry v).committed = ap (λ (x : BlockEntry). x.committed) c.entry-committed.ensures in
    let same : (b.table.entry v).committed ≡ (a.table.entry v).committed = opened.holds.committed v in
    let rises : bad_count b.table ≤ bad_count e.table = bad_rises b.table e.table moved.step.geometry moved.step.marks in
    let step = step_on log.spare a b e log.index mid.index end.index opened.step (subst (λ n. Step n b e mid.index end.index) opened.terms.spare moved.step) in
    let next = subst (λ n. PaysNext (n + c.args.count) a b (Ok (tt {0}))) committed opened.pays in
    let wrote = subst (λ n. PaysOpen n b e c.move_behind.result) same moved.pays in
    let clear = subst (λ n. HasClear (n + c.args.count) b.device b.table) (committed ∙ sym same) opened.ends.0 in
    let ended = moved.ends c.args.count clear in
    let within_limit = c.requires.fits in
    let is : c.move_behind.result ≡ Ok None = c.in_ok-move_behind.was ∙ ap Ok c.in-None.is in
    let ends_is = subst (OpenEnds v c.args.count mid.spare b e) is ended in
    let still = ends_is.1.committed v in omega (arith, still, same, c.requires.has_committed)

pub returns-in-Some-Trusted-clause-step : goal.returns-in-Some-Trusted-clause-step
returns-in-Some-Trusted-clause-step g c =
    let log = c.args.self.now in
    let mid = c.open_next.new.self in
    let end = c.move_behind.new.self in
    let a = log_of (g.N.Nand.state log.device) (table log.blocks) in
    let b = log_of (g.N.Nand.state mid.device) (table mid.blocks) in
    let e = log_of (g.N.Nand.state end.device) (table end.blocks) in
    let opened = c.in_ok-open_next.ensures in
    let moved = c.move_behind.ensures in
    let v : ℕ = c.args.block in
    let committed : c.entry-committed.result.committed ≡ (a.table.entry v).committed = ap (λ (x : BlockEntry). x.committed) c.entry-committed.ensures in
    let same : (b.table.entry v).committed ≡ (a.table.entry v).committed = opened.holds.committed v in
    let rises : bad_count b.table ≤ bad_count e.table = bad_rises b.table e.table moved.step.geometry moved.step.marks in
    let step = step_on log.spare a b e log.index mid.index end.index opened.step (subst (λ n. Step n b e mid.index end.index) opened.terms.spare moved.step) in
    let next = subst (λ n. PaysNext (n + c.args.count) a b (Ok (tt {0}))) committed opened.pays in
    let wrote = subst (λ n. PaysOpen n b e c.move_behind.result) same moved.pays in
    let clear = subst (λ n. HasClear (n + c.args.count) b.device b.table) (committed ∙ sym same) opened.ends.0 in
    let ended = moved.ends c.args.count clear in
    let within_limit = c.requires.fits in
    step

pub returns-in-Some-Trusted-clause-pays : goal.returns-in-Some-Trusted-clause-pays
returns-in-Some-Trusted-clause-pays g c =
    let log = c.args.self.now in
    let mid = c.open_next.new.self in
    let end = c.move_behind.new.self in
    let a = log_of (g.N.Nand.state log.device) (table log.blocks) in
    let b = log_of (g.N.Nand.state mid.device) (table mid.blocks) in
    let e = log_of (g.N.Nand.state end.device) (table end.blocks) in
    let opened = c.in_ok-open_next.ensures in
    let moved = c.move_behind.ensures in
    let v : ℕ = c.args.block in
    let committed : c.entry-committed.result.committed ≡ (a.table.entry v).committed = ap (λ (x : BlockEntry). x.committed) c.entry-committed.ensures in
    let same : (b.table.entry v).committed ≡ (a.table.entry v).committed = opened.holds.committed v in
    let rises : bad_count b.table ≤ bad_count e.table = bad_rises b.table e.table moved.step.geometry moved.step.marks in
    let step = step_on log.spare a b e log.index mid.index end.index opened.step (subst (λ n. Step n b e mid.index end.index) opened.terms.spare moved.step) in
    let next = subst (λ n. PaysNext (n + c.args.count) a b (Ok (tt {0}))) committed opened.pays in
    let wrote = subst (λ n. PaysOpen n b e c.move_behind.result) same moved.pays in
    let clear = subst (λ n. HasClear (n + c.args.count) b.device b.table) (committed ∙ sym same) opened.ends.0 in
    let ended = moved.ends c.args.count clear in
    let within_limit = c.requires.fits in
    let is : c.move_behind.result ≡ Ok (Some places.Trusted) = c.in_ok-move_behind.was ∙ ap Ok (c.in-Some-Trusted.is ∙ ap Some c.in-Some-Trusted.field-0-is) in
    pays_trusted (a.table.entry v).committed c.args.count a b e opened.step.lasts rises next (subst (λ r. PaysOpen (a.table.entry v).committed b e r) is wrote)

pub returns-in-Some-Trusted-clause-ends : goal.returns-in-Some-Trusted-clause-ends
returns-in-Some-Trusted-clause-ends g c =
    let log = c.args.self.now in
    let mid = c.open_next.new.self in
    let end = c.move_behind.new.self in
    let a = log_of (g.N.Nand.state log.device) (table log.blocks) in
    let b = log_of (g.N.Nand.state mid.device) (table mid.blocks) in
    let e = log_of (g.N.Nand.state end.device) (table end.blocks) in
    let opened = c.in_ok-open_next.ensures in
    let moved = c.move_behind.ensures in
    let v : ℕ = c.args.block in
    let committed : c.entry-committed.result.committed ≡ (a.table.entry v).committed = ap (λ (x : BlockEntry). x.committed) c.entry-committed.ensures in
    let same : (b.table.entry v).committed ≡ (a.table.entry v).committed = opened.holds.committed v in
    let rises : bad_count b.table ≤ bad_count e.table = bad_rises b.table e.table moved.step.geometry moved.step.marks in
    let step = step_on log.spare a b e log.index mid.index end.index opened.step (subst (λ n. Step n b e mid.index end.index) opened.terms.spare moved.step) in
    let next = subst (λ n. PaysNext (n + c.args.count) a b (Ok (tt {0}))) committed opened.pays in
    let wrote = subst (λ n. PaysOpen n b e c.move_behind.result) same moved.pays in
    let clear = subst (λ n. HasClear (n + c.args.count) b.device b.table) (committed ∙ sym same) opened.ends.0 in
    let ended = moved.ends c.args.count clear in
    let within_limit = c.requires.fits in
    let is : c.move_behind.result ≡ Ok (Some places.Trusted) = c.in_ok-move_behind.was ∙ ap Ok (c.in-Some-Trusted.is ∙ ap Some c.in-Some-Trusted.field-0-is) in
    let ends_is = subst (OpenEnds v c.args.count mid.spare b e) is ended in
    let reserve = c.in_ok-move_behind.ensures.within_limit in
    let spare = moved.terms.spare ∙ opened.terms.spare in
    gathered_behind v c.args.count log.spare b e end.index (omega (arith, same, c.requires.has_committed)) ends_is.1 (omega (arith, reserve, spare)) step.consistent ends_is.3

pub returns-in-Some-Suspect-clause-step : goal.returns-in-Some-Suspect-clause-step
returns-in-Some-Suspect-clause-step g c =
    let log = c.args.self.now in
    let mid = c.open_next.new.self in
    let end = c.move_behind.new.self in
    let a = log_of (g.N.Nand.state log.device) (table log.blocks) in
    let b = log_of (g.N.Nand.state mid.device) (table mid.blocks) in
    let e = log_of (g.N.Nand.state end.device) (table end.blocks) in
    let opened = c.in_ok-open_next.ensures in
    let moved = c.move_behind.ensures in
    let v : ℕ = c.args.block in
    let committed : c.entry-committed.result.committed ≡ (a.table.entry v).committed = ap (λ (x : BlockEntry). x.committed) c.entry-committed.ensures in
    let same : (b.table.entry v).committed ≡ (a.table.entry v).committed = opened.holds.committed v in
    let rises : bad_count b.table ≤ bad_count e.table = bad_rises b.table e.table moved.step.geometry moved.step.marks in
    let step = step_on log.spare a b e log.index mid.index end.index opened.step (subst (λ n. Step n b e mid.index end.index) opened.terms.spare moved.step) in
    let next = subst (λ n. PaysNext (n + c.args.count) a b (Ok (tt {0}))) committed opened.pays in
    let wrote = subst (λ n. PaysOpen n b e c.move_behind.result) same moved.pays in
    let clear = subst (λ n. HasClear (n + c.args.count) b.device b.table) (committed ∙ sym same) opened.ends.0 in
    let ended = moved.ends c.args.count clear in
    let within_limit = c.requires.fits in
    let w : ℕ = c.in-Some-Suspect.copies in
    let is : c.move_behind.result ≡ Ok (Some (places.Suspect c.in-Some-Suspect.copies)) = c.in_ok-move_behind.was ∙ ap Ok (c.in-Some-Suspect.is ∙ ap Some c.in-Some-Suspect.field-0-is) in
    let last = c.retire.new.self in
    let f = log_of (g.N.Nand.state last.device) (table last.blocks) in
    let then = c.retire.ensures in
    let spare = moved.terms.spare ∙ opened.terms.spare in
    step_on log.spare a e f log.index end.index last.index step (subst (λ n. Step n e f end.index last.index) spare then.step)

pub returns-in-Some-Suspect-clause-out : goal.returns-in-Some-Suspect-clause-out
returns-in-Some-Suspect-clause-out g c =
    let log = c.args.self.now in
    let mid = c.open_next.new.self in
    let end = c.move_behind.new.self in
    let a = log_of (g.N.Nand.state log.device) (table log.blocks) in
    let b = log_of (g.N.Nand.state mid.device) (table mid.blocks) in
    let e = log_of (g.N.Nand.state end.device) (table end.blocks) in
    let opened = c.in_ok-open_next.ensures in
    let moved = c.move_behind.ensures in
    let v : ℕ = c.args.block in
    let committed : c.entry-committed.result.committed ≡ (a.table.entry v).committed = ap (λ (x : BlockEntry). x.committed) c.entry-committed.ensures in
    let same : (b.table.entry v).committed ≡ (a.table.entry v).committed = opened.holds.committed v in
    let rises : bad_count b.table ≤ bad_count e.table = bad_rises b.table e.table moved.step.geometry moved.step.marks in
    let step = step_on log.spare a b e log.index mid.index end.index opened.step (subst (λ n. Step n b e mid.index end.index) opened.terms.spare moved.step) in
    let next = subst (λ n. PaysNext (n + c.args.count) a b (Ok (tt {0}))) committed opened.pays in
    let wrote = subst (λ n. PaysOpen n b e c.move_behind.result) same moved.pays in
    let clear = subst (λ n. HasClear (n + c.args.count) b.device b.table) (committed ∙ sym same) opened.ends.0 in
    let ended = moved.ends c.args.count clear in
    let within_limit = c.requires.fits in
    let w : ℕ = c.in-Some-Suspect.copies in
    let is : c.move_behind.result ≡ Ok (Some (places.Suspect c.in-Some-Suspect.copies)) = c.in_ok-move_behind.was ∙ ap Ok (c.in-Some-Suspect.is ∙ ap Some c.in-Some-Suspect.field-0-is) in
    let ends_is = subst (OpenEnds v c.args.count mid.spare b e) is ended in
    let last = c.retire.new.self in
    let f = log_of (g.N.Nand.state last.device) (table last.blocks) in
    let then = c.retire.ensures in
    let spare = moved.terms.spare ∙ opened.terms.spare in
    out_retired v w mid.spare b.device b.table e.table log.index end.index last.index (c.the_counts_are_of_the_keys.ensures.none log.index)
    (rw (sym opened.index) mid.consistent) ends_is.1 (subst (λ i. MovesOut v i end.index) opened.index moved.out) then.out

pub returns-in-Some-Suspect-clause-pays : goal.returns-in-Some-Suspect-clause-pays
returns-in-Some-Suspect-clause-pays g c =
    let log = c.args.self.now in
    let mid = c.open_next.new.self in
    let end = c.move_behind.new.self in
    let a = log_of (g.N.Nand.state log.device) (table log.blocks) in
    let b = log_of (g.N.Nand.state mid.device) (table mid.blocks) in
    let e = log_of (g.N.Nand.state end.device) (table end.blocks) in
    let opened = c.in_ok-open_next.ensures in
    let moved = c.move_behind.ensures in
    let v : ℕ = c.args.block in
    let committed : c.entry-committed.result.committed ≡ (a.table.entry v).committed = ap (λ (x : BlockEntry). x.committed) c.entry-committed.ensures in
    let same : (b.table.entry v).committed ≡ (a.table.entry v).committed = opened.holds.committed v in
    let rises : bad_count b.table ≤ bad_count e.table = bad_rises b.table e.table moved.step.geometry moved.step.marks in
    let step = step_on log.spare a b e log.index mid.index end.index opened.step (subst (λ n. Step n b e mid.index end.index) opened.terms.spare moved.step) in
    let next = subst (λ n. PaysNext (n + c.args.count) a b (Ok (tt {0}))) committed opened.pays in
    let wrote = subst (λ n. PaysOpen n b e c.move_behind.result) same moved.pays in
    let clear = subst (λ n. HasClear (n + c.args.count) b.device b.table) (committed ∙ sym same) opened.ends.0 in
    let ended = moved.ends c.args.count clear in
    let within_limit = c.requires.fits in
    let w : ℕ = c.in-Some-Suspect.copies in
    let is : c.move_behind.result ≡ Ok (Some (places.Suspect c.in-Some-Suspect.copies)) = c.in_ok-move_behind.was ∙ ap Ok (c.in-Some-Suspect.is ∙ ap Some c.in-Some-Suspect.field-0-is) in
    let last = c.retire.new.self in
    let f = log_of (g.N.Nand.state last.device) (table last.blocks) in
    let then = c.retire.ensures in
    let spare = moved.terms.spare ∙ opened.terms.spare in
    pays_suspect w (a.table.entry v).committed c.args.count a b e f c.retire.result opened.step.lasts moved.step.lasts rises next (subst (λ r. PaysOpen (a.table.entry v).committed b e r) is wrote) then.pays

pub returns-in-Some-Suspect-clause-ends : goal.returns-in-Some-Suspect-clause-ends
returns-in-Some-Suspect-clause-ends g c =
    let log = c.args.self.now in
    let mid = c.open_next.new.self in
    let end = c.move_behind.new.self in
    let a = log_of (g.N.Nand.state log.device) (table log.blocks) in
    let b = log_of (g.N.Nand.state mid.device) (table mid.blocks) in
    let e = log_of (g.N.Nand.state end.device) (table end.blocks) in
    let opened = c.in_ok-open_next.ensures in
    let moved = c.move_behind.ensures in
    let v : ℕ = c.args.block in
    let committed : c.entry-committed.result.committed ≡ (a.table.entry v).committed = ap (λ (x : BlockEntry). x.committed) c.entry-committed.ensures in
    let same : (b.table.entry v).committed ≡ (a.table.entry v).committed = opened.holds.committed v in
    let rises : bad_count b.table ≤ bad_count e.table = bad_rises b.table e.table moved.step.geometry moved.step.marks in
    let step = step_on log.spare a b e log.index mid.index end.index opened.step (subst (λ n. Step n b e mid.index end.index) opened.terms.spare moved.step) in
    let next = subst (λ n. PaysNext (n + c.args.count) a b (Ok (tt {0}))) committed opened.pays in
    let wrote = subst (λ n. PaysOpen n b e c.move_behind.result) same moved.pays in
    let clear = subst (λ n. HasClear (n + c.args.count) b.device b.table) (committed ∙ sym same) opened.ends.0 in
    let ended = moved.ends c.args.count clear in
    let within_limit = c.requires.fits in
    let w : ℕ = c.in-Some-Suspect.copies in
    let is : c.move_behind.result ≡ Ok (Some (places.Suspect c.in-Some-Suspect.copies)) = c.in_ok-move_behind.was ∙ ap Ok (c.in-Some-Suspect.is ∙ ap Some c.in-Some-Suspect.field-0-is) in
    let ends_is = subst (OpenEnds v c.args.count mid.spare b e) is ended in
    let last = c.retire.new.self in
    let f = log_of (g.N.Nand.state last.device) (table last.blocks) in
    let then = c.retire.ensures in
    let spare = moved.terms.spare ∙ opened.terms.spare in
    let pages = ap (λ (x : Geometry). x.pages) (then.step.geometry ∙ moved.step.geometry ∙ opened.step.geometry) in
    rw (sym spare) (gathered_retired v w (a.table.entry v).committed c.args.count end.spare b e f c.retire.result (sym same) c.requires.has_committed ends_is.1 (omega (arith, pages, within_limit)) then.ends)

pub returns-in-None-clause-step : goal.returns-in-None-clause-step
returns-in-None-clause-step g c =
    let log = c.args.self.now in
    let mid = c.open_next.new.self in
    let end = c.move_behind.new.self in
    let a = log_of (g.N.Nand.state log.device) (table log.blocks) in
    let b = log_of (g.N.Nand.state mid.device) (table mid.blocks) in
    let e = log_of (g.N.Nand.state end.device) (table end.blocks) in
    let opened = c.in_ok-open_next.ensures in
    let moved = c.move_behind.ensures in
    let v : ℕ = c.args.block in
    let committed : c.entry-committed.result.committed ≡ (a.table.entry v).committed = ap (λ (x : BlockEntry). x.committed) c.entry-committed.ensures in
    let same : (b.table.entry v).committed ≡ (a.table.entry v).committed = opened.holds.committed v in
    let rises : bad_count b.table ≤ bad_count e.table = bad_rises b.table e.table moved.step.geometry moved.step.marks in
    let step = step_on log.spare a b e log.index mid.index end.index opened.step (subst (λ n. Step n b e mid.index end.index) opened.terms.spare moved.step) in
    let next = subst (λ n. PaysNext (n + c.args.count) a b (Ok (tt {0}))) committed opened.pays in
    let wrote = subst (λ n. PaysOpen n b e c.move_behind.result) same moved.pays in
    let clear = subst (λ n. HasClear (n + c.args.count) b.device b.table) (committed ∙ sym same) opened.ends.0 in
    let ended = moved.ends c.args.count clear in
    let within_limit = c.requires.fits in
    let last = c.collect.new.self in
    let f = log_of (g.N.Nand.state last.device) (table last.blocks) in
    let then = c.collect.ensures in
    let spare = moved.terms.spare ∙ opened.terms.spare in
    step_on log.spare a e f log.index end.index last.index step (subst (λ n. Step n e f end.index last.index) spare then.step)

pub returns-in-None-clause-out : goal.returns-in-None-clause-out
returns-in-None-clause-out g c =
    let log = c.args.self.now in
    let mid = c.open_next.new.self in
    let end = c.move_behind.new.self in
    let a = log_of (g.N.Nand.state log.device) (table log.blocks) in
    let b = log_of (g.N.Nand.state mid.device) (table mid.blocks) in
    let e = log_of (g.N.Nand.state end.device) (table end.blocks) in
    let opened = c.in_ok-open_next.ensures in
    let moved = c.move_behind.ensures in
    let v : ℕ = c.args.block in
    let committed : c.entry-committed.result.committed ≡ (a.table.entry v).committed = ap (λ (x : BlockEntry). x.committed) c.entry-committed.ensures in
    let same : (b.table.entry v).committed ≡ (a.table.entry v).committed = opened.holds.committed v in
    let rises : bad_count b.table ≤ bad_count e.table = bad_rises b.table e.table moved.step.geometry moved.step.marks in
    let step = step_on log.spare a b e log.index mid.index end.index opened.step (subst (λ n. Step n b e mid.index end.index) opened.terms.spare moved.step) in
    let next = subst (λ n. PaysNext (n + c.args.count) a b (Ok (tt {0}))) committed opened.pays in
    let wrote = subst (λ n. PaysOpen n b e c.move_behind.result) same moved.pays in
    let clear = subst (λ n. HasClear (n + c.args.count) b.device b.table) (committed ∙ sym same) opened.ends.0 in
    let ended = moved.ends c.args.count clear in
    let within_limit = c.requires.fits in
    let is : c.move_behind.result ≡ Ok None = c.in_ok-move_behind.was ∙ ap Ok c.in-None.is in
    let index = moved.none is ∙ opened.index in
    subst (λ i. MovesOut v i c.collect.new.self.index) index c.collect.ensures.out

pub returns-in-None-clause-pays : goal.returns-in-None-clause-pays
returns-in-None-clause-pays g c =
    let log = c.args.self.now in
    let mid = c.open_next.new.self in
    let end = c.move_behind.new.self in
    let a = log_of (g.N.Nand.state log.device) (table log.blocks) in
    let b = log_of (g.N.Nand.state mid.device) (table mid.blocks) in
    let e = log_of (g.N.Nand.state end.device) (table end.blocks) in
    let opened = c.in_ok-open_next.ensures in
    let moved = c.move_behind.ensures in
    let v : ℕ = c.args.block in
    let committed : c.entry-committed.result.committed ≡ (a.table.entry v).committed = ap (λ (x : BlockEntry). x.committed) c.entry-committed.ensures in
    let same : (b.table.entry v).committed ≡ (a.table.entry v).committed = opened.holds.committed v in
    let rises : bad_count b.table ≤ bad_count e.table = bad_rises b.table e.table moved.step.geometry moved.step.marks in
    let step = step_on log.spare a b e log.index mid.index end.index opened.step (subst (λ n. Step n b e mid.index end.index) opened.terms.spare moved.step) in
    let next = subst (λ n. PaysNext (n + c.args.count) a b (Ok (tt {0}))) committed opened.pays in
    let wrote = subst (λ n. PaysOpen n b e c.move_behind.result) same moved.pays in
    let clear = subst (λ n. HasClear (n + c.args.count) b.device b.table) (committed ∙ sym same) opened.ends.0 in
    let ended = moved.ends c.args.count clear in
    let within_limit = c.requires.fits in
    let is : c.move_behind.result ≡ Ok None = c.in_ok-move_behind.was ∙ ap Ok c.in-None.is in
    let ends_is = subst (OpenEnds v c.args.count mid.spare b e) is ended in
    let last = c.collect.new.self in
    let f = log_of (g.N.Nand.state last.device) (table last.blocks) in
    let then = c.collect.ensures in
    let spare = moved.terms.spare ∙ opened.terms.spare in
    let still : (e.table.entry v).committed ≡ (a.table.entry v).committed = ends_is.1.committed v ∙ same in
    let pays = then.pays in
    pays_again (a.table.entry v).committed c.args.count a b e f c.collect.result opened.step.lasts moved.step.lasts ends_is.0 next (subst (λ r. PaysOpen (a.table.entry v).committed b e r) is wrote)
    (rw (sym still) pays)

pub returns-in-None-clause-ends : goal.returns-in-None-clause-ends
returns-in-None-clause-ends g c =
    let log = c.args.self.now in
    let mid = c.open_next.new.self in
    let end = c.move_behind.new.self in
    let a = log_of (g.N.Nand.state log.device) (table log.blocks) in
    let b = log_of (g.N.Nand.state mid.device) (table mid.blocks) in
    let e = log_of (g.N.Nand.state end.device) (table end.blocks) in
    let opened = c.in_ok-open_next.ensures in
    let moved = c.move_behind.ensures in
    let v : ℕ = c.args.block in
    let committed : c.entry-committed.result.committed ≡ (a.table.entry v).committed = ap (λ (x : BlockEntry). x.committed) c.entry-committed.ensures in
    let same : (b.table.entry v).committed ≡ (a.table.entry v).committed = opened.holds.committed v in
    let rises : bad_count b.table ≤ bad_count e.table = bad_rises b.table e.table moved.step.geometry moved.step.marks in
    let step = step_on log.spare a b e log.index mid.index end.index opened.step (subst (λ n. Step n b e mid.index end.index) opened.terms.spare moved.step) in
    let next = subst (λ n. PaysNext (n + c.args.count) a b (Ok (tt {0}))) committed opened.pays in
    let wrote = subst (λ n. PaysOpen n b e c.move_behind.result) same moved.pays in
    let clear = subst (λ n. HasClear (n + c.args.count) b.device b.table) (committed ∙ sym same) opened.ends.0 in
    let ended = moved.ends c.args.count clear in
    let within_limit = c.requires.fits in
    let is : c.move_behind.result ≡ Ok None = c.in_ok-move_behind.was ∙ ap Ok c.in-None.is in
    let ends_is = subst (OpenEnds v c.args.count mid.spare b e) is ended in
    let last = c.collect.new.self in
    let f = log_of (g.N.Nand.state last.device) (table last.blocks) in
    let then = c.collect.ensures in
    let spare = moved.terms.spare ∙ opened.terms.spare in
    let still : (e.table.entry v).committed ≡ (a.table.entry v).committed = ends_is.1.committed v ∙ same in
    let pages = ap (λ (x : Geometry). x.pages) (then.step.geometry ∙ moved.step.geometry ∙ opened.step.geometry) in
    rw (sym spare) (gathered_again v (a.table.entry v).committed c.args.count end.spare e f c.collect.result still (omega (arith, pages, within_limit)) then.ends)
