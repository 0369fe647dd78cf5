use Rattle.std.proofs.Common.{◌≡◌, true, false, refl, arith}
use Rattle.std.proofs.lemmas.Result.{err_from_is_err_and}
use Rattle.block_state.specs.TableOf.{table}
use Rattle.transactions.specs.Checking.{log_of}
use Rattle.flash_log.specs.laws.Steps.{step_none}
use Rattle.flash_log.proofs.RoomTaken.{fits_clear, free_next, pays_next, pays_nothing, pays_collected, scarce_unless}
use Rattle.flash_log.proofs.log.Log.make_room.Goals as goal

pub returns-then-count-open_room-clause-step : goal.returns-then-count-open_room-clause-step
returns-then-count-open_room-clause-step g c = step_none c.args.self.now.spare (g.N.Nand.state c.args.self.now.device) (table c.args.self.now.blocks) c.args.self.now.index c.args.self.now.can_write c.args.self.now.consistent

pub returns-then-count-open_room-clause-pays : goal.returns-then-count-open_room-clause-pays
returns-then-count-open_room-clause-pays g c = pays_nothing c.args.self.now.spare (log_of (g.N.Nand.state c.args.self.now.device) (table c.args.self.now.blocks)) _

pub returns-then-count-pages-clause-step : goal.returns-then-count-pages-clause-step
returns-then-count-pages-clause-step g c = step_none c.args.self.now.spare (g.N.Nand.state c.args.self.now.device) (table c.args.self.now.blocks) c.args.self.now.index c.args.self.now.can_write c.args.self.now.consistent

pub returns-then-count-pages-clause-pays : goal.returns-then-count-pages-clause-pays
returns-then-count-pages-clause-pays g c = pays_nothing c.args.self.now.spare (log_of (g.N.Nand.state c.args.self.now.device) (table c.args.self.now.blocks)) _

pub returns-in_default-clause-step : goal.returns-in_default-clause-step
returns-in_default-clause-step g c = step_none c.args.self.now.spare (g.N.Nand.state c.args.self.now.device) (table c.args.self.now.blocks) c.args.self.now.index c.args.self.now.can_write c.args.self.now.consistent

pub returns-in_default-clause-pays : goal.returns-in_default-clause-pays
returns-in_default-clause-pays g c = pays_nothing c.args.self.now.spare (log_of (g.N.Nand.state c.args.self.now.device) (table c.args.self.now.blocks)) _

pub returns-in_err-open_next-clause-pays : goal.returns-in_err-open_next-clause-pays
returns-in_err-open_next-clause-pays g c =
    let opened = c.in_err-open_next.ensures.pays in
    let p = err_from_is_err_and c.from_residual.result c.from_residual.ensures.1 in
    rw p.1 (pays_next c.args.self.now.spare c.args.count (log_of (g.N.Nand.state c.args.self.now.device) (table c.args.self.now.blocks)) (log_of (g.N.Nand.state c.open_next.new.self.device) (table c.open_next.new.self.blocks)) _ _
    c.requires.within_limit (c.if-has_uncommitted.ensures.0 refl) opened tt opened.pays.reads)

pub returns-then-has_uncommitted-clause-pays : goal.returns-then-has_uncommitted-clause-pays
returns-then-has_uncommitted-clause-pays g c =
    let opened = c.in_ok-open_next.ensures.pays in
    pays_next c.args.self.now.spare c.args.count (log_of (g.N.Nand.state c.args.self.now.device) (table c.args.self.now.blocks)) (log_of (g.N.Nand.state c.open_next.new.self.device) (table c.open_next.new.self.blocks)) _ _
    c.requires.within_limit (c.if-has_uncommitted.ensures.0 refl) opened opened.pays.answers opened.pays.reads

pub returns-then-has_uncommitted-clause-ends : goal.returns-then-has_uncommitted-clause-ends
returns-then-has_uncommitted-clause-ends g c =
    let opened = c.in_ok-open_next.ensures in
    record {
      fits = fits_clear c.args.count _ (table c.open_next.new.self.blocks) opened.ends.0;
      number = λ _. opened.ends.1;
      within_limit = let reserve = opened.within_limit in let same = opened.terms.spare in omega (arith, reserve, same);
      free = λ _. free_next c.args.self.now.spare c.args.count _ (table c.args.self.now.blocks) (table c.open_next.new.self.blocks) opened.holds opened.ends.0 (c.if-has_uncommitted.ensures.0 refl);
      power = λ _. opened.ends.0.clear.power;
    }

pub returns-in_default-clause-ends : goal.returns-in_default-clause-ends
returns-in_default-clause-ends g c = c.in_default.ensures.none c.args.self.now.spare (scarce_unless c.args.self.now.spare (table c.args.self.now.blocks) (λ more. let two : false ≡ true = c.if-has_uncommitted.ensures.1 more in cc))

pub returns-in_err-gather-clause-pays : goal.returns-in_err-gather-clause-pays
returns-in_err-gather-clause-pays g c =
    let gathered = c.in_err-gather.ensures.pays in
    let p = err_from_is_err_and c.from_residual-in_err-gather.result c.from_residual-in_err-gather.ensures.1 in
    rw p.1 (pays_collected c.args.self.now.spare c.in-Some.block c.args.count (log_of (g.N.Nand.state c.args.self.now.device) (table c.args.self.now.blocks)) (log_of (g.N.Nand.state c.gather.new.self.device) (table c.gather.new.self.blocks)) _ _
    c.in-Some.ensures.found.fewest (λ more. let two : false ≡ true = c.if-has_uncommitted.ensures.1 more in cc) gathered tt gathered.pays.reads)

pub returns-clause-pays : goal.returns-clause-pays
returns-clause-pays g c =
    let gathered = c.in_ok-gather.ensures.pays in
    pays_collected c.args.self.now.spare c.in-Some.block c.args.count (log_of (g.N.Nand.state c.args.self.now.device) (table c.args.self.now.blocks)) (log_of (g.N.Nand.state c.gather.new.self.device) (table c.gather.new.self.blocks)) _ _
    c.in-Some.ensures.found.fewest (λ more. let two : false ≡ true = c.if-has_uncommitted.ensures.1 more in cc) gathered gathered.pays.answers gathered.pays.reads
