use Rattle.std.proofs.Common.{◌≡◌, ◌+◌, ℕ, length, Result, Ok, ap, ◌∙◌, arith, rules}
use Rattle.std.proofs.lemmas.Result.{err_from_is_err_and}
use Rattle.nand_model.specs.Calls.{Device, Lasts}
use Rattle.nand_model.specs.declared.geometry.Geometry.{Geometry}
use Rattle.nand_model.specs.laws.Calls.{lasts_here}
use Rattle.block_state.specs.Committed.{bad_count}
use Rattle.block_state.specs.Table.{Table}
use Rattle.block_state.specs.TableOf.{table}
use Rattle.transactions.specs.Checking.{LogState, log_of}
use Rattle.flash_log.specs.Bills.{Pays, PaysOneBlock, bill_of}
use Rattle.flash_log.specs.Copying.{left_open, most_changes}
use Rattle.flash_log.specs.declared.copying.Copied.{Copied}
use Rattle.flash_log.specs.declared.copying.Copied.TheVariants as ends
use Rattle.flash_log.specs.declared.fault.MoveFault.{MoveFault}
use Rattle.flash_log.specs.laws.Bills.{pays_on}
use Rattle.flash_log.specs.laws.Found.{found_here, found_on, places_at}
use Rattle.flash_log.specs.laws.Keeping.{keeps_closed, keeps_on}
use Rattle.flash_log.proofs.Keeping.{committed_on, data_on, may_later, pages_on}
use Rattle.flash_log.specs.laws.CommittedPages.{committed_here, data_here}
use Rattle.flash_log.proofs.copying.copy_listed.Goals as goal

-- blocks that were marked, and then one more
pays_more : (count : ℕ) (a b c : LogState) (r : Result Copied MoveFault) → Lasts a.device b.device → Pays {E = MoveFault} (bill_of a 0 0 0) a b (Ok ends.Marked) → PaysOneBlock count b c r
    → Pays (bill_of a (most_changes count r) 0 (left_open r)) a c r
pays_more count a b c r lasts before then =
    let same : b.device.geometry.pages + 2 ≡ a.device.geometry.pages + 2 = ap (λ (g : Geometry). g.pages + 2) lasts.geometry in
    pays_on (most_changes count r) 0 (bill_of a 0 0 0) (bill_of b (most_changes count r) 0 (left_open r)) a b c ends.Marked r same (omega arith) (omega arith) before then

pub loop-target-init : goal.loop-target-init
loop-target-init g c =
    let d : Device = g.N.Nand.state c.args.device.now in
    let t : Table = table c.args.blocks.now in
    let u : Table = table c.close.new.self in
    let keeps = keeps_closed d t u c.close.ensures c.requires.can_write in
    let bad : bad_count u ≡ bad_count t = ap bad_count c.close.ensures in
    let group = ap (λ (x : Table). x.next_group) c.close.ensures in
    record {
      keeps = keeps;
      pays = record { costs = omega arith; marks = omega (arith, bad); answers = omega (arith, bad); reads = omega arith };
      stored = λ honest. data_here t d.flash;
      newest = λ honest. committed_here t d.flash;
      found = λ honest. found_here t d;
      closed = ap (λ (x : Table). x.open_block) c.close.ensures;
      within_limit = omega (arith, bad, c.requires.uncommitted.bad);
      apart = λ k is. keeps.committed k ∙ c.requires.uncommitted.apart k (keeps.numbers.truth.noted k is);
      size = c.requires.size;
      copies = may_later d d t u c.args.copies.now (lasts_here d) (omega (arith, group)) keeps.committed (λ honest power. committed_here t d.flash) c.requires.copies;
    }

pub loop-target-preserved : goal.loop-target-preserved
loop-target-preserved g c =
    let d0 : Device = g.N.Nand.state c.args.device.now in
    let d1 : Device = g.N.Nand.state c.loop-target.device in
    let d2 : Device = g.N.Nand.state c.copy_once.new.device in
    let t : Table = table c.args.blocks.now in
    let u : Table = table c.loop-target.blocks in
    let v : Table = table c.copy_once.new.blocks in
    let so_far = c.loop-target.invariant in
    let tried = rw c.in-Marked.is at c.in_ok-target.ensures in
    let keeps = tried.pages.keeps in
    record {
      keeps = keeps_on d0 d1 d2 t u v so_far.keeps keeps;
      pays = pays_more (length c.args.copies.now) (log_of d0 t) (log_of d1 u) (log_of d2 v) (Ok ends.Marked) so_far.keeps.lasts so_far.pays tried.pays;
      stored = λ honest. data_on t u so_far.keeps.committed d0 d1 d2 keeps.lasts (λ _. so_far.newest honest) (so_far.stored honest) (tried.pages.stored (so_far.keeps.lasts.honest ∙ honest));
      newest = λ honest. committed_on t u so_far.keeps.committed d0.flash d1.flash d2.flash
          (so_far.newest honest) (tried.pages.newest (so_far.keeps.lasts.honest ∙ honest) tried.ends.2);
      found = λ honest. found_on d0 d1 d2 t u so_far.keeps.committed (places_at t d0.flash d1.flash (so_far.newest honest)) (so_far.found honest) (tried.pages.found (so_far.keeps.lasts.honest ∙ honest));
      closed = tried.ends.0;
      within_limit = search rules;
      apart = λ k is. keeps.committed k ∙ so_far.apart k (keeps.numbers.truth.noted k is);
      size = search rules;
      copies = may_later d1 d2 u v c.args.copies.now keeps.lasts keeps.numbers.numbers.groups_rise keeps.committed (λ honest power. tried.pages.newest honest power) so_far.copies;
    }

pub returns-in_err-target-clause-pages : goal.returns-in_err-target-clause-pages
returns-in_err-target-clause-pages g c =
    let a = log_of (g.N.Nand.state c.args.device.now) (table c.args.blocks.now) in
    let b = log_of (g.N.Nand.state c.loop-target.device) (table c.loop-target.blocks) in
    let so_far = c.loop-target.invariant in
    let p = err_from_is_err_and c.from_residual.result c.from_residual.ensures.1 in
    let failed = c.in_err-target.ensures in
    let pages = pages_on c.args.copies.now a b so_far.keeps so_far.newest so_far.stored so_far.found (log_of (g.N.Nand.state c.copy_once.new.device) (table c.copy_once.new.blocks)) _ failed.pages in
    rw p.1 (record { keeps = pages.keeps; stored = pages.stored; newest = pages.newest; apart = pages.apart; found = pages.found })

pub returns-in_err-target-clause-pays : goal.returns-in_err-target-clause-pays
returns-in_err-target-clause-pays g c =
    let a = log_of (g.N.Nand.state c.args.device.now) (table c.args.blocks.now) in
    let b = log_of (g.N.Nand.state c.loop-target.device) (table c.loop-target.blocks) in
    let so_far = c.loop-target.invariant in
    let p = err_from_is_err_and c.from_residual.result c.from_residual.ensures.1 in
    let all = pays_more (length c.args.copies.now) a b (log_of (g.N.Nand.state c.copy_once.new.device) (table c.copy_once.new.blocks)) _ so_far.keeps.lasts so_far.pays c.in_err-target.ensures.pays in
    rw p.1 (record { costs = all.costs; marks = all.marks; answers = tt; reads = all.reads })

pub returns-in-Into-clause-pages : goal.returns-in-Into-clause-pages
returns-in-Into-clause-pages g c =
    let so_far = c.loop-target.invariant in
    let done = rw c.in-Into.is at c.in_ok-target.ensures in
    pages_on c.args.copies.now (log_of (g.N.Nand.state c.args.device.now) (table c.args.blocks.now)) (log_of (g.N.Nand.state c.loop-target.device) (table c.loop-target.blocks))
    so_far.keeps so_far.newest so_far.stored so_far.found (log_of (g.N.Nand.state c.copy_once.new.device) (table c.copy_once.new.blocks)) (Ok (ends.Into c.in-Into.target)) done.pages

pub returns-in-Into-clause-pays : goal.returns-in-Into-clause-pays
returns-in-Into-clause-pays g c =
    let a = log_of (g.N.Nand.state c.args.device.now) (table c.args.blocks.now) in
    let b = log_of (g.N.Nand.state c.loop-target.device) (table c.loop-target.blocks) in
    let so_far = c.loop-target.invariant in
    let done = rw c.in-Into.is at c.in_ok-target.ensures in
    let all = pays_more (length c.args.copies.now) a b (log_of (g.N.Nand.state c.copy_once.new.device) (table c.copy_once.new.blocks)) (Ok (ends.Into c.in-Into.target)) so_far.keeps.lasts so_far.pays done.pays in
    record { costs = all.costs; marks = all.marks; answers = all.answers; reads = all.reads }

pub returns-then-bad_count-spare-clause-pages : goal.returns-then-bad_count-spare-clause-pages
returns-then-bad_count-spare-clause-pages g c =
    let a = log_of (g.N.Nand.state c.args.device.now) (table c.args.blocks.now) in
    let b = log_of (g.N.Nand.state c.loop-target.device) (table c.loop-target.blocks) in
    let so_far = c.loop-target.invariant in
    let tried = rw c.in-Marked.is at c.in_ok-target.ensures in
    let pages = pages_on c.args.copies.now a b so_far.keeps so_far.newest so_far.stored so_far.found (log_of (g.N.Nand.state c.copy_once.new.device) (table c.copy_once.new.blocks)) (Ok ends.Marked) tried.pages in
    record { keeps = pages.keeps; stored = pages.stored; newest = pages.newest; apart = pages.apart; found = pages.found }

pub returns-then-bad_count-spare-clause-pays : goal.returns-then-bad_count-spare-clause-pays
returns-then-bad_count-spare-clause-pays g c =
    let a = log_of (g.N.Nand.state c.args.device.now) (table c.args.blocks.now) in
    let b = log_of (g.N.Nand.state c.loop-target.device) (table c.loop-target.blocks) in
    let so_far = c.loop-target.invariant in
    let tried = rw c.in-Marked.is at c.in_ok-target.ensures in
    let all = pays_more (length c.args.copies.now) a b (log_of (g.N.Nand.state c.copy_once.new.device) (table c.copy_once.new.blocks)) (Ok ends.Marked) so_far.keeps.lasts so_far.pays tried.pays in
    let costs = all.costs in
    let reads = all.reads in
    record { costs = omega (arith, costs); marks = all.marks; answers = tt; reads = omega (arith, reads) }
