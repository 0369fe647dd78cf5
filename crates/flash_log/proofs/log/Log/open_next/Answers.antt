use Rattle.std.proofs.Common.{◌≤◌, Ok, Err, sym, ap, subst, ◌∙◌, arith}
use Rattle.std.proofs.lemmas.Result.{err_from_is_err_and}
use Rattle.nand_model.specs.declared.geometry.Geometry.{Geometry}
use Rattle.nand_model.specs.laws.Calls.{lasts_on}
use Rattle.block_state.specs.Table.{Table}
use Rattle.block_state.specs.TableOf.{table}
use Rattle.transactions.specs.Checking.{log_of}
use Rattle.flash_log.specs.Steps.{Step}
use Rattle.flash_log.specs.SummaryMaking.{NextEnds}
use Rattle.flash_log.specs.declared.summary_writing.Summarized.TheVariants as ends
use Rattle.flash_log.specs.laws.Steps.{step_on}
use Rattle.flash_log.proofs.IndexStays.{holds_counts, holds_on}
use Rattle.flash_log.proofs.NextBlock.{PaysBegun, begins_marked, begins_written, ends_from, number_left, pays_begun, pays_next_again, pays_next_from, pays_plain, was_written}
use Rattle.flash_log.proofs.Summarized.{clear_fresh_block}
use Rattle.flash_log.proofs.Writing.{fresh_taken}
use Rattle.flash_log.proofs.log.Log.open_next.Goals as goal

pub returns-in_err-block-clause-pays : goal.returns-in_err-block-clause-pays
returns-in_err-block-clause-pays g c =
    let log = c.args.self.now in
    let mid = c.allocate_block.new.self in
    let a = log_of (g.N.Nand.state log.device) (table log.blocks) in
    let b = log_of (g.N.Nand.state mid.device) (table mid.blocks) in
    let took = c.allocate_block.ensures in
    let p = err_from_is_err_and c.from_residual.result c.from_residual.ensures.1 in
    rw p.1 (pays_plain c.args.count a b c.allocate_block.result (Err p.0) took.step.lasts took.passes.failures took.pays (let size = ap (λ (x : Geometry). x.pages) log.can_write.geometry in omega (arith, size, c.requires.count)) tt)

pub returns-in_default-clause-pays : goal.returns-in_default-clause-pays
returns-in_default-clause-pays g c =
    let log = c.args.self.now in
    let mid = c.allocate_block.new.self in
    let a = log_of (g.N.Nand.state log.device) (table log.blocks) in
    let b = log_of (g.N.Nand.state mid.device) (table mid.blocks) in
    let took = c.in_ok-block.ensures in
    pays_plain c.args.count a b (Ok c.in_ok-block.block) _ took.step.lasts took.passes.failures took.pays (let size = ap (λ (x : Geometry). x.pages) log.can_write.geometry in omega (arith, size, c.requires.count)) took.pays.answers

pub summarize-requires-clause-fresh : goal.summarize-requires-clause-fresh
summarize-requires-clause-fresh g c =
    let log = c.args.self.now in
    let mid = c.allocate_block.new.self in
    let a = log_of (g.N.Nand.state log.device) (table log.blocks) in
    let b = log_of (g.N.Nand.state mid.device) (table mid.blocks) in
    let took = c.in_ok-block.ensures in
    fresh_taken c.in_ok-block.block a.device b.device a.table b.table took.passes took.step.can_write took.ends.0 took.ends.1

pub summarize-requires-clause-written : goal.summarize-requires-clause-written
summarize-requires-clause-written g c =
    let log = c.args.self.now in
    let mid = c.allocate_block.new.self in
    let a = log_of (g.N.Nand.state log.device) (table log.blocks) in
    let b = log_of (g.N.Nand.state mid.device) (table mid.blocks) in
    let took = c.in_ok-block.ensures in
    was_written c.in-Some.written c.in_ok-block.block a.device b.device a.table b.table log.can_write c.in-Some.ensures.opened took.step.lasts took.passes took.ends.0

pub returns-in_err-summarize-clause-step : goal.returns-in_err-summarize-clause-step
returns-in_err-summarize-clause-step g c =
    let log = c.args.self.now in
    let mid = c.allocate_block.new.self in
    let a = log_of (g.N.Nand.state log.device) (table log.blocks) in
    let b = log_of (g.N.Nand.state mid.device) (table mid.blocks) in
    let took = c.in_ok-block.ensures in
    let end = c.summarize.new.self in
    let e = log_of (g.N.Nand.state end.device) (table end.blocks) in
    let did = c.summarize.ensures in
    let step = step_on log.spare a b e log.index mid.index end.index took.step (subst (λ n. Step n b e mid.index end.index) took.terms.spare did.step) in
    step

pub returns-in_err-summarize-clause-pays : goal.returns-in_err-summarize-clause-pays
returns-in_err-summarize-clause-pays g c =
    let log = c.args.self.now in
    let mid = c.allocate_block.new.self in
    let a = log_of (g.N.Nand.state log.device) (table log.blocks) in
    let b = log_of (g.N.Nand.state mid.device) (table mid.blocks) in
    let took = c.in_ok-block.ensures in
    let end = c.summarize.new.self in
    let e = log_of (g.N.Nand.state end.device) (table end.blocks) in
    let did = c.summarize.ensures in
    let begun = pays_begun a b e c.in_ok-block.block took.step.lasts took.pays took.passes.failures did.step.lasts c.args.count mid.spare c.summarize.result did.ends did.pays in
    let p = err_from_is_err_and c.from_residual-in_err-summarize.result c.from_residual-in_err-summarize.ensures.1 in
    let its = subst (λ r. PaysBegun c.args.count a e r) c.in_err-summarize.was begun in
    rw p.1 (pays_next_from c.args.count a e _ (Err p.0) its (omega arith) tt its.pays.reads)

pub returns-in-Written-clause-step : goal.returns-in-Written-clause-step
returns-in-Written-clause-step g c =
    let log = c.args.self.now in
    let mid = c.allocate_block.new.self in
    let a = log_of (g.N.Nand.state log.device) (table log.blocks) in
    let b = log_of (g.N.Nand.state mid.device) (table mid.blocks) in
    let took = c.in_ok-block.ensures in
    let end = c.summarize.new.self in
    let e = log_of (g.N.Nand.state end.device) (table end.blocks) in
    let did = c.summarize.ensures in
    let step = step_on log.spare a b e log.index mid.index end.index took.step (subst (λ n. Step n b e mid.index end.index) took.terms.spare did.step) in
    step

pub returns-in-Written-clause-pays : goal.returns-in-Written-clause-pays
returns-in-Written-clause-pays g c =
    let log = c.args.self.now in
    let mid = c.allocate_block.new.self in
    let a = log_of (g.N.Nand.state log.device) (table log.blocks) in
    let b = log_of (g.N.Nand.state mid.device) (table mid.blocks) in
    let took = c.in_ok-block.ensures in
    let end = c.summarize.new.self in
    let e = log_of (g.N.Nand.state end.device) (table end.blocks) in
    let did = c.summarize.ensures in
    let begun = pays_begun a b e c.in_ok-block.block took.step.lasts took.pays took.passes.failures did.step.lasts c.args.count mid.spare c.summarize.result did.ends did.pays in
    let its = subst (λ r. PaysBegun c.args.count a e r) (c.in_ok-summarize.was ∙ ap Ok c.in-Written.is) begun in
    pays_next_from c.args.count a e (Ok ends.Written) _ its (omega arith) its.pays.answers its.pays.reads

pub returns-in-Marked-clause-step : goal.returns-in-Marked-clause-step
returns-in-Marked-clause-step g c =
    let log = c.args.self.now in
    let mid = c.allocate_block.new.self in
    let a = log_of (g.N.Nand.state log.device) (table log.blocks) in
    let b = log_of (g.N.Nand.state mid.device) (table mid.blocks) in
    let took = c.in_ok-block.ensures in
    let end = c.summarize.new.self in
    let e = log_of (g.N.Nand.state end.device) (table end.blocks) in
    let did = c.summarize.ensures in
    let step = step_on log.spare a b e log.index mid.index end.index took.step (subst (λ n. Step n b e mid.index end.index) took.terms.spare did.step) in
    let last = c.open_plain.new.self in
    let f = log_of (g.N.Nand.state last.device) (table last.blocks) in
    let then = c.open_plain.ensures in
    step_on log.spare a e f log.index end.index last.index step (subst (λ n. Step n e f end.index last.index) (did.terms.spare ∙ took.terms.spare) then.step)

pub returns-in-Marked-clause-pays : goal.returns-in-Marked-clause-pays
returns-in-Marked-clause-pays g c =
    let log = c.args.self.now in
    let mid = c.allocate_block.new.self in
    let a = log_of (g.N.Nand.state log.device) (table log.blocks) in
    let b = log_of (g.N.Nand.state mid.device) (table mid.blocks) in
    let took = c.in_ok-block.ensures in
    let end = c.summarize.new.self in
    let e = log_of (g.N.Nand.state end.device) (table end.blocks) in
    let did = c.summarize.ensures in
    let begun = pays_begun a b e c.in_ok-block.block took.step.lasts took.pays took.passes.failures did.step.lasts c.args.count mid.spare c.summarize.result did.ends did.pays in
    let last = c.open_plain.new.self in
    let f = log_of (g.N.Nand.state last.device) (table last.blocks) in
    let then = c.open_plain.ensures in
    let its = subst (λ r. PaysBegun c.args.count a e r) (c.in_ok-summarize.was ∙ ap Ok c.in-Marked.is) begun in
    pays_next_again c.args.count a e f c.open_plain.result its (lasts_on a.device b.device e.device took.step.lasts did.step.lasts) then.pays

pub returns-in-Marked-clause-ends : goal.returns-in-Marked-clause-ends
returns-in-Marked-clause-ends g c =
    let log = c.args.self.now in
    let mid = c.allocate_block.new.self in
    let a = log_of (g.N.Nand.state log.device) (table log.blocks) in
    let b = log_of (g.N.Nand.state mid.device) (table mid.blocks) in
    let took = c.in_ok-block.ensures in
    let end = c.summarize.new.self in
    let e = log_of (g.N.Nand.state end.device) (table end.blocks) in
    let did = c.summarize.ensures in
    let last = c.open_plain.new.self in
    let f = log_of (g.N.Nand.state last.device) (table last.blocks) in
    let then = c.open_plain.ensures in
    let pages = ap (λ (x : Geometry). x.pages) (did.step.geometry ∙ took.step.geometry) in
    let ended = then.ends c.args.count (omega (arith, pages, c.requires.count)) in
    let left = number_left c.args.count mid.spare a b e c.summarize.result took.passes.next_group (c.in_ok-summarize.was ∙ ap Ok c.in-Marked.is) did.ends in
    ends_from c.args.count log.spare a e f c.open_plain.result left (subst (λ n. NextEnds c.args.count n e f c.open_plain.result) (did.terms.spare ∙ took.terms.spare) ended)

pub returns-in_default-clause-begins : goal.returns-in_default-clause-begins
returns-in_default-clause-begins g c = λ b worth room honest same. absurd (c.in_default.ensures.none b worth)

pub returns-in-Written-clause-begins : goal.returns-in-Written-clause-begins
returns-in-Written-clause-begins g c =
    let log = c.args.self.now in
    let mid = c.allocate_block.new.self in
    let a = log_of (g.N.Nand.state log.device) (table log.blocks) in
    let b = log_of (g.N.Nand.state mid.device) (table mid.blocks) in
    let took = c.in_ok-block.ensures in
    let end = c.summarize.new.self in
    let e = log_of (g.N.Nand.state end.device) (table end.blocks) in
    let did = c.summarize.ensures in
    begins_written c.in-Some.written c.args.count a b e c.summarize.result c.in-Some.ensures.opened took.step.lasts took.passes did.writes (c.in_ok-summarize.was ∙ ap Ok c.in-Written.is)

pub returns-in-Marked-clause-begins : goal.returns-in-Marked-clause-begins
returns-in-Marked-clause-begins g c =
    let log = c.args.self.now in
    let mid = c.allocate_block.new.self in
    let a = log_of (g.N.Nand.state log.device) (table log.blocks) in
    let b = log_of (g.N.Nand.state mid.device) (table mid.blocks) in
    let took = c.in_ok-block.ensures in
    let end = c.summarize.new.self in
    let e = log_of (g.N.Nand.state end.device) (table end.blocks) in
    let did = c.summarize.ensures in
    let last = c.open_plain.new.self in
    let f = log_of (g.N.Nand.state last.device) (table last.blocks) in
    begins_marked c.args.count mid.spare a b e f c.summarize.result c.open_plain.result (c.in_ok-summarize.was ∙ ap Ok c.in-Marked.is) took.step.lasts c.open_plain.ensures.step.lasts did.ends did.pays

pub returns-in_default-clause-ends : goal.returns-in_default-clause-ends
returns-in_default-clause-ends g c =
    let log = c.args.self.now in
    let mid = c.allocate_block.new.self in
    let a = log_of (g.N.Nand.state log.device) (table log.blocks) in
    let b = log_of (g.N.Nand.state mid.device) (table mid.blocks) in
    let took = c.in_ok-block.ensures in
    let fresh = fresh_taken c.in_ok-block.block a.device b.device a.table b.table took.passes took.step.can_write took.ends.0 took.ends.1 in
    let group = took.passes.next_group in (
      clear_fresh_block c.in_ok-block.block c.args.count b.device b.table fresh (subst (λ (x : Geometry). c.args.count ≤ x.pages) (sym took.passes.geometry) c.requires.count),
      λ less. omega (arith, group, less),
    )

pub returns-in_err-block-clause-holds : goal.returns-in_err-block-clause-holds
returns-in_err-block-clause-holds g c =
    let passes = c.allocate_block.ensures.passes in
    let first = holds_counts (table c.args.self.now.blocks) (table c.allocate_block.new.self.blocks) passes.committed passes.marked passes.uncommitted in
    first

pub returns-in_default-clause-holds : goal.returns-in_default-clause-holds
returns-in_default-clause-holds g c =
    let passes = c.allocate_block.ensures.passes in
    let first = holds_counts (table c.args.self.now.blocks) (table c.allocate_block.new.self.blocks) passes.committed passes.marked passes.uncommitted in
    first

pub returns-in_err-summarize-clause-holds : goal.returns-in_err-summarize-clause-holds
returns-in_err-summarize-clause-holds g c =
    let passes = c.allocate_block.ensures.passes in
    let first = holds_counts (table c.args.self.now.blocks) (table c.allocate_block.new.self.blocks) passes.committed passes.marked passes.uncommitted in
    holds_on (table c.args.self.now.blocks) (table c.allocate_block.new.self.blocks) (table c.summarize.new.self.blocks) first c.summarize.ensures.holds

pub returns-in-Written-clause-holds : goal.returns-in-Written-clause-holds
returns-in-Written-clause-holds g c =
    let passes = c.allocate_block.ensures.passes in
    let first = holds_counts (table c.args.self.now.blocks) (table c.allocate_block.new.self.blocks) passes.committed passes.marked passes.uncommitted in
    holds_on (table c.args.self.now.blocks) (table c.allocate_block.new.self.blocks) (table c.summarize.new.self.blocks) first c.summarize.ensures.holds

pub returns-in-Marked-clause-holds : goal.returns-in-Marked-clause-holds
returns-in-Marked-clause-holds g c =
    let passes = c.allocate_block.ensures.passes in
    let first = holds_counts (table c.args.self.now.blocks) (table c.allocate_block.new.self.blocks) passes.committed passes.marked passes.uncommitted in
    let t : Table = table c.args.self.now.blocks in
    let u : Table = table c.summarize.new.self.blocks in
    holds_on t u (table c.open_plain.new.self.blocks) (holds_on t (table c.allocate_block.new.self.blocks) u first c.summarize.ensures.holds) c.open_plain.ensures.holds
