use Rattle.std.proofs.Common.{sym, ◌≡◌, ◌+◌, ◌∙◌, if◌then◌else◌, ap, subst, arith}
use Rattle.nand_model.specs.Calls.{Device}
use Rattle.nand_model.specs.declared.geometry.Geometry.{Geometry}
use Rattle.flash_tree.specs.Summaries.{IsWholeSummary}
use Rattle.flash_tree.specs.laws.Truth.{none_after}
use Rattle.block_state.specs.Committed.{bad_count}
use Rattle.block_state.specs.laws.Committed.{same_bad_count}
use Rattle.block_state.specs.Table.{Table}
use Rattle.block_state.specs.TableOf.{table}
use Rattle.transactions.specs.Checking.{log_of}
use Rattle.transactions.specs.Groups.{OkTable}
use Rattle.transactions.specs.laws.Ready.{none_waits}
use Rattle.flash_log.specs.SummaryMaking.{summary_of}
use Rattle.flash_log.specs.laws.Keeping.{same_ends}
use Rattle.flash_log.proofs.Summarized.{empty_still, ends_written, listed_summarizes, number_used, mark_summarizes, pays_pages, pays_fault, pays_mark, ends_marked, summary_whole}
use Rattle.flash_log.proofs.summary_writing.write_listed.Goals as goal

pub mark_written-requires-clause-empty : goal.mark_written-requires-clause-empty
mark_written-requires-clause-empty g c =
    let d : Device = g.N.Nand.state c.args.device.now in
    let e : Device = g.N.Nand.state c.write_summary.new.device in
    let t : Table = table c.args.blocks.now in
    let u : Table = table c.write_summary.new.blocks in
    let s = c.args.source.now in
    let w = c.write_summary.ensures in
    empty_still s.pages c.args.block d t u c.write_summary.result c.requires.fresh w.group.table

pub mark_written-requires-in-Err-Failed-clause-empty : goal.mark_written-requires-in-Err-Failed-clause-empty
mark_written-requires-in-Err-Failed-clause-empty g c =
    let d : Device = g.N.Nand.state c.args.device.now in
    let e : Device = g.N.Nand.state c.write_summary.new.device in
    let t : Table = table c.args.blocks.now in
    let u : Table = table c.write_summary.new.blocks in
    let s = c.args.source.now in
    let w = c.write_summary.ensures in
    empty_still s.pages c.args.block d t u c.write_summary.result c.requires.fresh w.group.table

pub mark_written-requires-in-Err-Failed-clause-none : goal.mark_written-requires-in-Err-Failed-clause-none
mark_written-requires-in-Err-Failed-clause-none g c =
    let d : Device = g.N.Nand.state c.args.device.now in
    let e : Device = g.N.Nand.state c.write_summary.new.device in
    let t : Table = table c.args.blocks.now in
    let u : Table = table c.write_summary.new.blocks in
    let s = c.args.source.now in
    let w = c.write_summary.ensures in
    none_after d e t.checkpoint _ w.numbers.truth (none_waits d t c.args.block c.requires.can_write c.requires.fresh.open_block)

pub returns-then-placed-clause-does : goal.returns-then-placed-clause-does
returns-then-placed-clause-does g c =
    let d : Device = g.N.Nand.state c.args.device.now in
    let e : Device = g.N.Nand.state c.write_summary.new.device in
    let t : Table = table c.args.blocks.now in
    let u : Table = table c.write_summary.new.blocks in
    let s = c.args.source.now in
    let w = c.write_summary.ensures in
    let f : Device = g.N.Nand.state c.mark_written.new.device in
    let v : Table = table c.mark_written.new.blocks in
    let m = c.mark_written.ensures in
    mark_summarizes (summary_of s t c.args.block) c.args.block d e f t u v c.requires.fresh.uncommitted
    (listed_summarizes s c.args.block d e t u c.write_summary.result c.requires.can_write c.requires.fresh (omega (arith, c.requires.number)) c.requires.source c.requires.lists w.lasts w.can_write w.group w.numbers w.adds)
    m.keeps m.newest m.found m.closed

pub returns-then-placed-clause-pays : goal.returns-then-placed-clause-pays
returns-then-placed-clause-pays g c =
    let d : Device = g.N.Nand.state c.args.device.now in
    let e : Device = g.N.Nand.state c.write_summary.new.device in
    let t : Table = table c.args.blocks.now in
    let u : Table = table c.write_summary.new.blocks in
    let s = c.args.source.now in
    let w = c.write_summary.ensures in
    let f : Device = g.N.Nand.state c.mark_written.new.device in
    let v : Table = table c.mark_written.new.blocks in
    let m = c.mark_written.ensures in
    let same : bad_count u ≡ bad_count t = same_bad_count t u (same_ends s.pages t u c.write_summary.result w.group.table) in
    let failed = c.in-Ok.ensures.group.ends.0 ∙ ap (λ b. d.failures + (if b then 1 else 0)) c.if-placed.true in
    let changes = c.in-Ok.ensures.group.ends.2 in
    λ count fits. pays_mark s.pages count (log_of d t) (log_of e u) c.requires.most (let same_pages = ap (λ (x : Geometry). x.pages) c.requires.can_write.geometry in omega (arith, fits, same_pages)) w.lasts same (w.group.quiet tt) (log_of f v) failed (omega (arith, changes)) m.costs m.keeps.lasts c.mark_written.result m.ends

pub returns-then-placed-clause-ends : goal.returns-then-placed-clause-ends
returns-then-placed-clause-ends g c =
    let d : Device = g.N.Nand.state c.args.device.now in
    let e : Device = g.N.Nand.state c.write_summary.new.device in
    let t : Table = table c.args.blocks.now in
    let u : Table = table c.write_summary.new.blocks in
    let s = c.args.source.now in
    let w = c.write_summary.ensures in
    let f : Device = g.N.Nand.state c.mark_written.new.device in
    let v : Table = table c.mark_written.new.blocks in
    let m = c.mark_written.ensures in
    let same : bad_count u ≡ bad_count t = same_bad_count t u (same_ends s.pages t u c.write_summary.result w.group.table) in
    λ count spare fits. ends_marked count spare (log_of d t) (log_of e u) (log_of f v) c.mark_written.result same (let used = number_used s.pages t u c.write_summary.result w.group.table in omega (arith, used, c.requires.number)) m.ends

pub returns-in-Err-Failed-clause-does : goal.returns-in-Err-Failed-clause-does
returns-in-Err-Failed-clause-does g c =
    let d : Device = g.N.Nand.state c.args.device.now in
    let e : Device = g.N.Nand.state c.write_summary.new.device in
    let t : Table = table c.args.blocks.now in
    let u : Table = table c.write_summary.new.blocks in
    let s = c.args.source.now in
    let w = c.write_summary.ensures in
    let f : Device = g.N.Nand.state c.mark_written-in-Err-Failed.new.device in
    let v : Table = table c.mark_written-in-Err-Failed.new.blocks in
    let m = c.mark_written-in-Err-Failed.ensures in
    mark_summarizes (summary_of s t c.args.block) c.args.block d e f t u v c.requires.fresh.uncommitted
    (listed_summarizes s c.args.block d e t u c.write_summary.result c.requires.can_write c.requires.fresh (omega (arith, c.requires.number)) c.requires.source c.requires.lists w.lasts w.can_write w.group w.numbers w.adds)
    m.keeps m.newest m.found m.closed

pub returns-in-Err-Failed-clause-pays : goal.returns-in-Err-Failed-clause-pays
returns-in-Err-Failed-clause-pays g c =
    let d : Device = g.N.Nand.state c.args.device.now in
    let e : Device = g.N.Nand.state c.write_summary.new.device in
    let t : Table = table c.args.blocks.now in
    let u : Table = table c.write_summary.new.blocks in
    let s = c.args.source.now in
    let w = c.write_summary.ensures in
    let f : Device = g.N.Nand.state c.mark_written-in-Err-Failed.new.device in
    let v : Table = table c.mark_written-in-Err-Failed.new.blocks in
    let m = c.mark_written-in-Err-Failed.ensures in
    let same : bad_count u ≡ bad_count t = same_bad_count t u (same_ends s.pages t u c.write_summary.result w.group.table) in
    let ended = (rw c.in-Err-Failed.field-0-is at c.in-Err-Failed.ensures).group.ends in
    let failed = ended.0 in
    let changes = ended.3 in
    λ count fits. pays_mark s.pages count (log_of d t) (log_of e u) c.requires.most (let same_pages = ap (λ (x : Geometry). x.pages) c.requires.can_write.geometry in omega (arith, fits, same_pages)) w.lasts same (w.group.quiet tt) (log_of f v) failed (omega (arith, changes)) m.costs m.keeps.lasts c.mark_written-in-Err-Failed.result m.ends

pub returns-in-Err-Failed-clause-ends : goal.returns-in-Err-Failed-clause-ends
returns-in-Err-Failed-clause-ends g c =
    let d : Device = g.N.Nand.state c.args.device.now in
    let e : Device = g.N.Nand.state c.write_summary.new.device in
    let t : Table = table c.args.blocks.now in
    let u : Table = table c.write_summary.new.blocks in
    let s = c.args.source.now in
    let w = c.write_summary.ensures in
    let f : Device = g.N.Nand.state c.mark_written-in-Err-Failed.new.device in
    let v : Table = table c.mark_written-in-Err-Failed.new.blocks in
    let m = c.mark_written-in-Err-Failed.ensures in
    let same : bad_count u ≡ bad_count t = same_bad_count t u (same_ends s.pages t u c.write_summary.result w.group.table) in
    λ count spare fits. ends_marked count spare (log_of d t) (log_of e u) (log_of f v) c.mark_written-in-Err-Failed.result same (let used = number_used s.pages t u c.write_summary.result w.group.table in omega (arith, used, c.requires.number)) m.ends

pub returns-else-placed-clause-does : goal.returns-else-placed-clause-does
returns-else-placed-clause-does g c =
    let d : Device = g.N.Nand.state c.args.device.now in
    let e : Device = g.N.Nand.state c.write_summary.new.device in
    let t : Table = table c.args.blocks.now in
    let u : Table = table c.write_summary.new.blocks in
    let s = c.args.source.now in
    let w = c.write_summary.ensures in
    listed_summarizes s c.args.block d e t u c.write_summary.result c.requires.can_write c.requires.fresh (omega (arith, c.requires.number)) c.requires.source c.requires.lists w.lasts w.can_write w.group w.numbers w.adds

pub returns-in-Err-Lost-clause-does : goal.returns-in-Err-Lost-clause-does
returns-in-Err-Lost-clause-does g c =
    let d : Device = g.N.Nand.state c.args.device.now in
    let e : Device = g.N.Nand.state c.write_summary.new.device in
    let t : Table = table c.args.blocks.now in
    let u : Table = table c.write_summary.new.blocks in
    let s = c.args.source.now in
    let w = c.write_summary.ensures in
    listed_summarizes s c.args.block d e t u c.write_summary.result c.requires.can_write c.requires.fresh (omega (arith, c.requires.number)) c.requires.source c.requires.lists w.lasts w.can_write w.group w.numbers w.adds

pub returns-in-Err-Gone-clause-does : goal.returns-in-Err-Gone-clause-does
returns-in-Err-Gone-clause-does g c =
    let d : Device = g.N.Nand.state c.args.device.now in
    let e : Device = g.N.Nand.state c.write_summary.new.device in
    let t : Table = table c.args.blocks.now in
    let u : Table = table c.write_summary.new.blocks in
    let s = c.args.source.now in
    let w = c.write_summary.ensures in
    listed_summarizes s c.args.block d e t u c.write_summary.result c.requires.can_write c.requires.fresh (omega (arith, c.requires.number)) c.requires.source c.requires.lists w.lasts w.can_write w.group w.numbers w.adds

pub returns-else-placed-clause-pays : goal.returns-else-placed-clause-pays
returns-else-placed-clause-pays g c =
    let d : Device = g.N.Nand.state c.args.device.now in
    let e : Device = g.N.Nand.state c.write_summary.new.device in
    let t : Table = table c.args.blocks.now in
    let u : Table = table c.write_summary.new.blocks in
    let s = c.args.source.now in
    let w = c.write_summary.ensures in
    let same : bad_count u ≡ bad_count t = same_bad_count t u (same_ends s.pages t u c.write_summary.result w.group.table) in
    let ended = c.in-Ok.ensures.group.ends in
    λ count fits. pays_pages s.pages count (log_of d t) (log_of e u) c.requires.most (let same_pages = ap (λ (x : Geometry). x.pages) c.requires.can_write.geometry in omega (arith, fits, same_pages)) w.lasts same (w.group.quiet tt) (ended.0 ∙ ap (λ b. d.failures + (if b then 1 else 0)) c.if-placed.false ∙ omega arith) ended.2

pub returns-in-Err-Lost-clause-pays : goal.returns-in-Err-Lost-clause-pays
returns-in-Err-Lost-clause-pays g c =
    let d : Device = g.N.Nand.state c.args.device.now in
    let e : Device = g.N.Nand.state c.write_summary.new.device in
    let t : Table = table c.args.blocks.now in
    let u : Table = table c.write_summary.new.blocks in
    let s = c.args.source.now in
    let w = c.write_summary.ensures in
    let same : bad_count u ≡ bad_count t = same_bad_count t u (same_ends s.pages t u c.write_summary.result w.group.table) in
    let ended = (rw c.in-Err-Lost.field-0-is at c.in-Err-Lost.ensures).group.ends in
    λ count fits. pays_fault s.pages count (log_of d t) (log_of e u) c.requires.most (let same_pages = ap (λ (x : Geometry). x.pages) c.requires.can_write.geometry in omega (arith, fits, same_pages)) w.lasts same (w.group.quiet tt) _ ended.1

pub returns-in-Err-Gone-clause-pays : goal.returns-in-Err-Gone-clause-pays
returns-in-Err-Gone-clause-pays g c =
    let d : Device = g.N.Nand.state c.args.device.now in
    let e : Device = g.N.Nand.state c.write_summary.new.device in
    let t : Table = table c.args.blocks.now in
    let u : Table = table c.write_summary.new.blocks in
    let s = c.args.source.now in
    let w = c.write_summary.ensures in
    let same : bad_count u ≡ bad_count t = same_bad_count t u (same_ends s.pages t u c.write_summary.result w.group.table) in
    let ended = (rw c.in-Err-Gone.field-0-is at c.in-Err-Gone.ensures).group.ends in
    λ count fits. pays_fault s.pages count (log_of d t) (log_of e u) c.requires.most (let same_pages = ap (λ (x : Geometry). x.pages) c.requires.can_write.geometry in omega (arith, fits, same_pages)) w.lasts same (w.group.quiet tt) _ ended.1

pub returns-else-placed-clause-ends : goal.returns-else-placed-clause-ends
returns-else-placed-clause-ends g c =
    let t : Table = table c.args.blocks.now in
    let u : Table = table c.write_summary.new.blocks in
    let s = c.args.source.now in
    let made = c.in-Ok.ensures in
    ends_written s c.args.block (g.N.Nand.state c.args.device.now) (g.N.Nand.state c.write_summary.new.device) t u c.in-Ok.placed c.requires.fresh c.requires.number made.lasts made.group
    (subst (λ b. OkTable b s.pages t u) c.if-placed.false made.group.table) made.group.ends.1

pub returns-else-placed-clause-whole : goal.returns-else-placed-clause-whole
returns-else-placed-clause-whole g c =
    let d : Device = g.N.Nand.state c.args.device.now in
    let e : Device = g.N.Nand.state c.write_summary.new.device in
    let t : Table = table c.args.blocks.now in
    let s = c.args.source.now in
    λ honest is. subst (λ (x : Geometry). IsWholeSummary x e.flash (summary_of s t c.args.block)) (sym c.write_summary.ensures.lasts.geometry)
    (summary_whole s c.args.block d e.flash t c.requires.fresh c.requires.source (c.requires.lists honest) (c.in-Ok.ensures.group.groups honest c.args.block c.requires.fresh.open_block))
