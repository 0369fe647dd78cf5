use Rattle.std.proofs.Common.{◌≡◌, ◌≤◌, ◌+◌, ◌*◌, ◌∙◌, sym, ap, subst, arith}
use Rattle.std.proofs.lemmas.Result.{err_from_is_err_and}
use Rattle.nand_model.specs.Calls.{Device}
use Rattle.nand_model.specs.declared.geometry.Geometry.{Geometry}
use Rattle.mount_scan.specs.SummaryGroups.{HasPages, KeepsPages}
use Rattle.mount_scan.proofs.SummaryReads.{read_none, read_on, ends_so, ends_well, pages_more, page_back, lacks_back}
use Rattle.mount_scan.proofs.block_summary.pages.read_pages.Goals as goal

pub loop-i-init : goal.loop-i-init
loop-i-init g c = record { read = read_none _; size = c.requires.size; tagged = λ i lt honest. absurd (omega (arith, lt)) }

pub read_next-requires-clause-block : goal.read_next-requires-clause-block
read_next-requires-clause-block g c = omega (arith, c.requires.block, ap (λ (x : Geometry). x.blocks) c.loop-i.invariant.read.only.lasts.geometry)

pub read_next-requires-clause-room : goal.read_next-requires-clause-room
read_next-requires-clause-room g c = omega (arith, c.requires.room, ap (λ (x : Geometry). x.pages) c.loop-i.invariant.read.only.lasts.geometry)

pub read_next-requires-clause-size : goal.read_next-requires-clause-size
read_next-requires-clause-size g c = c.loop-i.invariant.size ∙ ap (λ (x : Geometry). c.args.first.now.count * x.bytes) (sym c.loop-i.invariant.read.only.lasts.geometry)

pub returns-in_err-read_next-clause-reads : goal.returns-in_err-read_next-clause-reads
returns-in_err-read_next-clause-reads g c =
    let p = err_from_is_err_and c.from_residual.result c.from_residual.ensures.1 in
    rw (p.1, p.2) (ends_so _ _ c.loop-i.i 1 _ _ _ _ _ c.loop-i.invariant.read (omega (arith, c.loop-i-test.true)) c.in_err-read_next.ensures.reads)

pub returns-then-not-branch-clause-reads : goal.returns-then-not-branch-clause-reads
returns-then-not-branch-clause-reads g c =
    ends_well (c.loop-i.i + 1) _ _ _ _ (read_on c.loop-i.i 1 (c.loop-i.i + 1) _ _ _ c.in_ok-read_next.field-0 c.loop-i.invariant.read c.in_ok-read_next.ensures.reads (omega arith)) (omega (arith, c.loop-i-test.true))

pub returns-then-not-branch-clause-no : goal.returns-then-not-branch-clause-no
returns-then-not-branch-clause-no g c is =
    lacks_back (g.N.Nand.state c.args.device.now) (g.N.Nand.state c.loop-i.device) c.args.block c.args.first.now c.loop-i.invariant.read.only (c.in_ok-read_next.ensures.no c.if-not-branch.true)

pub loop-i-preserved : goal.loop-i-preserved
loop-i-preserved g c =
    let old : Device = g.N.Nand.state c.args.device.now in
    let only = c.loop-i.invariant.read.only in
    record {
      read = read_on c.loop-i.i 1 (c.loop-i.i + 1) _ _ _ c.in_ok-read_next.field-0 c.loop-i.invariant.read c.in_ok-read_next.ensures.reads (omega arith);
      size = c.read_next.auto.bytes ∙ c.loop-i.invariant.size;
      tagged = pages_more old c.args.block c.args.first.now c.loop-i.i c.loop-i.bytes c.read_next.new.bytes
          (subst (λ (x : Geometry). KeepsPages x.bytes c.loop-i.i c.loop-i.bytes c.read_next.new.bytes) only.lasts.geometry c.in_ok-read_next.ensures.committed) c.loop-i.invariant.tagged
          (page_back old (g.N.Nand.state c.loop-i.device) c.args.block c.args.first.now c.loop-i.i c.read_next.new.bytes only (c.in_ok-read_next.ensures.yes c.if-not-branch.false));
    }

pub returns-clause-reads : goal.returns-clause-reads
returns-clause-reads g c =
    let end : c.loop-i.i ≤ c.args.first.now.count = omega (arith, c.loop-i.auto.i-end) in
    ends_well c.loop-i.i _ _ _ _ c.loop-i.invariant.read end

pub returns-clause-yes : goal.returns-clause-yes
returns-clause-yes g c is =
    let end : c.loop-i.i ≡ c.args.first.now.count = omega (arith, c.loop-i.auto.i-end, c.loop-i-test.false) in
    subst (λ i. HasPages (g.N.Nand.state c.args.device.now) c.args.block c.args.first.now i c.loop-i.bytes) end c.loop-i.invariant.tagged
