use Rattle.std.proofs.Common.{◌≡◌, ◌≤◌, ◌+◌, ◌∙◌, IfSome, sym, ap, subst, arith}
use Rattle.std.proofs.lemmas.Result.{err_from_is_err_and}
use Rattle.nand_model.specs.Calls.{Device}
use Rattle.nand_model.specs.declared.geometry.Geometry.{Geometry}
use Rattle.mount_scan.specs.CheckpointBlocks.{IsBegun}
use Rattle.mount_scan.proofs.ReadPages.{candidate_on, begun_on, begun_back, none_back, form_all, whole_all}
use Rattle.mount_scan.proofs.ReadCount.{has_read, read_on, ends_so, ends_well}
use Rattle.mount_scan.proofs.checkpoint_block.read_pages.Goals as goal

pub loop-i-init : goal.loop-i-init
loop-i-init g c = record {
  read = has_read 1 _ _ c.in_ok-n.field-0 c.in_ok-n.ensures.reads;
  size = c.begin.auto.page ∙ c.requires.size;
  begun = subst (λ found. IfSome found (λ n. IsBegun (g.N.Nand.state c.args.device.now) c.args.candidate.now n 1 c.begin.new.entries.items)) c.in-Some.is c.in_ok-n.ensures.begun;
}

pub go_on-requires-clause-candidate : goal.go_on-requires-clause-candidate
go_on-requires-clause-candidate g c = candidate_on _ _ _ c.loop-i.invariant.read.only c.requires.candidate

pub go_on-requires-clause-room : goal.go_on-requires-clause-room
go_on-requires-clause-room g c = omega (arith, c.requires.room, ap (λ (x : Geometry). x.pages) c.loop-i.invariant.read.only.lasts.geometry)

pub go_on-requires-clause-size : goal.go_on-requires-clause-size
go_on-requires-clause-size g c = c.loop-i.invariant.size ∙ ap (λ (x : Geometry). x.bytes) (sym c.loop-i.invariant.read.only.lasts.geometry)

pub go_on-requires-clause-begun : goal.go_on-requires-clause-begun
go_on-requires-clause-begun g c = begun_on _ _ _ _ _ _ c.loop-i.invariant.read.only c.loop-i.invariant.begun

pub returns-in_err-go_on-clause-reads : goal.returns-in_err-go_on-clause-reads
returns-in_err-go_on-clause-reads g c =
    let p = err_from_is_err_and c.from_residual-in_err-go_on.result c.from_residual-in_err-go_on.ensures.1 in
    rw (p.1, p.2) (ends_so _ _ c.loop-i.i 1 _ _ _ _ _ c.loop-i.invariant.read (omega (arith, c.loop-i-test.true)) c.in_err-go_on.ensures.reads)

pub returns-then-not-branch-clause-reads : goal.returns-then-not-branch-clause-reads
returns-then-not-branch-clause-reads g c =
    ends_well (c.loop-i.i + 1) _ _ _ _ (read_on c.loop-i.i 1 (c.loop-i.i + 1) _ _ _ c.in_ok-go_on.field-0 c.loop-i.invariant.read c.in_ok-go_on.ensures.reads (omega arith)) (omega (arith, c.loop-i-test.true))

pub returns-then-not-branch-clause-none : goal.returns-then-not-branch-clause-none
returns-then-not-branch-clause-none g c is =
    let only = c.loop-i.invariant.read.only in
    none_back _ _ c.args.candidate.now only (c.in_ok-go_on.ensures.none c.if-not-branch.true)

pub loop-i-preserved : goal.loop-i-preserved
loop-i-preserved g c =
    let only = c.loop-i.invariant.read.only in
    record {
      read = read_on c.loop-i.i 1 (c.loop-i.i + 1) _ _ _ c.in_ok-go_on.field-0 c.loop-i.invariant.read c.in_ok-go_on.ensures.reads (omega arith);
      size = c.go_on.auto.page ∙ c.loop-i.invariant.size;
      begun = begun_back _ _ _ _ _ _ only (c.in_ok-go_on.ensures.begun c.if-not-branch.false);
    }

pub returns-clause-reads : goal.returns-clause-reads
returns-clause-reads g c =
    let end : c.loop-i.i ≤ c.args.candidate.now.tag.count = omega (arith, c.loop-i.auto.i-end, c.requires.candidate.tag.count) in
    ends_well c.loop-i.i _ _ _ _ c.loop-i.invariant.read end

pub returns-clause-form : goal.returns-clause-form
returns-clause-form g c is =
    let old : Device = g.N.Nand.state c.args.device.now in
    let end : c.loop-i.i ≡ c.args.candidate.now.tag.count = omega (arith, c.loop-i.auto.i-end, c.loop-i-test.false, c.requires.candidate.tag.count) in
    form_all old c.args.candidate.now c.in-Some.n c.loop-i.entries.items c.requires.candidate c.requires.room (subst (λ i. IsBegun old c.args.candidate.now c.in-Some.n i c.loop-i.entries.items) end c.loop-i.invariant.begun)

pub returns-clause-found : goal.returns-clause-found
returns-clause-found g c is =
    let old : Device = g.N.Nand.state c.args.device.now in
    let end : c.loop-i.i ≡ c.args.candidate.now.tag.count = omega (arith, c.loop-i.auto.i-end, c.loop-i-test.false, c.requires.candidate.tag.count) in
    whole_all old c.args.candidate.now c.in-Some.n c.loop-i.entries.items c.requires.candidate (subst (λ i. IsBegun old c.args.candidate.now c.in-Some.n i c.loop-i.entries.items) end c.loop-i.invariant.begun)
