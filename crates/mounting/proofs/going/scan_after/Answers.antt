use Rattle.std.proofs.Common.{sym, ◌∙◌}
use Rattle.std.proofs.lemmas.Bool.{not-true}
use Rattle.nand_model.specs.laws.Changes.{only_reads_on}
use Rattle.mount_scan.specs.laws.CheckpointReads.{firsts_read}
use Rattle.mounting.proofs.Noting.{may_after, since_before, since_trusted, right_before, right_after, ok_map, err_map}
use Rattle.mounting.proofs.going.scan_after.Goals as goal

pub by_scan-requires-clause-noted : goal.by_scan-requires-clause-noted
by_scan-requires-clause-noted g c = may_after (g.N.Nand.state c.args.device) (g.N.Nand.state c.has_power.new.device) c.args.noted c.has_power.ensures.reads c.requires.noted

pub by_scan-requires-clause-firsts : goal.by_scan-requires-clause-firsts
by_scan-requires-clause-firsts g c = firsts_read (g.N.Nand.state c.args.device) (g.N.Nand.state c.has_power.new.device) c.args.firsts.now c.has_power.ensures.reads c.requires.firsts

pub returns-clause-read : goal.returns-clause-read
returns-clause-read g c =
    let power = not-true _ (sym c.has_power.ensures.power ∙ c.if-not-has_power.false) in
    ok_map c.by_scan.result (λ x read. since_before _ _ _ _ c.has_power.ensures.reads (λ was. power) (since_trusted _ _ _ read)) c.by_scan.ensures.read

pub returns-clause-power : goal.returns-clause-power
returns-clause-power g c =
    let power = not-true _ (sym c.has_power.ensures.power ∙ c.if-not-has_power.false) in
    ok_map c.by_scan.result (λ x read. read.power power) c.by_scan.ensures.read

pub returns-clause-checked : goal.returns-clause-checked
returns-clause-checked g c = λ is.
    let a = g.N.Nand.state c.args.device in
    let b = g.N.Nand.state c.has_power.new.device in
    let reads = c.has_power.ensures.reads in
    ok_map c.by_scan.result (λ x checked. right_before a b _ reads (λ _ _. checked) is.0 is.1.truth)
    (c.by_scan.ensures.checked (reads.lasts.honest ∙ is.0) (right_after a b reads is.0 is.1.truth))

pub returns-clause-back : goal.returns-clause-back
returns-clause-back g c = err_map c.by_scan.result (λ e back. only_reads_on _ _ _ c.has_power.ensures.reads back) c.by_scan.ensures.back
