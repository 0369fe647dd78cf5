use Rattle.std.proofs.Common.{None}
use Rattle.nand_model.specs.TrustedParts.{inner_of}
use Rattle.mount_scan.specs.laws.CheckpointReads.{firsts_read}
use Rattle.mounting.specs.Reads.{EndsMount}
use Rattle.mounting.proofs.Noting.{may_after, since_with, checked_before, true_after, ok_map, ok_both}
use Rattle.mounting.proofs.ReadsTree.{ok_unless, summaries_not}
use Rattle.mounting.proofs.going.without_checkpoint.Goals as goal

pub by_summaries-requires-clause-none : goal.by_summaries-requires-clause-none
by_summaries-requires-clause-none g c = λ is. c.requires.noted.only is.0 is.1.truth

pub scan_after-requires-clause-noted : goal.scan_after-requires-clause-noted
scan_after-requires-clause-noted g c = may_after (g.N.Nand.state c.args.device) (g.N.Nand.state c.in-Err.device) None c.in-Err.ensures.back c.requires.noted

pub scan_after-requires-clause-firsts : goal.scan_after-requires-clause-firsts
scan_after-requires-clause-firsts g c = firsts_read (g.N.Nand.state c.args.device) (g.N.Nand.state c.in-Err.device) _ c.in-Err.ensures.back c.requires.firsts

pub returns-in-Err-clause-read : goal.returns-in-Err-clause-read
returns-in-Err-clause-read g c = ok_both c.scan_after.result (λ x power since. since_with _ _ _ _ c.in-Err.ensures.back power since) c.scan_after.ensures.power c.scan_after.ensures.read

pub returns-in-Err-clause-checked : goal.returns-in-Err-clause-checked
returns-in-Err-clause-checked g c = λ is.
    let a = g.N.Nand.state c.args.device in
    let e = g.N.Nand.state c.in-Err.device in
    let reads = c.in-Err.ensures.back in
    ok_map c.scan_after.result (λ x checked. checked_before a e _ reads (λ _. checked) is) (c.scan_after.ensures.checked (true_after a e reads is))

pub returns-in-Err-clause-within_limit : goal.returns-in-Err-clause-within_limit
returns-in-Err-clause-within_limit g c = λ is.
    let a = g.N.Nand.state c.args.device in
    let e = g.N.Nand.state c.in-Err.device in
    ok_unless c.scan_after.result (EndsMount e c.in-Err.fault) c.scan_after.ensures.ends
    (λ x not. summaries_not a e (g.N.Nand.state (inner_of x.named.value.on.device)) c.in-Err.fault (c.in-Err.ensures.fault is) not)
