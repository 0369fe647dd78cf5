use Rattle.std.proofs.Common.{Some, subst}
use Rattle.std.specs.Prelude.{IfSome}
use Rattle.nand_model.specs.laws.Changes.{only_reads_on}
use Rattle.mount_scan.specs.FoundCheckpoint.{HasForm, IsWholeOn, checkpoint_of}
use Rattle.mount_scan.specs.laws.CheckpointReads.{firsts_read}
use Rattle.mounting.proofs.Noting.{form_after, whole_after, may_after, found_noted, since_before, since_with, checked_before, true_after, ok_map, ok_both}
use Rattle.nand_model.specs.TrustedParts.{inner_of}
use Rattle.mounting.specs.Reads.{EndsMount}
use Rattle.page_store.specs.Checked.{HasTrueFlash}
use Rattle.mounting.proofs.ReadsTree.{ok_all, ok_each, ok_unless, reads_by, reads_none, without_after, without_not}
use Rattle.mounting.proofs.going.open_volume.Goals as goal

pub returns-in-None-clause-read : goal.returns-in-None-clause-read
returns-in-None-clause-read g c = ok_map c.without_checkpoint.result (λ x since. since_before _ _ _ _ c.in-Ok.ensures.reads.only c.in-Ok.ensures.reads.gone since) c.without_checkpoint.ensures.read

pub returns-in-Ok-by_entries-clause-read : goal.returns-in-Ok-by_entries-clause-read
returns-in-Ok-by_entries-clause-read g c = since_before _ _ _ _ c.in-Ok.ensures.reads.only c.in-Ok.ensures.reads.gone c.in-Ok-by_entries.ensures.read

pub returns-in-Ok-by_entries-clause-checked : goal.returns-in-Ok-by_entries-clause-checked
returns-in-Ok-by_entries-clause-checked g c = checked_before _ _ _ c.in-Ok.ensures.reads.only c.in-Ok-by_entries.ensures.checked

pub scan_after-requires-clause-noted : goal.scan_after-requires-clause-noted
scan_after-requires-clause-noted g c =
    let a = g.N.Nand.state c.args.device in
    let b = g.N.Nand.state c.find_checkpoint.new.device in
    let k = checkpoint_of c.in-Some.found in
    let reads = c.in-Ok.ensures.reads.only in
    let form = subst (λ m. IfSome m (λ f. HasForm a (checkpoint_of f))) c.in-Some.is c.in-Ok.ensures.form in
    let whole = subst (λ m. IfSome m (λ f. IsWholeOn a (checkpoint_of f))) c.in-Some.is c.in-Ok.ensures.found in
    may_after b (g.N.Nand.state c.in-Err-by_entries.device) (Some c.in-Some.found.block) c.in-Err-by_entries.ensures.back
    (found_noted b k (form_after a b k reads form) (whole_after a b k reads whole))

pub without_checkpoint-requires-clause-firsts : goal.without_checkpoint-requires-clause-firsts
without_checkpoint-requires-clause-firsts g c = firsts_read (g.N.Nand.state c.args.device) (g.N.Nand.state c.find_checkpoint.new.device) _ c.in-Ok.ensures.reads.only c.in-Ok.ensures.firsts

pub by_entries-requires-clause-firsts : goal.by_entries-requires-clause-firsts
by_entries-requires-clause-firsts g c = firsts_read (g.N.Nand.state c.args.device) (g.N.Nand.state c.find_checkpoint.new.device) _ c.in-Ok.ensures.reads.only c.in-Ok.ensures.firsts

pub scan_after-requires-clause-firsts : goal.scan_after-requires-clause-firsts
scan_after-requires-clause-firsts g c =
    firsts_read (g.N.Nand.state c.args.device) (g.N.Nand.state c.in-Err-by_entries.device) _ (only_reads_on _ _ _ c.in-Ok.ensures.reads.only c.in-Err-by_entries.ensures.back) c.in-Ok.ensures.firsts

pub returns-clause-read : goal.returns-clause-read
returns-clause-read g c =
    let reads = only_reads_on _ _ _ c.in-Ok.ensures.reads.only c.in-Err-by_entries.ensures.back in
    ok_both c.scan_after.result (λ x power since. since_with _ _ _ _ reads power since) c.scan_after.ensures.power c.scan_after.ensures.read

pub returns-clause-checked : goal.returns-clause-checked
returns-clause-checked g c = λ is.
    let a = g.N.Nand.state c.args.device in
    let e = g.N.Nand.state c.in-Err-by_entries.device in
    let reads = only_reads_on a (g.N.Nand.state c.find_checkpoint.new.device) e c.in-Ok.ensures.reads.only c.in-Err-by_entries.ensures.back in
    ok_map c.scan_after.result (λ x checked. checked_before a e _ reads (λ _. checked) is) (c.scan_after.ensures.checked (true_after a e reads is))

pub returns-in-Ok-by_entries-clause-within_limit : goal.returns-in-Ok-by_entries-clause-within_limit
returns-in-Ok-by_entries-clause-within_limit g c =
    reads_by (g.N.Nand.state c.args.device) (g.N.Nand.state c.find_checkpoint.new.device) (g.N.Nand.state (inner_of c.in-Ok-by_entries.going.named.value.on.device)) c.in-Ok.ensures.reads.only
    c.in-Ok.ensures.reads_bounded c.in-Ok-by_entries.ensures.within_limit

pub returns-clause-within_limit : goal.returns-clause-within_limit
returns-clause-within_limit g c =
    let e = g.N.Nand.state c.in-Err-by_entries.device in
    let fault = c.in-Err-by_entries.fault in
    ok_unless c.scan_after.result (EndsMount e fault) c.scan_after.ensures.ends
    (λ x not. reads_none (g.N.Nand.state c.args.device) (g.N.Nand.state c.find_checkpoint.new.device) e (g.N.Nand.state (inner_of x.named.value.on.device)) fault c.in-Ok.ensures.reads.only c.in-Err-by_entries.ensures.fault not)

pub returns-in-None-clause-without : goal.returns-in-None-clause-without
returns-in-None-clause-without g c =
    let a = g.N.Nand.state c.args.device in
    let b = g.N.Nand.state c.find_checkpoint.new.device in
    let reads = c.in-Ok.ensures.reads in
    ok_all c.without_checkpoint.result (HasTrueFlash b) c.without_checkpoint.ensures.within_limit (λ x all. without_after a b (g.N.Nand.state (inner_of x.named.value.on.device)) reads.only reads.most all)

pub returns-in-Ok-by_entries-clause-without : goal.returns-in-Ok-by_entries-clause-without
returns-in-Ok-by_entries-clause-without g c =
    let a = g.N.Nand.state c.args.device in
    let whole = subst (λ m. IfSome m (λ f. IsWholeOn a (checkpoint_of f))) c.in-Some.is c.in-Ok.ensures.found in
    without_not a (g.N.Nand.state (inner_of c.in-Ok-by_entries.going.named.value.on.device)) (checkpoint_of c.in-Some.found) whole

pub returns-clause-without : goal.returns-clause-without
returns-clause-without g c =
    let a = g.N.Nand.state c.args.device in
    let whole = subst (λ m. IfSome m (λ f. IsWholeOn a (checkpoint_of f))) c.in-Some.is c.in-Ok.ensures.found in
    ok_each c.scan_after.result (λ x. without_not a (g.N.Nand.state (inner_of x.named.value.on.device)) (checkpoint_of c.in-Some.found) whole)
