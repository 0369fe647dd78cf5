use Rattle.std.proofs.Common.{◌≡◌, ◌∙◌, true, subst}
use Rattle.std.specs.Prelude.{IfSome}
use Rattle.nand_model.specs.TrustedParts.{inner_of}
use Rattle.mount_scan.specs.FoundCheckpoint.{HasForm, IsWholeOn, checkpoint_of}
use Rattle.mount_scan.specs.laws.CheckpointReads.{firsts_read}
use Rattle.mounting.proofs.Noting.{form_after, whole_after, found_noted, read_before, right_after, right_before, ok_map}
use Rattle.mounting.proofs.ReadsTree.{ok_all, tags_after}
use Rattle.mounting.proofs.going.open_scanned.Goals as goal

pub by_scan-requires-clause-noted : goal.by_scan-requires-clause-noted
by_scan-requires-clause-noted g c =
    let a = g.N.Nand.state c.args.device in
    let b = g.N.Nand.state c.find_checkpoint.new.device in
    let k = checkpoint_of c.in-Some.found in
    let reads = c.in-Ok.ensures.reads.only in
    let form = subst (λ m. IfSome m (λ f. HasForm a (checkpoint_of f))) c.in-Some.is c.in-Ok.ensures.form in
    let whole = subst (λ m. IfSome m (λ f. IsWholeOn a (checkpoint_of f))) c.in-Some.is c.in-Ok.ensures.found in
    found_noted b k (form_after a b k reads form) (whole_after a b k reads whole)

pub by_scan-requires-clause-firsts : goal.by_scan-requires-clause-firsts
by_scan-requires-clause-firsts g c = firsts_read (g.N.Nand.state c.args.device) (g.N.Nand.state c.find_checkpoint.new.device) _ c.in-Ok.ensures.reads.only c.in-Ok.ensures.firsts

pub returns-in-Some-clause-read : goal.returns-in-Some-clause-read
returns-in-Some-clause-read g c = ok_map c.by_scan.result (λ x read. read_before _ _ _ _ c.in-Ok.ensures.reads.only c.in-Ok.ensures.reads.gone read) c.by_scan.ensures.read

pub returns-in-Some-clause-within_limit : goal.returns-in-Some-clause-within_limit
returns-in-Some-clause-within_limit g c =
    let a = g.N.Nand.state c.args.device in
    let b = g.N.Nand.state c.find_checkpoint.new.device in
    let reads = c.in-Ok.ensures.reads in
    ok_all c.by_scan.result (b.honest ≡ true) c.by_scan.ensures.scans (λ x all. tags_after a b (g.N.Nand.state (inner_of x.named.value.on.device)) reads.only reads.most all)

pub by_scan-requires-in-None-clause-firsts : goal.by_scan-requires-in-None-clause-firsts
by_scan-requires-in-None-clause-firsts g c = firsts_read (g.N.Nand.state c.args.device) (g.N.Nand.state c.find_checkpoint.new.device) _ c.in-Ok.ensures.reads.only c.in-Ok.ensures.firsts

pub returns-clause-read : goal.returns-clause-read
returns-clause-read g c = ok_map c.by_scan-in-None.result (λ x read. read_before _ _ _ _ c.in-Ok.ensures.reads.only c.in-Ok.ensures.reads.gone read) c.by_scan-in-None.ensures.read

pub returns-clause-within_limit : goal.returns-clause-within_limit
returns-clause-within_limit g c =
    let a = g.N.Nand.state c.args.device in
    let b = g.N.Nand.state c.find_checkpoint.new.device in
    let reads = c.in-Ok.ensures.reads in
    ok_all c.by_scan-in-None.result (b.honest ≡ true) c.by_scan-in-None.ensures.scans (λ x all. tags_after a b (g.N.Nand.state (inner_of x.named.value.on.device)) reads.only reads.most all)

pub returns-in-Some-clause-checked : goal.returns-in-Some-clause-checked
returns-in-Some-clause-checked g c = λ honest is.
    let a = g.N.Nand.state c.args.device in
    let b = g.N.Nand.state c.find_checkpoint.new.device in
    let reads = c.in-Ok.ensures.reads.only in
    ok_map c.by_scan.result (λ x checked. right_before a b _ reads (λ _ _. checked) honest is) (c.by_scan.ensures.checked (reads.lasts.honest ∙ honest) (right_after a b reads honest is))

pub returns-clause-checked : goal.returns-clause-checked
returns-clause-checked g c = λ honest is.
    let a = g.N.Nand.state c.args.device in
    let b = g.N.Nand.state c.find_checkpoint.new.device in
    let reads = c.in-Ok.ensures.reads.only in
    ok_map c.by_scan-in-None.result (λ x checked. right_before a b _ reads (λ _ _. checked) honest is) (c.by_scan-in-None.ensures.checked (reads.lasts.honest ∙ honest) (right_after a b reads honest is))
