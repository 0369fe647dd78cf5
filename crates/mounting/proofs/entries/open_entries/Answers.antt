use Rattle.std.proofs.Common.{subst}
use Rattle.std.proofs.lemmas.Bool.{and_from}
use Rattle.std.specs.Prelude.{IfSome}
use Rattle.flash_tree.specs.Checkpoints.{IsChecked}
use Rattle.flash_tree.specs.Places.{numbers_of}
use Rattle.block_state.specs.TableOf.{table}
use Rattle.mount_scan.specs.FoundCheckpoint.{checkpoint_of}
use Rattle.page_store.specs.Checked.{IsOpenedFor, KeepsItsTree, KnowsFirstsBy}
use Rattle.page_store.specs.laws.Trust.{trust, right_said}
use Rattle.nand_model.specs.TrustedParts.{inner_of}
use Rattle.nand_model.specs.Trusting.{trusted_as}
use Rattle.mounting.proofs.Entering.{since_read, checked_at}
use Rattle.mounting.proofs.Firsts.{known_trusted}
use Rattle.mounting.proofs.Noting.{err_map, blocks_known}
use Rattle.mounting.proofs.Sure.{ends_mount}
use Rattle.mounting.proofs.entries.open_entries.Goals as goal

pub go_by-requires : goal.go_by-requires
go_by-requires g c = λ κs within.
    let d = g.N.Nand.state c.args.device in
    let k = checkpoint_of c.args.found.now in
    let opened = subst (λ m. IfSome m (IsOpenedFor d k)) c.in-Ok-Some.field-0-is c.in-Ok-Some.ensures.opened in
    (within, opened _ (trust d k _).1)

pub returns-in-Ok-Some-clause-read : goal.returns-in-Ok-Some-clause-read
returns-in-Ok-Some-clause-read g c =
    let d = g.N.Nand.state c.args.device in
    let k = checkpoint_of c.args.found.now in
    since_read c.go_by.result _ d (λ named. g.N.Nand.state (inner_of named.value.on.device)) (λ named. trusted_as named.value.on.device.trust.reported (g.N.Nand.state named.value.on.device.inner))
    (λ (honest, true_flash). (trust d k _).2 (right_said d.geometry d.flash k (true_flash.truth k (c.requires.whole honest)))) c.go_by.ensures.read

pub returns-in-Ok-Some-clause-checked : goal.returns-in-Ok-Some-clause-checked
returns-in-Ok-Some-clause-checked g c = λ is.
    let d = g.N.Nand.state c.args.device in
    let k = checkpoint_of c.args.found.now in
    let opened = subst (λ m. IfSome m (IsOpenedFor d k)) c.in-Ok-Some.field-0-is c.in-Ok-Some.ensures.opened in
    let keeps = subst (λ m. IfSome m (KeepsItsTree d)) c.in-Ok-Some.field-0-is (c.in-Ok-Some.ensures.tree is) in
    let trusted = trust d k (g.met.N.Nand.within c.args.device) in
    checked_at c.go_by.result d.geometry d.flash (λ named. named.value.on.blocks.checkpoint) c.args.found.now.block
    (subst (IsChecked d.geometry d.flash) (opened trusted.0 trusted.1).noted keeps.checked) c.go_by.ensures.noted

pub returns-in-Ok-Some-clause-within_limit : goal.returns-in-Ok-Some-clause-within_limit
returns-in-Ok-Some-clause-within_limit g c = λ is.
    let d = g.N.Nand.state c.args.device in
    let k = checkpoint_of c.args.found.now in
    c.go_by.ensures.within_limit (and_from _ _ is.0 ((trust d k _).2 (right_said d.geometry d.flash k (is.1.truth k (c.requires.whole is.0)))))

pub returns-in-Ok-Some-clause-fault : goal.returns-in-Ok-Some-clause-fault
returns-in-Ok-Some-clause-fault g c = λ is.
    let d = g.N.Nand.state c.args.device in
    let k = checkpoint_of c.args.found.now in
    let keeps = subst (λ m. IfSome m (KeepsItsTree d)) c.in-Ok-Some.field-0-is (c.in-Ok-Some.ensures.tree is) in
    err_map c.go_by.result (λ failed why. ends_mount d _ keeps (g.N.Nand.state failed.0) failed.1 why)
    (c.go_by.ensures.fault (and_from _ _ is.0 ((trust d k _).2 (right_said d.geometry d.flash k (is.1.truth k (c.requires.whole is.0))))))

pub returns-in-Ok-Some-clause-blocks : goal.returns-in-Ok-Some-clause-blocks
returns-in-Ok-Some-clause-blocks g c =
    let d = g.N.Nand.state c.args.device in
    let k = checkpoint_of c.args.found.now in
    let known = subst (λ m. IfSome m (KnowsFirstsBy d k)) c.in-Ok-Some.field-0-is c.in-Ok-Some.ensures.firsts in
    blocks_known c.go_by.result _ d k (λ named. g.N.Nand.state (inner_of named.value.on.device)) (λ named. trusted_as named.value.on.device.trust.reported (g.N.Nand.state named.value.on.device.inner))
    (λ named. table named.value.on.blocks) (λ named. numbers_of named.value.on.numbers) c.requires.whole c.go_by.ensures.read c.go_by.ensures.noted (c.go_by.ensures.firsts (known_trusted _ d k c.in-Ok-Some.opened (trust d k _).1 known))
