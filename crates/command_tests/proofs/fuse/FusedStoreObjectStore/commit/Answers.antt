use Rattle.std.proofs.Common.{◌≡◌, inl, inr, sym, ◌∙◌, subst}
use Rattle.object_store.specs.Stores.{Has}
use Rattle.command_tests.specs.declared.fuse.FusedStore.{FusedStore}
use Rattle.command_tests.specs.declared.fuse.LastCall.{LastCall}
use Rattle.command_tests.specs.declared.fuse.LastCall.TheVariants as fates
use Rattle.command_tests.proofs.Fuses.{lost_before, lost_after, inner_has}
use Rattle.command_tests.proofs.fuse.FusedStoreObjectStore.commit.Goals as goal

pub returns-in_ok-commit-in-DoneAndLost-clause-commits : goal.returns-in_ok-commit-in-DoneAndLost-clause-commits
returns-in_ok-commit-in-DoneAndLost-clause-commits g c z objects has =
    let m = g.S.ObjectStore.meaning in
    let self = c.args.self.now in
    let now = c.next_call.new.self in
    let left = c.commit-in-DoneAndLost.new.self in
    let same = c.next_call.ensures.same in
    let lost = c.next_call.ensures.done c.in-DoneAndLost.is in
    let inner = inner_has m (λ (a : FusedStore _). a.inner) (λ (a : FusedStore _). a.calls) (λ (a : FusedStore _). a.last) (λ (fate : LastCall). fate ≡ fates.Done) z objects self has in
    let ends = c.in_ok-commit-in-DoneAndLost.ensures.commits z objects (subst (Has m z objects) (sym same.0) inner) in
    inl (lost_after m now.calls (now.last ≡ fates.Done) self.inner left objects objects lost.0 (same.1 ∙ lost.2)
    (inr (subst (λ a. m.commits objects a left) same.0 ends.1)))

pub returns-in-NotDone-clause-commits : goal.returns-in-NotDone-clause-commits
returns-in-NotDone-clause-commits g c z objects has =
    let now = c.next_call.new.self in
    inl (lost_before g.S.ObjectStore.meaning g.met.S.ObjectStore.lawful now.calls (now.last ≡ fates.Done) c.args.self.now.inner now.inner objects objects (c.next_call.ensures.not_done c.in-NotDone.is).0 c.next_call.ensures.same.0)
