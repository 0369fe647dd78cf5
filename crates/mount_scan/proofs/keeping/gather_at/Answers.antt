use Rattle.std.proofs.Common.{refl, sym, ◌∙◌, ap, subst, slice_get, Some, ◌≡◌}
use Rattle.std.proofs.lemmas.Option.{slice_get-get_or}
use Rattle.std.proofs.lemmas.Bool.{false≢true}
use Rattle.mount_scan.specs.Keys.{IsLastAt}
use Rattle.mount_scan.proofs.FoundLatest.{gather_committed, gather_passed}
use Rattle.mount_scan.proofs.keeping.gather_at.Goals as goal

pub returns-then-is_last_of_key : goal.returns-then-is_last_of_key
returns-then-is_last_of_key c = λ first sorted are.
    let at : slice_get c.args.sorted.now.items c.args.i ≡ Some c.index.result.now = slice_get-get_or _ c.args.i c.index.result.now c.requires.i ∙ ap Some (sym c.index.ensures) in
    gather_committed first _ c.args.i c.args.committed c.index.result.now c.requires.i at (subst (λ xs. IsLastAt xs c.args.i) c.deref.ensures.value (c.if-is_last_of_key.ensures.0 refl)) sorted are

pub returns-else-is_last_of_key : goal.returns-else-is_last_of_key
returns-else-is_last_of_key c = λ first sorted are.
    gather_passed first _ c.args.i c.args.committed (λ ends. false≢true (c.if-is_last_of_key.ensures.1 (subst (λ xs. IsLastAt xs c.args.i) (sym c.deref.ensures.value) ends))) are
