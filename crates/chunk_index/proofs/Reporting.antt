-- What settled entries tell.
use Rattle.std.proofs.Common.{◌≡◌, true, false, Option, Some, None, refl, sym, ap, ◌∙◌}
use mathlib.Core.Bool.{false≢true}
use Rattle.chunk_index.specs.declared.form.WrittenGroup.{WrittenGroup}
use Rattle.chunk_index.specs.declared.form.CommittedPage.{CommittedPage}
use Rattle.chunk_index.specs.declared.entry.KeyEntry.{KeyEntry}
use Rattle.chunk_index.specs.declared.entry.State.{State}
use Rattle.chunk_index.specs.declared.entry.State.TheVariants as states
use Rattle.chunk_index.specs.Entries.{settled, settled_by, same_of, is_same_state, as_committed}
use Rattle.chunk_index.specs.Maps.{once_written}

-- what is present of a settled key is what is committed
pub settled_same_of : (g : WrittenGroup) (v : Option KeyEntry) → same_of (settled g v) ≡ false → ⊥
settled_same_of g None not = false≢true (sym not)
settled_same_of g (Some e) not = go e.state refl where
  go : (s : State) → e.state ≡ s → ⊥
  go states.Same is = let one : same_of (settled g (Some e)) ≡ is_same_state states.Same = ap (λ s. same_of (settled_by g e s)) is ∙ ap is_same_state is in false≢true (sym not ∙ one)
  go (states.Buffered i) is = let one : same_of (settled g (Some e)) ≡ true = ap (λ s. same_of (settled_by g e s)) is in false≢true (sym not ∙ one)
  go states.Dropped is = let one : same_of (settled g (Some e)) ≡ true = ap (λ s. same_of (settled_by g e s)) is in false≢true (sym not ∙ one)
  go states.Vacant is = let one : same_of (settled g (Some e)) ≡ true = ap (λ s. same_of (settled_by g e s)) is in false≢true (sym not ∙ one)

-- it is committed where what was present lies
written_committed : (g : WrittenGroup) (p : Option CommittedPage) → p ≡ once_written g (as_committed p)
written_committed g None = refl
written_committed g (Some p) = refl
