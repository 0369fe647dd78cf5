-- The settling of one key after another.
use Rattle.std.proofs.Common.{◌≡◌, ℕ, ◌+◌, ◌<◌, Option, Some, None, true, refl, sym, ap, ◌∙◌}
use mathlib.Core.Bool.{false≢true}
use Rattle.chunk_index.specs.declared.form.WrittenGroup.{WrittenGroup}
use Rattle.chunk_index.specs.declared.form.Present.TheVariants as presents
use Rattle.chunk_index.specs.declared.entry.KeyEntry.{KeyEntry}
use Rattle.chunk_index.specs.declared.entry.State.{State}
use Rattle.chunk_index.specs.declared.entry.State.TheVariants as states
use Rattle.chunk_index.specs.Entries.{settled, settled_by, same_of, present_by, HasPage}

-- settling twice is settling once
pub settled_twice : (g : WrittenGroup) (v : Option KeyEntry) → settled g (settled g v) ≡ settled g v
settled_twice g None = refl
settled_twice g (Some e) = go e.state refl where
  go : (s : State) → e.state ≡ s → settled g (settled g (Some e)) ≡ settled g (Some e)
  go states.Same is = let one : settled g (Some e) ≡ Some e = ap (settled_by g e) is in ap (settled g) one
  go (states.Buffered i) is = let one : settled g (Some e) ≡ settled_by g e (states.Buffered i) = ap (settled_by g e) is in ap (settled g) one ∙ sym one
  go states.Dropped is = let one : settled g (Some e) ≡ None = ap (settled_by g e) is in ap (settled g) one ∙ sym one
  go states.Vacant is = let one : settled g (Some e) ≡ settled_by g e states.Vacant = ap (settled_by g e) is in ap (settled g) one ∙ sym one

-- an entry whose present page is the committed one stays
pub settled_same : (g : WrittenGroup) (v : Option KeyEntry) → same_of v ≡ true → settled g v ≡ v
settled_same g None is = refl
settled_same g (Some e) same = go e.state refl where
  go : (s : State) → e.state ≡ s → settled g (Some e) ≡ Some e
  go states.Same is = ap (settled_by g e) is
  go (states.Buffered i) is = absurd (false≢true (rw is at same))
  go states.Dropped is = absurd (false≢true (rw is at same))
  go states.Vacant is = absurd (false≢true (rw is at same))

-- the page that an entry shows has its number
pub has_page : (g : WrittenGroup) (e : KeyEntry) → ((i : ℕ) → present_by e.committed e.state ≡ presents.InBuffer i → g.first + i < 256) → HasPage g e.state
has_page g e fits = go e.state refl where
  go : (s : State) → e.state ≡ s → HasPage g s
  go states.Same is = tt
  go (states.Buffered i) is = fits i (ap (present_by e.committed) is)
  go states.Dropped is = tt
  go states.Vacant is = tt
