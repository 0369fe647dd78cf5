-- What an edit of an object's entries does to what is reported of its chunks.
use Rattle.std.proofs.Common.{◌≡◌, ℕ, ◌+◌, List, get_or, set, Some, None, Bool, true, false, if◌then◌else◌, IsSome, refl, sym, ap, ◌∙◌, arith}
use mathlib.Core.Bool.{false≢true}
use Rattle.std.specs.List.{insert, remove}
use Rattle.std.proofs.lemmas.Bool.Decides.{nat_tests}
use Rattle.std.proofs.lemmas.List.Sums.{sum_by-set, sum_by-insert, sum_by-remove}
use Rattle.chunk_index.specs.declared.entry.KeyEntry.{KeyEntry}
use Rattle.chunk_index.specs.Lists.{find_by, Rises, IsAt, IsGapFor}
use Rattle.chunk_index.specs.Entries.{chunk, weight, weigh, Alters}
use Rattle.chunk_index.proofs.Finding.{find_at, find_at_set, find_at_remove, find_in_gap, find_gap_insert}

-- an entry in the gap for it
pub alters_insert : (es : List KeyEntry) (e : KeyEntry) (i : ℕ) → IsGapFor chunk es (chunk e) i → Alters (chunk e) (Some e) es (insert es i e)
alters_insert es e i gap = record {
  here = grind (arith, nat_tests, find_gap_insert chunk es (chunk e) i gap e refl (chunk e));
  others = λ l ne. grind (arith, nat_tests, find_gap_insert chunk es (chunk e) i gap e refl l, ne);
  weighs = λ f.
      let more : weigh f (insert es i e) ≡ weigh f es + f e = sum_by-insert f es i e in
      let none : weight f (find_by chunk es (chunk e)) ≡ 0 = ap (weight f) (find_in_gap chunk es (chunk e) i gap) in
      omega (arith, more, none);
}

-- an entry that is written over
pub alters_set : (es : List KeyEntry) → Rises chunk es → (e : KeyEntry) (i : ℕ) → IsAt chunk es (chunk e) i → Alters (chunk e) (Some e) es (set es i e)
alters_set es rises e i at = record {
  here = grind (arith, nat_tests, find_at_set chunk es rises (chunk e) i at e refl (chunk e));
  others = λ l ne. grind (arith, nat_tests, find_at_set chunk es rises (chunk e) i at e refl l, ne);
  weighs = λ f.
      let more : weigh f (set es i e) + f (get_or es i e) ≡ weigh f es + f e = sum_by-set f es i e e at.within in
      let was : weight f (find_by chunk es (chunk e)) ≡ f (get_or es i e) = ap (weight f) (find_at chunk es rises (chunk e) i at e) in
      omega (arith, more, was);
}

-- an entry that is taken out
pub alters_remove : (es : List KeyEntry) → Rises chunk es → (c i : ℕ) (d : KeyEntry) → IsAt chunk es c i → Alters c None es (remove es i)
alters_remove es rises c i d at = record {
  here = grind (arith, nat_tests, find_at_remove chunk es rises c i at c);
  others = λ l ne. grind (arith, nat_tests, find_at_remove chunk es rises c i at l, ne);
  weighs = λ f.
      let less : weigh f (remove es i) + f (get_or es i d) ≡ weigh f es = sum_by-remove f es i d at.within in
      let was : weight f (find_by chunk es c) ≡ f (get_or es i d) = ap (weight f) (find_at chunk es rises c i at d) in
      omega (arith, less, was);
}

-- whichever of two it is
pub either : {X : Type 0} (P : X → Type 0) (b : Bool) (x y : X) → P x → P y → P (if b then x else y)
either P true x y p q = p
either P false x y p q = q

-- a chunk that has an entry has no gap
pub gap_absurd : (es : List KeyEntry) (c i : ℕ) → IsGapFor chunk es c i → IsSome (find_by chunk es c) → ⊥
gap_absurd es c i gap some = false≢true (rw (find_in_gap chunk es c i gap) at some)

-- a chunk without an entry stands nowhere
pub at_absurd : (es : List KeyEntry) → Rises chunk es → (c i : ℕ) (d : KeyEntry) → IsAt chunk es c i → find_by chunk es c ≡ None → ⊥
at_absurd es rises c i d at none = let both : Some (get_or es i d) ≡ None = sym (find_at chunk es rises c i at d) ∙ none in absurd cc
