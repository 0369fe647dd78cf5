-- What a change of one entry does to what an index reports.
use Rattle.std.proofs.Common.{◌≡◌, ℕ, false, Option, Some, Result, Ok, Err, IsSome, OnOk, OnErr, refl, sym, ap, subst, ◌∙◌, arith, inl, inr}
use Rattle.std.proofs.lemmas.Bool.{cases_eq}
use Rattle.chunk_index.specs.declared.entry.KeyEntry.{KeyEntry}
use Rattle.chunk_index.specs.Entries.{same_of, weight}
use Rattle.chunk_index.specs.Shelves.{ObjectMap, look, total, AltersKey, SameEntries}
use Rattle.chunk_index.proofs.Shelving.{look_chunk}

module _ {m n : ObjectMap} {o c : ℕ} {to : Option KeyEntry} (alters : AltersKey o c to m n) where
  -- what is the same of the entry is the same of each
  pub reported_same : {X : Type 0} (f : Option KeyEntry → X) → f to ≡ f (look m o c) → (k l : ℕ) → f (look n k l) ≡ f (look m k l)
  reported_same f same k l = elim (cases_eq k o) [
    | inr ne ↦ ap f (alters.others k l (inl ne))
    | inl e ↦ elim (cases_eq l c) [
      | inr ne ↦ ap f (alters.others k l (inr ne))
      | inl d ↦ ap (λ p. f (look n p l)) e ∙ ap (λ q. f (look n o q)) d ∙ ap f alters.here ∙ same ∙ sym (ap (λ p. f (look m p l)) e ∙ ap (λ q. f (look m o q)) d)
    ]
  ]

  -- where it adds as much, all add as much
  pub total_same : (f : KeyEntry → ℕ) → weight f to ≡ weight f (look m o c) → total f n ≡ total f m
  total_same f same = let sum = alters.weighs f in omega (arith, sum, same)

  -- the changed keys are noted, where this one is and the others still are
  pub noted_after : (Old New : ℕ → ℕ → Type 0) → ((k l : ℕ) → same_of (look m k l) ≡ false → Old k l) → ((k l : ℕ) → Old k l → New k l)
      → (same_of to ≡ false → New o c) → (k l : ℕ) → same_of (look n k l) ≡ false → New k l
  noted_after Old New noted still here k l is = elim (cases_eq k o) [
    | inr ne ↦ still k l (noted k l (sym (ap same_of (alters.others k l (inl ne))) ∙ is))
    | inl e ↦ elim (cases_eq l c) [
      | inr ne ↦ still k l (noted k l (sym (ap same_of (alters.others k l (inr ne))) ∙ is))
      | inl d ↦
          let at : same_of to ≡ false = sym (ap (λ p. same_of (look n p l)) e ∙ ap (λ q. same_of (look n o q)) d ∙ ap same_of alters.here) ∙ is in
          subst (λ p. New p l) (sym e) (subst (λ q. New o q) (sym d) (here at))
    ]
  ]

-- ---- a change of one entry, or none where it is refused

module _ {E : Type 0} (r : Result (Unit {0}) E) (m n : ObjectMap) (o c : ℕ) (to : Option KeyEntry) (ok : OnOk r (AltersKey o c to m n)) (err : OnErr r (SameEntries m n)) where
  -- what is the same of the entry is the same of each
  pub reported_either : {X : Type 0} (f : Option KeyEntry → X) → f to ≡ f (look m o c) → (k l : ℕ) → f (look n k l) ≡ f (look m k l)
  reported_either f same k l = go r ok err where
    go : (q : Result (Unit {0}) E) → OnOk q (AltersKey o c to m n) → OnErr q (SameEntries m n) → f (look n k l) ≡ f (look m k l)
    go (Ok u) alters x = reported_same alters f same k l
    go (Err x) u entries = ap f (entries.looks k l)
