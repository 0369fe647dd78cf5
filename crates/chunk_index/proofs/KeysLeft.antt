-- What is left of the committed keys once the first of them are passed.
use Rattle.std.proofs.Common.{◌≡◌, ℕ, zero, suc, ◌+◌, ◌-◌, ◌<◌, ◌≤◌, List, [], ◌∷◌, ◌++◌, length, get_or, drop, Option, Some, None, sym, ap, ◌∙◌, arith, refl}
use Rattle.std.specs.Prelude.{is_some, true, false}
use Rattle.std.specs.List.{cons_option}
use Rattle.std.specs.Option.{option_map}
use Rattle.std.proofs.lemmas.List.{drop_more}
use Rattle.chunk_index.specs.declared.form.CommittedPage.{CommittedPage}
use Rattle.chunk_index.specs.declared.form.CommittedKey.{CommittedKey}
use Rattle.chunk_index.specs.declared.entry.KeyEntry.{KeyEntry}
use Rattle.chunk_index.specs.Following.{committed_key, object_keys}

-- ---- the entries of an object, from one on

module _ (o : ℕ) (es : List KeyEntry) (i : ℕ) (e : KeyEntry) (lt : i < length es) (at : e ≡ get_or es i e) where
  -- the next of them, and those after it
  one_more : object_keys o (drop i es) ≡ cons_option (committed_key o e) (object_keys o (drop (i + 1) es))
  one_more = ap (object_keys o) (drop_more es i e lt) ∙ ap (λ d. cons_option (committed_key o d) (object_keys o (drop (i + 1) es))) (sym at)

  some_first : (p : CommittedPage) → e.committed ≡ Some p → object_keys o (drop i es) ≡ record { key = record { object = o; chunk = e.chunk }; at = p } ∷ object_keys o (drop (i + 1) es)
  some_first p some = one_more ∙ ap (λ v. cons_option (option_map (λ (p : CommittedPage). record { key = record { object = o; chunk = e.chunk }; at = p }) v) (object_keys o (drop (i + 1) es))) some

  none_first : e.committed ≡ None → object_keys o (drop i es) ≡ object_keys o (drop (i + 1) es)
  none_first none = one_more ∙ ap (λ v. cons_option (option_map (λ (p : CommittedPage). record { key = record { object = o; chunk = e.chunk }; at = p }) v) (object_keys o (drop (i + 1) es))) none

  -- one key fewer is left where a page is committed
  pub passes_one : (n : ℕ) → 0 < n → is_some e.committed ≡ true → drop (n - 1) (object_keys o (drop (i + 1) es)) ≡ drop n (object_keys o (drop i es))
  passes_one zero some is = absurd (omega (arith, some))
  passes_one (suc n) some is = go e.committed refl where
    go : (v : Option CommittedPage) → e.committed ≡ v → drop (suc n - 1) (object_keys o (drop (i + 1) es)) ≡ drop (suc n) (object_keys o (drop i es))
    go None none = let two = sym (ap is_some none) ∙ is in absurd cc
    go (Some p) some =
        let less : suc n - 1 ≡ n = omega arith in
        ap (λ k. drop k (object_keys o (drop (i + 1) es))) less ∙ sym (ap (drop (suc n)) (some_first p some))

  -- and none where there is none
  pub not_committed : is_some e.committed ≡ false → object_keys o (drop i es) ≡ object_keys o (drop (i + 1) es)
  not_committed is = go e.committed refl where
    go : (v : Option CommittedPage) → e.committed ≡ v → object_keys o (drop i es) ≡ object_keys o (drop (i + 1) es)
    go None none = none_first none
    go (Some p) some = let two = sym (ap is_some some) ∙ is in absurd cc

-- ---- one list after another

-- more are passed than the first list has
pub passes_list : (n : ℕ) (xs ys : List CommittedKey) → length xs ≤ n → drop n (xs ++ ys) ≡ drop (n - length xs) ys
passes_list n [] ys le = let all : n ≡ n - length {A = CommittedKey} [] = omega arith in ap (λ k. drop k ys) all
passes_list zero (x ∷ xs) ys le = absurd (omega (arith, le))
passes_list (suc n) (x ∷ xs) ys le =
    let less : suc n - length (x ∷ xs) ≡ n - length xs = omega arith in
    passes_list n xs ys (omega (arith, le)) ∙ ap (λ k. drop k ys) (sym less)
