-- Lists of entries that are looked up by tests of their keys.
use Rattle.std.proofs.Common.{◌≡◌, ◌≤◌, ◌<◌, ℕ, zero, suc, ◌+◌, ◌-◌, Bool, true, false, ◌⊎◌, List, [], ◌∷◌, length, take, Option, Some, None, IsSome, refl, sym, ◌∙◌, ap, inl, inr, arith, cond, is_some, option_map, subst}
use Rattle.std.proofs.lemmas.Bool.{cases_Bool, false≢true, cond-true, cond-false}
use Rattle.std.specs.Cmp.{IsEquivalence}
use Rattle.std.specs.Option.{option_map_or}
use Rattle.std.specs.Map.{lookup, lookup_entry, remove_entry}
use Rattle.lru.specs.LruCache.{LruCache, promoted, put_entries}
use Rattle.lru.proofs.CallerLemmas.{Contains-lookup_entry}

-- a list that is taken whole
take_all : {X : Type 0} (n : ℕ) (xs : List X) → length xs ≤ n → take n xs ≡ xs
take_all zero [] within_limit = refl
take_all zero (x ∷ xs) within_limit = absurd (omega (arith, within_limit))
take_all (suc n) [] within_limit = refl
take_all (suc n) (x ∷ xs) within_limit = ap (λ l. x ∷ l) (take_all n xs (omega (arith, within_limit)))

-- a first part is no longer than the list, and no more than one shorter where all but one are taken
take_no_longer : {X : Type 0} (n : ℕ) (xs : List X) → length (take n xs) ≤ length xs
take_no_longer zero xs = omega arith
take_no_longer (suc n) [] = omega arith
take_no_longer (suc n) (x ∷ xs) = omega (arith, take_no_longer n xs)

take_all_but_one : {X : Type 0} (n : ℕ) (xs : List X) → length xs ≤ n + 1 → length xs ≤ length (take n xs) + 1
take_all_but_one zero xs within_limit = omega (arith, within_limit)
take_all_but_one (suc n) [] within_limit = omega arith
take_all_but_one (suc n) (x ∷ xs) within_limit = let rest = take_all_but_one n xs (omega (arith, within_limit)) in omega (arith, rest)

module _ {K V : Type 0} (test : K → Bool) where
  -- what a first part of a list has of a key
  lookup-take : (n : ℕ) (es : List (K × V)) → (lookup test (take n es) ≡ lookup test es) ⊎ (lookup test (take n es) ≡ None)
  lookup-take zero es = inr refl
  lookup-take (suc n) [] = inl refl
  lookup-take (suc n) (e ∷ es) = elim (cases_Bool (test e.0)) [
    | inl y ↦ inl (cond-true _ (Some e.1) (lookup test (take n es)) y ∙ sym (cond-true _ (Some e.1) (lookup test es) y))
    | inr f ↦ elim (lookup-take n es) [
      | inl same ↦ inl (ap (cond (test e.0) (Some e.1)) same)
      | inr none ↦ inr (cond-false _ (Some e.1) (lookup test (take n es)) f ∙ none)
    ]
  ]

  -- the entry that is found has the value that is found
  pub entry_value : (es : List (K × V)) → option_map (λ (e : K × V). e.1) (lookup_entry test es) ≡ lookup test es
  entry_value [] = refl
  entry_value (e ∷ es) = elim (cases_Bool (test e.0)) [
    | inl y ↦ ap (option_map (λ (e : K × V). e.1)) (cond-true _ (Some e) (lookup_entry test es) y) ∙ sym (cond-true _ (Some e.1) (lookup test es) y)
    | inr n ↦ ap (option_map (λ (e : K × V). e.1)) (cond-false _ (Some e) (lookup_entry test es) n) ∙ entry_value es ∙ sym (cond-false _ (Some e.1) (lookup test es) n)
  ]

  -- an entry less
  pub length-removed : (es : List (K × V)) → IsSome (lookup test es) → length (remove_entry test es) + 1 ≡ length es
  length-removed [] is = absurd (false≢true is)
  length-removed (e ∷ es) is = elim (cases_Bool (test e.0)) [
    | inl y ↦ omega (arith, ap length (cond-true _ es (e ∷ remove_entry test es) y))
    | inr n ↦ omega (arith, ap length (cond-false _ es (e ∷ remove_entry test es) n), length-removed es (sym (ap is_some (cond-false _ (Some e.1) (lookup test es) n)) ∙ is))
  ]

  pub length-promoted : (es : List (K × V)) → length (promoted test es) ≡ length es
  length-promoted es = go (lookup_entry test es) refl
    where
      go : (f : Option (K × V)) → lookup_entry test es ≡ f → length (option_map_or (λ e. e ∷ remove_entry test es) f es) ≡ length es
      go None is = refl
      go (Some e) is =
          let there : IsSome (lookup test es) = ap is_some (sym (entry_value es) ∙ ap (option_map (λ (e : K × V). e.1)) is) in
          omega (arith, length-removed es there)

  -- a key that does not pass is looked up as before
  module _ (other : K → Bool) (apart : (k : K) → test k ≡ true → other k ≡ false) where
    pub lookup-removed : (es : List (K × V)) → lookup other (remove_entry test es) ≡ lookup other es
    lookup-removed [] = refl
    lookup-removed (e ∷ es) = elim (cases_Bool (test e.0)) [
      | inl y ↦ ap (lookup other) (cond-true _ es (e ∷ remove_entry test es) y) ∙ sym (cond-false _ (Some e.1) (lookup other es) (apart e.0 y))
      | inr n ↦ ap (lookup other) (cond-false _ es (e ∷ remove_entry test es) n) ∙ ap (cond (other e.0) (Some e.1)) (lookup-removed es)
    ]

    pub lookup-promoted : (es : List (K × V)) → lookup other (promoted test es) ≡ lookup other es
    lookup-promoted es = go (lookup_entry test es) refl
      where
        go : (f : Option (K × V)) → lookup_entry test es ≡ f → lookup other (option_map_or (λ e. e ∷ remove_entry test es) f es) ≡ lookup other es
        go None is = refl
        go (Some e) is = cond-false _ (Some e.1) (lookup other (remove_entry test es)) (apart e.0 (Contains-lookup_entry test es e is).1) ∙ lookup-removed es

  -- and so is the one that passes
  pub lookup-promoted_same : (es : List (K × V)) → lookup test (promoted test es) ≡ lookup test es
  lookup-promoted_same es = go (lookup_entry test es) refl
    where
      go : (f : Option (K × V)) → lookup_entry test es ≡ f → lookup test (option_map_or (λ e. e ∷ remove_entry test es) f es) ≡ lookup test es
      go None is = refl
      go (Some e) is =
          cond-true _ (Some e.1) (lookup test (remove_entry test es)) (Contains-lookup_entry test es e is).1
          ∙ sym (ap (option_map (λ (e : K × V). e.1)) is) ∙ entry_value es

-- Another key after a value was put under this one.
module _ {K V : Type 0} (eq : K → K → Bool) (laws : IsEquivalence eq) (c : LruCache K V) (k : K) (v : V)
    (other : K → Bool) (apart : (x : K) → eq k x ≡ true → other x ≡ false) where
  abbrev after : Option (K × V) → List (K × V)
  after f = option_map_or (λ e. (e.0, v) ∷ remove_entry (eq k) c.entries) f ((k, v) ∷ take (c.cap - 1) c.entries)

  found : (e : K × V) → lookup_entry (eq k) c.entries ≡ Some e → lookup other ((e.0, v) ∷ remove_entry (eq k) c.entries) ≡ lookup other c.entries
  found e is =
      cond-false _ (Some v) (lookup other (remove_entry (eq k) c.entries)) (apart e.0 (Contains-lookup_entry (eq k) c.entries e is).1)
      ∙ lookup-removed (eq k) other apart c.entries

  new : lookup other ((k, v) ∷ take (c.cap - 1) c.entries) ≡ lookup other (take (c.cap - 1) c.entries)
  new = cond-false _ (Some v) (lookup other (take (c.cap - 1) c.entries)) (apart k (laws.refl k))

  pub put_others : (lookup other (put_entries eq c k v) ≡ lookup other c.entries) ⊎ (lookup other (put_entries eq c k v) ≡ None)
  put_others = go (lookup_entry (eq k) c.entries) refl
    where
      go : (f : Option (K × V)) → lookup_entry (eq k) c.entries ≡ f → (lookup other (after f) ≡ lookup other c.entries) ⊎ (lookup other (after f) ≡ None)
      go None is = elim (lookup-take other (c.cap - 1) c.entries) [ inl same ↦ inl (new ∙ same) | inr none ↦ inr (new ∙ none) ]
      go (Some e) is = inl (found e is)

  pub put_room : IsSome (lookup (eq k) c.entries) ⊎ (length c.entries < c.cap) → lookup other (put_entries eq c k v) ≡ lookup other c.entries
  put_room = go (lookup_entry (eq k) c.entries) refl
    where
      go : (f : Option (K × V)) → lookup_entry (eq k) c.entries ≡ f → IsSome (lookup (eq k) c.entries) ⊎ (length c.entries < c.cap) → lookup other (after f) ≡ lookup other c.entries
      go None is (inl there) =
          let none : lookup (eq k) c.entries ≡ None = sym (entry_value (eq k) c.entries) ∙ ap (option_map (λ (e : K × V). e.1)) is in
          absurd (false≢true (sym (ap is_some none) ∙ there))
      go None is (inr room) = new ∙ ap (lookup other) (take_all (c.cap - 1) c.entries (omega (arith, room)))
      go (Some e) is room = found e is

-- How many keys there are after a value was put under one.
module _ {K V : Type 0} (eq : K → K → Bool) (c : LruCache K V) (k : K) (v : V) where
  totaled : (P : ℕ → Type 0) → P (length (take (c.cap - 1) c.entries) + 1) → P (length c.entries) → P (length (put_entries eq c k v))
  totaled P put set = go (lookup_entry (eq k) c.entries) refl
    where
      go : (f : Option (K × V)) → lookup_entry (eq k) c.entries ≡ f → P (length (option_map_or (λ e. (e.0, v) ∷ remove_entry (eq k) c.entries) f ((k, v) ∷ take (c.cap - 1) c.entries)))
      go None is = subst P (omega arith) put
      go (Some e) is =
          let there : IsSome (lookup (eq k) c.entries) = ap is_some (sym (entry_value (eq k) c.entries) ∙ ap (option_map (λ (e : K × V). e.1)) is) in
          let gone = length-removed (eq k) c.entries there in
          subst P (omega (arith, gone)) set

  pub put_no_fewer : length c.entries ≤ c.cap → length c.entries ≤ length (put_entries eq c k v)
  put_no_fewer fits = totaled (λ n. length c.entries ≤ n) (take_all_but_one (c.cap - 1) c.entries (omega (arith, fits))) (omega arith)

  pub put_one_more : length (put_entries eq c k v) ≤ length c.entries + 1
  put_one_more = totaled (λ n. n ≤ length c.entries + 1) (let short = take_no_longer (c.cap - 1) c.entries in omega (arith, short)) (omega arith)
