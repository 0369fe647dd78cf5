-- Finite maps by their keys: what is there after a change, and which entries a list of them has.
use Rattle.std.specs.Prelude.{◌≡◌, ◌≢◌, ◌⊎◌, ℕ, ◌-◌, ◌≤◌, ◌<◌, zero, suc, Bool, true, false, not, T, List, [], ◌∷◌, length, map as list_map, Option, Some, None, cond, is_some}
use Rattle.std.proofs.Common.{refl, sym, ◌∙◌, ap, subst, inl, inr, arith}
use Rattle.std.proofs.lemmas.Bool.{cases_Bool, true≢false, false≢true, and_parts, or_cases, or_left, or_right, cond-true, cond-false}
use Rattle.std.specs.List.{list_any, find as first_of}
use Rattle.std.specs.declared.cmp.Ordering.{Ordering}
use Rattle.std.specs.declared.cmp.Ordering.TheVariants.{Less, Equal, Greater}
use Rattle.std.specs.Ordering.{is_eq, is_lt, eq_by_cmp}
use Rattle.std.specs.Cmp.{IsTotalOrder, tied_itself}
use Rattle.std.specs.FinMap as map
use Rattle.std.specs.FinMap.Entries.{find, where_key, is_sorted, below_all, is_sorted-where_key, find-where_key}

-- x is in the list
abbrev pub Member : {X : Type 0} → List X → X → Type 0
Member [] x = ⊥
Member (y ∷ ys) x = (x ≡ y) ⊎ Member ys x

pub true_of : (b : Bool) → T b → b ≡ true
true_of true h = refl
true_of false h = absurd h

pub of_true : (b : Bool) → b ≡ true → T b
of_true b e = subst T (sym e) tt

pub any_member : {X : Type 0} (p : X → Bool) (xs : List X) → list_any p xs ≡ true → (x : X) × Member xs x × (p x ≡ true)
any_member p [] e = absurd (false≢true e)
any_member p (x ∷ xs) e = elim (or_cases (p x) (list_any p xs) e) [
  | inl here ↦ (x, inl refl, here)
  | inr later ↦ let m = any_member p xs later in (m.0, inr m.1, m.2)
]

pub member_any : {X : Type 0} (p : X → Bool) (xs : List X) (x : X) → Member xs x → p x ≡ true → list_any p xs ≡ true
member_any p (y ∷ ys) x (inl is) e = or_left (p y) (list_any p ys) (sym (ap p is) ∙ e)
member_any p (y ∷ ys) x (inr is) e = or_right (p y) (list_any p ys) (member_any p ys x is e)
member_any p [] x is e = absurd is

pub map_member : {X Y : Type 0} (f : X → Y) (xs : List X) (y : Y) → Member (list_map f xs) y → (x : X) × Member xs x × (y ≡ f x)
map_member f [] y is = absurd is
map_member f (x ∷ xs) y (inl is) = (x, inl refl, is)
map_member f (x ∷ xs) y (inr is) = let m = map_member f xs y is in (m.0, inr m.1, m.2)

pub member_map : {X Y : Type 0} (f : X → Y) (xs : List X) (x : X) → Member xs x → Member (list_map f xs) (f x)
member_map f [] x is = absurd is
member_map f (y ∷ ys) x (inl is) = inl (ap f is)
member_map f (y ∷ ys) x (inr is) = inr (member_map f ys x is)

pub first_member : {X : Type 0} (p : X → Bool) (xs : List X) (x : X) → first_of p xs ≡ Some x → Member xs x × (p x ≡ true)
first_member p [] x e = absurd cc
first_member p (y ∷ ys) x e = elim (cases_Bool (p y)) [
  | inl yes' ↦ let same : y ≡ x = (let two : Some y ≡ Some x = sym (cond-true (p y) (Some y) (first_of p ys) yes') ∙ e in cc) in (inl (sym same), sym (ap p same) ∙ yes')
  | inr no' ↦ let m = first_member p ys x (sym (cond-false (p y) (Some y) (first_of p ys) no') ∙ e) in (inr m.0, m.1)
]

pub none_member : {X : Type 0} (p : X → Bool) (xs : List X) (x : X) → first_of p xs ≡ None → Member xs x → p x ≡ false
none_member p [] x e is = absurd is
none_member p (y ∷ ys) x e is = elim (cases_Bool (p y)) [
  | inl yes' ↦ let two : Some y ≡ None = sym (cond-true (p y) (Some y) (first_of p ys) yes') ∙ e in cc
  | inr no' ↦ elim is [
    | inl here ↦ ap p here ∙ no'
    | inr later ↦ none_member p ys x (sym (cond-false (p y) (Some y) (first_of p ys) no') ∙ e) later
  ]
]

is_eq_Equal : (r : Ordering) → is_eq r ≡ true → r ≡ Equal
is_eq_Equal Less e = absurd (false≢true e)
is_eq_Equal Equal e = refl
is_eq_Equal Greater e = absurd (false≢true e)

is_lt_Less : (r : Ordering) → is_lt r ≡ true → r ≡ Less
is_lt_Less Less e = refl
is_lt_Less Equal e = absurd (false≢true e)
is_lt_Less Greater e = absurd (false≢true e)

module _ {K : Type 0} {R : K → K → Ordering} (o : IsTotalOrder R) (same : map.IsAntisymmetric R) where
  pub same_key : (a b : K) → eq_by_cmp R a b ≡ true → a ≡ b
  same_key a b e = same a b (is_eq_Equal (R a b) e)

  pub eq_same : (a b : K) → a ≡ b → eq_by_cmp R a b ≡ true
  eq_same a b e = ap (λ k. is_eq (R a k)) (sym e) ∙ ap is_eq (tied_itself o a)

  pub cases_key : (a b : K) → (a ≡ b) ⊎ (a ≢ b)
  cases_key a b = elim (cases_Bool (eq_by_cmp R a b)) [
    | inl e ↦ inl (same_key a b e)
    | inr e ↦ inr (λ is. true≢false (sym (eq_same a b is) ∙ e))
  ]

  ne_key : (a b : K) → a ≢ b → eq_by_cmp R a b ≡ false
  ne_key a b ne = elim (cases_Bool (eq_by_cmp R a b)) [ inl e ↦ absurd (ne (same_key a b e)) | inr e ↦ e ]

module _ {K X : Type 0} {R : K → K → Ordering} (o : IsTotalOrder R) (same : map.IsAntisymmetric R) where
  pub get_here : (m : map.FinMap R X) (k : K) (v : X) → map.get (map.insert m k v) k ≡ Some v
  get_here m k v = map.get-insert o m k v k ∙ cond-true _ _ _ (eq_same o same k k refl)

  pub get_there : (m : map.FinMap R X) (k : K) (v : X) (q : K) → q ≢ k → map.get (map.insert m k v) q ≡ map.get m q
  get_there m k v q ne = map.get-insert o m k v q ∙ cond-false _ _ _ (ne_key o same q k ne)

  -- what is in the map after a value is put there
  pub insert_cases : (m : map.FinMap R X) (k : K) (v : X) (q : K) (x : X) → map.get (map.insert m k v) q ≡ Some x
      → ((q ≡ k) × (x ≡ v)) ⊎ ((q ≢ k) × (map.get m q ≡ Some x))
  insert_cases m k v q x is = elim (cases_key o same q k) [
    | inl e ↦ let two : Some x ≡ Some v = sym is ∙ ap (map.get (map.insert m k v)) e ∙ get_here m k v in inl (e, (cc))
    | inr ne ↦ inr (ne, sym (get_there m k v q ne) ∙ is)
  ]

  pub get_removed : (m : map.FinMap R X) (k q : K) → q ≢ k → map.get (map.remove m k) q ≡ map.get m q
  get_removed m k q ne = map.get-remove o m k q ∙ cond-false _ _ _ (ne_key o same q k ne)

  pub removed_none : (m : map.FinMap R X) (k : K) → map.get (map.remove m k) k ≡ None
  removed_none m k = map.get-remove o m k k ∙ cond-true _ _ _ (eq_same o same k k refl)

  -- what is in the map after a key is taken away
  pub remove_cases : (m : map.FinMap R X) (k q : K) (x : X) → map.get (map.remove m k) q ≡ Some x → (q ≢ k) × (map.get m q ≡ Some x)
  remove_cases m k q x is = elim (cases_key o same q k) [
    | inl e ↦ let two : Some x ≡ None = sym is ∙ ap (map.get (map.remove m k)) e ∙ removed_none m k in absurd cc
    | inr ne ↦ (ne, sym (get_removed m k q ne) ∙ is)
  ]

  pub get_retained : (m : map.FinMap R X) (p : K → Bool) (q : K) → map.get (map.retain_keys m p) q ≡ cond (p q) (map.get m q) None
  get_retained m p q = map.get-retain_keys m p q (λ x e. ap p (sym (same q x e)))

  -- what is in the map after keys are held by a test
  pub retain_cases : (m : map.FinMap R X) (p : K → Bool) (q : K) (x : X) → map.get (map.retain_keys m p) q ≡ Some x → (p q ≡ true) × (map.get m q ≡ Some x)
  retain_cases m p q x is = elim (cases_Bool (p q)) [
    | inl yes' ↦ (yes', sym (cond-true _ _ _ yes') ∙ sym (get_retained m p q) ∙ is)
    | inr no' ↦ let two : None ≡ Some x = sym (cond-false _ _ _ no') ∙ sym (get_retained m p q) ∙ is in absurd cc
  ]

  pub retained : (m : map.FinMap R X) (p : K → Bool) (q : K) (x : X) → p q ≡ true → map.get m q ≡ Some x → map.get (map.retain_keys m p) q ≡ Some x
  retained m p q x yes' is = get_retained m p q ∙ cond-true _ _ _ yes' ∙ is

  -- each entry above a key is another key
  above_ne : (k : K) (es : List (K × X)) (e : K × X) → T (below_all R k es) → Member es e → eq_by_cmp R e.0 k ≡ false
  above_ne k [] e h is = absurd is
  above_ne k (f ∷ es) e h (inl is) =
      let lt : R k f.0 ≡ Less = is_lt_Less _ (and_parts (is_lt (R k f.0)) (below_all R k es) (true_of _ h)).0 in
      ne_key o same e.0 k (λ two.
      let tied : R k f.0 ≡ Equal = ap (R k) (sym (ap (λ (x : K × X). x.0) is) ∙ two) ∙ tied_itself o k in
      let clash : Less ≡ Equal = sym lt ∙ tied in absurd cc)
  above_ne k (f ∷ es) e h (inr is) = above_ne k es e (of_true _ (and_parts (is_lt (R k f.0)) (below_all R k es) (true_of _ h)).1) is

  pub above_differs : (k : K) (es : List (K × X)) (e : K × X) → T (below_all R k es) → Member es e → e.0 ≢ k
  above_differs k es e h is two = true≢false (sym (eq_same o same e.0 k two) ∙ above_ne k es e h is)

  member_find : (es : List (K × X)) (e : K × X) → T (is_sorted R es) → Member es e → find R e.0 es ≡ Some e.1
  member_find [] e h is = absurd is
  member_find (f ∷ es) e h (inl is) = cond-true _ _ _ (eq_same o same e.0 f.0 (ap (λ (x : K × X). x.0) is)) ∙ ap (λ (x : K × X). Some x.1) (sym is)
  member_find (f ∷ es) e h (inr is) =
      let p = and_parts (below_all R f.0 es) (is_sorted R es) (true_of _ h) in
      cond-false _ _ _ (above_ne f.0 es e (of_true _ p.0) is) ∙ member_find es e (of_true _ p.1) is

  find_member : (es : List (K × X)) (k : K) (v : X) → find R k es ≡ Some v → Member es (k, v)
  find_member [] k v is = absurd cc
  find_member (f ∷ es) k v is = elim (cases_Bool (eq_by_cmp R k f.0)) [
    | inl e ↦
        let key : k ≡ f.0 = same_key o same k f.0 e in
        let two : Some v ≡ Some f.1 = sym is ∙ cond-true _ _ _ e in
        let value : v ≡ f.1 = cc in
        inl (λ i. (key i, value i))
    | inr e ↦ inr (find_member es k v (sym (cond-false _ _ _ e) ∙ is))
  ]

  pub member_get : (m : map.FinMap R X) (e : K × X) → Member (map.entries m) e → map.get m e.0 ≡ Some e.1
  member_get m e is = map.get-entries m e.0 ∙ member_find (map.entries m) e (map.entries_sorted m) is

  pub get_member : (m : map.FinMap R X) (k : K) (v : X) → map.get m k ≡ Some v → Member (map.entries m) (k, v)
  get_member m k v is = find_member (map.entries m) k v (sym (map.get-entries m k) ∙ is)

  -- a test that some value passes
  pub value_key : (m : map.FinMap R X) (p : X → Bool) → list_any p (map.values m) ≡ true → (k : K) × (v : X) × (map.get m k ≡ Some v) × (p v ≡ true)
  value_key m p e =
      let a = any_member p (map.values m) e in
      let b = map_member (λ (e : K × X). e.1) (map.entries m) a.0 a.1 in
      (b.0.0, b.0.1, member_get m b.0 b.1, sym (ap p b.2) ∙ a.2)

  pub key_value : (m : map.FinMap R X) (p : X → Bool) (k : K) (v : X) → map.get m k ≡ Some v → p v ≡ true → list_any p (map.values m) ≡ true
  key_value m p k v is e = member_any p (map.values m) v (member_map (λ (e : K × X). e.1) (map.entries m) (k, v) (get_member m k v is)) e

  long_list : (es : List (K × X)) (e : K × X) → Member es e → 1 ≤ length es
  long_list [] e is = absurd is
  long_list (f ∷ es) e is = omega arith

  some_len : (m : map.FinMap R X) (k : K) (v : X) → map.get m k ≡ Some v → 1 ≤ map.len m
  some_len m k v is = omega (arith, map.len-entries m, long_list (map.entries m) (k, v) (get_member m k v is))

  -- as many keys as there are, each different, are no more than the map has
  pub keys_fit : (n : ℕ) (f : ℕ → K) (m : map.FinMap R X) → ((i : ℕ) → i < n → (v : X) × (map.get m (f i) ≡ Some v)) → ((i j : ℕ) → i < j → j < n → f i ≢ f j) → n ≤ map.len m
  keys_fit zero f m there apart = omega arith
  keys_fit (suc n) f m there apart =
      let last = there n (omega arith) in
      let rest : n ≤ map.len (map.remove m (f n)) =
      keys_fit n f (map.remove m (f n))
      (λ i lt. let p = there i (omega arith) in (p.0, get_removed m (f n) (f i) (apart i n lt (omega arith)) ∙ p.1))
      (λ i j lt le. apart i j lt (omega arith)) in
      let has : map.contains_key m (f n) ≡ true = ap is_some last.1 in
      let less : map.len (map.remove m (f n)) ≡ map.len m - 1 = map.len-remove o m (f n) ∙ cond-true _ _ _ has in
      let len_some : 1 ≤ map.len m = some_len m (f n) last.0 last.1 in
      omega arith

  -- the entries that a test keeps
  pub entries-retain_keys : (m : map.FinMap R X) (p : K → Bool) → map.entries (map.retain_keys m p) ≡ where_key R p (map.entries m)
  entries-retain_keys m p = ap map.entries same_as ∙ map.entries-from_sorted R committed sorted
    where
      committed : List (K × X)
      committed = where_key R p (map.entries m)

      sorted : T (is_sorted R committed)
      sorted = is_sorted-where_key R p (map.entries m) (map.entries_sorted m)

      same_as : map.retain_keys m p ≡ map.from_sorted committed
      same_as = map.same_map o same _ _ (λ q.
          get_retained m p q ∙ ap (λ (x : Option X). cond (p q) x None) (map.get-entries m q)
          ∙ sym (find-where_key R p q (λ x e. ap p (sym (same q x e))) (map.entries m)) ∙ sym (map.get-from_sorted R committed q sorted))

  -- the entries that are left without a key
  pub entries-remove : (m : map.FinMap R X) (k : K) → map.entries (map.remove m k) ≡ where_key R (λ x. not (eq_by_cmp R k x)) (map.entries m)
  entries-remove m k = ap map.entries same_as ∙ entries-retain_keys m (λ x. not (eq_by_cmp R k x))
    where
      same_as : map.remove m k ≡ map.retain_keys m (λ x. not (eq_by_cmp R k x))
      same_as = map.same_map o same _ _ (λ q. elim (cases_key o same q k) [
        | inl is ↦
            map.get-remove o m k q ∙ cond-true _ _ _ (eq_same o same q k is)
            ∙ sym (cond-false _ _ _ (ap not (eq_same o same k q (sym is)))) ∙ sym (get_retained m (λ x. not (eq_by_cmp R k x)) q)
        | inr ne ↦
            map.get-remove o m k q ∙ cond-false _ _ _ (ne_key o same q k ne)
            ∙ sym (cond-true _ _ _ (ap not (ne_key o same k q (λ is. ne (sym is))))) ∙ sym (get_retained m (λ x. not (eq_by_cmp R k x)) q)
      ])
