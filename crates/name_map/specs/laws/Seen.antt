-- A tree map seen as a finite map, key by key and value by value.
use Rattle.std.specs.Prelude.{◌≡◌, true, false, Bool, List, [], ◌∷◌, map as list_map, filter, Option, Some, None, Result, Ok, Err, MatchResult, IfOk, cond, not}
use Rattle.std.proofs.Common.{refl, sym, ◌∙◌, ap}
use Rattle.std.specs.declared.cmp.Ordering.{Ordering}
use Rattle.std.specs.declared.cmp.Ordering.TheVariants.{Less, Equal, Greater}
use Rattle.std.specs.Ordering.{is_eq, eq_by_cmp, match_ordering}
use Rattle.std.specs.Cmp.{IsTotalOrder, eq_by_cmp_equiv}
use Rattle.std.specs.List.{AllZip, AllByRecursion}
use Rattle.std.specs.List.Sorted.{IsStrictlySortedBy}
use Rattle.std.specs.Map.{lookup, keys_of, remove_entry}
use Rattle.std.specs.BTreeMap.{insert_entry}
use Rattle.std.specs.Option.{option_map}
use Rattle.std.proofs.lemmas.Map.Keys.{sorted_head, sorted_tail}
use Rattle.std.specs.FinMap as map
use Rattle.std.specs.FinMap.Entries.{find, put, by_order, find-where_key}
use Rattle.std.proofs.lemmas.List.{nil_from_length}

turned : {A : Type 0} (b : Bool) (x y : A) → cond (not b) x y ≡ cond b y x
turned true x y = refl
turned false x y = refl

module _ {K X L Y : Type 0} (R : L → L → Ordering) (key : K → L) (value : X → Y) where
  -- the entries, with each key and value seen
  abbrev pub seen : List (K × X) → List (L × Y)
  seen es = list_map {B = L × Y} (λ (e : K × X). (key e.0, value e.1)) es

  abbrev pub order : K → K → Ordering
  order a b = R (key a) (key b)

  find_seen : (es : List (K × X)) (q : L) → find R q (seen es) ≡ option_map value (lookup (λ x. is_eq (R q (key x))) es)
  find_seen [] q = refl
  find_seen (e ∷ es) q =
      elim (is_eq (R q (key e.0))) as (λ b. cond b (Some (value e.1)) (find R q (seen es)) ≡ option_map value (cond b (Some e.1) (lookup (λ x. is_eq (R q (key x))) es))) [
        | true ↦ refl
        | false ↦ find_seen es q
      ]

  seen_put : (es : List (K × X)) (k : K) (v : X) → seen (insert_entry order es k v) ≡ put R (key k) (value v) (seen es)
  seen_put [] k v = refl
  seen_put (e ∷ es) k v = elim (R (key k) (key e.0)) as (λ r. seen (match_ordering r ((k, v) ∷ e ∷ es) ((e.0, v) ∷ es) (e ∷ insert_entry order es k v))
      ≡ by_order r ((key k, value v) ∷ (key e.0, value e.1) ∷ seen es) ((key e.0, value v) ∷ seen es) ((key e.0, value e.1) ∷ put R (key k) (value v) (seen es))) [
        | Less ↦ refl
        | Equal ↦ refl
        | Greater ↦ ap (λ (xs : List (L × Y)). (key e.0, value e.1) ∷ xs) (seen_put es k v)
      ]

  put_first : (es : List (K × X)) (k : K) (v : X) → AllByRecursion (λ y. order k y ≡ Less) (keys_of es) → put R (key k) (value v) (seen es) ≡ (key k, value v) ∷ seen es
  put_first [] k v less = refl
  put_first (e ∷ es) k v less = ap (λ (r : Ordering). by_order r ((key k, value v) ∷ (key e.0, value e.1) ∷ seen es) ((key e.0, value v) ∷ seen es) ((key e.0, value e.1) ∷ put R (key k) (value v) (seen es))) less.0

  module _ (o : IsTotalOrder R) where
    -- what is there
    pub get_seen : (es : List (K × X)) (q : L) → map.get (map.from_entries {R = R} (seen es)) q ≡ option_map value (lookup (λ x. is_eq (R q (key x))) es)
    get_seen es q = map.get-from_entries o (seen es) q ∙ find_seen es q

    -- the entries in order
    pub entries_seen : (es : List (K × X)) → IsStrictlySortedBy order (keys_of es) → map.entries (map.from_entries {R = R} (seen es)) ≡ seen es
    entries_seen [] sorted = nil_from_length (map.entries (map.empty {X = Y} {R = R})) (sym (map.len-entries (map.empty {X = Y} {R = R})) ∙ map.len-empty R Y)
    entries_seen (e ∷ es) sorted =
        map.entries-insert o (map.from_entries {R = R} (seen es)) (key e.0) (value e.1)
        ∙ ap (λ (xs : List (L × Y)). put R (key e.0) (value e.1) xs) (entries_seen es (sorted_tail order e.0 (keys_of es) sorted))
        ∙ put_first es e.0 e.1 (sorted_head order e.0 (keys_of es) sorted)

    -- after an insert
    pub insert_seen : (es fs : List (K × X)) (k : K) (v : X) → IsStrictlySortedBy order (keys_of es) → IsStrictlySortedBy order (keys_of fs) → fs ≡ insert_entry order es k v
        → map.from_entries {R = R} (seen fs) ≡ map.insert (map.from_entries (seen es)) (key k) (value v)
    insert_seen es fs k v old new is = map.same_entries_map _ _
        (entries_seen fs new ∙ ap seen is ∙ seen_put es k v
        ∙ ap (λ (xs : List (L × Y)). put R (key k) (value v) xs) (sym (entries_seen es old))
        ∙ sym (map.entries-insert o (map.from_entries {R = R} (seen es)) (key k) (value v)))

    seen_filter : (p : L → Bool) (es : List (K × X)) → seen (filter (λ e. p (key e.0)) es) ≡ filter (λ e. p e.0) (seen es)
    seen_filter p [] = refl
    seen_filter p (e ∷ es) = elim (p (key e.0)) as (λ b. seen (cond b (e ∷ filter (λ e. p (key e.0)) es) (filter (λ e. p (key e.0)) es)) ≡ cond b ((key e.0, value e.1) ∷ filter (λ e. p e.0) (seen es)) (filter (λ e. p e.0) (seen es))) [
      | true ↦ ap (λ (xs : List (L × Y)). (key e.0, value e.1) ∷ xs) (seen_filter p es)
      | false ↦ seen_filter p es
    ]

    others : (k : L) (e : K) (es : List (K × X)) → R k (key e) ≡ Equal → AllByRecursion (λ y. order e y ≡ Less) (keys_of es) → filter (λ x. not (eq_by_cmp R k x.0)) (seen es) ≡ seen es
    others k e [] tied less = refl
    others k e (f ∷ es) tied less =
        let here : eq_by_cmp R k (key f.0) ≡ false = ap is_eq (o.congr k (key e) (key f.0) tied ∙ less.0) in
        ap (λ b. cond (not b) ((key f.0, value f.1) ∷ filter (λ x. not (eq_by_cmp R k x.0)) (seen es)) (filter (λ x. not (eq_by_cmp R k x.0)) (seen es))) here
        ∙ ap (λ (xs : List (L × Y)). (key f.0, value f.1) ∷ xs) (others k e es tied less.1)

    seen_without : (k : L) (es : List (K × X)) → IsStrictlySortedBy order (keys_of es) → seen (remove_entry (λ x. is_eq (R k (key x))) es) ≡ filter (λ x. not (eq_by_cmp R k x.0)) (seen es)
    seen_without k [] sorted = refl
    seen_without k (e ∷ es) sorted = elim (R k (key e.0)) as (λ r. R k (key e.0) ≡ r
        → seen (cond (is_eq r) es (e ∷ remove_entry (λ x. is_eq (R k (key x))) es)) ≡ cond (not (is_eq r)) ((key e.0, value e.1) ∷ filter (λ x. not (eq_by_cmp R k x.0)) (seen es)) (filter (λ x. not (eq_by_cmp R k x.0)) (seen es))) [
          | Less ↦ λ is. ap (λ (xs : List (L × Y)). (key e.0, value e.1) ∷ xs) (seen_without k es (sorted_tail order e.0 (keys_of es) sorted))
          | Equal ↦ λ is. sym (others k e.0 es is (sorted_head order e.0 (keys_of es) sorted))
          | Greater ↦ λ is. ap (λ (xs : List (L × Y)). (key e.0, value e.1) ∷ xs) (seen_without k es (sorted_tail order e.0 (keys_of es) sorted))
        ] refl

    module _ (same : map.IsAntisymmetric R) where
      -- after a key is taken away
      pub remove_seen : (es fs : List (K × X)) (k : L) → IsStrictlySortedBy order (keys_of es) → fs ≡ remove_entry (λ x. is_eq (R k (key x))) es → map.from_entries {R = R} (seen fs) ≡ map.remove (map.from_entries (seen es)) k
      remove_seen es fs k sorted is = map.same_map o same _ _ (λ q.
          map.get-from_entries o (seen fs) q
          ∙ ap (λ xs. find R q (seen xs)) is
          ∙ ap (find R q) (seen_without k es sorted)
          ∙ find-where_key R (λ x. not (eq_by_cmp R k x)) q (λ x e. ap (λ x. not (eq_by_cmp R k x)) (sym (same q x e))) (seen es)
          ∙ turned (eq_by_cmp R k q) (find R q (seen es)) None
          ∙ ap (λ b. cond b None (find R q (seen es))) ((eq_by_cmp_equiv o).symm k q)
          ∙ ap (λ (x : Option Y). cond (eq_by_cmp R q k) None x) (sym (map.get-from_entries o (seen es) q))
          ∙ sym (map.get-remove o (map.from_entries {R = R} (seen es)) k q))

      -- after the keys are held by a test
      pub retain_seen : (p : L → Bool) (es fs : List (K × X)) → fs ≡ filter (λ e. p (key e.0)) es → map.from_entries {R = R} (seen fs) ≡ map.retain_keys (map.from_entries (seen es)) p
      retain_seen p es fs is = map.same_map o same _ _ (λ q.
          map.get-from_entries o (seen fs) q
          ∙ ap (λ xs. find R q (seen xs)) is
          ∙ ap (find R q) (seen_filter p es)
          ∙ find-where_key R p q (λ x e. ap p (sym (same q x e))) (seen es)
          ∙ ap (λ (x : Option Y). cond (p q) x None) (sym (map.get-from_entries o (seen es) q))
          ∙ sym (map.get-retain_keys (map.from_entries {R = R} (seen es)) p q (λ x e. ap p (sym (same q x e)))))

-- each key and value seen as that of the copy
pub clone_seen : {K X L Y : Type 0} (key : K → L) (value : X → Y) (C : K → K → Type 0) (D : X → X → Type 0) → ((a b : K) → C a b → key b ≡ key a) → ((v w : X) → D v w → value w ≡ value v)
    → (es fs : List (K × X)) → AllZip (λ p q. C p.0 q.0 × D p.1 q.1) es fs → list_map {B = L × Y} (λ (e : K × X). (key e.0, value e.1)) fs ≡ list_map {B = L × Y} (λ (e : K × X). (key e.0, value e.1)) es
clone_seen key value C D keys values [] [] all = refl
clone_seen key value C D keys values [] (f ∷ fs) all = absurd all
clone_seen key value C D keys values (e ∷ es) [] all = absurd all
clone_seen {L = L} {Y = Y} key value C D keys values (e ∷ es) (f ∷ fs) all =
    let k = keys e.0 f.0 all.0.0 in
    let v = values e.1 f.1 all.0.1 in
    let rest = clone_seen key value C D keys values es fs all.1 in
    λ i. (k i, v i) ∷ rest i

-- what holds of the value, by what the call says of both outcomes
pub ok_of : {A B : Type 0} (r : Result A B) (P S : A → Type 0) (Q : B → Type 0) → MatchResult r P Q → ((x : A) → P x → S x) → IfOk r S
ok_of (Ok x) P S Q h f = f x h
ok_of (Err e) P S Q h f = tt

-- lists whose elements are pairwise the same
pub same_zip : {A : Type 0} (xs ys : List A) → AllZip (λ (x y : A). y ≡ x) xs ys → ys ≡ xs
same_zip [] [] all = refl
same_zip [] (y ∷ ys) all = absurd all
same_zip (x ∷ xs) [] all = absurd all
same_zip (x ∷ xs) (y ∷ ys) all = let rest = same_zip xs ys all.1 in λ i. all.0 i ∷ rest i
