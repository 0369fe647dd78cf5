-- Lists that are compared place by place.
use Rattle.std.specs.Prelude.{◌≡◌, Bool, true, false, not, nat_eq, ℕ, zero, suc, ◌+◌, ◌<◌, ◌++◌, List, [], ◌∷◌, length, take, map as list_map, get_or, drop, All, ◌↔◌}
use Rattle.std.proofs.Common.{refl, sym, ◌∙◌, ap, subst, arith, add-one, ◌≤◌}
use Rattle.std.proofs.lemmas.Bool.{true≢false}
use Rattle.std.proofs.lemmas.List.{length-append, get_or_append_left}
use Rattle.std.proofs.lemmas.List.Elements.{All-push}
use Rattle.std.specs.Cmp.Lexicographic.{pointwise, bytes_decides}
use Rattle.std.proofs.Math.Seq.{take-suc, take-length, drop-cons, get_or-append_seam}

-- the elements at a place, by a view of them
pub at_place : {A B : Type 0} (f : A → B) (xs : List A) (i : ℕ) (x : A) → i < length xs → x ≡ get_or xs i x → f x ≡ get_or (list_map f xs) i (f x)
at_place f [] i x lt is = absurd (omega (arith, lt))
at_place f (y ∷ ys) zero x lt is = ap f is
at_place f (y ∷ ys) (suc i) x lt is = at_place f ys i x (omega (arith, lt)) is

pub length_map : {A B : Type 0} (f : A → B) (xs : List A) → length (list_map f xs) ≡ length xs
length_map f [] = refl
length_map f (x ∷ xs) = ap suc (length_map f xs)

module _ {A : Type 0} (xs ys : List A) where
  pub same_more : (i : ℕ) (x y : A) → i < length xs → i < length ys → x ≡ get_or xs i x → y ≡ get_or ys i y → x ≡ y → take i xs ≡ take i ys → take (i + 1) xs ≡ take (i + 1) ys
  same_more i x y less within_limit is at same so_far =
      ap (λ n. take n xs) (add-one i) ∙ take-suc xs i x less ∙ (λ j. so_far j ++ (sym is ∙ same ∙ at) j ∷ []) ∙ sym (take-suc ys i y within_limit) ∙ ap (λ n. take n ys) (sym (add-one i))

  pub same_at : (i : ℕ) (x y : A) → i < length xs → x ≡ get_or xs i x → y ≡ get_or ys i y → xs ≡ ys → x ≡ y
  same_at i x y less is at same = is ∙ ap (λ k. get_or k i x) same ∙ any ys i x y (omega (arith, less, ap (λ k. length k) same)) ∙ sym at
    where
      any : (zs : List A) (i : ℕ) (d e : A) → i < length zs → get_or zs i d ≡ get_or zs i e
      any [] i d e lt = absurd (omega (arith, lt))
      any (z ∷ zs) zero d e lt = refl
      any (z ∷ zs) (suc i) d e lt = any zs i d e (omega (arith, lt))

  pub same_all : (n : ℕ) → length xs ≡ n → length ys ≡ n → take n xs ≡ take n ys → xs ≡ ys
  same_all n many within_limit same = sym (take-length xs) ∙ ap (λ k. take k xs) many ∙ same ∙ ap (λ k. take k ys) (sym within_limit) ∙ take-length ys

-- the first elements and the next, by a view of them
map_suc : {A B : Type 0} (f : A → B) (xs : List A) (i : ℕ) (x : A) → i < length xs → x ≡ get_or xs i x → list_map f (take (suc i) xs) ≡ list_map f (take i xs) ++ f x ∷ []
map_suc f [] i x lt is = absurd (omega (arith, lt))
map_suc f (y ∷ ys) zero x lt is = ap (λ k. f k ∷ []) (sym is)
map_suc f (y ∷ ys) (suc i) x lt is = ap (λ k. f y ∷ k) (map_suc f ys i x (omega (arith, lt)) is)

pub map_next : {A B : Type 0} (f : A → B) (xs : List A) (i : ℕ) (x : A) → i < length xs → x ≡ get_or xs i x → list_map f (take (i + 1) xs) ≡ list_map f (take i xs) ++ f x ∷ []
map_next f xs i x lt is = ap (λ n. list_map f (take n xs)) (add-one i) ∙ map_suc f xs i x lt is

not_not : (b : Bool) → not b ≡ false → b ≡ true
not_not true e = refl
not_not false e = absurd (true≢false e)

-- bytes that do not differ
pub same_bytes : (r : Bool) (xs ys : List ℕ) → r ≡ not (pointwise nat_eq xs ys) → r ≡ false → xs ≡ ys
same_bytes r xs ys is no' = (bytes_decides xs ys).0 (not_not (pointwise nat_eq xs ys) (sym is ∙ no'))

-- what is left of a list, by a view of its elements
pub left_more : {A B : Type 0} (f : A → B) (xs : List A) (i : ℕ) (d : A) → i < length xs → list_map f (drop i xs) ≡ f (get_or xs i d) ∷ list_map f (drop (i + 1) xs)
left_more f xs i d less = ap (list_map f) (drop-cons xs i d less) ∙ ap (λ n. f (get_or xs i d) ∷ list_map f (drop n xs)) (sym (add-one i))

pub none_left : {A B : Type 0} (f : A → B) (xs : List A) (i : ℕ) → length xs ≤ i → list_map f (drop i xs) ≡ []
none_left f [] i le = elim i as (λ n. list_map f (drop n []) ≡ []) [ zero ↦ refl | suc n ↦ refl ]
none_left f (x ∷ xs) zero le = absurd (omega (arith, le))
none_left f (x ∷ xs) (suc i) le = none_left f xs i (omega (arith, le))

-- an element of the first that are one more
module _ {A : Type 0} (P : A → Type 0) (xs : List A) (i : ℕ) (x : A) (less : i < length xs) (is : x ≡ get_or xs i x) where
  first_more : take (i + 1) xs ≡ take i xs ++ x ∷ []
  first_more = ap (λ n. take n xs) (add-one i) ∙ take-suc xs i x less ∙ ap (λ k. take i xs ++ k ∷ []) (sym is)

  pub all_more : All P (take i xs) → P x → All P (take (i + 1) xs)
  all_more so_far here = subst (All P) (sym first_more) (All-push P (take i xs) x so_far here)

  pub all_fewer : All P (take (i + 1) xs) → All P (take i xs) × P x
  all_fewer all =
      let whole : All P (take i xs ++ x ∷ []) = subst (All P) first_more all in
      let some : length (take i xs ++ x ∷ []) ≡ length (take i xs) + 1 = length-append (take i xs) (x ∷ []) in (
        λ k d lt. subst P (get_or_append_left (take i xs) (x ∷ []) d k lt) (whole k d (omega (arith, some))),
        subst P (get_or-append_seam (take i xs) x [] x) (whole (length (take i xs)) x (omega (arith, some))),
      )

pub not_pushed : {B : Type 0} (ys : List B) (y : B) → ys ++ y ∷ [] ≡ [] → ⊥
not_pushed {B} ys y e = omega (arith, ap (λ (k : List B). length k) e, length-append ys (y ∷ []))

-- what is refused of the first that are one more
module _ {A B : Type 0} (P : A → Type 0) (xs : List A) (i : ℕ) (x : A) (less : i < length xs) (is : x ≡ get_or xs i x) (ys : List B) where
  pub refused_one : (new : List B) (y : B) → new ≡ ys ++ y ∷ [] → (P x → ⊥) → (new ≡ []) ↔ All P (take (i + 1) xs)
  refused_one new y grown no' = (λ e. absurd (not_pushed ys y (sym grown ∙ e)), λ all. absurd (no' (all_fewer P xs i x less is all).1))

  pub refused_none : (ys ≡ []) ↔ All P (take i xs) → P x → (ys ≡ []) ↔ All P (take (i + 1) xs)
  refused_none so_far here = (λ e. all_more P xs i x less is (so_far.0 e) here, λ all. so_far.1 (all_fewer P xs i x less is all).0)
