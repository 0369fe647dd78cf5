-- Lists that are compared place by place.
use Rattle.std.specs.Prelude.{◌≡◌, Bool, true, false, not, nat_eq, ℕ, zero, suc, ◌+◌, ◌<◌, ◌++◌, List, [], ◌∷◌, length, take, map as list_map, get_or}
use Rattle.std.proofs.Common.{refl, sym, ◌∙◌, ap, arith, add-one}
use Rattle.std.proofs.lemmas.Bool.{true≢false}
use Rattle.std.specs.Cmp.Lexicographic.{pointwise, bytes_decides}
use Rattle.std.proofs.Math.Seq.{take-suc, take-length}

-- the elements at a place, by a view of them
pub at_place : {A B : Type 0} (f : A → B) (xs : List A) (i : ℕ) (x : A) → i < length xs → x ≡ get_or xs i x → f x ≡ get_or (list_map f xs) i (f x)
at_place f [] i x lt is = absurd (omega (arith, lt))
at_place f (y ∷ ys) zero x lt is = ap f is
at_place f (y ∷ ys) (suc i) x lt is = at_place f ys i x (omega (arith, lt)) is

pub length_map : {A B : Type 0} (f : A → B) (xs : List A) → length (list_map f xs) ≡ length xs
length_map f [] = refl
length_map f (x ∷ xs) = ap suc (length_map f xs)

module _ {A : Type 0} (xs ys : List A) where
  pub same_more : (i : ℕ) (x y : A) → i < length xs → i < length ys → x ≡ get_or xs i x → y ≡ get_or ys i y → x ≡ y → take i xs ≡ take i ys → take (i + 1) xs ≡ take (i + 1) ys
  same_more i x y less within_limit is at same so_far =
      ap (λ n. take n xs) (add-one i) ∙ take-suc xs i x less ∙ (λ j. so_far j ++ (sym is ∙ same ∙ at) j ∷ []) ∙ sym (take-suc ys i y within_limit) ∙ ap (λ n. take n ys) (sym (add-one i))

  pub same_at : (i : ℕ) (x y : A) → i < length xs → x ≡ get_or xs i x → y ≡ get_or ys i y → xs ≡ ys → x ≡ y
  same_at i x y less is at same = is ∙ ap (λ k. get_or k i x) same ∙ any ys i x y (omega (arith, less, ap (λ k. length k) same)) ∙ sym at
    where
      any : (zs : List A) (i : ℕ) (d e : A) → i < length zs → get_or zs i d ≡ get_or zs i e
      any [] i d e lt = absurd (omega (arith, lt))
      any (z ∷ zs) zero d e lt = refl
      any (z ∷ zs) (suc i) d e lt = any zs i d e (omega (arith, lt))

  pub same_all : (n : ℕ) → length xs ≡ n → length ys ≡ n → take n xs ≡ take n ys → xs ≡ ys
  same_all n many within_limit same = sym (take-length xs) ∙ ap (λ k. take k xs) many ∙ same ∙ ap (λ k. take k ys) (sym within_limit) ∙ take-length ys

-- the first elements and the next, by a view of them
map_suc : {A B : Type 0} (f : A → B) (xs : List A) (i : ℕ) (x : A) → i < length xs → x ≡ get_or xs i x → list_map f (take (suc i) xs) ≡ list_map f (take i xs) ++ f x ∷ []
map_suc f [] i x lt is = absurd (omega (arith, lt))
map_suc f (y ∷ ys) zero x lt is = ap (λ k. f k ∷ []) (sym is)
map_suc f (y ∷ ys) (suc i) x lt is = ap (λ k. f y ∷ k) (map_suc f ys i x (omega (arith, lt)) is)

pub map_next : {A B : Type 0} (f : A → B) (xs : List A) (i : ℕ) (x : A) → i < length xs → x ≡ get_or xs i x → list_map f (take (i + 1) xs) ≡ list_map f (take i xs) ++ f x ∷ []
map_next f xs i x lt is = ap (λ n. list_map f (take n xs)) (add-one i) ∙ map_suc f xs i x lt is

not_not : (b : Bool) → not b ≡ false → b ≡ true
not_not true e = refl
not_not false e = absurd (true≢false e)

-- bytes that do not differ
pub same_bytes : (r : Bool) (xs ys : List ℕ) → r ≡ not (pointwise nat_eq xs ys) → r ≡ false → xs ≡ ys
same_bytes r xs ys is no' = (bytes_decides xs ys).0 (not_not (pointwise nat_eq xs ys) (sym is ∙ no'))
