-- What is read of a list by `slice_get` after a write.
use Rattle.std.proofs.Common.{◌≡◌, ◌<◌, ◌≤◌, ℕ, zero, suc, List, [], ◌∷◌, length, refl, arith, sym, subst, ◌++◌, inl, inr}
use Rattle.std.specs.Prelude.{slice_get}
use Rattle.std.specs.Option.{option_map_or}
use Rattle.std.proofs.lemmas.Bool.{cases_lt, cases_order}

pub map_or_push_old : {X Y : Type 0} (f : X → Y) (d : Y) (xs : List X) (y : X) (k : ℕ) → k < length xs
    → option_map_or f (slice_get (xs ++ y ∷ []) k) d ≡ option_map_or f (slice_get xs k) d
map_or_push_old f d [] y k h = absurd (omega arith)
map_or_push_old f d (x ∷ xs) y zero h = refl
map_or_push_old f d (x ∷ xs) y (suc k) h = map_or_push_old f d xs y k (omega arith)

pub map_or_push_new : {X Y : Type 0} (f : X → Y) (d : Y) (xs : List X) (y : X) (k : ℕ) → k ≡ length xs
    → option_map_or f (slice_get (xs ++ y ∷ []) k) d ≡ f y
map_or_push_new f d [] y zero h = refl
map_or_push_new f d [] y (suc k) h = absurd (omega arith)
map_or_push_new f d (x ∷ xs) y zero h = absurd (omega arith)
map_or_push_new f d (x ∷ xs) y (suc k) h = map_or_push_new f d xs y k (omega arith)

pub map_or_push_past : {X Y : Type 0} (f : X → Y) (d : Y) (xs : List X) (y : X) (k : ℕ) → length xs < k
    → option_map_or f (slice_get (xs ++ y ∷ []) k) d ≡ d
map_or_push_past f d [] y zero h = absurd (omega arith)
map_or_push_past f d [] y (suc k) h = refl
map_or_push_past f d (x ∷ xs) y zero h = absurd (omega arith)
map_or_push_past f d (x ∷ xs) y (suc k) h = map_or_push_past f d xs y k (omega arith)

-- what holds of each place of a list, of a new element, and past the end
pub each_push : {X Y : Type 0} (P : Y → Type 0) (f : X → Y) (d : Y) (xs : List X) (y : X) (k : ℕ)
    → P d → P (f y) → (k < length xs → P (option_map_or f (slice_get xs k) d)) → P (option_map_or f (slice_get (xs ++ y ∷ []) k) d)
each_push P f d xs y k at_d at_y each = elim (cases_order k (length xs)) [
  | inl e ↦ subst P (sym (map_or_push_new f d xs y k e)) at_y
  | inr o ↦ elim o [
    | inl lt ↦ subst P (sym (map_or_push_old f d xs y k lt)) (each lt)
    | inr gt ↦ subst P (sym (map_or_push_past f d xs y k gt)) at_d
  ]
]

-- what holds below n and from n on holds everywhere
pub everywhere : (P : ℕ → Type 0) (n : ℕ) → ((k : ℕ) → k < n → P k) → ((k : ℕ) → n ≤ k → P k) → (k : ℕ) → P k
everywhere P n below above k = elim (cases_lt k n) [ inl lt ↦ below k lt | inr ge ↦ above k ge ]
