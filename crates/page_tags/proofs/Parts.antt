-- The list that is left when its parts are written one by one.
use Rattle.std.proofs.Common.{◌≡◌, ◌≤◌, ℕ, ◌+◌, ◌-◌, List, ◌++◌, length, take, drop, ap, ap₂, ◌∙◌, append-nil, length-append, length-drop, length-take, arith}
use borrow.Rule.Slice.PartMut.{put_mid}
use Rattle.std.proofs.lemmas.List.{drop_all}
use Rattle.std.proofs.lemmas.Slice.{take-put_mid}

-- a part that is written in place keeps the length
pub length-put_mid : (a k : ℕ) (xs ys : List ℕ) → a + k ≤ length xs → length ys ≡ k → length (put_mid a k xs ys) ≡ length xs
length-put_mid a k xs ys within same =
    omega (arith, length-append (take a xs) (ys ++ drop k (drop a xs)), length-append ys (drop k (drop a xs)), length-take a xs, length-drop k (drop a xs), length-drop a xs)

-- a part up to the end, after the part before it
pub two_parts :
    (a e r : ℕ) (xs ys zs : List ℕ) → a ≤ e → e ≤ length xs → length ys ≡ e - a → length xs ≤ e + r
    → put_mid e r (put_mid a (e - a) xs ys) zs ≡ (take a xs ++ ys) ++ zs
two_parts a e r xs ys zs order within same all =
    let middle : List ℕ = put_mid a (e - a) xs ys in
    let len : length middle ≡ length xs = length-put_mid a (e - a) xs ys (omega arith) same in
    ap₂ ◌++◌ (take-put_mid a (e - a) xs ys e (omega arith) (omega arith))
    (ap (λ rest. zs ++ rest) (drop_all r (drop e middle) (omega (arith, length-drop e middle))) ∙ append-nil zs)
