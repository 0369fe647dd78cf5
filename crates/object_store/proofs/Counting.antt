-- Two lists of the same are as long.
use Rattle.std.specs.Prelude.{◌≡◌, ◌≢◌, ◌≤◌, ◌⊎◌, ◌+◌, List, [], ◌∷◌, length}
use Rattle.std.proofs.Common.{refl, sym, ◌∙◌, subst, inl, inr, arith}
use Rattle.posix_profile.specs.laws.Map.{Member}
use Rattle.posix_profile.specs.laws.Link.{AreDistinct, Lists}

-- the list without that element
abbrev pub without : {X : Type 0} (ys : List X) (x : X) → Member ys x → List X
without [] x is = absurd is
without (y ∷ ys) x (inl here) = ys
without (y ∷ ys) x (inr later) = y ∷ without ys x later

pub length_without : {X : Type 0} (ys : List X) (x : X) (is : Member ys x) → length (without ys x is) + 1 ≡ length ys
length_without [] x is = absurd is
length_without (y ∷ ys) x (inl here) = omega arith
length_without (y ∷ ys) x (inr later) = omega (arith, length_without ys x later)

pub member_without : {X : Type 0} (ys : List X) (x w : X) (is : Member ys x) → w ≢ x → Member ys w → Member (without ys x is) w
member_without [] x w is ne in' = absurd is
member_without (y ∷ ys) x w (inl here) ne (inl same) = absurd (ne (same ∙ sym here))
member_without (y ∷ ys) x w (inl here) ne (inr in') = in'
member_without (y ∷ ys) x w (inr later) ne (inl same) = inl same
member_without (y ∷ ys) x w (inr later) ne (inr in') = inr (member_without ys x w later ne in')

-- a list without repeats is no longer than one that has all of its elements
pub short : {X : Type 0} (xs ys : List X) → AreDistinct xs → ((x : X) → Member xs x → Member ys x) → length xs ≤ length ys
short [] ys distinct among = omega arith
short (x ∷ xs) ys distinct among =
    let found = among x (inl refl) in
    omega (
      arith,
      length_without ys x found,
      short xs (without ys x found) distinct.1 (λ w is. member_without ys x w found (λ same. distinct.0 (subst (λ v. Member xs v) same is)) (among w (inr is))),
    )

-- lists of the same are as long
pub same_length : {X : Type 0} (P : X → Type 0) (xs ys : List X) → Lists P xs → Lists P ys → length xs ≡ length ys
same_length P xs ys a b = omega (arith, short xs ys a.distinct (λ x is. b.all x (a.only x is)), short ys xs b.distinct (λ x is. a.all x (b.only x is)))

without_member : {X : Type 0} (ys : List X) (x w : X) (is : Member ys x) → Member (without ys x is) w → Member ys w
without_member [] x w is in' = absurd is
without_member (y ∷ ys) x w (inl here) in' = inr in'
without_member (y ∷ ys) x w (inr later) (inl same) = inl same
without_member (y ∷ ys) x w (inr later) (inr in') = inr (without_member ys x w later in')

distinct_without : {X : Type 0} (ys : List X) (x : X) (is : Member ys x) → AreDistinct ys → AreDistinct (without ys x is)
distinct_without [] x is distinct = absurd is
distinct_without (y ∷ ys) x (inl here) distinct = distinct.1
distinct_without (y ∷ ys) x (inr later) distinct = ((λ in'. distinct.0 (without_member ys x y later in')), distinct_without ys x later distinct.1)

without_differs : {X : Type 0} (ys : List X) (x w : X) (is : Member ys x) → AreDistinct ys → Member (without ys x is) w → w ≢ x
without_differs [] x w is distinct in' = absurd is
without_differs (y ∷ ys) x w (inl here) distinct in' = λ same. distinct.0 (subst (Member ys) (same ∙ here) in')
without_differs (y ∷ ys) x w (inr later) distinct (inl first) = λ same. distinct.0 (subst (Member ys) (sym same ∙ first) later)
without_differs (y ∷ ys) x w (inr later) distinct (inr in') = without_differs ys x w later distinct.1 in'

-- a list without one of its elements
pub list_without : {X : Type 0} (P Q : X → Type 0) (xs : List X) (x : X) (is : Member xs x) → ((w : X) → P w → w ≢ x → Q w) → ((w : X) → Q w → P w × (w ≢ x)) → Lists P xs → Lists Q (without xs x is)
list_without P Q xs x is to from l = record {
  distinct = distinct_without xs x is l.distinct;
  only = λ w in'. to w (l.only w (without_member xs x w is in')) (without_differs xs x w is l.distinct in');
  all = λ w q. let p = from w q in member_without xs x w is p.1 (l.all w p.0);
}

-- and with one more
pub list_with : {X : Type 0} (P Q : X → Type 0) (xs : List X) (x : X) → (P x → ⊥) → Q x → ((w : X) → P w → Q w) → ((w : X) → Q w → (w ≡ x) ⊎ P w) → Lists P xs → Lists Q (x ∷ xs)
list_with {X} P Q xs x new here to from l = record {
  distinct = ((λ in'. new (l.only x in')), l.distinct);
  only = only;
  all = λ w q. elim (from w q) [ inl same ↦ inl same | inr p ↦ inr (l.all w p) ];
}
  where
    only : (w : X) → Member (x ∷ xs) w → Q w
    only w (inl same) = subst Q (sym same) here
    only w (inr in') = to w (l.only w in')

-- the same list of another relation
pub list_other : {X : Type 0} (P Q : X → Type 0) (xs : List X) → ((x : X) → P x → Q x) → ((x : X) → Q x → P x) → Lists P xs → Lists Q xs
list_other P Q xs to from is = record { distinct = is.distinct; only = λ x in'. to x (is.only x in'); all = λ x q. is.all x (from x q) }
