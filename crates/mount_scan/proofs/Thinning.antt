-- Pages that are added, and others that go.
use Rattle.std.specs.Prelude.{◌≡◌, ◌⊎◌, ◌<◌, ◌+◌, ℕ, List, [], ◌∷◌, ◌++◌, length, take, Contains}
use Rattle.std.proofs.Common.{refl, sym, ◌∙◌, ap, subst, inl, inr, arith, get_or}
use Rattle.std.proofs.lemmas.List.Elements.{Contains-append_left, Contains-push, Contains-push_cases}
use Rattle.std.proofs.lemmas.List.{take_more}
use Rattle.flash_tree.specs.Newest.{IsAfter}
use Rattle.flash_tree.specs.laws.Order.{not_after_itself}
use Rattle.mount_scan.specs.declared.page_copy.PageCopy.{PageCopy}
use Rattle.flash_tree.specs.declared.place.Found.{Found}
use Rattle.mount_scan.specs.Copies.{FitsCopy, copy_of, spot_of_copy}
use Rattle.mount_scan.specs.Keys.{HaveOneKey, Thins, IsCopyOf, ThinsFound, AreLatest}
use Rattle.mount_scan.specs.laws.Order.{not_after_on}

none_in : (f : PageCopy) → Contains [] f → ⊥
none_in f has = absurd (omega (arith, has.1))

-- nothing is added, and nothing goes
pub thins_none : (list : List PageCopy) → Thins [] list list
thins_none list = record {
  among = λ f has. inl has;
  some = λ g has. elim has [ inl was ↦ (g, was, (refl, refl), not_after_itself (spot_of_copy g)) | inr is ↦ absurd (none_in g is) ];
}

-- the latest are left
pub thins_latest : (old new : List PageCopy) → AreLatest old new → Thins [] old new
thins_latest old new latest = record {
  among = λ f has. inl (latest.among f has);
  some = λ g has. elim has [
    | inr is ↦ absurd (none_in g is)
    | inl was ↦
        let some = latest.some g was in
        (some.0, some.1, some.2, latest.last some.0 g some.1 was (sym some.2.0, sym some.2.1))
  ];
}

-- a page is added behind the others
pub thins_push : (old : List PageCopy) (x : PageCopy) → Thins (x ∷ []) old (old ++ x ∷ [])
thins_push old x = record {
  among = λ f has. elim (Contains-push_cases old x f has) [ inl was ↦ inl was | inr same ↦ inr (0, omega arith, same) ];
  some = λ g has. elim has [
    | inl was ↦ (g, Contains-append_left old (x ∷ []) g was, (refl, refl), not_after_itself (spot_of_copy g))
    | inr is ↦ elim (Contains-push_cases [] x g is) [
      | inl none ↦ absurd (none_in g none)
      | inr same ↦ (x, Contains-push old x, one_key x g same, not_after_same x g same)
    ]
  ];
} where
  one_key : (x g : PageCopy) → x ≡ g → HaveOneKey x g
  one_key x g same = (λ i. (same i).object, λ i. (same i).chunk)

  not_after_same : (x g : PageCopy) → x ≡ g → IsAfter (spot_of_copy g) (spot_of_copy x) → ⊥
  not_after_same x g same = subst (λ (y : PageCopy). IsAfter (spot_of_copy y) (spot_of_copy x) → ⊥) same (not_after_itself (spot_of_copy x))

-- some pages are added, and then others
pub thins_on : (a b c old mid new : List PageCopy) → ((f : PageCopy) → Contains c f → Contains a f ⊎ Contains b f) → ((f : PageCopy) → Contains a f ⊎ Contains b f → Contains c f)
    → Thins a old mid → Thins b mid new → Thins c old new
thins_on a b c old mid new split join first next = record {
  among = λ f has. elim (next.among f has) [
    | inr is ↦ inr (join f (inr is))
    | inl was ↦ elim (first.among f was) [ inl before ↦ inl before | inr is ↦ inr (join f (inl is)) ]
  ];
  some = λ g has. elim has [
    | inl was ↦ later g (first.some g (inl was))
    | inr is ↦ elim (split g is) [ inl in_a ↦ later g (first.some g (inr in_a)) | inr in_b ↦ next.some g (inr in_b) ]
  ];
} where
  later : (g : PageCopy) → (f : PageCopy) × Contains mid f × HaveOneKey f g × (IsAfter (spot_of_copy g) (spot_of_copy f) → ⊥)
      → (f : PageCopy) × Contains new f × HaveOneKey f g × (IsAfter (spot_of_copy g) (spot_of_copy f) → ⊥)
  later g was =
      let then = next.some was.0 (inl was.1) in
      (then.0, then.1, (then.2.0 ∙ was.2.0, then.2.1 ∙ was.2.1), not_after_on (spot_of_copy g) (spot_of_copy was.0) (spot_of_copy then.0) was.3 then.3)

-- where none is added, what is left was there
pub among_old : (old new : List PageCopy) → Thins [] old new → (f : PageCopy) → Contains new f → Contains old f
among_old old new thins f has = elim (thins.among f has) [ inl was ↦ was | inr none ↦ absurd (none_in f none) ]

-- and where one is put behind the others, was there or is that one
pub one_or_none : (old mid : List PageCopy) (x : PageCopy) → Thins [] old mid → (f : PageCopy) → Contains (mid ++ x ∷ []) f → Contains old f ⊎ (f ≡ x)
one_or_none old mid x thins f has = elim (Contains-push_cases mid x f has) [
  | inl was ↦ inl (among_old old mid thins f was)
  | inr same ↦ inr (sym same)
]

-- ---- the pages of a list

module _ (added : List Found) (old mid new : List PageCopy) (i : ℕ) (x : Found) (lt : i < length added) (at : get_or added i x ≡ x) where
  one_more : take (i + 1) added ≡ take i added ++ x ∷ []
  one_more = take_more added i x lt ∙ ap (λ z. take i added ++ z ∷ []) at

  -- a copy of the first pages is one of the pages before, or of the last
  split : (f : PageCopy) → IsCopyOf (take (i + 1) added) f → IsCopyOf (take i added) f ⊎ (FitsCopy x × (copy_of x ≡ f))
  split f (y, has, fits, same) = elim (Contains-push_cases (take i added) x y (subst (λ xs. Contains xs y) one_more has)) [
    | inl was ↦ inl (y, was, fits, same)
    | inr is ↦ inr (subst FitsCopy (sym is) fits, ap copy_of is ∙ same)
  ]

  wider : (f : PageCopy) → IsCopyOf (take i added) f → IsCopyOf (take (i + 1) added) f
  wider f (y, has, fits, same) = (y, subst (λ xs. Contains xs y) (sym one_more) (Contains-append_left (take i added) (x ∷ []) y has), fits, same)

  last : FitsCopy x → IsCopyOf (take (i + 1) added) (copy_of x)
  last fits = (x, subst (λ xs. Contains xs x) (sym one_more) (Contains-push (take i added) x), fits, refl)

  -- the next page does not fit
  pub found_skip : (FitsCopy x → ⊥) → ThinsFound (take i added) old new → ThinsFound (take (i + 1) added) old new
  found_skip not first = record {
    among = λ f has. elim (first.among f has) [ inl was ↦ inl was | inr is ↦ inr (wider f is) ];
    some = λ g has. elim has [
      | inl was ↦ first.some g (inl was)
      | inr is ↦ elim (split g is) [ inl before ↦ first.some g (inr before) | inr (fits, same) ↦ absurd (not fits) ]
    ];
  }

  -- and its copy was added
  pub found_next : (y : PageCopy) → (y ≡ copy_of x) × FitsCopy x → ThinsFound (take i added) old mid → Thins (y ∷ []) mid new → ThinsFound (take (i + 1) added) old new
  found_next y (copied, fits) first next = record {
    among = λ f has. elim (next.among f has) [
      | inr is ↦ elim (Contains-push_cases [] y f is) [
        | inl none ↦ absurd (none_in f none)
        | inr same ↦ inr (subst (IsCopyOf (take (i + 1) added)) (sym copied ∙ same) (last fits))
      ]
      | inl was ↦ elim (first.among f was) [ inl before ↦ inl before | inr is ↦ inr (wider f is) ]
    ];
    some = λ g has. elim has [
      | inl was ↦ later g (first.some g (inl was))
      | inr is ↦ elim (split g is) [
        | inl before ↦ later g (first.some g (inr before))
        | inr (fit, same) ↦ next.some g (inr (0, omega arith, copied ∙ same))
      ]
    ];
  } where
    later : (g : PageCopy) → (f : PageCopy) × Contains mid f × HaveOneKey f g × (IsAfter (spot_of_copy g) (spot_of_copy f) → ⊥)
        → (f : PageCopy) × Contains new f × HaveOneKey f g × (IsAfter (spot_of_copy g) (spot_of_copy f) → ⊥)
    later g was =
        let then = next.some was.0 (inl was.1) in
        (then.0, then.1, (then.2.0 ∙ was.2.0, then.2.1 ∙ was.2.1), not_after_on (spot_of_copy g) (spot_of_copy was.0) (spot_of_copy then.0) was.3 then.3)
