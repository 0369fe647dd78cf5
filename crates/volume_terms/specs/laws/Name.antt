-- Whether bytes are a name can be decided; bytes by place are bytes.
use Rattle.std.proofs.Common.{◌≡◌, ℕ, zero, suc, List, [], ◌∷◌, length, inl, inr, ◌⊎◌, Contains, arith, slice_index, ◌<◌, subst, sym, lit<}
use Rattle.std.proofs.lemmas.Bool.{cases_eq, cases_lt}
use Rattle.std.proofs.lemmas.List.{get_or_past}
use Rattle.std.proofs.lemmas.List.Elements.{All-from_get_or, All-get_or}
use Rattle.volume_terms.specs.Names.{AreBytes, IsName}
use Rattle.volume_terms.specs.laws.List.{same_or_not}

-- bytes, given place by place, are bytes
pub are_bytes : (bytes : List ℕ) → ((i : ℕ) → slice_index bytes i < 256) → AreBytes bytes
are_bytes bytes each = All-from_get_or (λ byte. byte < 256) bytes 0 (λ i lt. each i)

-- and the other way round, past their end too
pub each_byte : (bytes : List ℕ) → AreBytes bytes → (i : ℕ) → slice_index bytes i < 256
each_byte bytes are i = elim (cases_lt i (length bytes)) [
  | inl lt ↦ All-get_or (λ byte. byte < 256) bytes i 0 lt are
  | inr past ↦ subst (λ b. b < 256) (sym (get_or_past bytes i 0 past)) (lit< tt)
]

not_in_cons : (x b : ℕ) (bytes : List ℕ) → (b ≡ x → ⊥) → (Contains bytes x → ⊥) → Contains (b ∷ bytes) x → ⊥
not_in_cons x b bytes other none (zero, within, same) = other same
not_in_cons x b bytes other none (suc k, within, same) = none (k, omega arith, same)

contains_or_not : (bytes : List ℕ) (x : ℕ) → Contains bytes x ⊎ (Contains bytes x → ⊥)
contains_or_not [] x = inr (λ h. absurd (omega (arith, h.1)))
contains_or_not (b ∷ bytes) x = elim (cases_eq b x) [
  | inl same ↦ inl (0, omega arith, same)
  | inr other ↦ elim (contains_or_not bytes x) [
    | inl there ↦ inl (suc there.0, omega (arith, there.1), there.2)
    | inr none ↦ inr (not_in_cons x b bytes other none)
  ]
]

-- whether bytes are a name can be decided
pub name_or_not : (name : List ℕ) → AreBytes name → IsName name ⊎ (IsName name → ⊥)
name_or_not name bytes = elim (cases_lt 0 (length name)) [
  | inr none ↦ inr (λ h. omega (arith, h.some))
  | inl some ↦ elim (cases_lt 255 (length name)) [
    | inl many ↦ inr (λ h. omega (arith, h.within_limit))
    | inr within_limit ↦ elim (contains_or_not name 0) [
      | inl has_zero ↦ inr (λ h. h.no_zero has_zero)
      | inr no_zero ↦ elim (contains_or_not name 47) [
        | inl has_slash ↦ inr (λ h. h.no_slash has_slash)
        | inr no_slash ↦ elim (same_or_not name (46 ∷ [])) [
          | inl dot ↦ inr (λ h. h.not_dot dot)
          | inr not_dot ↦ elim (same_or_not name (46 ∷ 46 ∷ [])) [
            | inl dot_dot ↦ inr (λ h. h.not_dot_dot dot_dot)
            | inr not_dot_dot ↦ inl (record { bytes = bytes; some = some; within_limit = within_limit; no_zero = no_zero; no_slash = no_slash; not_dot = not_dot; not_dot_dot = not_dot_dot })
          ]
        ]
      ]
    ]
  ]
]
