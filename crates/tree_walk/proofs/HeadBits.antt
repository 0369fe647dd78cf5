-- The presence bits of a file up to its last chunk are all that are set.
use Rattle.std.specs.Prelude.{◌≡◌, ◌<◌, ◌≤◌, ℕ, ◌-◌, ◌/◌, ◌%◌, min, false, List, length, take, nat_eq}
use Rattle.std.specs.Int.{bit_at, div_ceil}
use Rattle.std.proofs.Common.{sym, ◌∙◌, ap, subst, inl, inr, arith}
use Rattle.std.proofs.lemmas.Bool.{cases_Bool, cases_lt}
use Rattle.std.proofs.lemmas.List.{get_or-take, length-take}
use Rattle.page_tags.specs.Headers.{Fields, IsHeader, MayBeSet, is_present}
use Rattle.page_tags.specs.declared.header.ObjectKind.{ObjectKind}
use Rattle.page_tags.specs.declared.header.ObjectKind.TheVariants as kinds
use Rattle.page_tags.specs.laws.Bit.{is_present_past}
use Rattle.volume_terms.specs.laws.Rounding.{ceiling_is}

-- the last chunk that may be present
abbrev pub last_chunk : ℕ → ObjectKind → ℕ → ℕ
last_chunk d kinds.File len = div_ceil len d
last_chunk d kinds.Directory len = 0

may_be_set : (d : ℕ) (kind : ObjectKind) (len c : ℕ) → 1 ≤ d → 1 ≤ c → MayBeSet d kind len c → c ≤ last_chunk d kind len
may_be_set d kinds.File len c some from may = subst (λ n. c ≤ n) (sym (ceiling_is len d some)) may
may_be_set d kinds.Directory len c some from may = absurd may

in_byte : (bits : List ℕ) (n c : ℕ) → (c - 1) / 8 < n → is_present (take n bits) c ≡ is_present bits c
unfolding is_present
in_byte bits n c lt = ap (λ b. nat_eq (bit_at b ((c - 1) % 8)) 1) (get_or-take n bits ((c - 1) / 8) 0 lt)

module _ (d : ℕ) (f : Fields) (some : 1 ≤ d) (valid : IsHeader d f) (chunks : ℕ) (last : chunks ≡ last_chunk d f.kind f.length) where
  past_last : (c : ℕ) → 1 ≤ c → chunks < c → is_present f.bits c ≡ false
  past_last c from lt = elim (cases_Bool (is_present f.bits c)) [
    | inr absent ↦ absent
    | inl present ↦ let le = may_be_set d f.kind f.length c some from (valid.within c from present) in absurd (omega (arith, le, lt, last))
  ]

  pub same_bits : (n : ℕ) → n ≡ min (length f.bits) (div_ceil chunks 8) → (c : ℕ) → 1 ≤ c → is_present (take n f.bits) c ≡ is_present f.bits c
  same_bits n is c from = elim (cases_lt ((c - 1) / 8) n) [
    | inl lt ↦ in_byte f.bits n c lt
    | inr past ↦ is_present_past (take n f.bits) c (let len = length-take n f.bits in omega (arith, len, past)) ∙ sym (none past)
  ] where
    none : n ≤ (c - 1) / 8 → is_present f.bits c ≡ false
    none past = elim (cases_lt ((c - 1) / 8) (length f.bits)) [
      | inr all ↦ is_present_past f.bits c all
      | inl lt ↦ past_last c from (omega (arith, is, past, lt, from))
    ]
