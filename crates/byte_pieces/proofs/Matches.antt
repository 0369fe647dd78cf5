-- The pieces between the matches of a needle of one byte are those of a split at that byte.
use Rattle.std.proofs.Common.{◌≡◌, ◌+◌, ◌-◌, ℕ, suc, List, [], ◌∷◌, ◌++◌, true, false, nat_eq, length, length-drop, take, drop, drop-drop, append_assoc, append-nil, get_or, All, length-append, refl, sym, ap, ◌∙◌, arith, ⊎_elim}
use Rattle.std.specs.List.{slice_split}
use Rattle.std.proofs.lemmas.Bool.{cases_Bool, cond-true, cond-false, eqb-true, eq-eqb, true≢false}
use Rattle.std.proofs.lemmas.List.{take_at}
use Rattle.std.proofs.lemmas.List.Elements.{All-nil, All-cons, All-append}
use Rattle.std.proofs.lemmas.List.Splits.{slice_split_at, slice_split_none}
use Rattle.bstr.specs.Find.{OccursAt, match_len, matches, matches_from, occurs_at}
use Rattle.bstr.specs.Text.{split_at, part}
use Rattle.bstr.proofs.lemmas.MatchListLemmas.{split_at-next, split_at-end}
use Rattle.memchr.proofs.lemmas.MatchLemmas.{OccursAt-part, OccursAt-from_part, occurs_at-true, OccursAt-true}

module _ (hay needle : List ℕ) where
  -- the matches among no places, and among some whose first is one or is none
  empty : (i : ℕ) → matches_from hay needle 0 i 0 ≡ []
  unfolding matches_from
  empty i = refl

  hit : (i n : ℕ) → OccursAt hay needle i → matches_from hay needle 0 i (suc n) ≡ i ∷ matches_from hay needle (match_len needle - 1) (i + 1) n
  unfolding matches_from
  hit i n here = cond-true _ _ _ (occurs_at-true hay needle i here)

  miss : (i n : ℕ) → ¬ OccursAt hay needle i → matches_from hay needle 0 i (suc n) ≡ matches_from hay needle 0 (i + 1) n
  unfolding matches_from
  miss i n not = ⊎_elim (λ yes. absurd (not (OccursAt-true hay needle i yes))) (λ no. cond-false _ _ _ no) (cases_Bool (occurs_at hay needle i))

module _ (c : ℕ) (hay : List ℕ) where
  -- it is not the byte
  abbrev Other : ℕ → Type 0
  Other x = nat_eq c x ≡ false

  -- the needle is at place i where the byte is the next one
  next_is : (i : ℕ) (x : ℕ) (xs : List ℕ) → drop i hay ≡ x ∷ xs → nat_eq c x ≡ true → OccursAt hay (c ∷ []) i
  next_is i x xs rest is =
      OccursAt-from_part hay (c ∷ []) i (omega (arith, length-drop i hay, ap length rest))
      (ap (take 1) rest ∙ ap (λ b. b ∷ []) (sym (eqb-true c x is)))

  next_is_not : (i : ℕ) (x : ℕ) (xs : List ℕ) → drop i hay ≡ x ∷ xs → nat_eq c x ≡ false → ¬ OccursAt hay (c ∷ []) i
  next_is_not i x xs rest other occurs =
      let same : x ≡ c = ap (λ bs. get_or bs 0 0) (sym (ap (take 1) rest) ∙ OccursAt-part hay (c ∷ []) i occurs) in
      true≢false (sym (eq-eqb c x (sym same)) ∙ other)

  -- `mid` stands from place `last` to place i and has no such byte; `rest` stands from there on
  pieces_from : (rest mid : List ℕ) (i last : ℕ) → last + length mid ≡ i → drop last hay ≡ mid ++ rest → drop i hay ≡ rest → All Other mid
      → split_at hay 1 last (matches_from hay (c ∷ []) 0 i (suc (length rest))) ≡ slice_split (nat_eq c) (mid ++ rest)
  pieces_from [] mid i last at here left none =
      ap (split_at hay 1 last) (miss hay (c ∷ []) i 0 (λ o. absurd (omega (arith, o.fits, length-drop i hay, ap length left))) ∙ empty hay (c ∷ []) (i + 1))
      ∙ split_at-end hay 1 last ∙ ap (λ piece. piece ∷ []) (here ∙ append-nil mid) ∙ sym (slice_split_none (nat_eq c) mid none) ∙ ap (slice_split (nat_eq c)) (sym (append-nil mid))
  pieces_from (x ∷ xs) mid i last at here left none =
      let on : drop (i + 1) hay ≡ xs = sym (drop-drop 1 i hay) ∙ ap (drop 1) left in
      ⊎_elim
      (λ is.
      let piece : part last i hay ≡ mid = ap (take (i - last)) here ∙ take_at mid (x ∷ xs) (i - last) (omega arith) in
      ap (split_at hay 1 last) (hit hay (c ∷ []) i (suc (length xs)) (next_is i x xs left is))
      ∙ split_at-next hay 1 last i _
      ∙ ap (λ p. p ∷ split_at hay 1 (i + 1) (matches_from hay (c ∷ []) 0 (i + 1) (suc (length xs)))) piece
      ∙ ap (λ ps. mid ∷ ps) (pieces_from xs [] (i + 1) (i + 1) (omega arith) on on (All-nil Other))
      ∙ sym (slice_split_at (nat_eq c) mid x xs none is))
      (λ other.
      let joined : (mid ++ x ∷ []) ++ xs ≡ mid ++ x ∷ xs = append_assoc mid (x ∷ []) xs in
      ap (split_at hay 1 last) (miss hay (c ∷ []) i (suc (length xs)) (next_is_not i x xs left other))
      ∙ pieces_from xs (mid ++ x ∷ []) (i + 1) last (omega (arith, length-append mid (x ∷ []))) (here ∙ sym joined) on (All-append Other mid (x ∷ []) none (All-cons Other x [] other (All-nil Other)))
      ∙ ap (slice_split (nat_eq c)) joined)
      (cases_Bool (nat_eq c x))

  pub pieces_between : split_at hay 1 0 (matches hay (c ∷ []) 0) ≡ slice_split (nat_eq c) hay
  pieces_between =
      let count : length hay + 1 - 0 ≡ suc (length hay) = omega arith in
      ap (λ n. split_at hay 1 0 (matches_from hay (c ∷ []) 0 0 n)) count ∙ pieces_from hay [] 0 0 refl refl refl (All-nil Other)
