-- The objects of which a header is committed, one after the other.
use Rattle.std.specs.Prelude.{◌≡◌, ◌⊎◌, ◌<◌, ◌≤◌, ◌-◌, ◌^◌, ℕ, List, [], ◌∷◌, ◌++◌, get_or, length, Option, Some, None, IfSome}
use Rattle.std.proofs.Common.{sym, ◌∙◌, ap, subst, inl, inr, arith}
use Rattle.std.proofs.lemmas.Bool.{cases_lt}
use Rattle.std.proofs.lemmas.List.Quantifiers.{all_pairs_push}
use Rattle.std.proofs.lemmas.Option.{slice_get-get_or}
use Rattle.volume_terms.specs.laws.List.{get_push, push_before, push_last}
use Rattle.flash_tree.specs.declared.place.Key.{Key}
use Rattle.chunk_index.specs.declared.form.CommittedKey.{CommittedKey}
use Rattle.chunk_index.specs.declared.form.CommittedPage.{CommittedPage}
use Rattle.chunk_index.specs.Committed.{IsAfterKey, IsNextCommitted}
use Rattle.chunk_index.specs.Maps.{CommittedMap}
use Rattle.tree_walk.specs.laws.Lists.{of_on, on_of}
use Rattle.salvage.specs.Headers.{IsListed, IsUpTo, ListsHeaders, ListsUpTo, PutsHeader, Rises}

-- the key is one of the greatest chunk
abbrev pub IsLast : Option Key → Type 0
IsLast last = IfSome last (λ key. key.chunk ≡ 2 ^ 64 - 1)

-- how many objects may come after that of the key
abbrev pub objects_after : Option Key → ℕ
objects_after None = 2 ^ 64
objects_after (Some key) = 2 ^ 64 - 1 - key.object

-- an object comes up to a key, or its header comes after it
up_to_or_after : (last : Option Key) (o : ℕ) → IsUpTo last o ⊎ IsAfterKey o 0 last
up_to_or_after None o = inr tt
up_to_or_after (Some key) o = elim (cases_lt key.object o) [ inl less ↦ inr (inl less) | inr le ↦ inl le ]

-- a key after one of the greatest chunk is of a later object
pub later : (last : Option Key) (k : Key) → IsLast last → k.chunk < 2 ^ 64 → IsAfterKey k.object k.chunk last → (o : ℕ) → IsUpTo last o → o < k.object
later None k is within_limit after o up = absurd up
later (Some key) k is within_limit (inl less) o up = omega (arith, less, up)
later (Some key) k is within_limit (inr (same, less)) o up = absurd (omega (arith, is, within_limit, less))

module _ (m : CommittedMap) (last : Option Key) (list : List ℕ) (found : CommittedKey) (new : List ℕ) (is_last : IsLast last) (within_limit : found.key.chunk < 2 ^ 64)
    (l : ListsUpTo m last list) (next : IsNextCommitted m last (Some found)) (puts : PutsHeader found.key list new) where
  abbrev k : Key
  k = found.key

  stays : (o : ℕ) → IsListed list o → IsListed new o
  stays o is = elim (cases_lt 0 k.chunk) [
    | inl other ↦ subst (λ (xs : List ℕ). IsListed xs o) (sym (puts.other other)) is
    | inr zero ↦
        let p = on_of list o is in
        subst (λ (xs : List ℕ). IsListed xs o) (sym (puts.header (omega (arith, zero)))) (of_on (list ++ k.object ∷ []) o p.0 (push_before list k.object p.0 o p.1))
  ]

  each : (o : ℕ) (p : CommittedPage) → o ≤ k.object → m o 0 ≡ Some p → IsListed new o
  each o p le is = elim (up_to_or_after last o) [
    | inl up ↦ stays o (l.each o p up is)
    | inr after ↦ elim (cases_lt o k.object) [
      | inl less ↦ let two : None ≡ Some p = sym (next.2 o 0 after (inl less)) ∙ is in absurd cc
      | inr more ↦
          let same : o ≡ k.object = omega (arith, le, more) in
          elim (cases_lt 0 k.chunk) [
            | inl other ↦ let two : None ≡ Some p = sym (next.2 o 0 after (inr (same, other))) ∙ is in absurd cc
            | inr zero ↦ subst (λ (xs : List ℕ). IsListed xs o) (sym (puts.header (omega (arith, zero))))
                (of_on (list ++ k.object ∷ []) o (length list) (push_last list k.object ∙ ap Some (sym same)))
          ]
    ]
  ]

  before : (o : ℕ) → IsListed list o → o < k.object
  before o is = later last k is_last within_limit next.1 o (l.none_later o is)

  none_later : (o : ℕ) → IsListed new o → o ≤ k.object
  none_later o is = elim (cases_lt 0 k.chunk) [
    | inl other ↦ omega (arith, before o (subst (λ (xs : List ℕ). IsListed xs o) (puts.other other) is))
    | inr zero ↦
        let p = on_of (list ++ k.object ∷ []) o (subst (λ (xs : List ℕ). IsListed xs o) (puts.header (omega (arith, zero))) is) in
        elim (get_push list k.object p.0 o p.1) [
          | inl first ↦ omega (arith, before o (of_on list o p.0 first.1))
          | inr last ↦ omega (arith, last.1)
        ]
  ]

  rises : Rises new
  rises = elim (cases_lt 0 k.chunk) [
    | inl other ↦ subst Rises (sym (puts.other other)) l.rises
    | inr zero ↦ subst Rises (sym (puts.header (omega (arith, zero)))) (all_pairs_push (λ a b. a < b) list k.object l.rises
        (λ i d lt. before (get_or list i d) (of_on list (get_or list i d) i (slice_get-get_or list i d lt))))
  ]

  pub lists_more : (c : ℕ) → ListsUpTo m (Some (record { object = k.object; chunk = c })) new
  lists_more c = record { each = λ o p up is. each o p up is; none_later = none_later; rises = rises }

-- fewer objects come after the next key
pub fewer : (last : Option Key) (k : Key) (c : ℕ) → IsLast last → k.chunk < 2 ^ 64 → k.object < 2 ^ 64 → IsAfterKey k.object k.chunk last
    → objects_after (Some (record { object = k.object; chunk = c })) < objects_after last
fewer None k c is within_limit small after = omega (arith, small)
fewer (Some key) k c is within_limit small after = let less = later (Some key) k is within_limit after key.object (omega arith) in omega (arith, less, small)

pub lists_none : (m : CommittedMap) → ListsUpTo m None []
lists_none m = record {
  each = λ o k up. absurd up;
  none_later = λ o is. absurd cc;
  rises = λ i j d before within. absurd (omega (arith, within));
}

-- where no key is committed after the last, the list has all
pub lists_all : (m : CommittedMap) (last : Option Key) (list : List ℕ) → ListsUpTo m last list → IsNextCommitted m last None → ListsHeaders m list
lists_all m last list l next = record {
  each = λ o k is. elim (up_to_or_after last o) [
    | inl up ↦ l.each o k up is
    | inr after ↦ let two : None ≡ Some k = sym (next o 0 after) ∙ is in absurd cc
  ];
  rises = l.rises;
}
