-- The committed key that comes next, in an object and among all.
use Rattle.std.proofs.Common.{◌≡◌, ◌≢◌, ◌⊎◌, ℕ, ◌+◌, ◌<◌, ◌≤◌, List, length, get_or, Option, Some, None, refl, sym, ap, subst, ◌∙◌, arith, inl, inr}
use Rattle.std.specs.Option.{option_and_then}
use Rattle.std.specs.Ordering.{nat_cmp}
use Rattle.std.specs.BTreeMap.{get}
use Rattle.std.proofs.lemmas.Bool.{cases_eq, cases_lt}
use Rattle.std.proofs.lemmas.List.{get_or_default}
use Rattle.chunk_index.specs.declared.form.CommittedPage.{CommittedPage}
use Rattle.chunk_index.specs.declared.form.CommittedKey.{CommittedKey}
use Rattle.chunk_index.specs.declared.entry.KeyEntry.{KeyEntry}
use Rattle.chunk_index.specs.declared.index.Index.{Index}
use Rattle.chunk_index.specs.Lists.{find_by, Rises, IsAt}
use Rattle.chunk_index.specs.Entries.{chunk, committed_of}
use Rattle.chunk_index.specs.Shelves.{entry_of, look, IsAfterNumber, IsNextObject}
use Rattle.chunk_index.specs.Following.{IsStartFor, IsNextChunk, IsNextBeyond, committed_chunk}
use Rattle.chunk_index.specs.Maps.{committed_pages}
use Rattle.chunk_index.proofs.Finding.{find_at}

-- ---- one object

-- those after the entry of a number
pub start_at : (es : List KeyEntry) → Rises chunk es → (n i : ℕ) → IsAt chunk es n i → IsStartFor chunk es (Some n) (i + 1)
start_at es rises n i at = record {
  within = omega (arith, at.within);
  lesser = λ j d lt after. elim (cases_eq j i) [
    | inl same ↦ let here : chunk (get_or es j d) ≡ n = ap (λ k. chunk (get_or es k d)) same ∙ at.number d in omega (arith, here, after)
    | inr ne ↦
        let r : chunk (get_or es j d) < chunk (get_or es i d) = rises j i d (omega (arith, lt, ne)) at.within in
        let here : chunk (get_or es i d) ≡ n = at.number d in
        omega (arith, r, here, after)
  ];
  greater = λ j d le lt.
      let r : chunk (get_or es i d) < chunk (get_or es j d) = rises i j d (omega (arith, le)) lt in
      let here : chunk (get_or es i d) ≡ n = at.number d in
      omega (arith, r, here);
}

-- none of the entries from place i on and before n is committed
abbrev pub NoneCommitted : List KeyEntry → ℕ → ℕ → Type 0
NoneCommitted es i n = (j : ℕ) (d : KeyEntry) → i ≤ j → j < n → j < length es → (get_or es j d).committed ≡ None

pub none_more : (es : List KeyEntry) (i n : ℕ) (e : KeyEntry) → NoneCommitted es i n → n < length es → e ≡ get_or es n e → e.committed ≡ None → NoneCommitted es i (n + 1)
none_more es i n e none lt here is j d le less within = elim (cases_eq j n) [
  | inl same ↦ ap (λ k. (get_or es k d).committed) same ∙ ap (λ (x : KeyEntry). x.committed) (get_or_default es n d e lt ∙ sym here) ∙ is
  | inr ne ↦ none j d le (omega (arith, less, ne)) within
]

-- a chunk that lies after another, and before place n, is not committed
module _ (es : List KeyEntry) (rises : Rises chunk es) (after : Option ℕ) (i : ℕ) (start : IsStartFor chunk es after i) (n : ℕ) (none : NoneCommitted es i n) where
  not_committed : (c : ℕ) → IsAfterNumber c after → ((j : ℕ) (d : KeyEntry) → n ≤ j → j < length es → chunk (get_or es j d) ≢ c) → committed_chunk es c ≡ None
  not_committed c is_after later = go (find_by chunk es c) refl where
    go : (v : Option KeyEntry) → find_by chunk es c ≡ v → committed_chunk es c ≡ None
    go None is = ap committed_of is
    go (Some e) is =
        let at = place es c e is in
        elim (cases_lt at.0 i) [
          | inl before ↦ absurd (start.lesser at.0 e before (subst (λ m. IsAfterNumber m after) (sym (ap chunk at.2 ∙ found es c e is)) is_after))
          | inr from ↦ elim (cases_lt at.0 n) [
            | inl less ↦ ap committed_of is ∙ sym (ap (λ (x : KeyEntry). x.committed) at.2) ∙ none at.0 e from less at.1
            | inr more ↦ absurd (later at.0 e more at.1 (ap chunk at.2 ∙ found es c e is))
          ]
        ] where
          found : (es : List KeyEntry) (c : ℕ) (e : KeyEntry) → find_by chunk es c ≡ Some e → chunk e ≡ c
          found es c e is = Rattle.chunk_index.proofs.Shelving.found_chunk es c e is

          place : (es : List KeyEntry) (c : ℕ) (e : KeyEntry) → find_by chunk es c ≡ Some e → (j : ℕ) × (j < length es) × (get_or es j e ≡ e)
          place es c e is = Rattle.chunk_index.proofs.Shelving.found_place es c e is

  -- the first that is committed
  pub next_here : (e : KeyEntry) (p : CommittedPage) → i ≤ n → n < length es → e ≡ get_or es n e → e.committed ≡ Some p → IsNextChunk (committed_chunk es) after (Some (chunk e, p))
  next_here e p le lt here is =
      let at : IsAt chunk es (chunk e) n = record { within = lt; number = λ d. ap chunk (get_or_default es n d e lt ∙ sym here) } in (
        ap committed_of (find_at chunk es rises (chunk e) n at e ∙ ap Some (sym here)) ∙ is,
        subst (λ m. IsAfterNumber m after) (ap chunk (sym here)) (start.greater n e le lt),
        λ c is_after less. not_committed c is_after (λ j d more within same. elim (cases_eq j n) [
          | inl e_n ↦ let one : chunk (get_or es j d) ≡ chunk e = ap (λ k. chunk (get_or es k d)) e_n ∙ at.number d in omega (arith, one, same, less)
          | inr ne ↦
              let r : chunk (get_or es n d) < chunk (get_or es j d) = rises n j d (omega (arith, more, ne)) within in
              let one : chunk (get_or es n d) ≡ chunk e = at.number d in
              omega (arith, r, one, same, less)
        ]),
      )

  -- or there is none
  pub next_none : length es ≤ n → IsNextChunk (committed_chunk es) after None
  next_none le c is_after = not_committed c is_after (λ j d more within same. omega (arith, le, more, within))

-- ---- all objects

module _ (x : Index) where
  -- none of the objects after one, but for those after another, has a committed key
  pub record Passed (after last : Option ℕ) : Type 0 where
    pub none : (o c : ℕ) → IsAfterNumber o after → (IsAfterNumber o last → ⊥) → committed_pages x o c ≡ None
    pub beyond : (o : ℕ) → IsAfterNumber o last → IsAfterNumber o after

  pub passed_none : (after : Option ℕ) → Passed after after
  passed_none after = record { none = λ o c is not. absurd (not is); beyond = λ o is. is }

  -- an object that is not there has none
  absent_none : (o c : ℕ) → get nat_cmp x.shelf.objects o ≡ None → committed_pages x o c ≡ None
  absent_none o c none = ap committed_of (ap (option_and_then (entry_of c)) none)

  -- between the last object and the next there is none
  between : (after last : Option ℕ) (object : ℕ) → Passed after last → IsNextObject x.shelf.objects last (Some object) → (o c : ℕ) → IsAfterNumber o after → o < object → committed_pages x o c ≡ None
  between after last object passed next o c is lt = elim (after_or_not o last) [
    | inl beyond ↦ absent_none o c (next.2 o beyond lt)
    | inr not ↦ passed.none o c is not
  ] where
    after_or_not : (k : ℕ) (done : Option ℕ) → IsAfterNumber k done ⊎ (IsAfterNumber k done → ⊥)
    after_or_not k None = inl tt
    after_or_not k (Some o) = elim (cases_lt o k) [ inl lt ↦ inl lt | inr ge ↦ inr (λ lt. omega (arith, ge, lt)) ]

  pub passed_more : (after last : Option ℕ) (object : ℕ) → Passed after last → IsNextObject x.shelf.objects last (Some object) → IsNextChunk (λ c. committed_of (look x.shelf.objects object c)) None None → Passed after (Some object)
  passed_more after last object passed next empty = record {
    none = λ o c is not. elim (cases_eq o object) [
      | inl same ↦ ap (λ j. committed_pages x j c) same ∙ empty c tt
      | inr ne ↦ between after last object passed next o c is (elim (cases_lt object o) [ inl lt ↦ absurd (not lt) | inr ge ↦ omega (arith, ge, ne) ])
    ];
    beyond = λ o lt. passed.beyond o (further last o lt next.1);
  } where
    further : (last : Option ℕ) (o : ℕ) → object < o → IsAfterNumber object last → IsAfterNumber o last
    further None o lt is = tt
    further (Some n) o lt is = omega (arith, lt, is)

  pub beyond_found : (after last : Option ℕ) (object : ℕ) → Passed after last → IsNextObject x.shelf.objects last (Some object) → (k : CommittedKey) → k.key.object ≡ object
      → IsNextChunk (λ c. committed_of (look x.shelf.objects object c)) None (Some (k.key.chunk, k.at)) → IsNextBeyond (committed_pages x) after (Some k)
  beyond_found after last object passed next k same found = (
    ap (λ o. committed_pages x o k.key.chunk) same ∙ found.0,
    subst (λ o. IsAfterNumber o after) (sym same) (passed.beyond object next.1),
    λ o c is before. elim before [
      | inl lt ↦ between after last object passed next o c is (omega (arith, lt, same))
      | inr equal ↦ ap (λ j. committed_pages x j c) (equal.0 ∙ same) ∙ found.2 c tt equal.1
    ],
  )

  pub beyond_none : (after last : Option ℕ) → Passed after last → IsNextObject x.shelf.objects last None → IsNextBeyond (committed_pages x) after None
  beyond_none after last passed ends o c is = elim (after_or_not o last) [
    | inl beyond ↦ absent_none o c (ends o beyond)
    | inr not ↦ passed.none o c is not
  ] where
    after_or_not : (k : ℕ) (done : Option ℕ) → IsAfterNumber k done ⊎ (IsAfterNumber k done → ⊥)
    after_or_not k None = inl tt
    after_or_not k (Some o) = elim (cases_lt o k) [ inl lt ↦ inl lt | inr ge ↦ inr (λ lt. omega (arith, ge, lt)) ]

-- ---- all keys
