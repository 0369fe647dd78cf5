-- The pages of a change, as a list.
use Rattle.std.specs.Prelude.{◌≡◌, ◌⊎◌, ℕ, ◌+◌, List, [], ◌∷◌, ◌++◌, length, slice_get, Some, None}
use Rattle.std.proofs.Common.{sym, ◌∙◌, ap, subst, inl, inr, arith}
use Rattle.volume_terms.specs.laws.List.{get_push, push_before, push_last}
use Rattle.pages.specs.Maps.{PageMap, with_pages, IsPageOf}
use Rattle.pages.specs.laws.Maps.{page_here, page_elsewhere}
use Rattle.flash_tree.specs.declared.place.FreshPage.{FreshPage}
use Rattle.file_io.specs.Chunks.{AreOf, HoldsChunk, HoldChunks}

-- what holds of each page and of one more
pub each_push : (Holds : ℕ → FreshPage → Type 0) (pages : List FreshPage) (q : FreshPage) → ((i : ℕ) (p : FreshPage) → slice_get pages i ≡ Some p → Holds i p)
    → ((i : ℕ) → Holds i q) → (i : ℕ) (p : FreshPage) → slice_get (pages ++ q ∷ []) i ≡ Some p → Holds i p
each_push Holds pages q each one i p is = elim (get_push pages q i p is) [
  | inl there ↦ each i p there.1
  | inr last ↦ subst (λ (x : FreshPage). Holds i x) (sym last.1) (one i)
]

module _ (o : ℕ) (IsOne IsMore : ℕ → Type 0) (pages : List FreshPage) (q : FreshPage) (of : AreOf o IsOne pages) (object : q.key.object ≡ o) (fresh : IsOne q.key.chunk → ⊥)
    (grow : (c : ℕ) → IsOne c → IsMore c) (this : IsMore q.key.chunk) (only : (c : ℕ) → IsMore c → IsOne c ⊎ (c ≡ q.key.chunk)) where
  -- of a key that an earlier page has, the last is not
  not_last : (p c i : ℕ) → IsPageOf (pages ++ q ∷ []) p c i → ((i ≡ length pages) × (q.key.object ≡ p) × (q.key.chunk ≡ c)) ⊎ IsPageOf pages p c i
  not_last p c i is = elim (get_push pages q i is.page is.there) [
    | inl there ↦ inr (record { page = is.page; there = there.1; object = is.object; chunk = is.chunk })
    | inr last ↦ inl (last.0, ap (λ (x : FreshPage). x.key.object) (sym last.1) ∙ is.object, ap (λ (x : FreshPage). x.key.chunk) (sym last.1) ∙ is.chunk)
  ]

  no_other : (p c i : ℕ) → q.key.chunk ≡ c → IsPageOf pages p c i → ⊥
  no_other p c i same is = fresh (subst IsOne (is.chunk ∙ sym same) (of.each i is.page is.there).1)

  -- one page more
  pub of_push : AreOf o IsMore (pages ++ q ∷ [])
  of_push = record {
    each = each_push (λ i p. (p.key.object ≡ o) × IsMore p.key.chunk) pages q (λ i p is. let was = of.each i p is in (was.0, grow p.key.chunk was.1)) (λ i. (object, this));
    all = λ c is. elim (only c is) [
      | inl old ↦
          let at = of.all c old in
          (at.0, record { page = at.1.page; there = push_before pages q at.0 at.1.page at.1.there; object = at.1.object; chunk = at.1.chunk })
      | inr last ↦ (length pages, record { page = q; there = push_last pages q; object = object; chunk = sym last })
    ];
    apart = λ p c i j a b. elim (not_last p c i a) [
      | inl x ↦ elim (not_last p c j b) [
        | inl y ↦ x.0 ∙ sym y.0
        | inr y ↦ absurd (no_other p c j x.2 y)
      ]
      | inr x ↦ elim (not_last p c j b) [
        | inl y ↦ absurd (no_other p c i y.2 x)
        | inr y ↦ of.apart p c i j x y
      ]
    ];
  }

-- the same chunks under another word
pub of_same : (o : ℕ) (IsOne IsOther : ℕ → Type 0) (pages : List FreshPage) → ((c : ℕ) → IsOne c → IsOther c) → ((c : ℕ) → IsOther c → IsOne c) → AreOf o IsOne pages → AreOf o IsOther pages
of_same o IsOne IsOther pages there back of = record {
  each = λ i p is. let was = of.each i p is in (was.0, there p.key.chunk was.1);
  all = λ c is. of.all c (back c is);
  apart = of.apart;
}

-- no page of no chunk
pub of_none : (o : ℕ) (IsOne : ℕ → Type 0) → ((c : ℕ) → IsOne c → ⊥) → AreOf o IsOne []
of_none o IsOne none = record {
  each = λ i p is. let two : None ≡ Some p = is in absurd cc;
  all = λ c is. absurd (none c is);
  apart = λ p c i j a b. let two : None ≡ Some a.page = a.there in absurd cc;
}

-- one page of one chunk
pub of_one : (o : ℕ) (IsOne : ℕ → Type 0) (q : FreshPage) → q.key.object ≡ o → IsOne q.key.chunk → ((c : ℕ) → IsOne c → c ≡ q.key.chunk) → AreOf o IsOne (q ∷ [])
of_one o IsOne q object this only = of_push o (λ c. ⊥) IsOne [] q (of_none o (λ c. ⊥) (λ c is. is)) object (λ is. is) (λ c is. absurd is) this (λ c is. inr (only c is))

-- ---- the chunks that they hold

pub hold_none : (d : ℕ) (bytes : List ℕ) → HoldChunks d bytes []
hold_none d bytes i k p is chunk = let two : None ≡ Some p = is in absurd cc

-- one page more, of a chunk or of none
pub hold_push : (d : ℕ) (bytes : List ℕ) (pages : List FreshPage) (q : FreshPage) → HoldChunks d bytes pages → ((k : ℕ) → q.key.chunk ≡ 1 + k → HoldsChunk d bytes k q.bytes.items) → HoldChunks d bytes (pages ++ q ∷ [])
hold_push d bytes pages q hold this i k p is chunk = elim (get_push pages q i p is) [
  | inl there ↦ hold i k p there.1 chunk
  | inr last ↦ subst (λ (x : FreshPage). HoldsChunk d bytes k x.bytes.items) (sym last.1) (this k (ap (λ (x : FreshPage). x.key.chunk) (sym last.1) ∙ chunk))
]

-- the page of a chunk
pub of_chunk : (d : ℕ) (bytes : List ℕ) (q : FreshPage) (at : ℕ) → q.key.chunk ≡ 1 + at → HoldsChunk d bytes at q.bytes.items → (k : ℕ) → q.key.chunk ≡ 1 + k → HoldsChunk d bytes k q.bytes.items
of_chunk d bytes q at is holds k chunk = let same : at ≡ k = omega (arith, is, chunk) in subst (λ n. HoldsChunk d bytes n q.bytes.items) same holds

-- ---- what the pages make of a map

module _ (o : ℕ) (IsOne : ℕ → Type 0) (pages : List FreshPage) (of : AreOf o IsOne pages) (m : PageMap) where
  -- a chunk that they have
  pub page_of : (c : ℕ) → IsOne c → (i : ℕ) × ((p : FreshPage) × (slice_get pages i ≡ Some p) × (p.key.chunk ≡ c) × (with_pages pages m o c ≡ Some p.bytes.items))
  page_of c is =
      let at = of.all c is in
      let here : with_pages pages m at.1.page.key.object at.1.page.key.chunk ≡ Some at.1.page.bytes.items = page_here pages m of.apart at.0 at.1.page at.1.there in
      (at.0, (at.1.page, at.1.there, at.1.chunk, ap (λ n. with_pages pages m n c) (sym at.1.object) ∙ ap (λ n. with_pages pages m at.1.page.key.object n) (sym at.1.chunk) ∙ here))

  -- one that they do not have
  pub none_of : (c : ℕ) → (IsOne c → ⊥) → with_pages pages m o c ≡ m o c
  none_of c none = page_elsewhere pages m o c (λ i is. none (subst IsOne is.chunk (of.each i is.page is.there).1))
