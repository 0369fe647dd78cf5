-- The pages of a change that are put behind those of a later one.
use Rattle.std.specs.Prelude.{◌≡◌, ◌⊎◌, ◌≤◌, ℕ, zero, suc, ◌+◌, Bool, true, false, not, List, [], ◌∷◌, ◌++◌, length, Option, Some, None, IfNone, is_some, slice_get}
use Rattle.std.proofs.Common.{refl, sym, ◌∙◌, ap, subst, inl, inr, arith}
use Rattle.std.proofs.lemmas.Bool.{cond-true, cond-false}
use Rattle.std.proofs.lemmas.List.{length-append}
use Rattle.volume_terms.specs.laws.List.{get_push, push_before}
use Rattle.pages.specs.Maps.{PageMap, is_of, with_pages, without_cuts, IsPageOf, IsCut}
use Rattle.pages.specs.laws.Maps.{key_cases, cut_here, cut_elsewhere}
use Rattle.pages.specs.laws.Changes.{pages_append, pages_same, cuts_same, cuts_append}
use Rattle.pages.specs.Changes.{AreApart, AreSized, IsPutBehind}
use Rattle.flash_tree.specs.declared.place.FreshPage.{FreshPage}
use Rattle.pages.specs.declared.change.Cut.{Cut}

-- where one of the pages is of a key, what is behind does not matter
pages_hide : (ps : List FreshPage) (m n : PageMap) (o c i : ℕ) → IsPageOf ps o c i → with_pages ps m o c ≡ with_pages ps n o c
pages_hide [] m n o c i of = let no' : None ≡ Some of.page = of.there in absurd cc
pages_hide (p ∷ ps) m n o c zero of =
    let same : Some p ≡ Some of.page = of.there in
    let one : p ≡ of.page = cc in
    elim (key_cases p o c) [
      | inl at ↦ cond-true (is_of p o c) _ _ at.0 ∙ sym (cond-true (is_of p o c) _ _ at.0)
      | inr other ↦ absurd (other.1 (ap (λ (q : FreshPage). q.key.object) one ∙ of.object) (ap (λ (q : FreshPage). q.key.chunk) one ∙ of.chunk))
    ]
pages_hide (p ∷ ps) m n o c (suc k) of = elim (key_cases p o c) [
  | inl at ↦ cond-true (is_of p o c) _ _ at.0 ∙ sym (cond-true (is_of p o c) _ _ at.0)
  | inr other ↦ cond-false (is_of p o c) _ _ other.0
      ∙ pages_hide ps m n o c k (record { page = of.page; there = of.there; object = of.object; chunk = of.chunk })
      ∙ sym (cond-false (is_of p o c) _ _ other.0)
]

-- what a page that is put behind others shows of a key: they, and then what the cuts leave of it and of the rest
put_shows : (ps ps' rest : List FreshPage) (cuts : List Cut) (p : FreshPage) (m : PageMap) (o c : ℕ) → IsPutBehind ps cuts p ps'
    → with_pages ps' (without_cuts cuts (with_pages rest m)) o c ≡ with_pages ps (without_cuts cuts (with_pages (p ∷ rest) m)) o c
put_shows ps ps' rest cuts p m o c put = elim (key_cases p o c) [
  | inr other ↦
      let same : with_pages (p ∷ rest) m o c ≡ with_pages rest m o c = cond-false (is_of p o c) _ _ other.0 in
      let behind : with_pages ps (without_cuts cuts (with_pages rest m)) o c ≡ with_pages ps (without_cuts cuts (with_pages (p ∷ rest) m)) o c =
      pages_same ps _ _ o c (cuts_same cuts _ _ o c (sym same)) in
      elim put [
        | inl new ↦
            ap (λ (qs : List FreshPage). with_pages qs (without_cuts cuts (with_pages rest m)) o c) new.2
            ∙ pages_append ps (p ∷ []) (without_cuts cuts (with_pages rest m)) o c
            ∙ pages_same ps (with_pages (p ∷ []) (without_cuts cuts (with_pages rest m))) (without_cuts cuts (with_pages rest m)) o c (cond-false (is_of p o c) _ _ other.0)
            ∙ behind
        | inr none ↦ ap (λ (qs : List FreshPage). with_pages qs (without_cuts cuts (with_pages rest m)) o c) none.1 ∙ behind
      ]
  | inl at ↦
      let shown : with_pages (p ∷ rest) m o c ≡ Some p.bytes.items = cond-true (is_of p o c) _ _ at.0 in
      elim put [
        | inl new ↦
            ap (λ (qs : List FreshPage). with_pages qs (without_cuts cuts (with_pages rest m)) o c) new.2
            ∙ pages_append ps (p ∷ []) (without_cuts cuts (with_pages rest m)) o c
            ∙ pages_same ps (with_pages (p ∷ []) (without_cuts cuts (with_pages rest m))) (without_cuts cuts (with_pages (p ∷ rest) m)) o c
            (cond-true (is_of p o c) _ _ at.0
            ∙ sym (cut_elsewhere cuts (with_pages (p ∷ rest) m) o c (λ i is. new.1 i (record { cut = is.cut; there = is.there; object = is.object ∙ sym at.1; chunk = subst (λ k. is.cut.from ≤ k) (sym at.2) is.chunk })) ∙ shown))
        | inr none ↦
            ap (λ (qs : List FreshPage). with_pages qs (without_cuts cuts (with_pages rest m)) o c) none.1
            ∙ elim none.0 [
              | inl written ↦ pages_hide ps _ _ o c written.0 (record { page = written.1.page; there = written.1.there; object = written.1.object ∙ at.1; chunk = written.1.chunk ∙ at.2 })
              | inr cut ↦ pages_same ps _ _ o c
                  (let is : IsCut cuts o c cut.0 = record { cut = cut.1.cut; there = cut.1.there; object = cut.1.object ∙ at.1; chunk = subst (λ k. cut.1.cut.from ≤ k) at.2 cut.1.chunk } in
                  cut_here cuts (with_pages rest m) o c cut.0 is ∙ sym (cut_here cuts (with_pages (p ∷ rest) m) o c cut.0 is))
            ]
      ]
]

-- one that is put behind is of a key of its own
put_apart : (ps ps' : List FreshPage) (cuts : List Cut) (p : FreshPage) → IsPutBehind ps cuts p ps' → AreApart ps → AreApart ps'
put_apart ps ps' cuts p put apart = elim put [
  | inr none ↦ subst AreApart (sym none.1) apart
  | inl new ↦ subst AreApart (sym new.2) (λ o c i j a b. elim (get_push ps p i a.page a.there) [
    | inl x ↦ elim (get_push ps p j b.page b.there) [
      | inl y ↦ apart o c i j (record { page = a.page; there = x.1; object = a.object; chunk = a.chunk }) (record { page = b.page; there = y.1; object = b.object; chunk = b.chunk })
      | inr y ↦ absurd (new.0 i (record { page = a.page; there = x.1; object = a.object ∙ sym b.object ∙ ap (λ (q : FreshPage). q.key.object) y.1; chunk = a.chunk ∙ sym b.chunk ∙ ap (λ (q : FreshPage). q.key.chunk) y.1 }))
    ]
    | inr x ↦ elim (get_push ps p j b.page b.there) [
      | inl y ↦ absurd (new.0 j (record { page = b.page; there = y.1; object = b.object ∙ sym a.object ∙ ap (λ (q : FreshPage). q.key.object) x.1; chunk = b.chunk ∙ sym a.chunk ∙ ap (λ (q : FreshPage). q.key.chunk) x.1 }))
      | inr y ↦ x.0 ∙ sym y.0
    ]
  ])
]

put_size : (ps ps' : List FreshPage) (cuts : List Cut) (p : FreshPage) (bytes : ℕ) → IsPutBehind ps cuts p ps' → length p.bytes.items ≡ bytes → AreSized ps bytes → AreSized ps' bytes
put_size ps ps' cuts p bytes put size are = elim put [
  | inr none ↦ subst (λ (qs : List FreshPage). AreSized qs bytes) (sym none.1) are
  | inl new ↦ subst (λ (qs : List FreshPage). AreSized qs bytes) (sym new.2) (λ i q at. elim (get_push ps p i q at) [
    | inl x ↦ are i q x.1
    | inr x ↦ ap (λ (r : FreshPage). length r.bytes.items) x.1 ∙ size
  ])
]

put_len : (ps ps' : List FreshPage) (cuts : List Cut) (p : FreshPage) → IsPutBehind ps cuts p ps' → length ps' ≤ length ps + 1
put_len ps ps' cuts p put = elim put [
  | inr none ↦ omega (arith, ap length none.1)
  | inl new ↦ omega (arith, ap length new.2, length-append ps (p ∷ []))
]

-- a page that was among them still is
put_keeps : (ps ps' : List FreshPage) (cuts : List Cut) (p : FreshPage) (o c i : ℕ) → IsPutBehind ps cuts p ps' → IsPageOf ps o c i → IsPageOf ps' o c i
put_keeps ps ps' cuts p o c i put of = elim put [
  | inr none ↦ subst (λ (qs : List FreshPage). IsPageOf qs o c i) (sym none.1) of
  | inl new ↦ subst (λ (qs : List FreshPage). IsPageOf qs o c i) (sym new.2) (record { page = of.page; there = push_before ps p i of.page of.there; object = of.object; chunk = of.chunk })
]

-- one whose key is there is left out
put_none : (ps ps' : List FreshPage) (cuts : List Cut) (p : FreshPage) (i : ℕ) → IsPutBehind ps cuts p ps' → IsPageOf ps p.key.object p.key.chunk i → ps' ≡ ps
put_none ps ps' cuts p i put of = elim put [
  | inr none ↦ none.1
  | inl new ↦ absurd (new.0 i of)
]

-- Later pages `now`, which were `first`, with the earlier ones that were put behind them; of these `rest` are left, of `all`.
pub record Folding (cuts : List Cut) (first all now rest : List FreshPage) : Type 0 where
  pub shows : (m : PageMap) (o c : ℕ) → with_pages now (without_cuts cuts (with_pages rest m)) o c ≡ with_pages first (without_cuts cuts (with_pages all m)) o c
  pub apart : AreApart first → AreApart now
  pub size : (bytes : ℕ) → AreSized all bytes → AreSized first bytes → AreSized rest bytes × AreSized now bytes
  pub within_limit : length now + length rest ≤ length all + length first
  pub shared : (o c i j : ℕ) → IsPageOf all o c i → IsPageOf first o c j → (((k : ℕ) × IsPageOf rest o c k) × IsPageOf now o c j) ⊎ (length now + length rest + 1 ≤ length all + length first)

pub folding_starts : (cuts : List Cut) (first all : List FreshPage) → Folding cuts first all first all
folding_starts cuts first all = record {
  shows = λ m o c. refl;
  apart = λ is. is;
  size = λ bytes a b. (a, b);
  within_limit = omega arith;
  shared = λ o c i j a b. inl ((i, a), b);
}

pub folding_goes : (cuts : List Cut) (first all now now' : List FreshPage) (p : FreshPage) (rest : List FreshPage) → Folding cuts first all now (p ∷ rest) → IsPutBehind now cuts p now'
    → Folding cuts first all now' rest
folding_goes cuts first all now now' p rest f put = record {
  shows = λ m o c. put_shows now now' rest cuts p m o c put ∙ f.shows m o c;
  apart = λ is. put_apart now now' cuts p put (f.apart is);
  size = λ bytes a b. let s = f.size bytes a b in (λ i q at. s.0 (suc i) q at, put_size now now' cuts p bytes put (s.0 0 p refl) s.1);
  within_limit = omega (arith, f.within_limit, put_len now now' cuts p put);
  shared = λ o c i j a b. elim (f.shared o c i j a b) [
    | inr less ↦ inr (omega (arith, less, put_len now now' cuts p put))
    | inl both ↦ go o c both.0.0 j both.0.1 both.1
  ];
} where
  go : (o c k j : ℕ) → IsPageOf (p ∷ rest) o c k → IsPageOf now o c j → (((k : ℕ) × IsPageOf rest o c k) × IsPageOf now' o c j) ⊎ (length now' + length rest + 1 ≤ length all + length first)
  go o c zero j a b =
      let same : Some p ≡ Some a.page = a.there in
      let one : p ≡ a.page = cc in
      let object : p.key.object ≡ o = ap (λ (q : FreshPage). q.key.object) one ∙ a.object in
      let chunk : p.key.chunk ≡ c = ap (λ (q : FreshPage). q.key.chunk) one ∙ a.chunk in
      let none = put_none now now' cuts p j put (record { page = b.page; there = b.there; object = b.object ∙ sym object; chunk = b.chunk ∙ sym chunk }) in
      inr (omega (arith, ap length none, f.within_limit))
  go o c (suc k) j a b = inl ((k, record { page = a.page; there = a.there; object = a.object; chunk = a.chunk }), put_keeps now now' cuts p o c j put b)

-- where none is left, the pages are those of the later change after the earlier
pub folding_shows : (cuts : List Cut) (first all now rest : List FreshPage) → Folding cuts first all now rest → rest ≡ [] → (earlier both : List Cut) → both ≡ cuts ++ earlier → (m : PageMap) (o c : ℕ)
    → with_pages now (without_cuts both m) o c ≡ with_pages first (without_cuts cuts (with_pages all (without_cuts earlier m))) o c
folding_shows cuts first all now rest f none earlier both are m o c =
    ap (λ (xs : List Cut). with_pages now (without_cuts xs m) o c) are
    ∙ pages_same now _ _ o c (cuts_append cuts earlier m o c)
    ∙ ap (λ (ps : List FreshPage). with_pages now (without_cuts cuts (with_pages ps (without_cuts earlier m))) o c) (sym none)
    ∙ f.shows (without_cuts earlier m) o c

pub folding_shares : (cuts : List Cut) (first all now rest : List FreshPage) → Folding cuts first all now rest → rest ≡ [] → (o c i j : ℕ) → IsPageOf all o c i → IsPageOf first o c j
    → length now + 1 ≤ length all + length first
folding_shares cuts first all now rest f none o c i j a b = elim (f.shared o c i j a b) [
  | inr less ↦ omega (arith, less)
  | inl both ↦ let no' : None ≡ Some both.0.1.page = ap (λ (ps : List FreshPage). slice_get ps both.0.0) (sym none) ∙ both.0.1.there in absurd cc
]

-- what is known where nothing was found
pub where_none : (P : Type 0) (found : Option ℕ) (b : Bool) → is_some found ≡ not b → b ≡ true → IfNone found P → P
where_none P None b reported is then = then
where_none P (Some i) b reported is then = let two : true ≡ false = reported ∙ ap not is in absurd cc
