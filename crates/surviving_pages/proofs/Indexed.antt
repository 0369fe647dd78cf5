-- The index of the newest pages.
use Rattle.std.specs.Prelude.{◌≡◌, ◌⊎◌, ◌<◌, ◌^◌, ℕ, List, length, Some, None}
use Rattle.std.proofs.Common.{sym, ◌∙◌, ap, subst, inl, inr, get_or}
use Rattle.std.proofs.lemmas.Bool.{cases_eq}
use Rattle.std.proofs.lemmas.List.{get_or_default}
use Rattle.std.proofs.lemmas.List.Elements.{Contains-get_or}
use Rattle.nand_model.specs.Flash.{Flash}
use Rattle.nand_model.specs.declared.geometry.Geometry.{Geometry}
use Rattle.flash_tree.specs.Newest.{Spot}
use Rattle.flash_tree.specs.laws.NewestExists.{IsStated, all_or_one}
use Rattle.mount_scan.specs.Copies.{copy_at}
use Rattle.mount_scan.specs.declared.page_copy.PageCopy.{PageCopy}
use Rattle.chunk_index.specs.declared.form.CommittedPage.{CommittedPage}
use Rattle.chunk_index.specs.declared.index.Index.{Index}
use Rattle.chunk_index.specs.Maps.{committed_pages}
use Rattle.chunk_index.specs.Newest.{Indexes, IsFoundOf, page_of}
use Rattle.page_store.specs.Opened.{committed_at}
use Rattle.surviving_pages.specs.Latest.{MayBeIndexed, IsNewestOf, AreNewestOf}
use Rattle.surviving_pages.specs.Opened.{LiesOn, HasSurvivors}
use Rattle.surviving_pages.specs.Surviving.{IsSurvivor, IsNewestSurvivor}
use Rattle.surviving_pages.proofs.Laws.{of_tag, of_key}

is_reported : (o c : ℕ) (x : PageCopy) → IsStated (IsFoundOf o c x)
is_reported o c x = elim (cases_eq x.object o) [
  | inr ne ↦ inr (λ of. ne of.0)
  | inl object ↦ elim (cases_eq x.chunk c) [ inl chunk ↦ inl (object, chunk) | inr ne ↦ inr (λ of. ne of.1) ]
]

-- any copy, which stands for what is behind the end of a list
abbrev blank : PageCopy
blank = record { object = 0; version = 0; seq = 0; chunk = 0; block = 0; page = 0 }

-- a page of the key is in the list, or none is
found_or_none : (list : List PageCopy) (o c : ℕ) → ((i : ℕ) × (i < length list) × IsFoundOf o c (get_or list i blank))
    ⊎ ((i : ℕ) (d : PageCopy) → i < length list → IsFoundOf o c (get_or list i d) → ⊥)
found_or_none list o c = elim (all_or_one (λ i. IsFoundOf o c (get_or list i blank) → ⊥) none_reported (length list)) [
  | inl none ↦ inr (λ i d lt of. none i lt (subst (IsFoundOf o c) (get_or_default list i d blank lt) of))
  | inr (i, lt, not) ↦ elim (is_reported o c (get_or list i blank)) [ inl of ↦ inl (i, lt, of) | inr none ↦ absurd (not none) ]
] where
  none_reported : (i : ℕ) → IsStated (IsFoundOf o c (get_or list i blank) → ⊥)
  none_reported i = elim (is_reported o c (get_or list i blank)) [ inl of ↦ inr (λ none. none of) | inr none ↦ inl none ]

module _ (list : List PageCopy) (x : Index) (indexes : Indexes list (length list) x) where
  -- what is committed of a key is a page of the list
  committed_found : (o c : ℕ) (k : CommittedPage) → committed_pages x o c ≡ Some k → (i : ℕ) × (i < length list) × IsFoundOf o c (get_or list i blank) × (page_of (get_or list i blank) ≡ k)
  committed_found o c k committed = elim (found_or_none list o c) [
    | inl (i, lt, of) ↦
        let f : PageCopy = get_or list i blank in
        let key : committed_pages x f.object f.chunk ≡ committed_pages x o c = ap (λ l. committed_pages x l f.chunk) of.0 ∙ ap (committed_pages x o) of.1 in
        let two : Some (page_of f) ≡ Some k = sym (indexes.committed_here i blank lt) ∙ key ∙ committed in
        (i, lt, of, cc)
    | inr none ↦ let two : Some k ≡ None = sym committed ∙ indexes.committed_elsewhere o c none in absurd cc
  ]

  pub lies_on : (g : Geometry) → MayBeIndexed g list → LiesOn g x
  lies_on g lie o c k committed =
      let (i, lt, of, same) = committed_found o c k committed in
      subst (λ (q : CommittedPage). (q.block < g.blocks) × (q.page < g.pages)) same (lie.within i blank lt, lie.pages i blank lt)

  module _ (flash : Flash) (g : Geometry) (lie : MayBeIndexed g list) (newest : AreNewestOf (IsSurvivor flash) list) where
    each_committed : (o c : ℕ) (s : Spot) → c < 2 ^ 32 → IsNewestSurvivor flash o c s → committed_pages x o c ≡ Some (committed_at s)
    each_committed o c s low is =
        let held = is.survives in
        let own : IsNewestOf (IsSurvivor flash) s = record {
          is = of_tag flash o c s held;
          last = λ t other key after. is.last t (of_key flash o c t other (key.0 ∙ held.object) (key.1 ∙ held.chunk)) after;
        } in
        let (i, lt, at) = newest.each s (subst (λ k. k < 2 ^ 32) (sym held.chunk) low) own in
        let here : committed_pages x s.tag.object s.tag.chunk ≡ Some (committed_at s) = subst (λ (y : PageCopy). committed_pages x y.object y.chunk ≡ Some (page_of y)) at (indexes.committed_here i (copy_at s) lt) in
        sym (ap (λ l. committed_pages x l s.tag.chunk) held.object ∙ ap (committed_pages x o) held.chunk) ∙ here

    only_committed : (o c : ℕ) (k : CommittedPage) → committed_pages x o c ≡ Some k → (c < 2 ^ 32) × ((s : Spot) × IsNewestSurvivor flash o c s × (k ≡ committed_at s))
    only_committed o c k committed =
        let (i, lt, of, same) = committed_found o c k committed in
        let (s, is, copied) = newest.only (get_or list i blank) (Contains-get_or list i blank lt) in
        let object : s.tag.object ≡ o = ap (λ (y : PageCopy). y.object) copied ∙ of.0 in
        let chunk : s.tag.chunk ≡ c = ap (λ (y : PageCopy). y.chunk) copied ∙ of.1 in
        let newest_is : IsNewestSurvivor flash o c s = record {
          survives = of_key flash o c s is.is object chunk;
          last = λ t other after. is.last t (of_tag flash o c t other) (other.object ∙ sym object, other.chunk ∙ sym chunk) after;
        } in
        (subst (λ l. l < 2 ^ 32) of.1 (lie.low i blank lt), (s, newest_is, sym same ∙ ap page_of (sym copied)))

    -- exactly the newest pages that survive are committed
    pub has_survivors : HasSurvivors flash x
    has_survivors = record { each = each_committed; only = only_committed }
