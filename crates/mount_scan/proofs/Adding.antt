-- Pages that are added to those that count.
use Rattle.std.specs.Prelude.{◌≡◌, ◌⊎◌, ◌↔◌, ◌<◌, ◌≤◌, ℕ, ◌+◌, List, [], ◌∷◌, ◌++◌, Option, Some, None, max, slice_get, Contains}
use Rattle.std.proofs.Common.{refl, sym, ◌∙◌, subst, inl, inr, arith, get_or}
use Rattle.std.proofs.lemmas.Bool.{cases_eq, cases_lt}
use Rattle.std.proofs.lemmas.List.Elements.{Contains-append_left, Contains-push, Contains-push_cases, Contains-get_or}
use Rattle.std.proofs.lemmas.List.Quantifiers.{all_pairs_push}
use Rattle.page_tags.specs.declared.tag.Tag.{Tag}
use Rattle.flash_tree.specs.declared.place.Found.{Found}
use Rattle.mount_scan.specs.Scanned.{IsPlaceBefore}
use Rattle.mount_scan.specs.Runs.{IsWithinRun, IsCountedIn, IsPageAt, AddsSome, AddsPage, AddsCounted, Reaches}

-- one page is added, the only one of its kind
adds_push : (IsNew : Found → Type 0) (old : List Found) (x : Found) → IsNew x → ((f : Found) → IsNew f → f ≡ x) → AddsSome IsNew old (old ++ x ∷ [])
adds_push IsNew old x new only = record {
  each = λ f. (
    λ has. elim (Contains-push_cases old x f has) [ inl was ↦ inl was | inr same ↦ inr (subst IsNew same new) ],
    λ either. elim either [
      | inl was ↦ Contains-append_left old (x ∷ []) f was
      | inr is ↦ subst (Contains (old ++ x ∷ [])) (sym (only f is)) (Contains-push old x)
    ],
  );
  order = λ pairs across. all_pairs_push IsPlaceBefore old x pairs (λ k d lt. across (get_or old k d) x (Contains-get_or old k d lt) new);
}

-- none is added, and there is none of that kind
adds_none : (IsNew : Found → Type 0) (old : List Found) → ((f : Found) → IsNew f → ⊥) → AddsSome IsNew old old
adds_none IsNew old none = record {
  each = λ f. (λ was. inl was, λ either. elim either [ inl was ↦ was | inr is ↦ absurd (none f is) ]);
  order = λ pairs across. pairs;
}

-- pages of one kind are added, and then those of another that come after them
adds_on : (A B C : Found → Type 0) (first mid new : List Found) → ((f : Found) → C f ↔ (A f ⊎ B f)) → ((f g : Found) → A f → B g → IsPlaceBefore f g)
    → AddsSome A first mid → AddsSome B mid new → AddsSome C first new
adds_on A B C first mid new split ordered a b = record {
  each = λ f. (
    λ has. elim ((b.each f).0 has) [
      | inr is ↦ inr ((split f).1 (inr is))
      | inl was ↦ elim ((a.each f).0 was) [ inl before ↦ inl before | inr is ↦ inr ((split f).1 (inl is)) ]
    ],
    λ either. elim either [
      | inl before ↦ (b.each f).1 (inl ((a.each f).1 (inl before)))
      | inr is ↦ elim ((split f).0 is) [ inl is_a ↦ (b.each f).1 (inl ((a.each f).1 (inr is_a))) | inr is_b ↦ (b.each f).1 (inr is_b) ]
    ],
  );
  order = λ pairs across. b.order
      (a.order pairs (λ f g was is. across f g was ((split g).1 (inl is))))
      (λ f g was is. elim ((a.each f).0 was) [ inl before ↦ across f g before ((split g).1 (inr is)) | inr is_a ↦ ordered f g is_a is ]);
}

-- the same pages, said in another way
adds_same : (A C : Found → Type 0) (first new : List Found) → ((f : Found) → C f ↔ A f) → AddsSome A first new → AddsSome C first new
adds_same A C first new same a = record {
  each = λ f. (
    λ has. elim ((a.each f).0 has) [ inl before ↦ inl before | inr is ↦ inr ((same f).1 is) ],
    λ either. elim either [ inl before ↦ (a.each f).1 (inl before) | inr is ↦ (a.each f).1 (inr ((same f).0 is)) ],
  );
  order = λ pairs across. a.order pairs (λ f g was is. across f g was ((same g).1 is));
}

-- a page that has a tag
pub adds_page : (b p : ℕ) (t : Tag) (tags : List (Option Tag)) (old : List Found) → slice_get tags p ≡ Some (Some t)
    → AddsPage b tags p old (old ++ (record { block = b; page = p; tag = t }) ∷ [])
adds_page b p t tags old at = adds_push (IsPageAt b tags p) old (record { block = b; page = p; tag = t }) (record { block = refl; page = refl; tag = at })
    (λ f is.
    let two : Some (Some f.tag) ≡ Some (Some t) = sym is.tag ∙ at in
    let tag : f.tag ≡ t = cc in
    λ i. record { block = is.block i; page = is.page i; tag = tag i })

-- a page with no tag has none
pub adds_no_page : (b p : ℕ) (tags : List (Option Tag)) (old : List Found) → slice_get tags p ≡ Some None → AddsPage b tags p old old
adds_no_page b p tags old at = adds_none (IsPageAt b tags p) old (λ f is. let two : Some (Some f.tag) ≡ Some None = sym is.tag ∙ at in absurd cc)

-- a page that counts is added to those before it
pub adds_counted : (b p end : ℕ) (tags : List (Option Tag)) (first old new : List Found) → Reaches tags (p + 1) p end → p < end → AddsPage b tags p old new
    → AddsCounted b tags p first old → AddsCounted b tags (p + 1) first new
adds_counted b p end tags first old new reach lt page adds =
    let group = reach.covered p (omega arith) lt in
    adds_on (IsCountedIn b tags p) (IsPageAt b tags p) (IsCountedIn b tags (p + 1)) first old new
    (λ f. (
      λ is. elim (cases_eq f.page p) [
        | inr ne ↦ inl (record { block = is.block; before = omega (arith, is.before, ne); tag = is.tag; start = is.start; within = is.within })
        | inl at ↦ inr (record { block = is.block; page = at; tag = subst (λ l. slice_get tags l ≡ Some (Some f.tag)) at is.tag })
      ],
      λ either. elim either [
        | inl is ↦ record { block = is.block; before = omega (arith, is.before); tag = is.tag; start = is.start; within = is.within }
        | inr is ↦ record {
          block = is.block;
          before = omega (arith, is.page);
          tag = subst (λ l. slice_get tags l ≡ Some (Some f.tag)) (sym is.page) is.tag;
          start = group.0;
          within = subst (IsWithinRun tags group.0) (sym is.page) group.2;
        }
      ],
    ))
    (λ f g is_f is_g. inr (is_f.block ∙ sym is_g.block, omega (arith, is_f.before, is_g.page)))
    adds page

-- a page that does not count is passed
pub passes_page : (b p end : ℕ) (tags : List (Option Tag)) (first old : List Found) → Reaches tags (p + 1) p end → end ≤ p
    → AddsCounted b tags p first old → AddsCounted b tags (p + 1) first old
passes_page b p end tags first old reach past adds = adds_same (IsCountedIn b tags p) (IsCountedIn b tags (p + 1)) first old
    (λ f. (
      λ is. elim (cases_eq f.page p) [
        | inr ne ↦ record { block = is.block; before = omega (arith, is.before, ne); tag = is.tag; start = is.start; within = is.within }
        | inl at ↦
            let here : IsWithinRun tags is.start p = subst (IsWithinRun tags is.start) at is.within in
            let lt : p < end = reach.covers is.start p (omega (arith, here.from)) (omega arith) here in
            absurd (omega (arith, lt, past))
      ],
      λ is. record { block = is.block; before = omega (arith, is.before); tag = is.tag; start = is.start; within = is.within },
    ))
    adds

-- the groups that begin at one more page
pub reaches_more : (tags : List (Option Tag)) (p end run to : ℕ) → Reaches tags p p end → ((page : ℕ) → p ≤ page → page < run ↔ IsWithinRun tags p page) → to ≡ max end run
    → Reaches tags (p + 1) p to
reaches_more tags p end run to reach reports is = record {
  covers = λ start page lt from within. elim (cases_eq start p) [
    | inr ne ↦ let before : page < end = reach.covers start page (omega (arith, lt, ne)) from within in omega (arith, before, is)
    | inl at ↦ let before : page < run = (reports page from).1 (subst (λ s. IsWithinRun tags s page) at within) in omega (arith, before, is)
  ];
  covered = λ page from lt. elim (cases_lt page end) [
    | inl before ↦ let group = reach.covered page from before in (group.0, omega (arith, group.1), group.2)
    | inr past ↦ (p, omega arith, (reports page from).0 (omega (arith, lt, past, is)))
  ];
}

-- the same, reported of later pages
pub reaches_on : (tags : List (Option Tag)) (n p end : ℕ) → Reaches tags n p end → Reaches tags n (p + 1) end
reaches_on tags n p end reach = record {
  covers = λ start page lt from within. reach.covers start page lt (omega (arith, from)) within;
  covered = λ page from lt. reach.covered page (omega (arith, from)) lt;
}
