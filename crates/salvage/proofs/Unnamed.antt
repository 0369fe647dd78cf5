-- The objects that no directory names.
use Rattle.std.specs.Prelude.{◌≡◌, ◌↔◌, ◌<◌, ◌≤◌, ◌+◌, ℕ, true, false, List, [], ◌∷◌, ◌++◌, get_or, length, slice_get, Some}
use Rattle.std.proofs.Common.{sym, ◌∙◌, ap, subst, inl, inr, arith}
use Rattle.std.proofs.lemmas.Bool.{cases_Bool, cases_lt}
use Rattle.std.proofs.lemmas.List.Elements.{Contains-push, Contains-push_cases, Contains-append_left, Contains-get_or}
use Rattle.std.proofs.lemmas.List.Quantifiers.{all_pairs_push}
use Rattle.std.proofs.lemmas.Option.{get_or_from_slice_get, slice_get_within}
use Rattle.std.specs.BTreeMap.{is_at}
use Rattle.std.specs.BTreeSet as set
use Rattle.std.specs.BTreeSet.{BTreeSet}
use Rattle.std.specs.List.{Contains, list_any}
use Rattle.std.specs.Ordering.{nat_cmp}
use Rattle.volume_terms.specs.Sizes.{Sizes}
use Rattle.flash_tree.specs.Tree.{NewestMap}
use Rattle.pages.specs.Maps.{PageMap, has}
use Rattle.tree_walk.specs.laws.Lists.{on_of}
use Rattle.salvage.specs.Headers.{HasHeaders, Rises}
use Rattle.salvage.specs.Orphans.{IsIn, Adds, HasNamed, IsUnnamed, PutsUnnamed, ListsUnnamed}
use Rattle.salvage.specs.Reached.{LeadsTo, IsOrphan, ListsOrphans}
use Rattle.salvage.proofs.Elements.{at_place, place_of}

-- ---- the objects that are named

-- one of the first n directories names the object
pub record IsNamedTo (z : Sizes) (m : NewestMap) (directories : List ℕ) (n o : ℕ) : Type 0 where
  pub place : ℕ
  pub directory : ℕ
  pub within : place < n
  pub there : slice_get directories place ≡ Some directory
  pub leads : LeadsTo z m directory o

-- the set has exactly the objects that the first n directories name
abbrev pub IsNaming : Sizes → NewestMap → List ℕ → ℕ → BTreeSet ℕ → Type 0
IsNaming z m directories n named = (o : ℕ) → IsIn named o ↔ IsNamedTo z m directories n o

pub naming_none : (z : Sizes) (m : NewestMap) (directories : List ℕ) (named : BTreeSet ℕ) → named.keys ≡ [] → IsNaming z m directories 0 named
naming_none z m directories named empty o = (
  λ is. let two : true ≡ false = sym is ∙ ap (λ (ks : List ℕ). list_any (is_at (nat_cmp o)) ks) empty in absurd cc,
  λ n. let lt = n.within in absurd (omega (arith, lt)),
)

pub naming_more : (z : Sizes) (m : NewestMap) (directories : List ℕ) (n d : ℕ) (old new : BTreeSet ℕ) → IsNaming z m directories n old → slice_get directories n ≡ Some d → Adds (LeadsTo z m d) old new
    → IsNaming z m directories (n + 1) new
naming_more z m directories n d old new is at adds o = (to, from) where
  to : IsIn new o → IsNamedTo z m directories (n + 1) o
  to here = elim ((adds o).0 here) [
    | inl was ↦ let w = (is o).0 was in record { place = w.place; directory = w.directory; within = omega (arith, w.within); there = w.there; leads = w.leads }
    | inr l ↦ record { place = n; directory = d; within = omega arith; there = at; leads = l }
  ]

  from : IsNamedTo z m directories (n + 1) o → IsIn new o
  from w = elim (cases_lt w.place n) [
    | inl before ↦ (adds o).1 (inl ((is o).1 (record { place = w.place; directory = w.directory; within = before; there = w.there; leads = w.leads })))
    | inr last ↦
        let place : w.place ≡ n = omega (arith, last, w.within) in
        let two : Some w.directory ≡ Some d = sym w.there ∙ ap (slice_get directories) place ∙ at in
        let same : w.directory ≡ d = cc in
        (adds o).1 (inr (subst (λ k. LeadsTo z m k o) same w.leads))
  ]

pub naming_all : (z : Sizes) (m : NewestMap) (directories : List ℕ) (n : ℕ) (named : BTreeSet ℕ) → IsNaming z m directories n named → length directories ≤ n → HasNamed z m directories named
naming_all z m directories n named is all o = (
  λ here. let w = (is o).0 here in (w.directory, at_place directories w.place w.directory w.there, w.leads),
  λ (d, at, l). let p = place_of directories d at in
      (is o).1 (record { place = p.0; directory = d; within = omega (arith, all, slice_get_within directories p.0 d p.1); there = p.1; leads = l }),
)

-- ---- the objects that are not

module _ (z : Sizes) (m : NewestMap) (named : BTreeSet ℕ) (objects : List ℕ) where
  pub unnamed_none : ListsUnnamed z m named objects 0 []
  unnamed_none = record {
    all = λ p o lt. absurd (omega (arith, lt));
    only = λ o at. let lt = at.1 in absurd (omega (arith, lt));
    rises = λ rise i j d before within. absurd (omega (arith, within));
  }

  module _ (n o : ℕ) (old new : List ℕ) (l : ListsUnnamed z m named objects n old) (at : slice_get objects n ≡ Some o) where
    -- of those before and this one it is this one
    is_this : (p x : ℕ) → p < n + 1 → n ≤ p → slice_get objects p ≡ Some x → x ≡ o
    is_this p x lt last there =
        let place : p ≡ n = omega (arith, lt, last) in
        let two : Some x ≡ Some o = sym there ∙ ap (slice_get objects) place ∙ at in
        cc

    put_one : IsUnnamed z m named o → new ≡ old ++ o ∷ [] → ListsUnnamed z m named objects (n + 1) new
    put_one u is = subst (ListsUnnamed z m named objects (n + 1)) (sym is) (record {
      all = λ p x lt there v. elim (cases_lt p n) [
        | inl before ↦ Contains-append_left old (o ∷ []) x (l.all p x before there v)
        | inr last ↦ subst (Contains (old ++ o ∷ [])) (sym (is_this p x lt last there)) (Contains-push old o)
      ];
      only = λ x there. elim (Contains-push_cases old o x there) [
        | inl before ↦ let w = l.only x before in (w.0, omega (arith, w.1), w.2, w.3)
        | inr same ↦ (n, omega arith, at ∙ ap Some same, subst (IsUnnamed z m named) same u)
      ];
      rises = λ rise. all_pairs_push (λ a b. a < b) old o (l.rises rise) (λ k d lt.
          let w = l.only (get_or old k d) (Contains-get_or old k d lt) in
          let lo : get_or objects w.0 0 ≡ get_or old k d = get_or_from_slice_get objects w.0 (get_or old k d) 0 w.2 in
          let hi : get_or objects n 0 ≡ o = get_or_from_slice_get objects n o 0 at in
          let less = rise w.0 n 0 w.1 (slice_get_within objects n o at) in
          omega (arith, lo, hi, less));
    })

    put_none : (IsUnnamed z m named o → ⊥) → new ≡ old → ListsUnnamed z m named objects (n + 1) new
    put_none not is = subst (ListsUnnamed z m named objects (n + 1)) (sym is) (record {
      all = λ p x lt there v. elim (cases_lt p n) [
        | inl before ↦ l.all p x before there v
        | inr last ↦ absurd (not (subst (IsUnnamed z m named) (is_this p x lt last there) v))
      ];
      only = λ x there. let w = l.only x there in (w.0, omega (arith, w.1), w.2, w.3);
      rises = l.rises;
    })

    pub unnamed_more : PutsUnnamed (IsUnnamed z m named o) o old new → ListsUnnamed z m named objects (n + 1) new
    unnamed_more (inl (u, is)) = put_one u is
    unnamed_more (inr (not, is)) = put_none not is

-- those of the headers that no directory among them names are the orphans
pub orphans_are : (z : Sizes) (m : PageMap) (named : BTreeSet ℕ) (headers : List ℕ) (n : ℕ) (list : List ℕ) → HasHeaders m headers → Rises headers → HasNamed z (has m) headers named
    → ListsUnnamed z (has m) named headers n list → length headers ≤ n → ListsOrphans z (has m) list
orphans_are z m named headers n list listed rise names l all = record {
  each = λ o. (to o, from o);
  once = λ i j d lt within same. let less = l.rises rise i j d lt within in omega (arith, less, same);
} where
  header_at : (o : ℕ) (page : List ℕ) → m o 0 ≡ Some page → (p : ℕ) × (slice_get headers p ≡ Some o)
  header_at o page is = on_of headers o (listed o page is)

  to : (o : ℕ) → Contains list o → IsOrphan z (has m) o
  to o at =
      let w = l.only o at in
      record {
        other = w.3.other;
        fields = w.3.fields;
        has = w.3.has;
        unnamed = λ d leads.
            let p = header_at d _ leads.has.0 in
            let two : true ≡ false = sym ((names o).1 (d, at_place headers p.0 d p.1, leads)) ∙ w.3.unnamed in
            cc;
      }

  from : (o : ℕ) → IsOrphan z (has m) o → Contains list o
  from o x =
      let p = header_at o _ x.has.0 in
      l.all p.0 o (omega (arith, all, slice_get_within headers p.0 o p.1)) p.1 (record {
        other = x.other;
        unnamed = elim (cases_Bool (set.contains nat_cmp named o)) [
          | inl is ↦ let w = (names o).0 is in absurd (x.unnamed w.0 w.2)
          | inr not ↦ not
        ];
        fields = x.fields;
        has = x.has;
      })
