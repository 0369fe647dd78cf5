-- The objects of a tree come one after the other, without their names.
use Rattle.std.specs.Prelude.{◌≡◌, ◌≢◌, ◌⊎◌, ◌<◌, ◌≤◌, ◌+◌, ℕ, List, length, slice_get, Some, None, true}
use Rattle.std.proofs.Common.{refl, sym, ◌∙◌, ap, subst, inl, inr, arith}
use Rattle.std.proofs.lemmas.Bool.{cases_eq, cases_lt}
use Rattle.std.specs.Ordering.{nat_cmp}
use Rattle.std.specs.Cmp.{nat_cmp_total}
use Rattle.std.specs.Cmp.Lexicographic.{slice_cmp}
use Rattle.std.specs.FinMap as map
use Rattle.std.proofs.lemmas.Option.{slice_get_within}
use Rattle.volume_terms.specs.Sizes.{Sizes, IsSizes}
use Rattle.posix_profile.specs.State.{Name, Entries, Object, File, Dir, Objects}
use Rattle.posix_profile.specs.Names.{Names}
use Rattle.posix_profile.specs.Charge.{fits}
use Rattle.posix_profile.specs.laws.Map.{get_here, get_there, insert_cases}
use Rattle.object_store.specs.Built.{IsBare, CanCome}
use Rattle.tree_walk.specs.Walks.{IsOn, IsOnce}
use Rattle.tree_walk.specs.declared.head.Head.{Head}
use Rattle.tree_walk.specs.Building.{kind_as, IsPartOf, ArePartOf, IsNameless}
use Rattle.tree_walk.proofs.Elements.{none_of}
use Rattle.tree_walk.proofs.HeadLaws.{IsHeaderOfObject}
use Rattle.tree_walk.proofs.Parts.{part_countable}

-- the object without its entries
abbrev pub bare : Object → Object
bare (File moment bytes) = File moment bytes
bare (Dir moment entries) = Dir moment map.empty

-- no entry stands in an empty directory
no_entry : (name : Name) (o : ℕ) → map.get (map.empty {R = slice_cmp nat_cmp}) name ≡ Some o → ⊥
no_entry name o is = let two : None ≡ Some o = sym (map.get-empty (slice_cmp nat_cmp) name) ∙ is in cc

bare_part : (x : Object) → IsPartOf x (bare x)
bare_part (File moment bytes) = refl
bare_part (Dir moment entries) = (map.empty, refl, λ name o is. absurd (no_entry name o is))

bare_names : (x : Object) (moment : ℕ) (entries : Entries) (name : Name) (o : ℕ) → Dir moment entries ≡ bare x → map.get entries name ≡ Some o → ⊥
bare_names (File t bytes) moment entries name o is got = absurd cc
bare_names (Dir t all) moment entries name o is got = let empty : entries ≡ map.empty = cc in no_entry name o (ap (λ (e : Entries). map.get e name) (sym empty) ∙ got)

-- it is as its header says
pub bare_said : (head : Head) (x : Object) → IsHeaderOfObject head x → IsBare (kind_as head.kind) head.moment head.length (bare x)
bare_said head (File moment bytes) is = subst (λ k. IsBare (kind_as k) head.moment head.length (File moment bytes)) (sym is.0) (sym is.1, sym is.2)
bare_said head (Dir moment entries) is = subst (λ k. IsBare (kind_as k) head.moment head.length (Dir moment map.empty)) (sym is.0) (sym is.1, refl)

-- the objects of the first n numbers of the list came, without names
pub record HasBare (objects : Objects) (list : List ℕ) (n : ℕ) (part : Objects) : Type 0 where
  pub part_of : ArePartOf objects part
  pub here : (i o : ℕ) → i < n → slice_get list i ≡ Some o → (y : Object) × (map.get part o ≡ Some y)
  pub only : (o : ℕ) (y : Object) → map.get part o ≡ Some y → (i : ℕ) × (i < n) × (slice_get list i ≡ Some o)
  pub unnamed : (directory o : ℕ) (name : Name) → Names part directory name o → ⊥

pub begins_bare : (objects : Objects) (list : List ℕ) → HasBare objects list 0 map.empty
begins_bare objects list = record {
  part_of = λ o y is. absurd (nothing o y is);
  here = λ i o lt. absurd (omega (arith, lt));
  only = λ o y is. absurd (nothing o y is);
  unnamed = λ d o name n. nothing d (Dir n.moment n.entries) n.directory_is;
} where
  nothing : (o : ℕ) (y : Object) → map.get (map.empty {R = nat_cmp}) o ≡ Some y → ⊥
  nothing o y is = let two : None ≡ Some y = sym (map.get-empty nat_cmp o) ∙ is in cc

module _ (z : Sizes) (sizes : IsSizes z) (objects : Objects) (fit : fits z objects ≡ true) (list : List ℕ) (once : IsOnce list) (n : ℕ) (part : Objects) (h : HasBare objects list n part)
    (o : ℕ) (at : slice_get list n ≡ Some o) (x : Object) (there : map.get objects o ≡ Some x) where
  abbrev more : Objects
  more = map.insert part o (bare x)

  cases : (q : ℕ) (y : Object) → map.get more q ≡ Some y → ((q ≡ o) × (y ≡ bare x)) ⊎ ((q ≢ o) × (map.get part q ≡ Some y))
  cases q y is = insert_cases nat_cmp_total map.nat_cmp-IsAntisymmetric part o (bare x) q y is

  part_more : ArePartOf objects more
  part_more q y is = elim (cases q y is) [
    | inl new ↦ (x, ap (map.get objects) new.0 ∙ there, subst (IsPartOf x) (sym new.1) (bare_part x))
    | inr old ↦ h.part_of q y old.1
  ]

  unnamed_more : (directory c : ℕ) (name : Name) → Names more directory name c → ⊥
  unnamed_more d c name names = elim (cases d (Dir names.moment names.entries) names.directory_is) [
    | inl new ↦ bare_names x names.moment names.entries name c new.1 names.object_is
    | inr old ↦ h.unnamed d c name (record { moment = names.moment; entries = names.entries; directory_is = old.1; object_is = names.object_is })
  ]

  -- so the next object may come
  pub can_come : CanCome z part o (bare x)
  can_come = record {
    free = none_of (map.get part o) (λ y is. let w = h.only o y is in let one : w.0 ≡ n = once w.0 n o w.2 at in omega (arith, one, w.1));
    unnamed = λ named. h.unnamed named.0 o named.1 named.2;
    countable = part_countable z sizes objects more fit part_more;
  }

  pub bare_more : HasBare objects list (n + 1) more
  bare_more = record {
    part_of = part_more;
    here = λ i c lt is. elim (cases_eq c o) [
      | inl same ↦ (bare x, ap (map.get more) same ∙ get_here nat_cmp_total map.nat_cmp-IsAntisymmetric part o (bare x))
      | inr other ↦ elim (cases_lt i n) [
        | inl before ↦ let y = h.here i c before is in (y.0, get_there nat_cmp_total map.nat_cmp-IsAntisymmetric part o (bare x) c other ∙ y.1)
        | inr after ↦
            let place : i ≡ n = omega (arith, lt, after) in
            let two : Some c ≡ Some o = sym is ∙ ap (slice_get list) place ∙ at in
            let same : c ≡ o = cc in
            absurd (other same)
      ]
    ];
    only = λ q y is. elim (cases q y is) [
      | inl new ↦ (n, omega arith, at ∙ ap Some (sym new.0))
      | inr old ↦ let w = h.only q y old.1 in (w.0, omega (arith, w.1), w.2)
    ];
    unnamed = unnamed_more;
  }

-- all objects came
pub nameless : (objects : Objects) (list : List ℕ) (n : ℕ) (part : Objects) → ((o : ℕ) (x : Object) → map.get objects o ≡ Some x → IsOn list o) → HasBare objects list n part
    → length list ≤ n → IsNameless objects part
nameless objects list n part listed h le = record {
  part_of = h.part_of;
  all = λ o x is. let on = listed o x is in h.here on.0 o (omega (arith, slice_get_within list on.0 o on.1, le)) on.1;
  unnamed = h.unnamed;
}
