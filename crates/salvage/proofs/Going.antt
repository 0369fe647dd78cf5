-- The objects that are reached, gone through one after the other.
use Rattle.std.specs.Prelude.{◌≡◌, ◌||◌, ◌≤◌, ◌+◌, ℕ, Bool, zero, suc, true, false, List, [], ◌∷◌, ◌++◌, get_or, length, slice_get, nat_eq, Some}
use Rattle.std.proofs.Common.{refl, sym, ◌∙◌, ap, subst, inl, inr, arith}
use Rattle.std.proofs.lemmas.Bool.{cases_eq, cases_lt, cond-true, cond-false, ne_eqb}
use Rattle.std.proofs.lemmas.List.Folds.{list_any-append}
use Rattle.std.proofs.lemmas.Option.{slice_get-get_or, slice_get_within}
use Rattle.std.specs.BTreeMap.{is_at}
use Rattle.std.specs.BTreeSet as set
use Rattle.std.specs.BTreeSet.{BTreeSet}
use Rattle.std.specs.List.{list_any}
use Rattle.std.specs.Ordering.{nat_cmp}
use Rattle.volume_terms.specs.Sizes.{Sizes}
use Rattle.volume_terms.specs.laws.List.{push_last, slice_get_there}
use Rattle.flash_tree.specs.Tree.{NewestMap}
use Rattle.flash_tree.specs.Mount.{with_new}
use Rattle.tree_walk.specs.Walks.{IsOn, IsOnce}
use Rattle.tree_walk.specs.laws.Lists.{IsAdded, added, of_on, with_new_first}
use Rattle.salvage.specs.Reached.{LeadsTo, IsReached, here, on, ListsReached}
use Rattle.salvage.specs.Reaching.{Knows, Puts, IsReaching}
use Rattle.salvage.specs.declared.reaching.NamedObjects.{NamedObjects}
use Rattle.salvage.proofs.Elements.{at_place, place_of}
use Rattle.salvage.proofs.Sets.{has_here, has_there}

-- ---- one object

or_off : (a b : Bool) → b ≡ false → (a || b) ≡ a
or_off true b off = refl
or_off false b off = off

-- the set with a number is that of the list with it
known_push : (s t : BTreeSet ℕ) (list : List ℕ) (object : ℕ) → ((o : ℕ) → set.contains nat_cmp s o ≡ list_any (nat_eq o) list) → set.Updates nat_cmp s t object true
    → (o : ℕ) → set.contains nat_cmp t o ≡ list_any (nat_eq o) (list ++ object ∷ [])
known_push s t list object knows u o = elim (cases_eq o object) [
  | inl same ↦ has_here s t object u o same ∙ sym (of_on (list ++ object ∷ []) o (length list) (push_last list object ∙ ap Some (sym same)))
  | inr ne ↦ has_there s t object u o ne ∙ knows o
      ∙ sym (list_any-append (nat_eq o) list (object ∷ []) ∙ or_off (list_any (nat_eq o) list) _ (or_off _ false refl ∙ ne_eqb o object ne))
]

module _ (object : ℕ) (old new : NamedObjects) (knows : Knows old) where
  pub put_new : set.contains nat_cmp old.known object ≡ false → new.objects.items ≡ old.objects.items ++ object ∷ [] → set.Updates nat_cmp old.known new.known object true → Puts (object ∷ []) old new
  put_new unknown objects updates = record {
    objects = objects ∙ sym (cond-false (list_any (nat_eq object) old.objects.items) old.objects.items (old.objects.items ++ object ∷ []) (sym (knows object) ∙ unknown));
    knows = λ o. known_push old.known new.known old.objects.items object knows updates o ∙ ap (list_any (nat_eq o)) (sym objects);
  }

  pub put_again : set.contains nat_cmp old.known object ≡ true → new.objects.items ≡ old.objects.items → new.known.keys ≡ old.known.keys → Puts (object ∷ []) old new
  put_again is_known objects known = record {
    objects = objects ∙ sym (cond-true (list_any (nat_eq object) old.objects.items) old.objects.items (old.objects.items ++ object ∷ []) (sym (knows object) ∙ is_known));
    knows = λ o. ap (λ (ks : List ℕ). list_any (is_at (nat_cmp o)) ks) known ∙ knows o ∙ ap (list_any (nat_eq o)) (sym objects);
  }

-- ---- the rest of them

-- the first of those that are named were put, and these are left
pub record IsPutting (first : NamedObjects) (more : List ℕ) (now : NamedObjects) (rest : List ℕ) : Type 0 where
  pub objects : with_new now.objects.items rest ≡ with_new first.objects.items more
  pub knows : Knows now

pub put_none : (first : NamedObjects) (more : List ℕ) → Knows first → IsPutting first more first more
put_none first more knows = record { objects = refl; knows = knows }

pub put_next : (first : NamedObjects) (more : List ℕ) (now : NamedObjects) (y : ℕ) (rest : List ℕ) (next : NamedObjects) → IsPutting first more now (y ∷ rest) → Puts (y ∷ []) now next → IsPutting first more next rest
put_next first more now y rest next p one = record {
  objects = ap (λ (l : List ℕ). with_new l rest) one.objects ∙ sym (with_new_first now.objects.items y rest) ∙ p.objects;
  knows = one.knows;
}

pub put_all : (first : NamedObjects) (more : List ℕ) (last : NamedObjects) (rest : List ℕ) → rest ≡ [] → IsPutting first more last rest → Puts more first last
put_all first more last rest none p = record {
  objects = ap (with_new last.objects.items) (sym none) ∙ p.objects;
  knows = p.knows;
}

-- ---- the objects that are reached

once_one : (x : ℕ) → IsOnce (x ∷ [])
once_one x zero zero o at at' = refl
once_one x zero (suc j) o at at' = absurd cc
once_one x (suc i) j o at at' = absurd cc

pub begins_reaching : (z : Sizes) (m : NewestMap) (from : ℕ) (list : List ℕ) → list ≡ from ∷ [] → IsReaching z m from 0 list
begins_reaching z m from list is = subst (IsReaching z m from 0) (sym is) (record {
  begins = refl;
  once = once_one from;
  reached = alone;
  within = omega arith;
  leads = λ p d o lt. absurd (omega (arith, lt));
}) where
  alone : (p o : ℕ) → slice_get (from ∷ []) p ≡ Some o → IsReached z m from o
  alone zero o at = let same : from ≡ o = cc in subst (IsReached z m from) same here
  alone (suc p) o at = absurd cc

-- what the object at a place leads to comes behind the others
pub goes_on : (z : Sizes) (m : NewestMap) (from n d : ℕ) (list more new : List ℕ) → IsReaching z m from n list → slice_get list n ≡ Some d
    → ((o : ℕ) → LeadsTo z m d o → IsOn more o) → ((o : ℕ) → IsOn more o → LeadsTo z m d o) → new ≡ with_new list more → IsReaching z m from (n + 1) new
goes_on z m from n d list more new r at led leads is = record {
  begins = a.stays 0 from r.begins;
  once = a.once r.once;
  reached = λ p o there. elim (a.only p o there) [
    | inl first ↦ r.reached p o first
    | inr (j, named) ↦ on (r.reached n d at) (leads o (j, named))
  ];
  within = omega (arith, slice_get_within new n d (a.stays n d at));
  leads = λ p x o lt there l. elim (cases_lt p n) [
    | inl before ↦
        let y = slice_get_there list p (omega (arith, before, slice_get_within list n d at)) in
        let two : Some y.0 ≡ Some x = sym (a.stays p y.0 y.1) ∙ there in
        let one : y.0 ≡ x = cc in
        let known = r.leads p x o before (y.1 ∙ ap Some one) l in
        (known.0, a.stays known.0 o known.1)
    | inr last ↦
        let place : p ≡ n = omega (arith, lt, last) in
        let two : Some x ≡ Some d = sym there ∙ ap (slice_get new) place ∙ a.stays n d at in
        let one : x ≡ d = cc in
        let named = led o (subst (λ k. LeadsTo z m k o) one l) in
        a.on named.0 o named.1
  ];
} where
  a : IsAdded list more new
  a = subst (IsAdded list more) (sym is) (added list more)

-- where the object leads nowhere, nothing comes behind the others
pub stays_on : (z : Sizes) (m : NewestMap) (from n d : ℕ) (list : List ℕ) → IsReaching z m from n list → slice_get list n ≡ Some d
    → ((o : ℕ) → LeadsTo z m d o → ⊥) → IsReaching z m from (n + 1) list
stays_on z m from n d list r at no' = goes_on z m from n d list [] list r at (λ o l. absurd (no' o l)) (λ o (k, is). absurd cc) refl

-- once all were gone through, the list has all that are reached
pub reached_all : (z : Sizes) (m : NewestMap) (from n : ℕ) (list : List ℕ) → IsReaching z m from n list → length list ≤ n → ListsReached z m from list
reached_all z m from n list r all = record {
  each = λ o. (
    λ at. let p = place_of list o at in r.reached p.0 o p.1,
    λ is. let p = listed o is in at_place list p.0 o p.1,
  );
  once = λ i j d lt within same.
      let one : i ≡ j = r.once i j (get_or list i d) (slice_get-get_or list i d (omega (arith, lt, within))) (slice_get-get_or list j d within ∙ ap Some (sym same)) in
      omega (arith, one, lt);
} where
  listed : (o : ℕ) → IsReached z m from o → IsOn list o
  listed o here = (0, r.begins)
  listed o (on {d} {o = x} up l) =
      let p = listed d up in
      r.leads p.0 d x (omega (arith, all, slice_get_within list p.0 d p.1)) p.1 l
