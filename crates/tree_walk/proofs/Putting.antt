-- Objects that are named are put behind the others.
use Rattle.std.specs.Prelude.{◌≡◌, ◌≢◌, ◌⊎◌, ◌↔◌, ◌||◌, ℕ, Bool, true, false, List, [], ◌∷◌, ◌++◌, length, nat_eq, Some}
use Rattle.std.specs.BTreeMap as table
use Rattle.std.specs.BTreeMap.{BTreeMap, is_at}
use Rattle.std.specs.BTreeSet as set
use Rattle.std.specs.BTreeSet.{BTreeSet}
use Rattle.std.specs.Cmp.{nat_cmp_is}
use Rattle.std.specs.List.{list_any}
use Rattle.std.specs.Ordering.{nat_cmp, is_eq}
use Rattle.std.specs.declared.cmp.Ordering.TheVariants as orderings
use Rattle.std.specs.Global.{Vec}
use Rattle.std.proofs.Common.{refl, sym, ◌∙◌, ap, subst, inl, inr, eq-eqb}
use Rattle.std.proofs.lemmas.Bool.{cases_eq, cond-true, cond-false, ne_eqb, true≢false}
use Rattle.std.proofs.lemmas.List.Folds.{list_any-append}
use Rattle.volume_terms.specs.laws.List.{push_last}
use Rattle.volume_terms.specs.laws.Number.{not_at}
use Rattle.flash_tree.specs.Mount.{with_new}
use Rattle.tree_walk.specs.Trees.{named_in}
use Rattle.tree_walk.specs.Walks.{IsAgain, Knows, HasAgain, Puts, Visits}
use Rattle.tree_walk.specs.declared.head.Head.{Head}
use Rattle.tree_walk.specs.declared.object.Visited.{Visited}
use Rattle.tree_walk.specs.declared.tree.NamedObject.{NamedObject}
use Rattle.tree_walk.specs.declared.walking.WalkState.{WalkState}
use Rattle.tree_walk.specs.laws.Lists.{of_on, on_of, not_on, with_new_first, again_first, again_none, again_one}

-- ---- sets and maps of numbers

at_same : (k q : ℕ) → q ≡ k → is_at (nat_cmp k) q ≡ true
at_same k q same = ap is_eq (sym (nat_cmp_is k q orderings.Equal (sym same)))

module _ (old new : BTreeSet ℕ) (k : ℕ) (u : set.Updates nat_cmp old new k true) where
  has_here : (q : ℕ) → q ≡ k → set.contains nat_cmp new q ≡ true
  has_here q same = u.0 q ∙ cond-true _ _ _ (at_same k q same)

  has_there : (q : ℕ) → q ≢ k → set.contains nat_cmp new q ≡ set.contains nat_cmp old q
  has_there q ne = u.0 q ∙ cond-false _ _ _ (not_at k q ne)

-- ---- one object

or_off : (a b : Bool) → b ≡ false → (a || b) ≡ a
or_off true b off = refl
or_off false b off = off

module _ (object : ℕ) (old new : WalkState) (knows : Knows old) where
  pub put_new : set.contains nat_cmp old.known object ≡ false → new.objects.items ≡ old.objects.items ++ object ∷ [] → set.Updates nat_cmp old.known new.known object true
      → new.again ≡ old.again → new.heads ≡ old.heads → new.names ≡ old.names → Puts (object ∷ []) old new
  put_new unknown objects updates again heads names = record {
    objects = objects ∙ sym (cond-false (list_any (nat_eq object) old.objects.items) old.objects.items (old.objects.items ++ object ∷ []) off);
    knows = λ o. elim (cases_eq o object) [
      | inl same ↦ has_here old.known new.known object updates o same ∙ sym (ap (list_any (nat_eq o)) objects ∙ of_on (old.objects.items ++ object ∷ []) o (length old.objects.items) (push_last old.objects.items object ∙ ap Some (sym same)))
      | inr ne ↦ has_there old.known new.known object updates o ne ∙ knows o
          ∙ sym (ap (list_any (nat_eq o)) objects ∙ list_any-append (nat_eq o) old.objects.items (object ∷ []) ∙ or_off (list_any (nat_eq o) old.objects.items) _ (or_off _ false refl ∙ ne_eqb o object ne))
    ];
    again = λ o. (
      λ has. inl (ap (λ (s : BTreeSet ℕ). set.contains nat_cmp s o) (sym again) ∙ has),
      λ is. elim is [
        | inl has ↦ ap (λ (s : BTreeSet ℕ). set.contains nat_cmp s o) again ∙ has
        | inr a ↦ absurd (not_on old.objects.items object off ((again_one old.objects.items object o).0 a).1)
      ],
    );
    heads = heads;
    names = names;
  } where
    off : list_any (nat_eq object) old.objects.items ≡ false
    off = sym (knows object) ∙ unknown

  pub put_again : set.contains nat_cmp old.known object ≡ true → new.objects ≡ old.objects → new.known.keys ≡ old.known.keys → set.Updates nat_cmp old.again new.again object true
      → new.heads ≡ old.heads → new.names ≡ old.names → Puts (object ∷ []) old new
  put_again is_known objects known updates heads names = record {
    objects = ap (λ (v : Vec ℕ). v.items) objects ∙ sym (cond-true (list_any (nat_eq object) old.objects.items) old.objects.items (old.objects.items ++ object ∷ []) on);
    knows = λ o. ap (list_any (is_at (nat_cmp o))) known ∙ knows o ∙ ap (λ (v : Vec ℕ). list_any (nat_eq o) v.items) (sym objects);
    again = λ o. (
      λ has. elim (cases_eq o object) [
        | inl same ↦ inr ((again_one old.objects.items object o).1 (same, on_of old.objects.items object on))
        | inr ne ↦ inl (sym (has_there old.again new.again object updates o ne) ∙ has)
      ],
      λ is. elim (cases_eq o object) [
        | inl same ↦ has_here old.again new.again object updates o same
        | inr ne ↦ elim is [
          | inl has ↦ has_there old.again new.again object updates o ne ∙ has
          | inr a ↦ absurd (ne ((again_one old.objects.items object o).0 a).0)
        ]
      ],
    );
    heads = heads;
    names = names;
  } where
    on : list_any (nat_eq object) old.objects.items ≡ true
    on = sym (knows object) ∙ is_known

-- ---- the rest of them

-- the first of those that are named were put, and these are left
pub record IsPutting (first : WalkState) (named : List ℕ) (now : WalkState) (rest : List ℕ) : Type 0 where
  pub objects : with_new now.objects.items rest ≡ with_new first.objects.items named
  pub knows : Knows now
  pub again : (o : ℕ) → (HasAgain now o ⊎ IsAgain now.objects.items rest o) ↔ (HasAgain first o ⊎ IsAgain first.objects.items named o)
  pub heads : now.heads ≡ first.heads
  pub names : now.names ≡ first.names

pub put_none : (first : WalkState) (named : List ℕ) → Knows first → IsPutting first named first named
put_none first named knows = record { objects = refl; knows = knows; again = λ o. (λ x. x, λ x. x); heads = refl; names = refl }

pub put_next : (first : WalkState) (named : List ℕ) (now : WalkState) (y : ℕ) (rest : List ℕ) (next : WalkState) → IsPutting first named now (y ∷ rest) → Puts (y ∷ []) now next → IsPutting first named next rest
put_next first named now y rest next p one = record {
  objects = ap (λ (l : List ℕ). with_new l rest) one.objects ∙ sym (with_new_first now.objects.items y rest) ∙ p.objects;
  knows = one.knows;
  again = λ o. (λ is. (p.again o).0 (back o is), λ is. forth o ((p.again o).1 is));
  heads = one.heads ∙ p.heads;
  names = one.names ∙ p.names;
} where
  back : (o : ℕ) → HasAgain next o ⊎ IsAgain next.objects.items rest o → HasAgain now o ⊎ IsAgain now.objects.items (y ∷ rest) o
  back o (inl has) = elim ((one.again o).0 has) [
    | inl was ↦ inl was
    | inr a ↦ inr ((again_first now.objects.items y rest o).1 (inl ((again_one now.objects.items y o).0 a)))
  ]
  back o (inr a) = inr ((again_first now.objects.items y rest o).1 (inr (subst (λ (l : List ℕ). IsAgain l rest o) one.objects a)))

  forth : (o : ℕ) → HasAgain now o ⊎ IsAgain now.objects.items (y ∷ rest) o → HasAgain next o ⊎ IsAgain next.objects.items rest o
  forth o (inl has) = inl ((one.again o).1 (inl has))
  forth o (inr a) = elim ((again_first now.objects.items y rest o).0 a) [
    | inl is ↦ inl ((one.again o).1 (inr ((again_one now.objects.items y o).1 is)))
    | inr later ↦ inr (subst (λ (l : List ℕ). IsAgain l rest o) (sym one.objects) later)
  ]

pub put_all : (first : WalkState) (named : List ℕ) (last : WalkState) (rest : List ℕ) → rest ≡ [] → IsPutting first named last rest → Puts named first last
put_all first named last rest none p = record {
  objects = ap (with_new last.objects.items) (sym none) ∙ p.objects;
  knows = p.knows;
  again = λ o. (λ has. (p.again o).0 (inl has), λ is. elim ((p.again o).1 is) [ inl has ↦ has | inr a ↦ absurd (again_none last.objects.items o (subst (λ (r : List ℕ). IsAgain last.objects.items r o) none a)) ]);
  heads = p.heads;
  names = p.names;
}

-- ---- the header of the object that names them

pub visits : (o : ℕ) (visited : Visited) (old mid new : WalkState) → Puts visited.named.items old mid → new.objects ≡ mid.objects → new.known ≡ mid.known → new.again ≡ mid.again
    → table.Updates nat_cmp mid.heads new.heads o (Some visited.head) → new.names.items ≡ mid.names.items ++ named_in o visited.named.items → Visits o visited old new
visits o visited old mid new p objects known again updates names = record {
  objects = ap (λ (v : Vec ℕ). v.items) objects ∙ p.objects;
  knows = λ q. ap (λ (s : BTreeSet ℕ). set.contains nat_cmp s q) known ∙ p.knows q ∙ ap (λ (v : Vec ℕ). list_any (nat_eq q) v.items) (sym objects);
  again = λ q. (λ has. (p.again q).0 (ap (λ (s : BTreeSet ℕ). set.contains nat_cmp s q) (sym again) ∙ has), λ is. ap (λ (s : BTreeSet ℕ). set.contains nat_cmp s q) again ∙ (p.again q).1 is);
  here = updates.0 o ∙ cond-true _ _ _ (at_same o o refl);
  others = λ q ne. updates.0 q ∙ cond-false _ _ _ (not_at o q (λ same. true≢false (sym (eq-eqb q o same) ∙ ne))) ∙ ap (λ (hs : BTreeMap ℕ Head). table.get nat_cmp hs q) p.heads;
  names = names ∙ ap (λ (v : Vec NamedObject). v.items ++ named_in o visited.named.items) p.names;
}
