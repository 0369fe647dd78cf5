-- A walk goes on by one object.
use Rattle.std.specs.Prelude.{◌≡◌, ◌≢◌, ◌⊎◌, ◌<◌, ◌≤◌, ◌+◌, ℕ, zero, suc, List, [], ◌∷◌, slice_get, Some}
use Rattle.std.proofs.Common.{refl, sym, ◌∙◌, ap, subst, inl, inr, arith}
use Rattle.std.proofs.lemmas.Bool.{cases_eq, cases_lt, ne_eqb}
use Rattle.std.specs.BTreeMap as table
use Rattle.std.specs.Ordering.{nat_cmp}
use Rattle.std.proofs.lemmas.Option.{slice_get_within}
use Rattle.page_tags.specs.Slots.{Entry}
use Rattle.flash_tree.specs.Tree.{NewestMap, IsSingle, IsPageSize}
use Rattle.flash_tree.specs.laws.Finding.{one_finding}
use Rattle.flash_tree.specs.Mount.{Leads, Finds, GoesThrough, goes}
use Rattle.volume_terms.specs.Sizes.{Sizes, root_number}
use Rattle.volume_terms.specs.laws.List.{at_mapped, slice_get_there}
use Rattle.tree_walk.specs.Broken.{ComesTo, comes_after}
use Rattle.tree_walk.specs.Heads.{SaysHead}
use Rattle.tree_walk.specs.Trees.{AreNamesOf}
use Rattle.tree_walk.specs.Visits.{IsVisited}
use Rattle.tree_walk.specs.Walks.{IsOn, IsOnce, IsAgain, HasAgain, HasHead, Begins, Visits, IsNamedAt, IsNamedBefore, IsNamedTwice, IsGoing}
use Rattle.tree_walk.specs.declared.head.Head.{Head}
use Rattle.tree_walk.specs.declared.object.Visited.{Visited}
use Rattle.tree_walk.specs.declared.tree.NamedObject.{NamedObject}
use Rattle.tree_walk.specs.declared.walking.WalkState.{WalkState}
use Rattle.tree_walk.specs.laws.Lists.{IsAdded, added}

-- the root is not named
at_least_2 : (z : Sizes) (m : NewestMap) (o : ℕ) (named : List ℕ) → Finds z m o (Leads named) → (i x : ℕ) → slice_get named i ≡ Some x → 2 ≤ x
at_least_2 z m o named (inl (f, has, kind, chunks, none)) i x is = absurd (nothing (ap (λ xs. slice_get xs i) (sym none) ∙ is)) where
  nothing : slice_get [] i ≡ Some x → ⊥
  nothing at = cc
at_least_2 z m o named (inr (f, has, kind, slots, are, all)) i x is =
    let e = at_mapped (λ (entry : Entry). entry.object) slots i x (ap (λ xs. slice_get xs i) (sym all) ∙ is) in
    let slot = are.each i e.0 e.1 in
    omega (arith, slot.2.slot.object.0, e.2)

once_one : (x : ℕ) → IsOnce (x ∷ [])
once_one x zero zero o at at' = refl
once_one x zero (suc j) o at at' = absurd cc
once_one x (suc i) j o at at' = absurd cc

-- nothing was visited yet
pub begins_going : (z : Sizes) (m : NewestMap) (walk : WalkState) → Begins walk → IsGoing z m 0 walk
begins_going z m walk b = record {
  so_far = λ end on. subst (λ l. GoesThrough z m l 0 end) b.objects on;
  comes = λ o on. subst (λ l. ComesTo z m l 0 o) b.objects on;
  within = omega arith;
  begins = ap (λ l. slice_get l 0) b.objects;
  once = subst IsOnce (sym b.objects) (once_one root_number);
  whole = λ p o lt. absurd (omega (arith, lt));
  named = λ p o from at. absurd (alone p o from (ap (λ l. slice_get l p) (sym b.objects) ∙ at));
  known = λ o before. absurd (omega (arith, before.within));
  again = λ o. (λ has. absurd (b.again o has), λ twice. absurd (omega (arith, twice.within)));
  heads = λ p o lt. absurd (omega (arith, lt));
  says = λ o head has. absurd (b.heads o head has);
  only = λ o head has. absurd (b.heads o head has);
  names = b.names;
} where
  alone : (p o : ℕ) → 1 ≤ p → slice_get (root_number ∷ []) p ≡ Some o → ⊥
  alone zero o from at = omega (arith, from)
  alone (suc p) o from at = cc

module _ (z : Sizes) (size : IsPageSize z.page_bytes) (m : NewestMap) (single : IsSingle m) (n o : ℕ) (old : WalkState) (visited : Visited) (new : WalkState)
    (going : IsGoing z m n old) (at : slice_get old.objects.items n ≡ Some o) (v : IsVisited z m o visited) (t : Visits o visited old new) where
  abbrev list : List ℕ
  list = old.objects.items

  abbrev named : List ℕ
  named = visited.named.items

  b : IsAdded list named new.objects.items
  b = subst (IsAdded list named) (sym t.objects) (added list named)

  here : slice_get new.objects.items n ≡ Some o
  here = b.stays n o at

  -- the first of the list are what they were
  same_at : (p x : ℕ) → p < n + 1 → slice_get new.objects.items p ≡ Some x → slice_get list p ≡ Some x
  same_at p x lt is =
      let y = slice_get_there list p (omega (arith, lt, slice_get_within list n o at)) in
      let two : Some y.0 ≡ Some x = sym (b.stays p y.0 y.1) ∙ is in
      let one : y.0 ≡ x = cc in
      y.1 ∙ ap Some one

  is_here : (p x : ℕ) → n ≤ p → p < n + 1 → slice_get new.objects.items p ≡ Some x → x ≡ o
  is_here p x low lt is =
      let place : n ≡ p = omega (arith, low, lt) in
      let two : Some x ≡ Some o = sym (same_at p x lt is) ∙ ap (slice_get list) (sym place) ∙ at in
      cc

  later_at : (p i x : ℕ) → IsNamedAt z m list p i x → IsNamedAt z m new.objects.items p i x
  later_at p i x a = record { object = a.object; listed = b.stays p a.object a.listed; named = a.named; lookups = a.lookups; there = a.there }

  earlier_at : (p i x : ℕ) → p < n → IsNamedAt z m new.objects.items p i x → IsNamedAt z m list p i x
  earlier_at p i x lt a = record { object = a.object; listed = same_at p a.object (omega (arith, lt)) a.listed; named = a.named; lookups = a.lookups; there = a.there }

  -- the object itself names what was found
  named_here : (i x : ℕ) → slice_get named i ≡ Some x → IsNamedAt z m new.objects.items n i x
  named_here i x is = record { object = o; listed = here; named = named; lookups = v.leads; there = is }

  here_named : (p i x : ℕ) → n ≤ p → p < n + 1 → IsNamedAt z m new.objects.items p i x → slice_get named i ≡ Some x
  here_named p i x low lt a =
      let object : a.object ≡ o = is_here p a.object low lt a.listed in
      let two : Leads a.named ≡ Leads named = one_finding z size m single o _ _ (subst (λ k. Finds z m k (Leads a.named)) object a.lookups) v.leads in
      let same : a.named ≡ named = cc in
      ap (λ (xs : List ℕ). slice_get xs i) (sym same) ∙ a.there

  whole : (p x : ℕ) → p < n + 1 → slice_get new.objects.items p ≡ Some x → (ns : List ℕ) × Finds z m x (Leads ns)
  whole p x lt is = elim (cases_lt p n) [
    | inl before ↦ going.whole p x before (same_at p x lt is)
    | inr low ↦ (named, subst (λ k. Finds z m k (Leads named)) (sym (is_here p x low lt is)) v.leads)
  ]

  named_before : (p x : ℕ) → 1 ≤ p → slice_get new.objects.items p ≡ Some x → IsNamedBefore z m new.objects.items (n + 1) x
  named_before p x from is = elim (b.only p x is) [
    | inl there ↦ let w = going.named p x from there in record { p = w.p; i = w.i; within = omega (arith, w.within); at = later_at w.p w.i x w.at }
    | inr (j, is') ↦ record { p = n; i = j; within = omega arith; at = named_here j x is' }
  ]

  known : (x : ℕ) → IsNamedBefore z m new.objects.items (n + 1) x → IsOn new.objects.items x
  known x w = elim (cases_lt w.p n) [
    | inl before ↦
        let on = going.known x (record { p = w.p; i = w.i; within = before; at = earlier_at w.p w.i x before w.at }) in
        (on.0, b.stays on.0 x on.1)
    | inr low ↦ b.on w.i x (here_named w.p w.i x low w.within w.at)
  ]

  -- named again by this object, or twice before
  to_twice : (x : ℕ) → HasAgain old x ⊎ IsAgain list named x → IsNamedTwice z m new.objects.items (n + 1) x
  to_twice x (inl has) =
      let w = (going.again x).0 has in
      record { p = w.p; i = w.i; q = w.q; j = w.j; within = omega (arith, w.within); first = later_at w.p w.i x w.first; second = later_at w.q w.j x w.second; before = w.before }
  to_twice x (inr a) = go a.place a.there a.before where
    on_list : (k p : ℕ) → slice_get named k ≡ Some x → slice_get list p ≡ Some x → IsNamedTwice z m new.objects.items (n + 1) x
    on_list k zero is on =
        let two : Some root_number ≡ Some x = sym going.begins ∙ on in
        let root : root_number ≡ x = cc in
        absurd (omega (arith, root, at_least_2 z m o named v.leads k x is))
    on_list k (suc p) is on =
        let w = going.named (suc p) x (omega arith) on in
        record { p = w.p; i = w.i; q = n; j = k; within = omega arith; first = later_at w.p w.i x w.at; second = named_here k x is; before = inl w.within }

    go : (k : ℕ) → slice_get named k ≡ Some x → IsOn list x ⊎ ((i : ℕ) × (i < k) × (slice_get named i ≡ Some x)) → IsNamedTwice z m new.objects.items (n + 1) x
    go k is (inl (p, on)) = on_list k p is on
    go k is (inr (i, lt, before)) = record { p = n; i = i; q = n; j = k; within = omega arith; first = named_here i x before; second = named_here k x is; before = inr (refl, lt) }

  from_twice : (x : ℕ) → IsNamedTwice z m new.objects.items (n + 1) x → HasAgain old x ⊎ IsAgain list named x
  from_twice x w = elim (cases_lt w.q n) [
    | inl early ↦
        let p_early : w.p < n = elim w.before [ inl lt ↦ omega (arith, lt, early) | inr same ↦ omega (arith, same.0, early) ] in
        inl ((going.again x).1 (record { p = w.p; i = w.i; q = w.q; j = w.j; within = early; first = earlier_at w.p w.i x p_early w.first; second = earlier_at w.q w.j x early w.second; before = w.before }))
    | inr low ↦ inr (record {
      place = w.j;
      there = here_named w.q w.j x low w.within w.second;
      before = elim w.before [
        | inl lt ↦
            let p_early : w.p < n = omega (arith, lt, w.within) in
            inl (going.known x (record { p = w.p; i = w.i; within = p_early; at = earlier_at w.p w.i x p_early w.first }))
        | inr same ↦ inr (w.i, same.1, here_named w.p w.i x (omega (arith, low, same.0)) (omega (arith, w.within, same.0)) w.first)
      ];
    })
  ]

  heads : (p x : ℕ) → p < n + 1 → slice_get new.objects.items p ≡ Some x → (head : Head) × HasHead new x head
  heads p x lt is = elim (cases_eq x o) [
    | inl same ↦ (visited.head, subst (λ k. HasHead new k visited.head) (sym same) t.here)
    | inr ne ↦ elim (cases_lt p n) [
      | inl before ↦ let h = going.heads p x before (same_at p x lt is) in (h.0, t.others x (ne_eqb x o ne) ∙ h.1)
      | inr low ↦ absurd (ne (is_here p x low lt is))
    ]
  ]

  -- the names of the first objects are what they were
  names_stay : (k : ℕ) (names : List NamedObject) → AreNamesOf z m list k names → AreNamesOf z m new.objects.items k names
  names_stay zero names are = are
  names_stay (suc k) names (x, ns, before, is, lookups, are, all) = (x, ns, before, b.stays k x is, lookups, names_stay k before are, all)

  names_on : AreNamesOf z m new.objects.items (n + 1) new.names.items
  names_on =
      let more : AreNamesOf z m new.objects.items (suc n) new.names.items = (o, named, old.names.items, here, v.leads, names_stay n old.names.items going.names, t.names) in
      let one : suc n ≡ n + 1 = omega arith in
      subst (λ k. AreNamesOf z m new.objects.items k new.names.items) one more

  was : (x : ℕ) (head : Head) → x ≢ o → HasHead new x head → HasHead old x head
  was x head ne has = sym (t.others x (ne_eqb x o ne)) ∙ has

  pub goes_on : IsGoing z m (n + 1) new
  goes_on = record {
    so_far = λ end on. going.so_far end (goes o named at v.leads (subst (λ l. GoesThrough z m l (n + 1) end) t.objects on));
    comes = λ x after. going.comes x (comes_after o named at v.leads (subst (λ l. ComesTo z m l (n + 1) x) t.objects after));
    within = omega (arith, slice_get_within new.objects.items n o here);
    begins = b.stays 0 root_number going.begins;
    once = b.once going.once;
    whole = whole;
    named = named_before;
    known = known;
    again = λ x. (λ has. to_twice x ((t.again x).0 has), λ twice. (t.again x).1 (from_twice x twice));
    heads = heads;
    says = λ x head has. elim (cases_eq x o) [
      | inl same ↦
          let two : Some visited.head ≡ Some head = sym t.here ∙ ap (λ k. table.get nat_cmp new.heads k) (sym same) ∙ has in
          let one : visited.head ≡ head = cc in
          subst (λ k. SaysHead z m k head) (sym same) (subst (SaysHead z m o) one v.head)
      | inr ne ↦ going.says x head (was x head ne has)
    ];
    only = λ x head has. elim (cases_eq x o) [
      | inl same ↦ (n, omega arith, here ∙ ap Some (sym same))
      | inr ne ↦ let w = going.only x head (was x head ne has) in (w.0, omega (arith, w.1), b.stays w.0 x w.2)
    ];
    names = names_on;
  }
