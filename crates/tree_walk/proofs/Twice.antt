-- Of a tree that was gone through wholly: a directory that was named again is named by two slots, and the other way round.
use Rattle.std.specs.Prelude.{◌≡◌, ◌<◌, ℕ, List, [], ◌∷◌, length, slice_get, Some}
use Rattle.std.proofs.Common.{refl, sym, ◌∙◌, ap, subst, inl, inr, arith}
use Rattle.std.proofs.lemmas.Bool.{cases_order}
use Rattle.std.proofs.lemmas.Option.{slice_get_within}
use Rattle.page_tags.specs.Headers.{Fields}
use Rattle.page_tags.specs.Slots.{Entry}
use Rattle.flash_tree.specs.Tree.{NewestMap, IsSingle, IsPageSize}
use Rattle.flash_tree.specs.laws.Finding.{same_header, kinds_apart}
use Rattle.flash_tree.specs.laws.OneTree.{one_slot}
use Rattle.flash_tree.specs.Mount.{Leads, Finds, Wholly, GoesThrough, ends, IsSlotIn, NamesTwice}
use Rattle.volume_terms.specs.Sizes.{Sizes, root_number}
use Rattle.volume_terms.specs.laws.List.{at_mapped, mapped_at, slice_get_there}
use Rattle.tree_walk.specs.Broken.{IsNamedAgain}
use Rattle.tree_walk.specs.Walks.{IsNamedAt, IsNamedTwice, IsGoing, IsDirectoryAgain}
use Rattle.tree_walk.specs.declared.walking.WalkState.{WalkState}

module _ (z : Sizes) (size : IsPageSize z.page_bytes) (m : NewestMap) (single : IsSingle m) (n : ℕ) (walk : WalkState) (going : IsGoing z m n walk) (all : length walk.objects.items ≡ n) where
  abbrev list : List ℕ
  list = walk.objects.items

  pub gone_through : GoesThrough z m (root_number ∷ []) 0 (Wholly list)
  gone_through = going.so_far (Wholly list) (ends all)

  -- a name stands in a slot
  slot_in : (p i x : ℕ) (a : IsNamedAt z m list p i x) → (e : Entry) × IsSlotIn z m list a.object i e × (e.object ≡ x)
  slot_in p i x a = go a.named a.lookups a.there where
    go : (named : List ℕ) → Finds z m a.object (Leads named) → slice_get named i ≡ Some x → (e : Entry) × IsSlotIn z m list a.object i e × (e.object ≡ x)
    go named (inl (f, has, kind, chunks, none)) is = absurd (nothing (ap (λ xs. slice_get xs i) (sym none) ∙ is)) where
      nothing : slice_get [] i ≡ Some x → ⊥
      nothing at = cc
    go named (inr (f, has, kind, slots, are, objects)) is =
        let e = at_mapped (λ (entry : Entry). entry.object) slots i x (ap (λ xs. slice_get xs i) (sym objects) ∙ is) in
        (e.0, record { place = p; listed = a.listed; fields = f; has = has; kind = kind; within = omega (arith, are.size, slice_get_within slots i e.0 e.1); slot = are.each i e.0 e.1 }, e.2)

  -- and a slot is a name
  in_slot : (d i : ℕ) (e : Entry) (s : IsSlotIn z m list d i e) → IsNamedAt z m list s.place i e.object
  in_slot d i e s =
      let w = going.whole s.place d (omega (arith, all, slice_get_within list s.place d s.listed)) s.listed in
      record { object = d; listed = s.listed; named = w.0; lookups = w.1; there = go w.0 w.1 }
    where
      go : (named : List ℕ) → Finds z m d (Leads named) → slice_get named i ≡ Some e.object
      go named (inl (f, has, kind, chunks, none)) = absurd (kinds_apart z size m single d f s.fields has s.has kind s.kind)
      go named (inr (f, has, kind, slots, are, objects)) =
          let fields : f ≡ s.fields = same_header z size m single d f s.fields has s.has in
          let len : f.length ≡ s.fields.length = ap (λ (x : Fields). x.length) fields in
          let x = slice_get_there slots i (omega (arith, are.size, len, s.within)) in
          let one : x.0 ≡ e = one_slot z size.most m single d i x.0 e (are.each i x.0 x.1) s.slot in
          ap (λ xs. slice_get xs i) objects ∙ mapped_at (λ (entry : Entry). entry.object) slots i e (x.1 ∙ ap Some one)

  pub twice_names : (o : ℕ) → IsDirectoryAgain walk o → IsNamedAgain z m o
  twice_names o d =
      let w = (going.again o).0 d.again in
      let says = going.says o d.head d.has in
      let s = slot_in w.p w.i o w.first in
      let t = slot_in w.q w.j o w.second in
      let twice : NamesTwice z m list = record {
        named = o;
        fields = says.0;
        has = says.1;
        kind = sym says.2.kind ∙ d.kind;
        directory = w.first.object;
        other = w.second.object;
        i = w.i;
        j = w.j;
        entry = s.0;
        other_entry = t.0;
        first = s.1;
        second = t.1;
        leads = s.2;
        other_leads = t.2;
        apart = elim w.before [
          | inl lt ↦ inl (λ same. let one : w.p ≡ w.q = going.once w.p w.q w.second.object (w.first.listed ∙ ap Some same) w.second.listed in absurd (omega (arith, one, lt)))
          | inr places ↦ inr (λ same. absurd (omega (arith, same, places.1)))
        ];
      } in
      record { list = list; through = gone_through; twice = twice; named = refl }

  pub names_twice : NamesTwice z m list → (o : ℕ) × IsDirectoryAgain walk o
  names_twice t =
      let a = subst (IsNamedAt z m list t.first.place t.i) t.leads (in_slot t.directory t.i t.entry t.first) in
      let b = subst (IsNamedAt z m list t.second.place t.j) t.other_leads (in_slot t.other t.j t.other_entry t.second) in
      let p_lt : t.first.place < n = omega (arith, all, slice_get_within list t.first.place t.directory t.first.listed) in
      let q_lt : t.second.place < n = omega (arith, all, slice_get_within list t.second.place t.other t.second.listed) in
      let twice : IsNamedTwice z m list n t.named = elim (cases_order t.first.place t.second.place) [
        | inl same ↦ elim t.apart [
          | inl ne ↦
              let two : Some t.directory ≡ Some t.other = sym t.first.listed ∙ ap (slice_get list) same ∙ t.second.listed in
              let one : t.directory ≡ t.other = cc in
              absurd (ne one)
          | inr ne ↦ elim (cases_order t.i t.j) [
            | inl one ↦ absurd (ne one)
            | inr (inl lt) ↦ record { p = t.first.place; i = t.i; q = t.second.place; j = t.j; within = q_lt; first = a; second = b; before = inr (same, lt) }
            | inr (inr gt) ↦ record { p = t.second.place; i = t.j; q = t.first.place; j = t.i; within = p_lt; first = b; second = a; before = inr (sym same, gt) }
          ]
        ]
        | inr (inl lt) ↦ record { p = t.first.place; i = t.i; q = t.second.place; j = t.j; within = q_lt; first = a; second = b; before = inl lt }
        | inr (inr gt) ↦ record { p = t.second.place; i = t.j; q = t.first.place; j = t.i; within = p_lt; first = b; second = a; before = inl gt }
      ] in
      let on = going.known t.named (record { p = t.first.place; i = t.i; within = p_lt; at = a }) in
      let head = going.heads on.0 t.named (omega (arith, all, slice_get_within list on.0 t.named on.1)) on.1 in
      let says = going.says t.named head.0 head.1 in
      let same : says.0 ≡ t.fields = same_header z size m single t.named says.0 t.fields says.1 t.has in
      (t.named, record { known = on; again = (going.again t.named).1 twice; head = head.0; has = head.1; kind = says.2.kind ∙ ap (λ (f : Fields). f.kind) same ∙ t.kind })
