-- What is found of one object.
use Rattle.std.specs.Prelude.{◌≡◌, ◌≤◌, ℕ, true, List, [], Option, Some, None, IsSome, IsNone}
use Rattle.std.proofs.Common.{refl, sym, ◌∙◌, subst, inl, inr}
use Rattle.page_tags.specs.Headers.{is_present}
use Rattle.page_tags.specs.declared.header.ObjectKind.TheVariants as kinds
use Rattle.flash_tree.specs.Mount.{AreSlots, LacksSlots, Leads, Finds}
use Rattle.flash_tree.specs.Tree.{HasHeader}
use Rattle.pages.specs.Maps.{has}
use Rattle.pages.specs.State.{PagesState}
use Rattle.volume_terms.specs.Sizes.{Sizes}
use Rattle.tree_walk.specs.Heads.{SaysHead}
use Rattle.tree_walk.specs.Broken.{BreaksSlots, IsBrokenIn, StopsAt}
use Rattle.tree_walk.specs.SlotLists.{NamesFrom}
use Rattle.tree_walk.specs.declared.broken.Broken.{Broken}
use Rattle.tree_walk.specs.declared.broken.Rule.TheVariants as rules
use Rattle.tree_walk.proofs.Breaking.{lacks_slots, slots_break, slots_damage}
use Rattle.tree_walk.specs.declared.head.Head.{Head}

some_page : (x : Option (List ℕ)) → IsSome x → (page : List ℕ) × (x ≡ Some page)
some_page (Some page) is = (page, refl)
some_page None is = absurd cc

no_page : (x : Option (List ℕ)) → IsNone x → (page : List ℕ) → x ≡ Some page → ⊥
no_page (Some p) is page at = cc
no_page None is page at = cc

module _ (z : Sizes) (p : PagesState) (o : ℕ) (head : Head) (says : SaysHead z (has p.present) o head) where
  pub file_there : head.kind ≡ kinds.File → ((n : ℕ) → 1 ≤ n → is_present head.bits.items n ≡ true → IsSome (p.present o n)) → Finds z (has p.present) o (Leads [])
  file_there file all =
      inl (says.0, says.1, sym says.2.kind ∙ file, λ n from present. some_page (p.present o n) (all n from (says.2.bits n from ∙ present)), refl)

  pub file_lacks : head.kind ≡ kinds.File → (n : ℕ) → 1 ≤ n → is_present head.bits.items n ≡ true → IsNone (p.present o n)
      → StopsAt z (has p.present) o (record { rule = rules.ChunkMissing; key = record { object = o; chunk = n } })
  file_lacks file n from present none =
      let kind = sym says.2.kind ∙ file in
      let bit = sym (says.2.bits n from) ∙ present in
      let lacks = no_page (p.present o n) none in
      (refl, (lacks, (says.0, says.1, inr (inl (kind, from, bit)))), inr (inr (refl, (says.0, says.1, inl (kind, (n, from, bit, lacks))))))

  pub directory_there : head.kind ≡ kinds.Directory → (objects : List ℕ) → NamesFrom z p.present o head.length objects → Finds z (has p.present) o (Leads objects)
  directory_there directory objects (slots, are, is) =
      inr (says.0, says.1, sym says.2.kind ∙ directory, slots, subst (λ n. AreSlots z (has p.present) o n slots) says.2.length_is are, is)

  pub directory_lacks : head.kind ≡ kinds.Directory → (b : Broken) → IsBrokenIn z p.present o head.length b → StopsAt z (has p.present) o b
  directory_lacks directory b (object, breaks) =
      let kind = sym says.2.kind ∙ directory in
      let slots = subst (λ n. BreaksSlots z (has p.present) n b.key b.rule) says.2.length_is breaks in (
        object,
        slots_break z (has p.present) b.key says.0 (subst (λ x. HasHeader z (has p.present) x says.0) (sym object) says.1) kind b.rule slots,
        inr (inr (
          slots_damage z (has p.present) says.0.length b.key b.rule slots,
          (says.0, says.1, inr (kind, subst (λ x. LacksSlots z (has p.present) x says.0.length) object (lacks_slots z (has p.present) says.0.length b.key b.rule slots))),
        )),
      )
