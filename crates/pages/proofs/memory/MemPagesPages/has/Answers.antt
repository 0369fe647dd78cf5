use Rattle.std.specs.Prelude.{◌↔◌, Bool, IfNone, IfSome, IsSome, IsTrue, is_some}
use Rattle.std.proofs.Common.{◌≡◌, ◌∙◌, ℕ, List, Option, true, false, Some, None, refl, sym, subst}
use Rattle.flash_tree.specs.declared.place.FreshPage.{FreshPage}
use Rattle.pages.specs.Maps.{IsPageOf, IsFirstOf, with_pages, no_pages}
use Rattle.pages.specs.laws.Maps.{first_here, page_elsewhere}
use Rattle.pages.proofs.memory.MemPagesPages.has.Goals as goal

-- a key has a page where one of the pages is its first
has_first : (items : List FreshPage) (o c : ℕ) (m : Option ℕ) (result : Bool) → result ≡ is_some m → IfSome m (IsFirstOf items o c) → IfNone m ((i : ℕ) → IsPageOf items o c i → ⊥)
    → IsTrue result ↔ IsSome (with_pages items no_pages o c)
has_first items o c None result is first none = (
  λ yes. let two : false ≡ true = sym is ∙ yes in absurd cc,
  λ some.
      let no' : IsSome {T = List ℕ} None = subst (λ (n : Option (List ℕ)). IsSome n) (page_elsewhere items no_pages o c none) some in
      absurd cc,
)
has_first items o c (Some i) result is first none = (
  λ _. subst (λ (n : Option (List ℕ)). IsSome n) (sym (first_here items no_pages o c i first.0.page first.0.there first.0.object first.0.chunk first.1)) refl,
  λ _. is,
)

pub returns : goal.returns
returns c = λ sound.
    has_first c.args.self.now.pages.items c.args.key.object c.args.key.chunk c.place_of.result c.is_some.result c.is_some.ensures
    (subst (λ (ps : List FreshPage). IfSome c.place_of.result (IsFirstOf ps c.args.key.object c.args.key.chunk)) c.deref.ensures.value c.place_of.ensures.first)
    (subst (λ (ps : List FreshPage). IfNone c.place_of.result ((i : ℕ) → IsPageOf ps c.args.key.object c.args.key.chunk i → ⊥)) c.deref.ensures.value c.place_of.ensures.none)
