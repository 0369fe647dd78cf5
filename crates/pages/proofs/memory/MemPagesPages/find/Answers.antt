use Rattle.std.proofs.Common.{◌≡◌, ◌∙◌, ℕ, List, [], Some, None, slice_get, sym, ap, subst}
use Rattle.pages.specs.Maps.{IsPageOf, IsFirstOf, with_pages, no_pages}
use Rattle.pages.specs.laws.Maps.{first_here, page_elsewhere}
use Rattle.pages.specs.MemoryState.{bytes_or}
use Rattle.flash_tree.specs.declared.place.FreshPage.{FreshPage}
use Rattle.pages.proofs.memory.MemPagesPages.find.Goals as goal

-- the first page of a key is the one that it has
there : (items : List FreshPage) (o c place : ℕ) (blank : List ℕ) → IsFirstOf items o c place → with_pages items no_pages o c ≡ Some (bytes_or (slice_get items place) blank)
there items o c place blank first =
    first_here items no_pages o c place first.0.page first.0.there first.0.object first.0.chunk first.1
    ∙ ap (λ x. Some (bytes_or x blank)) (sym first.0.there)

-- and so it has one
not_absent : (items : List FreshPage) (o c place : ℕ) → IsFirstOf items o c place → with_pages items no_pages o c ≡ None → ⊥
not_absent items o c place first none =
    let both : None ≡ Some (bytes_or (slice_get items place) []) = sym none ∙ there items o c place [] first in
    absurd cc

pub returns-in_ok-look_up-in-Some-clause-page : goal.returns-in_ok-look_up-in-Some-clause-page
returns-in_ok-look_up-in-Some-clause-page c = λ sound.
    let items : List FreshPage = c.args.self.now.pages.items in
    let first : IsFirstOf items c.args.key.object c.args.key.chunk c.in-Some.place =
    subst (λ (ps : List FreshPage). IsFirstOf ps c.args.key.object c.args.key.chunk c.in-Some.place) c.deref.ensures.value (rw c.in-Some.is at c.place_of.ensures.first) in
    let lent : bytes_or (slice_get items c.in-Some.place) c.args.self.now.blank.items ≡ bytes_or (slice_get c.look_up.new.self.pages.items c.look_up.new.self.found) c.look_up.new.self.blank.items =
    ap (λ (n : ℕ). bytes_or (slice_get items n) c.args.self.now.blank.items) (sym c.in_ok-look_up-in-Some.ensures.found)
    ∙ ap (λ (ps : List FreshPage). bytes_or (slice_get ps c.look_up.new.self.found) c.args.self.now.blank.items) (sym (ap (λ v. v.items) c.look_up.ensures.pages))
    ∙ ap (λ (xs : List ℕ). bytes_or (slice_get c.look_up.new.self.pages.items c.look_up.new.self.found) xs) (sym (ap (λ v. v.items) c.look_up.ensures.blank)) in
    there items c.args.key.object c.args.key.chunk c.in-Some.place c.args.self.now.blank.items first
    ∙ ap Some lent

pub returns-in_ok-look_up-in-Some-clause-absent : goal.returns-in_ok-look_up-in-Some-clause-absent
returns-in_ok-look_up-in-Some-clause-absent c = λ sound none.
    let first : IsFirstOf c.args.self.now.pages.items c.args.key.object c.args.key.chunk c.in-Some.place =
    subst (λ (ps : List FreshPage). IsFirstOf ps c.args.key.object c.args.key.chunk c.in-Some.place) c.deref.ensures.value (rw c.in-Some.is at c.place_of.ensures.first) in
    absurd (not_absent c.args.self.now.pages.items c.args.key.object c.args.key.chunk c.in-Some.place first none)

pub returns-in_err-look_up-in-Some-clause-absent : goal.returns-in_err-look_up-in-Some-clause-absent
returns-in_err-look_up-in-Some-clause-absent c = λ sound none.
    let first : IsFirstOf c.args.self.now.pages.items c.args.key.object c.args.key.chunk c.in-Some.place =
    subst (λ (ps : List FreshPage). IsFirstOf ps c.args.key.object c.args.key.chunk c.in-Some.place) c.deref.ensures.value (rw c.in-Some.is at c.place_of.ensures.first) in
    absurd (not_absent c.args.self.now.pages.items c.args.key.object c.args.key.chunk c.in-Some.place first none)

pub returns-in-None-clause-page : goal.returns-in-None-clause-page
returns-in-None-clause-page c = λ sound.
    let none = subst (λ (ps : List FreshPage). (k : ℕ) → IsPageOf ps c.args.key.object c.args.key.chunk k → ⊥) c.deref.ensures.value (rw c.in-None.is at c.place_of.ensures.none) in
    page_elsewhere c.args.self.now.pages.items no_pages c.args.key.object c.args.key.chunk none
