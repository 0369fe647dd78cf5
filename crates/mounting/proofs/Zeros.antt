-- What is reported of committed pages that are read where they can be.
use Rattle.std.specs.Prelude.{◌≡◌, ◌⊎◌, ◌↔◌, ◌||◌, ◌≤◌, ◌+◌, ℕ, Bool, true, false, not, List, Option, Some, None, IsSome, IsTrue, is_some, Result, Ok, Err, IfOk, IfErr, OnOk}
use Rattle.std.specs.Option.{option_map}
use Rattle.std.proofs.Common.{refl, sym, ◌∙◌, ap, subst, inl, inr, arith}
use Rattle.std.proofs.lemmas.Bool.{cases_Bool, or_left}
use Rattle.nand_model.specs.Calls.{Device}
use Rattle.nand_model.specs.Changes.{OnlyReads}
use Rattle.nand_model.specs.Flash.{Flash}
use Rattle.nand_model.specs.declared.geometry.Geometry.{Geometry}
use Rattle.flash_tree.specs.Mount.{sizes_of}
use Rattle.flash_tree.specs.laws.Place.{same_flash}
use Rattle.chunk_index.specs.declared.form.CommittedPage.{CommittedPage}
use Rattle.chunk_index.specs.declared.index.Index.{Index}
use Rattle.chunk_index.specs.Maps.{committed_pages}
use Rattle.page_store.specs.laws.Reading.{finds_seen}
use Rattle.pages.specs.Maps.{PageMap, known_pages}
use Rattle.pages.specs.State.{FailsBy, FindsPage, OnlyFinds, PagesState}
use Rattle.pages.specs.declared.store.Presence.{Presence}
use Rattle.pages.specs.declared.store.Presence.TheVariants as presences
use Rattle.tree_walk.specs.Trees.{tree_pages}
use Rattle.tree_walk.specs.declared.tree.Tree.{Tree}
use Rattle.volume_terms.specs.declared.fault.StoreFault.{StoreFault}
use Rattle.volume_terms.specs.declared.fault.StoreFault.TheVariants as faults
use Rattle.mounting.specs.Candidates.{candidate_data, candidate_pages, candidates, read_at}
use Rattle.mounting.specs.Reads.{ReadsThrough}

-- reads leave what is read
pub pages_after : (a b : Device) (x : Index) → OnlyReads a b → a.honest ≡ true → candidate_pages x b ≡ candidate_pages x a
pages_after a b x reads honest =
    ap (λ (g : Geometry). candidate_data g.bytes x b.flash) reads.lasts.geometry ∙ ap (λ (f : Flash). candidate_data a.geometry.bytes x f) (same_flash a b reads honest)

known_after : (a b : Device) (x : Index) → OnlyReads a b → known_pages b.honest (candidate_pages x b) ≡ known_pages a.honest (candidate_pages x a)
known_after a b x reads = ap (λ h. known_pages h (candidate_pages x b)) reads.lasts.honest ∙ go a.honest refl where
  go : (h : Bool) → a.honest ≡ h → known_pages h (candidate_pages x b) ≡ known_pages h (candidate_pages x a)
  go true is = pages_after a b x reads is
  go false is = refl

-- what is read of a key that is committed
here : (a : Device) (x : Index) (o c : ℕ) (at : CommittedPage) → committed_pages x o c ≡ Some at → a.honest ≡ true → known_pages a.honest (candidate_pages x a) o c ≡ Some (read_at a.geometry.bytes a.flash at)
here a x o c at is honest = ap (λ h. known_pages h (candidate_pages x a) o c) honest ∙ ap (option_map (read_at a.geometry.bytes a.flash)) is

-- one that is not committed has none
pub candidate_absent : (a : Device) (x : Index) (o c : ℕ) → committed_pages x o c ≡ None → a.honest ≡ true → known_pages a.honest (candidate_pages x a) o c ≡ None
candidate_absent a x o c is honest = ap (λ h. known_pages h (candidate_pages x a) o c) honest ∙ ap (option_map (read_at a.geometry.bytes a.flash)) is

-- a key has a page exactly where it is committed
pub has_candidate : (a : Device) (x : Index) (o c : ℕ) (m : Option CommittedPage) (result : Bool) → result ≡ is_some m → m ≡ committed_pages x o c → a.honest ≡ true
    → IsTrue result ↔ IsSome (known_pages a.honest (candidate_pages x a) o c)
has_candidate a x o c None result same at honest =
    let none : known_pages a.honest (candidate_pages x a) o c ≡ None = candidate_absent a x o c (sym at) honest in (
      λ yes'. let no' : IsTrue false = subst (λ b. IsTrue b) same yes' in absurd cc,
      λ some. let no' : IsSome {T = List ℕ} None = subst (λ (n : Option (List ℕ)). IsSome n) none some in absurd cc,
    )
has_candidate a x o c (Some k) result same at honest =
    let some : known_pages a.honest (candidate_pages x a) o c ≡ Some (read_at a.geometry.bytes a.flash k) = here a x o c k (sym at) honest in
    (λ yes'. subst (λ (n : Option (List ℕ)). IsSome n) (sym some) refl, λ _. subst (λ b. IsTrue b) (sym same) refl)

-- ---- what is said of a tree that was gone through in them

-- what is said of the pages is said of those of the device
pub said_candidates : (R : Geometry → PageMap → Type 0) (d a : Device) (x y : Index) (g : Geometry) → a ≡ d → y ≡ x → g ≡ d.geometry
    → (a.honest ≡ true → g.bytes ≡ a.geometry.bytes → R g (known_pages a.honest (candidate_pages y a))) → d.honest ≡ true → R d.geometry (candidate_pages x d)
said_candidates R d a x y g same index geometry said honest =
    let honest_is : a.honest ≡ true = ap (λ (k : Device). k.honest) same ∙ honest in
    let sizes : g.bytes ≡ a.geometry.bytes = ap (λ (k : Geometry). k.bytes) geometry ∙ sym (ap (λ (k : Device). k.geometry.bytes) same) in
    let known = subst (R g) (ap (λ h. known_pages h (candidate_pages y a)) honest_is) (said honest_is sizes) in
    subst (λ (k : Geometry). R k (candidate_pages x d)) geometry (subst (λ (i : Index). R g (candidate_pages i d)) index (subst (λ (k : Device). R g (candidate_pages y k)) same known))
