-- A mount by summaries finds the tree that is shown.
use Rattle.std.specs.Prelude.{◌≡◌, ℕ, List}
use Rattle.std.proofs.Common.{sym, ◌∙◌, ap, subst}
use mathlib.Core.Logic.{∥∥₁_elim}
use Rattle.nand_model.specs.declared.geometry.Geometry.{Geometry}
use Rattle.page_tags.specs.Headers.{Fields}
use Rattle.volume_terms.specs.Sizes.{Sizes, root_number}
use Rattle.posix_profile.specs.State.{Objects}
use Rattle.object_store.specs.Stores.{CanHave}
use Rattle.flash_tree.specs.Mount.{sizes_of, IsVolume}
use Rattle.flash_tree.specs.MountableFlash.{IsTreeFindable}
use Rattle.flash_tree.specs.Newest.{HasNewest}
use Rattle.flash_tree.specs.Tree.{InFootprint, IsSingle, Shows}
use Rattle.flash_tree.specs.laws.Newest.{one_newest}
use Rattle.flash_tree.specs.laws.OneTree.{one_header, one_tree}
use Rattle.pages.specs.State.{PagesState}
use Rattle.pages.specs.Stores.{FindsAll, BeganMountably, HasPage}
use Rattle.paged_objects.specs.Holding.{HoldsObjects}
use Rattle.paged_objects.specs.Representing.{volume_of, Shown}
use Rattle.paged_objects.specs.laws.OnFlash.{footprint_pages, shown_there}

-- the spare blocks of a volume are one number
pub one_spare : (g : Geometry) (m : ℕ → ℕ → List ℕ → Type 0) → IsSingle m → (s t : ℕ) → IsVolume g m s → IsVolume g m t → s ≡ t
one_spare g m single s t v w =
    let same : v.fields ≡ w.fields = one_header (sizes_of g s) g.most_bytes m single root_number v.fields w.fields v.has w.has in
    sym v.spare_is ∙ ap (λ (f : Fields). f.spare) same ∙ w.spare_is

module _ (z : Sizes) (p : PagesState) (tree : Objects) (shown : Shown z p tree) (begun : BeganMountably p) where
  abbrev g : Geometry
  g = p.device.geometry

  abbrev newest : ℕ → ℕ → List ℕ → Type 0
  newest = HasNewest p.device.flash

  single : IsSingle newest
  single = one_newest p.device.flash

  there : IsVolume g newest p.spare × Shows (volume_of p) newest tree
  there = shown_there z p tree shown begun.0

  -- each key that is looked up to see the tree has a page of the map that is shown
  looked_up : (o c : ℕ) → InFootprint (volume_of p) newest tree o c → HasPage shown.pages o c
  looked_up o c foot =
      let holds = subst (λ (k : Sizes). HoldsObjects k shown.pages shown.objects) (sym shown.sizes) shown.holds in
      let can = subst (λ (k : Sizes). CanHave k shown.objects) (sym shown.sizes) shown.can in
      footprint_pages (volume_of p) shown.pages can.numbers p.device.flash (shown.carried begun.0).newest shown.objects holds o c
      (subst (λ (t : Objects). InFootprint (volume_of p) newest t o c) shown.settles foot)

  findable : FindsAll p.device shown.pages → IsTreeFindable g p.device.flash
  findable all spare objects volume shows o c foot =
      let same : spare ≡ p.spare = one_spare g newest single spare p.spare volume there.0 in
      let one : objects ≡ tree = one_tree (volume_of p) g.most_bytes newest single objects tree (subst (λ s. Shows (sizes_of g s) newest objects) same shows) there.1 in
      let here = subst (λ (t : Objects). InFootprint (volume_of p) newest t o c) one (subst (λ s. InFootprint (sizes_of g s) newest objects o c) same foot) in
      all o c (looked_up o c here)

  pub tree_findable : ∥ IsTreeFindable g p.device.flash ∥₁
  tree_findable = ∥∥₁_elim (shown.found begun) (λ a b. squash₁ a b) (λ (all : FindsAll p.device shown.pages). ∣ findable all ∣₁)
