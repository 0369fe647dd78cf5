-- What is reported of the root's header of a tree that was gone through.
use Rattle.std.specs.Prelude.{◌≡◌, ◌⊎◌, ◌<◌, ◌≤◌, ◌+◌, Option, Some, None, IfSome, IfNone, ℕ}
use Rattle.std.proofs.Common.{refl, sym, ◌∙◌, subst, inl, inr}
use Rattle.nand_model.specs.declared.geometry.Geometry.{Geometry}
use Rattle.page_tags.specs.declared.header.ObjectKind.TheVariants as kinds
use Rattle.flash_tree.specs.Mount.{IsVolume, IsDamaged, HasWrongRoot, sizes_of}
use Rattle.flash_tree.specs.laws.WholeList.{whole_list}
use Rattle.pages.specs.Maps.{PageMap, has}
use Rattle.volume_terms.specs.Sizes.{root_number}
use Rattle.tree_walk.specs.Heads.{SaysHead}
use Rattle.tree_walk.specs.Trees.{IsTreeThrough, head_at, objects_listed}
use Rattle.tree_walk.specs.declared.head.Head.{Head}
use Rattle.tree_walk.specs.declared.tree.Tree.{Tree}

module _ (g : Geometry) (m : PageMap) (tree : Tree) (of : IsTreeThrough (sizes_of g 0) (has m) tree) where
  -- the root's header is reported
  root_head : (head : Head) × (head_at tree root_number ≡ Some head)
  root_head = of.heads.each 0 root_number (whole_list (sizes_of g 0) (has m) root_number (objects_listed tree) of.through).begins

  pub no_head : head_at tree root_number ≡ None → ⊥
  no_head none = let two : None ≡ Some root_head.0 = sym none ∙ root_head.1 in cc

  module _ (head : Head) (there : head_at tree root_number ≡ Some head) where
    says : SaysHead (sizes_of g 0) (has m) root_number head
    says = of.heads.says root_number head there

    pub is_volume : (r : Option ℕ) → IfSome r (λ spare. (head.kind ≡ kinds.Directory) × (head.spare ≡ spare) × (spare + 4 ≤ g.blocks)) → IfSome r (IsVolume g (has m))
    is_volume None reported = tt
    is_volume (Some spare) (kind, same, room) =
        record { fields = says.0; has = says.1; kind = sym says.2.kind ∙ kind; spare_is = sym says.2.spare ∙ same; room = room }

    pub is_wrong : (r : Option ℕ) → IfNone r ((head.kind ≡ kinds.File) ⊎ (g.blocks < head.spare + 4)) → IfNone r (HasWrongRoot g (has m) IsDamaged)
    is_wrong (Some spare) reported = tt
    is_wrong None (inl file) = inr (refl, says.0, says.1, inl (sym says.2.kind ∙ file))
    is_wrong None (inr many) = inr (refl, says.0, says.1, inr (subst (λ n. g.blocks < n + 4) says.2.spare many))
