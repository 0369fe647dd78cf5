-- A page that is the header of a root makes pages those of a volume.
use Rattle.std.specs.Prelude.{◌≡◌, List, ℕ, Option, Some, None, IfNone}
use Rattle.std.proofs.Common.{refl, sym, ◌∙◌, ap, subst}
use Rattle.nand_model.specs.declared.geometry.Geometry.{Geometry}
use Rattle.page_tags.specs.Headers.{IsHeader}
use Rattle.std.specs.Prelude.{length}
use Rattle.volume_terms.specs.Sizes.{root_number}
use Rattle.pages.specs.Maps.{PageMap, has}
use Rattle.tree_walk.specs.declared.broken.Rule.{Rule}
use Rattle.volume_check.specs.Found.{HasVolume, IsRootOn}

pub root_there : (g : Geometry) (m : PageMap) (page : List ℕ) → m root_number 0 ≡ Some page → g.bytes ≡ length page → (rule : Option Rule)
    → IfNone rule (IsRootOn page g.blocks) → IfNone rule (HasVolume g (has m))
root_there g m page there size (Some rule) is = tt
root_there g m page there size None (f, of, kind, room) = (
  f.spare,
  record {
    fields = f;
    has = (there ∙ ap Some of.encodes, subst (λ d. IsHeader d f) (sym size) of.valid);
    kind = kind;
    spare_is = refl;
    room = room;
  },
)
