-- The objects of a volume are one folder at most.
use Rattle.std.specs.Prelude.{◌≡◌, List, [], ◌∷◌}
use Rattle.std.proofs.Common.{refl, sym, ◌∙◌, ap}
use Rattle.posix_profile.specs.State.{Objects}
use Rattle.plain_volume.specs.Items.{Item, root_path}
use Rattle.plain_volume.specs.laws.Listing.{one_reading}
use Rattle.image_tools.specs.Folders.{Entry, IsFolder, entries_after}

pub one_folder : (objects : Objects) (a b : List Entry) → IsFolder objects a → IsFolder objects b → a ≡ b
one_folder objects a b one other =
    one.are ∙ ap (λ (items : List Item). entries_after [] items) (one_reading objects (root_path ∷ []) (root_path ∷ []) one.items other.items refl one.read other.read) ∙ sym other.are
