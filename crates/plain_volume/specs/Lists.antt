-- What a list reports that was read of a tree.
use Rattle.std.specs.Prelude.{[], ◌∷◌, map as list_map, Bool}
use Rattle.posix_profile.specs.Names.{settle}
use Rattle.posix_profile.specs.State.{Objects, State}
use Rattle.posix_profile.specs.WellFormed.{IsTree}
use Rattle.plain_volume.specs.Views.{PlainView}
use Rattle.volume_terms.specs.Sizes.{Sizes}
use Rattle.plain_volume.specs.Items.{AreRead, item_of, root_path}
use Rattle.plain_volume.specs.declared.list.TreeList.{TreeList}

-- the list is read of these objects: of each name from the root on, what it leads to
abbrev pub Lists : TreeList → Objects → Type 0
Lists list objects = AreRead objects (root_path ∷ []) (list_map item_of list.entries.items)

-- what a mount shows of a tree
abbrev pub shown_of : PlainView → Objects
shown_of tree = (settle tree.state).objects

-- what a mount shows of it is a tree
abbrev pub ShowsTree : PlainView → Type 0
ShowsTree tree = IsTree tree.sizes (shown_of tree)

-- the list is read of what a mount shows of the tree
pub record IsMadeOf (list : TreeList) (tree : PlainView) : Type 0 where
  pub shows : ShowsTree tree
  pub listed : Lists list (shown_of tree)

-- the list is read of the objects of each state that is shown
abbrev pub ListsShown : {V : Type 0} → (V → Sizes → Bool → State → Type 0) → V → TreeList → Type 0
ListsShown shows old list = (z : Sizes) (read_only : Bool) (s : State) → shows old z read_only s → Lists list s.objects
