-- What the objects of a tree cost, by their headers.
use Rattle.std.specs.Prelude.{ℕ, ◌+◌}
use Rattle.std.specs.Option.{option_map_or}
use Rattle.page_tags.specs.declared.header.ObjectKind.{ObjectKind}
use Rattle.page_tags.specs.declared.header.ObjectKind.TheVariants as kinds
use Rattle.volume_terms.specs.Sizes.{Sizes, page_slots}
use Rattle.volume_terms.specs.Rounding.{ceiling}
use Rattle.tree_walk.specs.Trees.{head_at}
use Rattle.tree_walk.specs.declared.head.Head.{Head}
use Rattle.tree_walk.specs.declared.tree.Tree.{Tree}

-- what a unit of an object's length is: the bytes of a page, or its slots
abbrev pub unit_of : Sizes → ObjectKind → ℕ
unit_of z kinds.File = z.page_bytes
unit_of z kinds.Directory = page_slots z

-- the units that an object with this header costs
abbrev pub head_cost : Sizes → Head → ℕ
head_cost z head = 1 + ceiling head.length (unit_of z head.kind)

-- the units that the object of this number costs, and none where no header is reported
abbrev pub reported_cost : Sizes → Tree → ℕ → ℕ
reported_cost z tree o = option_map_or (head_cost z) (head_at tree o) 0
