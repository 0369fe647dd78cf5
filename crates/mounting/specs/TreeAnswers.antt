-- Why a tree was not gone through.
use Rattle.std.specs.Prelude.{◌≡◌, ◌⊎◌, ℕ, true}
use Rattle.flash_tree.specs.Tree.{NewestMap}
use Rattle.flash_tree.specs.Mount.{Wrong, IsNewer, IsDamaged, sizes_of, IsVolume, IsNoVolume, HasWrongRoot}
use Rattle.nand_model.specs.declared.geometry.Geometry.{Geometry}
use Rattle.pages.specs.State.{PagesState}
use Rattle.tree_walk.specs.Broken.{wrong_of}
use Rattle.tree_walk.specs.Trees.{IsWrongTree}
use Rattle.tree_walk.specs.declared.fault.RootFault.{RootFault}
use Rattle.tree_walk.specs.declared.fault.RootFault.TheVariants as roots
use Rattle.tree_walk.specs.declared.fault.WalkFault.{WalkFault}
use Rattle.tree_walk.specs.declared.fault.WalkFault.TheVariants as walks

-- the root's header, an object or the names of directories are wrong
abbrev pub HasWrongTree : Geometry → NewestMap → Wrong → Type 0
HasWrongTree g m wrong = HasWrongRoot g m wrong ⊎ ((spare : ℕ) × IsVolume g m spare × IsWrongTree (sizes_of g spare) m wrong)

-- why no tree was gone through; a refusal of memory, and a device that failed, say nothing of the pages
abbrev pub WhyNoTree : Geometry → NewestMap → RootFault → Type 0
WhyNoTree g m roots.NoMemory = Unit {0}
WhyNoTree g m roots.Device = Unit {0}
WhyNoTree g m roots.NotAVolume = IsNoVolume m
WhyNoTree g m (roots.Newer format) = HasWrongTree g m (IsNewer format)
WhyNoTree g m roots.Damaged = HasWrongTree g m IsDamaged

-- what is wrong with a tree, as a fault of the root
abbrev pub of_wrong : Wrong → RootFault
of_wrong (IsNewer format) = roots.Newer format
of_wrong IsDamaged = roots.Damaged

-- the same reason
abbrev pub of_walk : WalkFault → RootFault
of_walk walks.NoMemory = roots.NoMemory
of_walk walks.Device = roots.Device
of_walk (walks.Broken broken) = of_wrong (wrong_of broken.rule)

-- a device that is the reason has failed: it is gone, or it is not honest
abbrev pub FailsTree : PagesState → RootFault → Type 0
FailsTree new roots.NoMemory = Unit {0}
FailsTree new roots.Device = new.failed ≡ true
FailsTree new roots.NotAVolume = Unit {0}
FailsTree new (roots.Newer format) = Unit {0}
FailsTree new roots.Damaged = Unit {0}
