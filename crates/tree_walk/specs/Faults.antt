-- Why pages show no volume or no tree.
use Rattle.std.specs.Prelude.{◌≡◌, ◌<◌, true, Result, IfErr}
use Rattle.pages.specs.State.{PagesState}
use Rattle.volume_terms.specs.declared.fault.StoreFault.{StoreFault}
use Rattle.volume_terms.specs.declared.fault.StoreFault.TheVariants as store_faults
use Rattle.flash_tree.specs.Tree.{NewestMap}
use Rattle.flash_tree.specs.Mount.{IsNewer, IsDamaged, IsNoVolume, HasWrongRoot}
use Rattle.nand_model.specs.declared.geometry.Geometry.{Geometry}
use Rattle.tree_walk.specs.declared.broken.Broken.{Broken}
use Rattle.tree_walk.specs.declared.fault.WalkFault.{WalkFault}
use Rattle.tree_walk.specs.declared.fault.WalkFault.TheVariants as faults
use Rattle.tree_walk.specs.declared.fault.RootFault.{RootFault}
use Rattle.tree_walk.specs.declared.fault.RootFault.TheVariants as roots

-- a look-up's fault, as one of the walk: it wears nothing
abbrev pub of_store : StoreFault → WalkFault
of_store store_faults.NoMemory = faults.NoMemory
of_store store_faults.Device = faults.Device
of_store store_faults.Worn = faults.Device

-- each fault only where its cause is given: want of memory, a rule that the pages break; the device has failed
abbrev pub WalkFailsBy : Type 0 → (Broken → Type 0) → PagesState → WalkFault → Type 0
WalkFailsBy memory amiss new faults.NoMemory = memory
WalkFailsBy memory amiss new faults.Device = new.failed ≡ true
WalkFailsBy memory amiss new (faults.Broken broken) = amiss broken

-- a call that takes memory, where this is wrong with the pages
abbrev pub ReportsWrong : (Broken → Type 0) → PagesState → WalkFault → Type 0
ReportsWrong amiss new = WalkFailsBy (Unit {0}) amiss new

-- and where nothing is known of them
abbrev pub ReportsWhy : PagesState → WalkFault → Type 0
ReportsWhy new = WalkFailsBy (Unit {0}) (λ broken. Unit {0}) new

-- each fault of such a call has its cause, of which one is that this is wrong with the pages
abbrev pub IfFault : {T : Type 0} → Result T WalkFault → (Broken → Type 0) → PagesState → Type 0
IfFault result amiss new = IfErr result (ReportsWrong amiss new)

-- what a fault says of the root's header: that there is none, or what is wrong with it
abbrev pub ReportsRoot : Geometry → NewestMap → RootFault → Type 0
ReportsRoot g m roots.NoMemory = Unit {0}
ReportsRoot g m roots.Device = Unit {0}
ReportsRoot g m roots.NotAVolume = IsNoVolume m
ReportsRoot g m (roots.Newer format) = HasWrongRoot g m (IsNewer format)
ReportsRoot g m roots.Damaged = HasWrongRoot g m IsDamaged

-- memory was refused where it is wanted, and the device has failed where it is reported so
abbrev pub RootFailsBy : PagesState → PagesState → RootFault → Type 0
RootFailsBy old new roots.NoMemory = old.refused < new.refused
RootFailsBy old new roots.Device = new.failed ≡ true
RootFailsBy old new roots.NotAVolume = Unit {0}
RootFailsBy old new (roots.Newer format) = Unit {0}
RootFailsBy old new roots.Damaged = Unit {0}
