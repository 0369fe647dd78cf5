-- A tree that was gone through on a device, beside the device that a mount was given.
-- From: this project.
use Rattle.std.specs.Prelude.{◌≡◌, ◌&&◌, Bool, true}
use Rattle.nand_model.specs.Calls.{Device}
use Rattle.nand_model.specs.TrustedParts.{inner_of, seen_by}
use Rattle.nand_model.specs.declared.trusted_nand.TrustedNand.{TrustedNand}
use Rattle.flash_tree.specs.Checkpoints.{IsChecked, IsTrueFlash}
use Rattle.flash_tree.specs.Places.{numbers_of}
use Rattle.block_state.specs.TableOf.{table}
use Rattle.page_store.specs.declared.opening.Opened.{Opened}
use Rattle.mounting.specs.Mounted.{IsTreeRead}
use Rattle.mounting.specs.Named.{IsReadAs, IsTrustedSince}
use Rattle.mounting.specs.Reads.{ReadsNeeded, ReadsScanned, ReadsThrough}
use Rattle.mounting.specs.Tables.{KnowsBlocks, KnowsFirstsOf}
use Rattle.mounting.specs.declared.tree_on.TreeOn.{TreeOn}

-- the device itself
abbrev pub own_on : {N : Type 0} → (N → Device) → TreeOn (TrustedNand N) → Device
own_on state on = state (inner_of on.device)

-- the device, honest only where it is trusted
abbrev pub seen_on : {N : Type 0} → (N → Device) → TreeOn (TrustedNand N) → Device
seen_on state on = seen_by state on.device

-- it was only read, and is trusted as is reported
abbrev pub IsOnAs : {N : Type 0} → (N → Device) → Bool → Device → TreeOn (TrustedNand N) → Type 0
IsOnAs state reported old on = IsReadAs reported old (own_on state on) (seen_on state on)

-- it was only read, and is trusted or not; it is, if its flash was true
abbrev pub IsOnSince : {N : Type 0} → (N → Device) → Device → TreeOn (TrustedNand N) → Type 0
IsOnSince state old on = IsTrustedSince old (own_on state on) (seen_on state on)

-- the tree's pages are committed by its tables, and nothing else
abbrev pub IsReadOn : {N : Type 0} → Device → TreeOn N → Type 0
IsReadOn device on = IsTreeRead device (table on.blocks) on.index (numbers_of on.numbers) on.spare on.tree

-- its table knows the blocks of the device
abbrev pub KnowsBlocksOn : {N : Type 0} → Device → TreeOn N → Type 0
KnowsBlocksOn device on = KnowsBlocks device (table on.blocks) (numbers_of on.numbers)

-- its table knows the first page of each block
abbrev pub KnowsFirstsOn : {N : Type 0} → Device → TreeOn N → Type 0
KnowsFirstsOn device on = KnowsFirstsOf device (table on.blocks) (numbers_of on.numbers)

-- the block that is noted is the only one with a whole checkpoint, which is right
abbrev pub IsCheckedOn : {N : Type 0} → Device → TreeOn N → Type 0
IsCheckedOn device on = IsChecked device.geometry device.flash (table on.blocks).checkpoint

-- at most the pages of the tree's headers and slots were read
abbrev pub ReadsOn : {N : Type 0} → (N → Device) → Device → TreeOn (TrustedNand N) → Type 0
ReadsOn state old on = ReadsThrough old (own_on state on) on.spare on.tree

-- and those that a scan by summaries needs
abbrev pub ReadsNeededOn : {N : Type 0} → (N → Device) → Device → TreeOn (TrustedNand N) → Type 0
ReadsNeededOn state old on = ReadsNeeded old (own_on state on) on.spare on.tree

-- or all pages of the good blocks
abbrev pub ReadsScannedOn : {N : Type 0} → (N → Device) → Device → TreeOn N → Type 0
ReadsScannedOn state old on = ReadsScanned old (state on.device) on.spare on.tree

-- what is said of an honest device that is trusted
abbrev pub OfTrusted : Device → Bool → Type 0 → Type 0
OfTrusted device reported A = (device.honest && reported) ≡ true → A

-- what is said of an honest device each of whose whole checkpoints is right
abbrev pub OfTrueFlash : Device → Type 0 → Type 0
OfTrueFlash device A = device.honest ≡ true → IsTrueFlash device.geometry device.flash → A

-- the tables that were opened know the first page of each block
abbrev pub KnowsFirstsIn : Device → Opened → Type 0
KnowsFirstsIn device opened = KnowsFirstsOf device (table opened.blocks) (numbers_of opened.numbers)
