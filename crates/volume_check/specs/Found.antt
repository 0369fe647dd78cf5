-- Which rule a check finds broken, and where.
use Rattle.std.specs.Prelude.{◌≡◌, ◌⊎◌, ◌<◌, ◌≤◌, ◌+◌, ◌^◌, ℕ, List, Option, None, Some, IfSome}
use Rattle.nand_model.specs.Flash.{Flash}
use Rattle.nand_model.specs.declared.geometry.Geometry.{Geometry}
use Rattle.page_tags.specs.Headers.{Fields, IsHeaderOf, IsFirstFault}
use Rattle.page_tags.specs.declared.header.ObjectKind.TheVariants as kinds
use Rattle.page_tags.specs.declared.tag.Tag.{Tag}
use Rattle.volume_terms.specs.Sizes.{root_number}
use Rattle.flash_tree.specs.Newest.{IsNewest, HasNewest}
use Rattle.flash_tree.specs.Tree.{NewestMap}
use Rattle.flash_tree.specs.Mount.{HasNone, sizes_of, IsVolume}
use Rattle.flash_tree.specs.declared.place.Key.{Key}
use Rattle.tree_walk.specs.Broken.{Breaks, IsFirstBroken, header_of}
use Rattle.tree_walk.specs.declared.broken.Broken.{Broken}
use Rattle.tree_walk.specs.declared.broken.Rule.{Rule}
use Rattle.tree_walk.specs.declared.broken.Rule.TheVariants as rules
use Rattle.volume_check.specs.Verdicts.{verdict_of}
use Rattle.volume_check.specs.declared.finding.Diagnosis.{Diagnosis}
use Rattle.volume_check.specs.declared.finding.Finding.{Finding}
use Rattle.volume_check.specs.declared.finding.Place.{Place}

-- the page is the header of a directory whose spare blocks leave four more of so many
abbrev pub IsRootOn : List ℕ → (blocks : ℕ) → Type 0
IsRootOn page blocks = (f : Fields) × IsHeaderOf page f × (f.kind ≡ kinds.Directory) × (f.spare + 4 ≤ blocks)

-- the root's header is that of a volume
abbrev pub HasVolume : Geometry → NewestMap → Type 0
HasVolume g m = (spare : ℕ) × IsVolume g m spare

-- the page breaks this rule of the header of a root on so many blocks
abbrev pub HeaderBreaks : List ℕ → (blocks : ℕ) → Rule → Type 0
HeaderBreaks page blocks rules.HeaderMissing = ⊥
HeaderBreaks page blocks (rules.NoHeader fault) = IsFirstFault page fault
HeaderBreaks page blocks rules.RootIsFile = (f : Fields) × IsHeaderOf page f × (f.kind ≡ kinds.File)
HeaderBreaks page blocks (rules.TooManySpare spare) = (f : Fields) × IsHeaderOf page f × (f.kind ≡ kinds.Directory) × (f.spare ≡ spare) × (blocks < spare + 4)
HeaderBreaks page blocks rules.ChunkMissing = ⊥
HeaderBreaks page blocks (rules.NoSlot place) = ⊥
HeaderBreaks page blocks (rules.NameTwice place) = ⊥
HeaderBreaks page blocks rules.DirectoryTwice = ⊥

-- a rule of the root's header
abbrev pub IsOfRoot : Rule → Type 0
IsOfRoot rules.HeaderMissing = Unit {0}
IsOfRoot (rules.NoHeader fault) = Unit {0}
IsOfRoot rules.RootIsFile = Unit {0}
IsOfRoot (rules.TooManySpare spare) = Unit {0}
IsOfRoot rules.ChunkMissing = ⊥
IsOfRoot (rules.NoSlot place) = ⊥
IsOfRoot (rules.NameTwice place) = ⊥
IsOfRoot rules.DirectoryTwice = ⊥

-- the root's header breaks this rule of a volume on a device of these sizes
abbrev pub RootBreaks : Geometry → NewestMap → Rule → Type 0
RootBreaks g m rule = IsOfRoot rule × Breaks (sizes_of g 0) m (header_of root_number) rule

-- The rule is the first that a mount finds broken: by the root's header; or below it, of a volume.
abbrev pub IsFoundFirst : Geometry → NewestMap → Broken → Type 0
IsFoundFirst g m b = ((b.key ≡ header_of root_number) × RootBreaks g m b.rule) ⊎ ((spare : ℕ) × IsVolume g m spare × IsFirstBroken (sizes_of g spare) m b)

-- the rule of a finding
abbrev pub broken_in : Option Finding → Option Broken
broken_in None = None
broken_in (Some finding) = Some finding.broken

-- the newest page of the key lies in this place, or it has none
abbrev pub LiesAt : Flash → Key → Option Place → Type 0
LiesAt flash key None = HasNone (HasNewest flash) key.object key.chunk
LiesAt flash key (Some place) = (tag : Tag) × IsNewest flash key.object key.chunk (record { block = place.block; page = place.page; tag = tag })

-- and so the key of a rule that is broken, of a chunk that a tree may look up
abbrev pub LiesWhereLow : Flash → Option Place → Broken → Type 0
LiesWhereLow flash place b = b.key.chunk < 2 ^ 32 → LiesAt flash b.key place

-- The verdict is that of what was found, so that a tree is whole where nothing was; what was found is the first rule that a mount finds
-- broken on the flash; and the place is that of the newest page of the chunk that breaks it.
pub record FindsFault (g : Geometry) (flash : Flash) (found : Diagnosis) : Type 0 where
  pub verdict : found.verdict ≡ verdict_of (broken_in found.finding)
  pub first : IfSome (broken_in found.finding) (IsFoundFirst g (HasNewest flash))
  pub place : IfSome (broken_in found.finding) (λ b. LiesAt flash b.key found.place)
