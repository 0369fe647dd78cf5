-- What a check says of a tree.
use Rattle.std.specs.Prelude.{ℕ, Bool, true, false, ◌&&◌, nat_eq, Option, None, Some, if◌then◌else◌}
use Rattle.nand_model.specs.Flash.{Flash}
use Rattle.nand_model.specs.declared.geometry.Geometry.{Geometry}
use Rattle.posix_profile.specs.State.{Objects}
use Rattle.flash_tree.specs.Newest.{HasNewest}
use Rattle.flash_tree.specs.Tree.{NewestMap, Shows}
use Rattle.flash_tree.specs.Mount.{Wrong, IsNewer, IsDamaged, sizes_of, IsVolume, IsNoVolume, NotAVolume, IsWrong, Answers}
use Rattle.page_tags.specs.declared.header.HeaderFault.{HeaderFault}
use Rattle.page_tags.specs.declared.header.HeaderFault.TheVariants as headers
use Rattle.volume_terms.specs.Sizes.{root_number}
use Rattle.tree_walk.specs.Broken.{wrong_of}
use Rattle.tree_walk.specs.declared.broken.Broken.{Broken}
use Rattle.tree_walk.specs.declared.broken.Rule.{Rule}
use Rattle.tree_walk.specs.declared.broken.Rule.TheVariants as rules
use Rattle.mounting.specs.TreeAnswers.{HasWrongTree}
use Rattle.volume_check.specs.Trees.{HasWholeTree}
use Rattle.volume_check.specs.declared.verdict.Verdict.{Verdict}
use Rattle.volume_check.specs.declared.verdict.Verdict.TheVariants as verdicts

-- what a verdict says of pages
abbrev pub ReportsVerdict : Geometry → NewestMap → Verdict → Type 0
ReportsVerdict g m verdicts.Whole = HasWholeTree g m
ReportsVerdict g m verdicts.NotAVolume = IsNoVolume m
ReportsVerdict g m (verdicts.Newer format) = HasWrongTree g m (IsNewer format)
ReportsVerdict g m verdicts.Damaged = HasWrongTree g m IsDamaged

-- what is wrong with a tree, as a verdict
abbrev pub verdict_of_wrong : Wrong → Verdict
verdict_of_wrong (IsNewer format) = verdicts.Newer format
verdict_of_wrong IsDamaged = verdicts.Damaged

-- the page has no magic number of a header
abbrev pub lacks_magic : HeaderFault → Bool
lacks_magic headers.Magic = true
lacks_magic (headers.Newer format) = false
lacks_magic headers.Kind = false
lacks_magic headers.Length = false
lacks_magic headers.Pad = false

-- nothing is there that could be a header
abbrev pub is_no_header : Rule → Bool
is_no_header rules.HeaderMissing = true
is_no_header (rules.NoHeader fault) = lacks_magic fault
is_no_header rules.RootIsFile = false
is_no_header (rules.TooManySpare spare) = false
is_no_header rules.ChunkMissing = false
is_no_header (rules.NoSlot place) = false
is_no_header (rules.NameTwice place) = false
is_no_header rules.DirectoryTwice = false

-- what is said of a tree that breaks a rule: with no header of a root there is no volume
abbrev pub verdict_of_broken : Broken → Verdict
verdict_of_broken b = if nat_eq b.key.object root_number && is_no_header b.rule then verdicts.NotAVolume else verdict_of_wrong (wrong_of b.rule)

-- and of one whose first broken rule is this, if any
abbrev pub verdict_of : Option Broken → Verdict
verdict_of None = verdicts.Whole
verdict_of (Some broken) = verdict_of_broken broken

-- the flash is that of a volume, and shows a tree
pub record ShowsVolume (g : Geometry) (flash : Flash) : Type 0 where
  pub spare : ℕ
  pub volume : IsVolume g (HasNewest flash) spare
  pub objects : Objects
  pub shows : Shows (sizes_of g spare) (HasNewest flash) objects

-- What a verdict says of a flash: it shows the tree of a volume, or a mount has this answer.
abbrev pub SaysOfFlash : Geometry → Flash → Verdict → Type 0
SaysOfFlash g flash verdicts.Whole = ShowsVolume g flash
SaysOfFlash g flash verdicts.NotAVolume = Answers g flash NotAVolume
SaysOfFlash g flash (verdicts.Newer format) = Answers g flash (IsWrong (IsNewer format))
SaysOfFlash g flash verdicts.Damaged = Answers g flash (IsWrong IsDamaged)
