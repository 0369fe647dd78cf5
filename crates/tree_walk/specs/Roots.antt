-- What a page says as the header of a root.
use Rattle.std.specs.Prelude.{◌≡◌, ◌≢◌, ◌⊎◌, ◌<◌, ◌≤◌, ◌+◌, ℕ, List}
use Rattle.page_tags.specs.Headers.{Fields, IsHeaderOf, IsFirstFault}
use Rattle.page_tags.specs.declared.header.HeaderFault.{HeaderFault}
use Rattle.page_tags.specs.declared.header.HeaderFault.TheVariants as headers
use Rattle.page_tags.specs.declared.header.ObjectKind.TheVariants as kinds
use Rattle.flash_tree.specs.Mount.{Wrong, IsNewer, IsDamaged, wrong_by}
use Rattle.tree_walk.specs.declared.fault.RootFault.{RootFault}
use Rattle.tree_walk.specs.declared.fault.RootFault.TheVariants as roots

-- the header of a directory with these spare blocks, which leave four more
abbrev pub SpareReported : List ℕ → ℕ → ℕ → Type 0
SpareReported page blocks spare = (f : Fields) × IsHeaderOf page f × (f.kind ≡ kinds.Directory) × (f.spare ≡ spare) × (spare + 4 ≤ blocks)

-- no header by a fault other than of the magic, or the header of a file or of too many spare blocks
abbrev pub IsWrongRoot : List ℕ → ℕ → Wrong → Type 0
IsWrongRoot page blocks wrong =
    ((fault : HeaderFault) × IsFirstFault page fault × (fault ≢ headers.Magic) × (wrong ≡ wrong_by fault))
    ⊎ ((wrong ≡ IsDamaged) × ((f : Fields) × IsHeaderOf page f × ((f.kind ≡ kinds.File) ⊎ (blocks < f.spare + 4))))

-- the page is no such header, for this reason
abbrev pub NoSpareReported : List ℕ → ℕ → RootFault → Type 0
NoSpareReported page blocks roots.NoMemory = ⊥
NoSpareReported page blocks roots.Device = ⊥
NoSpareReported page blocks roots.NotAVolume = IsFirstFault page headers.Magic
NoSpareReported page blocks (roots.Newer format) = IsWrongRoot page blocks (IsNewer format)
NoSpareReported page blocks roots.Damaged = IsWrongRoot page blocks IsDamaged
