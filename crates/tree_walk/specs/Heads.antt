-- What is reported of an object's header.
use Rattle.std.specs.Prelude.{◌≡◌, ◌≤◌, ◌/◌, ◌||◌, ℕ, Bool, List, nat_eq, nat_le}
use Rattle.std.specs.Int.{div_ceil}
use Rattle.page_tags.specs.Headers.{Fields, IsFirstFault, is_present}
use Rattle.page_tags.specs.declared.header.HeaderFault.{HeaderFault}
use Rattle.page_tags.specs.declared.header.ObjectKind.{ObjectKind}
use Rattle.page_tags.specs.declared.header.ObjectKind.TheVariants as kinds
use Rattle.flash_tree.specs.Tree.{NewestMap, HasHeader}
use Rattle.volume_terms.specs.Sizes.{Sizes}
use Rattle.tree_walk.specs.Broken.{header_of}
use Rattle.tree_walk.specs.declared.broken.Broken.{Broken}
use Rattle.tree_walk.specs.declared.broken.Rule.TheVariants as rules
use Rattle.tree_walk.specs.declared.head.Head.{Head}

-- the header says it, and the same of each chunk whether it is present
pub record IsHeadOf (head : Head) (f : Fields) : Type 0 where
  pub kind : head.kind ≡ f.kind
  pub length_is : head.length ≡ f.length
  pub moment : head.moment ≡ f.moment
  pub spare : head.spare ≡ f.spare
  pub bits : (c : ℕ) → 1 ≤ c → is_present head.bits.items c ≡ is_present f.bits c

-- the object has a header, and this is what it says
abbrev pub SaysHead : Sizes → NewestMap → ℕ → Head → Type 0
SaysHead z m o head = (f : Fields) × HasHeader z m o f × IsHeadOf head f

-- the page of chunk 0 of the object is no header, for this reason
abbrev pub IsNoHeader : List ℕ → ℕ → Broken → Type 0
IsNoHeader page object broken = (fault : HeaderFault) × IsFirstFault page fault × (broken ≡ record { rule = rules.NoHeader fault; key = header_of object })

-- whether a chunk behind the header is looked up: of a file where it is present, of a directory where it has slots
abbrev pub kind_looks_up : (d : ℕ) → Head → ObjectKind → ℕ → Bool
kind_looks_up d head kinds.File c = is_present head.bits.items c
kind_looks_up d head kinds.Directory c = nat_le c (div_ceil head.length (d / 272))

-- whether a chunk of an object with this header is looked up on pages of d bytes: the header itself, or one behind it
abbrev pub head_looks_up : (d : ℕ) → Head → ℕ → Bool
head_looks_up d head c = nat_eq c 0 || kind_looks_up d head head.kind c
