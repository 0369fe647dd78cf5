-- Which objects can be reached on a flash of which pages are lost, and which nothing names.
-- From: this project.
use Rattle.std.specs.Prelude.{◌≡◌, ◌≢◌, ◌↔◌, ◌<◌, ℕ, List, Contains}
use Rattle.std.specs.List.{AllPairs}
use Rattle.page_tags.specs.Headers.{Fields}
use Rattle.page_tags.specs.declared.header.ObjectKind.TheVariants as kinds
use Rattle.page_tags.specs.Slots.{Entry}
use Rattle.volume_terms.specs.Sizes.{Sizes, root_number}
use Rattle.flash_tree.specs.Tree.{NewestMap, HasHeader, SlotIs}

-- The object is a directory whose header reads, and one of its slots that read names the other object.
pub record LeadsTo (z : Sizes) (m : NewestMap) (d o : ℕ) : Type 0 where
  pub fields : Fields
  pub has : HasHeader z m d fields
  pub kind : fields.kind ≡ kinds.Directory
  pub place : ℕ
  pub within : place < fields.length
  pub entry : Entry
  pub slot : SlotIs z m d place entry
  pub names : entry.object ≡ o

-- The object is the first one, or a directory that is reached names it.
pub data IsReached (z : Sizes) (m : NewestMap) (from : ℕ) : ℕ → Type 0 where
  here : IsReached z m from from
  on : {d o : ℕ} → IsReached z m from d → LeadsTo z m d o → IsReached z m from o

-- exactly the objects that are reached from one, each once
pub record ListsReached (z : Sizes) (m : NewestMap) (from : ℕ) (list : List ℕ) : Type 0 where
  pub each : (o : ℕ) → Contains list o ↔ IsReached z m from o
  pub once : AllPairs (λ a b. a ≢ b) list

-- the object is not the root, its header reads, and no directory names it
pub record IsOrphan (z : Sizes) (m : NewestMap) (o : ℕ) : Type 0 where
  pub other : o ≢ root_number
  pub fields : Fields
  pub has : HasHeader z m o fields
  pub unnamed : (d : ℕ) → LeadsTo z m d o → ⊥

-- exactly the objects that nothing names, each once
pub record ListsOrphans (z : Sizes) (m : NewestMap) (list : List ℕ) : Type 0 where
  pub each : (o : ℕ) → Contains list o ↔ IsOrphan z m o
  pub once : AllPairs (λ a b. a ≢ b) list
