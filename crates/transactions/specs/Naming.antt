-- Which keys a group names.
use Rattle.std.specs.Prelude.{◌≡◌, ◌≢◌, ◌<◌, ◌≤◌, ℕ, true}
use Rattle.nand_model.specs.Calls.{Device}
use Rattle.flash_tree.specs.Groups.{Group}
use Rattle.flash_tree.specs.Slots.{check_object}
use Rattle.flash_tree.specs.Summaries.{summary_chunk}
use Rattle.flash_tree.specs.Truth.{KeepsSummaries}
use Rattle.transactions.specs.declared.source.PageName.{PageName}

-- page i is of the key of object o and chunk c
pub record IsNamed (name : ℕ → PageName) (o c i : ℕ) : Type 0 where
  pub object : (name i).key.object ≡ o
  pub chunk : (name i).key.chunk ≡ c

-- page i of the group is of this key, and no other is
pub record NamesOnce (g : Group) (name : ℕ → PageName) (o c i : ℕ) : Type 0 where
  pub within : i < g.size
  pub named : IsNamed name o c i
  pub once : (k : ℕ) → k < g.size → IsNamed name o c k → k ≡ i

-- none of so many pages is of the object of checkpoints
abbrev pub AreOrdinary : ℕ → (ℕ → PageName) → Type 0
AreOrdinary count name = (i : ℕ) → i < count → (name i).key.object ≢ check_object

-- the first page of a group of this name does not begin a summary
abbrev pub BeginsOther : PageName → Type 0
BeginsOther name = name.key.object ≡ check_object → name.key.chunk ≡ summary_chunk → ⊥

-- where a group of so many pages with these names does not begin as a summary, each summary of an honest device stays right
abbrev pub KeepsRight : ℕ → (ℕ → PageName) → Device → Device → Type 0
KeepsRight count name old new = old.honest ≡ true → (1 ≤ count → BeginsOther (name 0)) → KeepsSummaries old new
