-- The hashes of the names in the slots of a directory.
use Rattle.std.specs.Prelude.{◌≡◌, ◌<◌, ℕ, List, Option, Some}
use Rattle.page_tags.specs.Slots.{Entry}
use Rattle.flash_tree.specs.Tree.{SlotIs}
use Rattle.volume_terms.specs.Sizes.{Sizes}
use Rattle.name_index.specs.Hashes.{fnv1a}
use Rattle.name_index.specs.Names.{Holds}
use Rattle.name_index.specs.declared.index.NameIndex.{NameIndex}

-- each of the first slots of a directory's pages has the hash of its name in the index
abbrev pub HasHashes : NameIndex → Sizes → (ℕ → ℕ → Option (List ℕ)) → ℕ → ℕ → Type 0
HasHashes index z m directory length = (s : ℕ) (e : Entry) → s < length → SlotIs z (λ o c page. m o c ≡ Some page) directory s e → Holds index directory (fnv1a e.name) s
