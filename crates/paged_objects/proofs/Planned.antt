-- What is known of a change where it is planned.
use Rattle.std.specs.Prelude.{◌<◌, ◌≤◌, ◌-◌, ℕ, Option, length}
use Rattle.std.proofs.Common.{inl, inr, arith}
use Rattle.volume_terms.specs.Sizes.{Sizes, IsSizes, buffer_pages}
use Rattle.volume_terms.specs.Rounding.{ceiling}
use Rattle.posix_profile.specs.State.{Objects, IsDirectory}
use Rattle.posix_profile.specs.laws.Write.{ceiling_at_most}
use Rattle.object_store.specs.Changes.{IsSensible, IsTarget, LeadsTo}
use Rattle.object_store.specs.declared.change.DirectoryEntry.{DirectoryEntry}
use Rattle.object_store.specs.declared.change.ObjectChange.{ObjectChange}
use Rattle.object_store.specs.declared.change.ObjectChange.TheVariants as changes
use Rattle.paged_objects.specs.Plans.{most_pages}

-- a name that leads somewhere is in a directory
pub entry_directory : (objects : Objects) (entry : DirectoryEntry) (o : ℕ) → LeadsTo objects entry o → IsDirectory objects entry.directory
entry_directory objects entry o leads = (leads.moment, leads.entries, leads.directory_is)

-- and so is the name that an object moves to
pub target_directory : (objects : Objects) (entry : DirectoryEntry) (o : ℕ) (dropped : Option ℕ) → IsTarget objects entry o dropped → IsDirectory objects entry.directory
target_directory objects entry o dropped (inl new) = new.0.directory
target_directory objects entry o dropped (inr there) = entry_directory objects entry there.0 there.1

-- a buffer has eight pages at least
pub eight_pages : (z : Sizes) → IsSizes z → 8 ≤ buffer_pages z
eight_pages z numbers = elim numbers.block_pages [
  | inl a ↦ omega (arith, a)
  | inr rest ↦ elim rest [
    | inl b ↦ omega (arith, b)
    | inr more ↦ elim more [
      | inl c ↦ omega (arith, c)
      | inr d ↦ omega (arith, d)
    ]
  ]
]

pub some_bytes : (z : Sizes) → IsSizes z → 0 < z.page_bytes
some_bytes z numbers = elim numbers.page_bytes [
  | inl a ↦ omega (arith, a)
  | inr rest ↦ elim rest [
    | inl b ↦ omega (arith, b)
    | inr more ↦ elim more [
      | inl c ↦ omega (arith, c)
      | inr d ↦ omega (arith, d)
    ]
  ]
]

-- a change that can be made writes no more pages than the buffer has
pub few_pages : (z : Sizes) (objects : Objects) (change : ObjectChange) → IsSizes z → IsSensible z objects change → most_pages z.page_bytes change ≤ buffer_pages z
few_pages z objects (changes.Create entry kind moment) numbers sensible = let eight : 8 ≤ buffer_pages z = eight_pages z numbers in omega (arith, eight)
few_pages z objects (changes.Name entry number moment) numbers sensible = let eight : 8 ≤ buffer_pages z = eight_pages z numbers in omega (arith, eight)
few_pages z objects (changes.Remove entry removed dropped moment) numbers sensible = let eight : 8 ≤ buffer_pages z = eight_pages z numbers in omega (arith, eight)
few_pages z objects (changes.Move from to number replaced dropped moment) numbers sensible = let eight : 8 ≤ buffer_pages z = eight_pages z numbers in omega (arith, eight)
few_pages z objects (changes.Write number offset bytes moment) numbers sensible =
    let eight : 8 ≤ buffer_pages z = eight_pages z numbers in
    let whole : ceiling (length bytes.now) z.page_bytes ≤ buffer_pages z - 3 = (ceiling_at_most (length bytes.now) z.page_bytes (buffer_pages z - 3) (some_bytes z numbers)).1 sensible.2 in
    omega (arith, eight, whole)
few_pages z objects (changes.Resize number length moment) numbers sensible = let eight : 8 ≤ buffer_pages z = eight_pages z numbers in omega (arith, eight)
few_pages z objects (changes.Forget number) numbers sensible = omega arith
