-- Small cases, worked out.
use Rattle.std.specs.Prelude.{◌≡◌, ℕ, true, false, List, [], ◌∷◌, replicate, Some, None, Ok, Err}
use Rattle.std.proofs.Common.{refl, inl, inr}
use Rattle.std.specs.FinMap as map
use Rattle.volume_terms.specs.Sizes.{Sizes, root_number, buffer_pages, most_written, page_slots, capacity, greatest_length}
use Rattle.posix_profile.specs.State.{Entries, File, Dir, Objects}
use Rattle.posix_profile.specs.Names.{parent}
use Rattle.posix_profile.specs.Paths.{Dot, Named, resolve}
use Rattle.posix_profile.specs.Changes.{written, resized}
use Rattle.posix_profile.specs.WellFormed.{IsForest}
use Rattle.posix_profile.specs.laws.Name.{parent_cases}
use Rattle.posix_profile.specs.declared.reply.Errno.TheVariants as errors

-- the smallest volume
abbrev pub small_sizes : Sizes
small_sizes = record { page_bytes = 512; block_pages = 32; blocks = 8; spare_blocks = 1 }

small_numbers : (buffer_pages small_sizes ≡ 8) × (most_written small_sizes ≡ 2560) × (page_slots small_sizes ≡ 1) × (capacity small_sizes ≡ 144) × (greatest_length small_sizes ≡ 1966080)
small_numbers = (refl, refl, refl, refl, refl)

-- tests of the path alone
empty_path : (objects : Objects) → resolve objects [] ≡ Err errors.ENOENT
unfolding resolve
empty_path objects = refl

zero_byte : (objects : Objects) → resolve objects (47 ∷ 0 ∷ []) ≡ Err errors.EINVAL
unfolding resolve
zero_byte objects = refl

long_name : (objects : Objects) → resolve objects (47 ∷ replicate 256 97) ≡ Err errors.ENAMETOOLONG
unfolding resolve
long_name objects = refl

-- only slashes lead to the root
slashes : (objects : Objects) → resolve objects (47 ∷ 47 ∷ []) ≡ Ok (record { directory = 1; last = None; object = Some 1; slash_follows = true })
unfolding resolve
slashes objects = refl

-- `/.` is the root
root_dot : (objects : Objects) (m : ℕ) (entries : Entries) → map.get objects 1 ≡ Some (Dir m entries)
    → resolve objects (47 ∷ 46 ∷ []) ≡ Ok (record { directory = 1; last = Some Dot; object = Some 1; slash_follows = false })
unfolding resolve
root_dot objects m entries root = simp root

-- `/f` and `f` are the same file, `/f/`, `/f/x` and `/f/.` are no path to one
module _ (objects : Objects) (m n o : ℕ) (entries : Entries) (bytes : List ℕ)
    (root : map.get objects 1 ≡ Some (Dir m entries)) (f : map.get entries (102 ∷ []) ≡ Some o) (file : map.get objects o ≡ Some (File n bytes)) where
  file_found : resolve objects (47 ∷ 102 ∷ []) ≡ Ok (record { directory = 1; last = Some (Named (102 ∷ [])); object = Some o; slash_follows = false })
  unfolding resolve
  file_found = simp (root, f, file)

  file_without_slash : resolve objects (102 ∷ []) ≡ Ok (record { directory = 1; last = Some (Named (102 ∷ [])); object = Some o; slash_follows = false })
  unfolding resolve
  file_without_slash = simp (root, f, file)

  file_and_slash : resolve objects (47 ∷ 102 ∷ 47 ∷ []) ≡ Err errors.ENOTDIR
  unfolding resolve
  file_and_slash = simp (root, f, file)

  under_file : resolve objects (47 ∷ 102 ∷ 47 ∷ 120 ∷ []) ≡ Err errors.ENOTDIR
  unfolding resolve
  under_file = simp (root, f, file)

  dot_under_file : resolve objects (47 ∷ 102 ∷ 47 ∷ 46 ∷ []) ≡ Err errors.ENOTDIR
  unfolding resolve
  dot_under_file = simp (root, f, file)

-- an absent name may be last, and not before another
module _ (objects : Objects) (m : ℕ) (entries : Entries) (root : map.get objects 1 ≡ Some (Dir m entries)) (e : map.get entries (101 ∷ []) ≡ None) where
  absent_last : resolve objects (47 ∷ 101 ∷ 47 ∷ []) ≡ Ok (record { directory = 1; last = Some (Named (101 ∷ [])); object = None; slash_follows = true })
  unfolding resolve
  absent_last = simp (root, e)

  absent_before : resolve objects (47 ∷ 101 ∷ 47 ∷ 46 ∷ 46 ∷ []) ≡ Err errors.ENOENT
  unfolding resolve
  absent_before = simp (root, e)

-- the root's parent is the root
root_parent : (z : Sizes) (objects : Objects) → IsForest z objects → parent objects root_number ≡ root_number
root_parent z objects forest = elim (parent_cases objects root_number) [
  | inl named ↦ absurd (forest.root_unnamed _ _ named.1)
  | inr none ↦ none.0
]

-- bytes at, over and past the end
within : written (1 ∷ 2 ∷ 3 ∷ []) 1 (7 ∷ []) ≡ 1 ∷ 7 ∷ 3 ∷ []
within = refl

over_the_end : written (1 ∷ 2 ∷ 3 ∷ []) 2 (7 ∷ 8 ∷ []) ≡ 1 ∷ 2 ∷ 7 ∷ 8 ∷ []
over_the_end = refl

past_the_end : written (1 ∷ []) 3 (7 ∷ []) ≡ 1 ∷ 0 ∷ 0 ∷ 7 ∷ []
past_the_end = refl

grown : resized (1 ∷ []) 3 ≡ 1 ∷ 0 ∷ 0 ∷ []
grown = refl

cut : resized (1 ∷ 2 ∷ 3 ∷ []) 2 ≡ 1 ∷ 2 ∷ []
cut = refl
