-- The hashes of the names of a tree.
use Rattle.std.specs.Prelude.{◌≡◌, ℕ, List, Some, true}
use Rattle.std.proofs.Common.{sym, ◌∙◌, ap, subst}
use Rattle.nand_model.specs.Calls.{Device}
use Rattle.nand_model.specs.Changes.{OnlyReads}
use Rattle.nand_model.specs.Flash.{Flash}
use Rattle.nand_model.specs.declared.geometry.Geometry.{Geometry}
use Rattle.flash_tree.specs.Mount.{sizes_of}
use Rattle.flash_tree.specs.laws.Place.{same_flash}
use Rattle.chunk_index.specs.declared.index.Index.{Index}
use Rattle.name_index.specs.Covering.{HasHashes}
use Rattle.name_index.specs.declared.index.NameIndex.{NameIndex}
use Rattle.page_store.specs.Shown.{committed_data}
use Rattle.pages.specs.Maps.{PageMap, known_pages}
use Rattle.posix_profile.specs.State.{Objects}
use Rattle.tree_walk.specs.Covering.{CoversObjects}
use Rattle.tree_walk.specs.Hashes.{CoversTree}
use Rattle.tree_walk.specs.declared.tree.Tree.{Tree}
use Rattle.volume_terms.specs.Sizes.{Sizes}
use Rattle.mounting.specs.NewestMaps.{IsNewestMap}
use Rattle.mounting.specs.Mounted.{CoversNewest}

-- what the one has of pages the other has too
abbrev pub IsWithin : PageMap → PageMap → Type 0
IsWithin part m = (o c : ℕ) (page : List ℕ) → part o c ≡ Some page → m o c ≡ Some page

-- the slots of fewer pages are slots of all of them
has_within : (z : Sizes) (part m : PageMap) (names : NameIndex) (d n : ℕ) → IsWithin part m → HasHashes names z m d n → HasHashes names z part d n
has_within z part m names d n within has = λ s e lt (page, at, valid, bytes). has s e lt (page, within d _ page at, valid, bytes)

covers_within : (z : Sizes) (part m : PageMap) (names : NameIndex) (tree : Tree) → IsWithin part m → CoversTree names z m tree → CoversTree names z part tree
covers_within z part m names tree within covers = λ o head there kind. has_within z part m names o head.length within (covers o head there kind)

pub objects_within : (z : Sizes) (part m : PageMap) (names : NameIndex) (objects : Objects) → IsWithin part m → CoversObjects names z m objects → CoversObjects names z part objects
objects_within z part m names objects within covers = λ o moment entries is. has_within z part m names o _ within (covers o moment entries is)

-- reads leave the hashes of the newest pages
pub covers_after : (a b : Device) (x : Index) (names : NameIndex) (spare : ℕ) (tree : Tree) → OnlyReads a b → IsNewestMap a.flash (committed_data x a.flash) → a.honest ≡ true
    → CoversTree names (sizes_of a.geometry spare) (committed_data x a.flash) tree → CoversNewest names b spare tree
covers_after a b x names spare tree reads newest honest covers pages is =
    let here : IsNewestMap a.flash pages = subst (λ (f : Flash). IsNewestMap f pages) (same_flash a b reads honest) is in
    let z : Sizes = sizes_of a.geometry spare in
    subst (λ (g : Geometry). CoversTree names (sizes_of g spare) pages tree) (sym reads.lasts.geometry)
    (covers_within z pages (committed_data x a.flash) names tree (λ o c page at. (newest o c page).1 ((here o c page).0 at)) covers)
