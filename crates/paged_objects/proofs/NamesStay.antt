-- The names of objects in an index, after a change with which none comes or goes.
use Rattle.std.specs.Prelude.{◌≡◌, ◌≢◌, ◌≤◌, ◌+◌, ◌/◌, ℕ, true, false, List, Some, None}
use Rattle.std.proofs.Common.{refl, sym, ◌∙◌, ap, arith}
use Rattle.std.specs.Cmp.{nat_cmp_total}
use Rattle.std.specs.FinMap as map
use Rattle.name_index.specs.declared.index.NameIndex.{NameIndex}
use Rattle.volume_terms.specs.Sizes.{Sizes, page_slots}
use Rattle.posix_profile.specs.State.{File, Dir, Objects, IsDirectory, entries_of}
use Rattle.posix_profile.specs.Changes.{with_bytes}
use Rattle.posix_profile.specs.laws.Map.{get_here, removed_none}
use Rattle.object_store.specs.Changes.{made}
use Rattle.object_store.specs.declared.change.ObjectChange.{ObjectChange}
use Rattle.object_store.specs.declared.change.ObjectChange.TheVariants as changes
use Rattle.pages.specs.Changes.{IsOnlyOf}
use Rattle.pages.specs.Maps.{PageMap, after_change}
use Rattle.pages.specs.laws.Changes.{others_keep}
use Rattle.pages.specs.declared.change.Change.{Change}
use Rattle.paged_objects.specs.Making.{IsOnlyBy, changes_names}
use Rattle.paged_objects.specs.Naming.{HasNames}
use Rattle.paged_objects.proofs.Growing.{count, has_hashes, less_file, less_removed}

-- where pages of one object alone change, which is no directory afterwards, and no directory has more entries, the slots stay as they were
names_elsewhere : (names : NameIndex) (z : Sizes) (m : PageMap) (it : Change) (old new : Objects) (o : ℕ) → IsOnlyOf it o → (IsDirectory new o → ⊥) → ((d : ℕ) → count new d ≤ count old d)
    → HasNames names z m old → HasNames names z (after_change it m) new
names_elsewhere names z m it old new o only none less has d dir s e low at =
    let c : ℕ = 1 + s / page_slots z in
    let apart : d ≢ o = λ same. none (dir.0, dir.1, sym (ap (map.get new) same) ∙ dir.2) in
    let there : after_change it m d c ≡ m d c = others_keep it o only m d c apart in
    let entries : count new d ≡ map.len dir.1 = ap (λ x. map.len (entries_of x)) dir.2 in
    let few : count new d ≤ count old d = less d in
    has_hashes names z m old has d (map.get old d) refl s e (omega (arith, low, entries, few)) (at.0, sym there ∙ at.1, at.2, at.3)

-- a file that is written is no directory
no_directory_written : (objects : Objects) (o moment : ℕ) (bytes : List ℕ) → IsDirectory (with_bytes objects moment o bytes) o → ⊥
no_directory_written objects o moment bytes dir =
    let two : Some (File moment bytes) ≡ Some (Dir dir.0 dir.1) = sym (get_here nat_cmp_total map.nat_cmp-IsAntisymmetric objects o (File moment bytes)) ∙ dir.2 in absurd cc

-- nor is an object that went
no_directory_removed : (objects : Objects) (o : ℕ) → IsDirectory (map.remove objects o) o → ⊥
no_directory_removed objects o dir =
    let two : None ≡ Some (Dir dir.0 dir.1) = sym (removed_none nat_cmp_total map.nat_cmp-IsAntisymmetric objects o) ∙ dir.2 in absurd cc

-- the index has the names of the objects that such a change makes
pub names_stay : (names : NameIndex) (z : Sizes) (m : PageMap) (it : Change) (objects : Objects) (change : ObjectChange) → changes_names change ≡ false → IsOnlyBy change it
    → HasNames names z m objects → HasNames names z (after_change it m) (made objects change)
names_stay names z m it objects (changes.Create entry kind moment) none only has = let two : true ≡ false = none in absurd cc
names_stay names z m it objects (changes.Name entry number moment) none only has = let two : true ≡ false = none in absurd cc
names_stay names z m it objects (changes.Remove entry removed dropped moment) none only has = let two : true ≡ false = none in absurd cc
names_stay names z m it objects (changes.Move from to number replaced dropped moment) none only has = let two : true ≡ false = none in absurd cc
names_stay names z m it objects (changes.Write number offset bytes moment) none only has =
    names_elsewhere names z m it objects _ number only (no_directory_written objects number moment _) (less_file objects number moment _) has
names_stay names z m it objects (changes.Resize number length moment) none only has =
    names_elsewhere names z m it objects _ number only (no_directory_written objects number moment _) (less_file objects number moment _) has
names_stay names z m it objects (changes.Forget number) none only has =
    names_elsewhere names z m it objects _ number only (no_directory_removed objects number) (less_removed objects number) has
