-- Names that are dropped from an index.
use Rattle.std.specs.Prelude.{◌≡◌, ◌≢◌, ◌⊎◌, ℕ, [], ◌∷◌, Option, Some, None, IfSome}
use Rattle.std.proofs.Common.{sym, ◌∙◌, ap, subst, inl, inr, arith}
use Rattle.std.proofs.lemmas.Bool.{cases_eq}
use Rattle.std.specs.Cmp.{nat_cmp_total}
use Rattle.std.specs.FinMap as map
use Rattle.flash_tree.specs.Tree.{SlotIs}
use Rattle.name_index.specs.Hashes.{fnv1a}
use Rattle.name_index.specs.Names.{DropsName, DropsDirectory}
use Rattle.name_index.specs.declared.index.NameIndex.{NameIndex}
use Rattle.volume_terms.specs.Sizes.{Sizes}
use Rattle.posix_profile.specs.State.{Objects, Dir, IsDirectory, entries_of}
use Rattle.posix_profile.specs.laws.Map.{remove_cases}
use Rattle.object_store.specs.declared.change.ObjectChange.{ObjectChange}
use Rattle.object_store.specs.declared.change.ObjectChange.TheVariants as changes
use Rattle.pages.specs.Maps.{PageMap, has, without_cuts, after_change}
use Rattle.pages.specs.Stores.{SamePages}
use Rattle.pages.specs.declared.change.Change.{Change}
use Rattle.directories.specs.Leaving.{LeavesName}
use Rattle.directories.specs.declared.leaving.LeftSlot.{LeftSlot}
use Rattle.directories.specs.laws.Keys.{cuts_leave}
use Rattle.paged_objects.specs.Naming.{HasNames}
use Rattle.paged_objects.specs.Changing.{IsStale, HasLeft, HasLeftBy, LeavesBy}
use Rattle.paged_objects.specs.laws.Lawful.{same_slot}

-- what no entry needs can be dropped
pub stale_dropped : (a b : NameIndex) (z : Sizes) (m : PageMap) (objects : Objects) (d h t : ℕ) → DropsName d h t a b → IsStale z m objects d h t → HasNames a z m objects → HasNames b z m objects
stale_dropped a b z m objects d h t drops stale names k dir s e less at = drops.stays k (fnv1a e.name) s (apart (cases_eq k d) (cases_eq s t)) (names k dir s e less at)
  where
    apart : (k ≡ d) ⊎ (k ≢ d) → (s ≡ t) ⊎ (s ≢ t) → (k ≢ d) ⊎ (fnv1a e.name ≢ h) ⊎ (s ≢ t)
    apart (inr other) place = inl other
    apart (inl same) (inr other) = inr (inr other)
    apart (inl same) (inl here) =
        inr (inl (λ is. subst (λ i. IsStale z m objects k h i) (sym here) (subst (λ j. IsStale z m objects j h t) (sym same) stale) dir e less at is))

-- behind the last slot there is no entry
pub behind_stale : (z : Sizes) (m : PageMap) (objects : Objects) (d h t : ℕ) → (IsDirectory objects d → t ≡ map.len (entries_of (map.get objects d))) → IsStale z m objects d h t
behind_stale z m objects d h t count dir e less at is =
    let n : t ≡ map.len (entries_of (map.get objects d)) = count dir in
    let same : map.len (entries_of (map.get objects d)) ≡ map.len dir.1 = ap (λ x. map.len (entries_of x)) dir.2 in
    omega (arith, n, same, less)

-- what is dropped of an object that is gone
pub object_dropped : (a b : NameIndex) (z : Sizes) (m : PageMap) (objects : Objects) (o : ℕ) → DropsDirectory o a b → HasNames a z m (map.remove objects o) → HasNames b z m (map.remove objects o)
object_dropped a b z m objects o drops names d dir s e less at =
    drops.stays d (fnv1a e.name) s (remove_cases nat_cmp_total map.nat_cmp-IsAntisymmetric objects o d (Dir dir.0 dir.1) dir.2).0 (names d dir s e less at)

-- an object that is cut away
pub names_forgotten : (a b : NameIndex) (z : Sizes) (m k : PageMap) (objects : Objects) (o : ℕ) → DropsDirectory o a b → SamePages k (without_cuts (record { object = o; from = 0 } ∷ []) m)
    → HasNames a z m objects → HasNames b z k (map.remove objects o)
names_forgotten a b z m k objects o drops same names d dir s e less at =
    let was = remove_cases nat_cmp_total map.nat_cmp-IsAntisymmetric objects o d (Dir dir.0 dir.1) dir.2 in
    let cut : SlotIs z (has (without_cuts (record { object = o; from = 0 } ∷ []) m)) d s e = same_slot z (without_cuts (record { object = o; from = 0 } ∷ []) m) k d s e same at in
    drops.stays d (fnv1a e.name) s was.0 (names d (dir.0, dir.1, was.1) s e less (cut.0, cuts_leave (record { object = o; from = 0 } ∷ []) m d _ cut.0 cut.1, cut.2, cut.3))

-- a name has left its slot where a change of the pages says so
left_here : (z : Sizes) (m k : PageMap) (objects : Objects) (planned : Change) (d h : ℕ) (left : Option LeftSlot) → SamePages k (after_change planned m)
    → IfSome left (λ slot. LeavesName z planned d h slot) → HasLeft z k objects d h left
left_here z m k objects planned d h None same leaves = tt
left_here z m k objects planned d h (Some left) same leaves = λ dir e less at is. leaves.other (sym (leaves.written m e (same_slot z (after_change planned m) k d left.slot e same at)) ∙ is)

pub left_by_change : (z : Sizes) (m k : PageMap) (objects : Objects) (planned : Change) (change : ObjectChange) (left : Option LeftSlot) → SamePages k (after_change planned m)
    → IfSome left (LeavesBy z planned change) → HasLeftBy z k objects change left
left_by_change z m k objects planned (changes.Create entry kind moment) left same leaves = tt
left_by_change z m k objects planned (changes.Name entry number moment) left same leaves = tt
left_by_change z m k objects planned (changes.Remove entry removed dropped moment) left same leaves = left_here z m k objects planned entry.directory (fnv1a entry.name.now) left same leaves
left_by_change z m k objects planned (changes.Move from to number replaced dropped moment) left same leaves = left_here z m k objects planned from.directory (fnv1a from.name.now) left same leaves
left_by_change z m k objects planned (changes.Write number offset bytes moment) left same leaves = tt
left_by_change z m k objects planned (changes.Resize number length moment) left same leaves = tt
left_by_change z m k objects planned (changes.Forget number) left same leaves = tt

-- what is so of each sizes with pages of so many bytes is so of these
pub leaves_at : (z : Sizes) (planned : Change) (change : ObjectChange) (left : Option LeftSlot) (d : ℕ) → z.page_bytes ≡ d
    → IfSome left (λ slot. (y : Sizes) → y.page_bytes ≡ d → LeavesBy y planned change slot) → IfSome left (LeavesBy z planned change)
leaves_at z planned change None d is each = tt
leaves_at z planned change (Some left) d is each = each z is
