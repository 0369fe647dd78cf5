-- What is known of the objects that a change speaks of.
use Rattle.std.specs.Prelude.{◌≡◌, ◌≢◌, ◌<◌, ◌≤◌, ◌^◌, ℕ, Option, Some, None, slice_get}
use Rattle.std.proofs.Common.{refl, sym, ◌∙◌, ap, subst, inl, inr, arith}
use Rattle.std.specs.Cmp.{nat_cmp_total}
use Rattle.std.specs.FinMap as map
use Rattle.volume_terms.specs.Names.{IsName}
use Rattle.volume_terms.specs.Sizes.{Sizes, IsSizes, root_number}
use Rattle.posix_profile.specs.State.{Object, File, Dir, Objects, IsFile, IsDirectory}
use Rattle.posix_profile.specs.Changes.{new_number}
use Rattle.posix_profile.specs.laws.Map.{insert_cases, remove_cases}
use Rattle.posix_profile.specs.laws.Number.{new_number_is, new_number_few}
use Rattle.object_store.specs.Changes.{made, without, IsTarget, IsSensible, CanMake}
use Rattle.object_store.specs.declared.change.DirectoryEntry.{DirectoryEntry}
use Rattle.object_store.specs.declared.change.ObjectChange.{ObjectChange}
use Rattle.object_store.specs.declared.change.ObjectChange.TheVariants as changes
use Rattle.flash_tree.specs.Slots.{IsSlotNumber}
use Rattle.flash_tree.specs.Truth.{IsObjectNumber}
use Rattle.flash_tree.specs.declared.place.FreshPage.{FreshPage}
use Rattle.pages.specs.Changes.{AreApart, IsTreeKey}
use Rattle.pages.specs.Maps.{PageMap, after_change, IsPageOf}
use Rattle.pages.specs.laws.Maps.{here}
use Rattle.pages.specs.declared.change.Change.{Change}
use Rattle.paged_objects.specs.Holding.{HoldsObject, HoldsObjects}
use Rattle.object_store.specs.Stores.{CanHave}
use Rattle.paged_objects.proofs.LowPages.{held_low}

-- a slot may lead to a file
pub file_number : (z : Sizes) (objects : Objects) → CanHave z objects → (o : ℕ) → IsFile objects o → IsSlotNumber o
file_number z objects can o file =
    let some : 1 ≤ o = (can.forest.each o (File file.0 file.1) file.2).numbered in
    let other : o ≢ root_number = λ is. (
    let two : Some (File file.0 file.1) ≡ Some (Dir can.forest.root.0 can.forest.root.1) = sym file.2 ∙ ap (map.get objects) is ∙ can.forest.root.2 in absurd cc) in
    (grind (arith, some, other), (can.forest.each o (File file.0 file.1) file.2).number)

-- the name that an object moves to is in a directory
pub target_directory : (objects : Objects) (entry : DirectoryEntry) (o : ℕ) (dropped : Option ℕ) → IsTarget objects entry o dropped → IsDirectory objects entry.directory
target_directory objects entry o dropped (inl new) = new.0.directory
target_directory objects entry o dropped (inr there) = (there.1.moment, there.1.entries, there.1.directory_is)

-- and is a name
pub target_name : (z : Sizes) (objects : Objects) → CanHave z objects → (entry : DirectoryEntry) (o : ℕ) (dropped : Option ℕ) → IsTarget objects entry o dropped → IsName entry.name.now
target_name z objects can entry o dropped (inl new) = new.0.name
target_name z objects can entry o dropped (inr there) =
    (can.forest.each entry.directory (Dir there.1.moment there.1.entries) there.1.directory_is).content entry.name.now there.0 there.1.object_is

-- ---- numbers that objects may have

abbrev AllNumbered : Objects → Type 0
AllNumbered objects = (o : ℕ) (x : Object) → map.get objects o ≡ Some x → IsObjectNumber o

numbered_put : (objects : Objects) → AllNumbered objects → (k : ℕ) (v : Object) → IsObjectNumber k → AllNumbered (map.insert objects k v)
numbered_put objects all k v some o x is = elim (insert_cases nat_cmp_total map.nat_cmp-IsAntisymmetric objects k v o x is) [
  | inl here' ↦ subst IsObjectNumber (sym here'.0) some
  | inr there ↦ all o x there.1
]

numbered_less : (objects : Objects) → AllNumbered objects → (k : ℕ) → AllNumbered (map.remove objects k)
numbered_less objects all k o x is = all o x (remove_cases nat_cmp_total map.nat_cmp-IsAntisymmetric objects k o x is).1

numbered_without : (objects : Objects) → AllNumbered objects → (dropped : Option ℕ) → AllNumbered (without dropped objects)
numbered_without objects all None = all
numbered_without objects all (Some k) = numbered_less objects all k

-- after a change that can be made each object has such a number
made_numbered : (z : Sizes) (objects : Objects) → CanHave z objects → (change : ObjectChange) → IsSensible z objects change → AllNumbered (made objects change)
made_numbered z objects can change sensible = go change sensible
  where
    all : AllNumbered objects
    all o x is = let object = can.forest.each o x is in (object.numbered, object.number)

    directory : (d : ℕ) → IsDirectory objects d → IsObjectNumber d
    directory d dir = all d (Dir dir.0 dir.1) dir.2

    file : (o : ℕ) → IsFile objects o → IsObjectNumber o
    file o it = all o (File it.0 it.1) it.2

    go : (change : ObjectChange) → IsSensible z objects change → AllNumbered (made objects change)
    go (changes.Create entry kind moment) is =
        let low = (new_number_is objects).low in
        numbered_put _ (numbered_put objects all (new_number objects) _ (omega (arith, low), new_number_few z can.numbers objects can.fit)) entry.directory _ (directory entry.directory is.directory)
    go (changes.Name entry number moment) is = numbered_put objects all entry.directory _ (directory entry.directory is.0.directory)
    go (changes.Remove entry removed dropped moment) is =
        numbered_without _ (numbered_put objects all entry.directory _ (all entry.directory _ is.1.directory_is)) dropped
    go (changes.Move from to number replaced dropped moment) is =
        numbered_without _ (numbered_put _ (numbered_put objects all from.directory _ (all from.directory _ is.0.directory_is)) to.directory _ (directory to.directory (target_directory objects to number dropped is.1))) dropped
    go (changes.Write number offset bytes moment) is = numbered_put objects all number _ (file number is.0)
    go (changes.Resize number length moment) is = numbered_put objects all number _ (file number is.0)
    go (changes.Forget number) is = numbered_less objects all number

-- a page of a change is of an object that is there afterwards
page_there : (z : Sizes) (m : PageMap) (change : Change) (objects : Objects) → AreApart change.pages.items → HoldsObjects z (after_change change m) objects
    → (o c i : ℕ) → IsPageOf change.pages.items o c i → (x : Object) × (map.get objects o ≡ Some x)
page_there z m change objects apart holds o c i is = go (map.get objects o) (holds.each o)
  where
    written : after_change change m o c ≡ Some is.page.bytes.items
    written =
        ap (λ k. after_change change m k c) (sym is.object) ∙ ap (after_change change m is.page.key.object) (sym is.chunk)
        ∙ here change m apart i is.page is.there

    go : (x : Option Object) → HoldsObject z (after_change change m) o x → (y : Object) × (x ≡ Some y)
    go None none = let two : None ≡ Some is.page.bytes.items = sym (none c) ∙ written in absurd cc
    go (Some y) held = (y, λ i. Some y)

-- and of a chunk that a tree may look up
page_low : (z : Sizes) (m : PageMap) (change : Change) (objects : Objects) → IsSizes z → AreApart change.pages.items → HoldsObjects z (after_change change m) objects
    → (o c i : ℕ) → IsPageOf change.pages.items o c i → c < 2 ^ 32
page_low z m change objects sizes apart holds o c i is = held_low z sizes (after_change change m) o c is.page.bytes.items written (map.get objects o) (holds.each o) where
  written : after_change change m o c ≡ Some is.page.bytes.items
  written =
      ap (λ k. after_change change m k c) (sym is.object) ∙ ap (after_change change m is.page.key.object) (sym is.chunk)
      ∙ here change m apart i is.page is.there

-- so each is of a key that a tree may look up
pub none_of_others : (z : Sizes) (m : PageMap) (objects : Objects) → CanHave z objects → (change : ObjectChange) → CanMake z objects change → (pages : Change) → AreApart pages.pages.items
    → HoldsObjects z (after_change pages m) (made objects change) → (i : ℕ) (p : FreshPage) → slice_get pages.pages.items i ≡ Some p → (IsTreeKey p.key → ⊥) → ⊥
none_of_others z m objects can change make pages apart holds i p is other =
    let of : IsPageOf pages.pages.items p.key.object p.key.chunk i = record { page = p; there = is; object = refl; chunk = refl } in
    let there = page_there z m pages (made objects change) apart holds p.key.object p.key.chunk i of in
    other (record {
      object = made_numbered z objects can change make.sensible p.key.object there.0 there.1;
      low = page_low z m pages (made objects change) can.numbers apart holds p.key.object p.key.chunk i of;
    })
