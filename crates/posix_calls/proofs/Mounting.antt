-- A volume of mounted pages stands for their tree.
use Rattle.std.specs.Prelude.{◌≡◌, ◌↔◌, Bool, true, false}
use Rattle.std.proofs.Common.{sym, ◌∙◌, ap, subst}
use Rattle.volume_terms.specs.Sizes.{Sizes}
use Rattle.posix_profile.specs.State.{Objects}
use Rattle.posix_profile.specs.laws.Sound.{IsSound}
use Rattle.posix_profile.specs.laws.Prune.{tree_well_formed}
use Rattle.lives.specs.Lives.{at_mount}
use Rattle.flash_tree.specs.Checkpoints.{IsChecked}
use Rattle.flash_tree.specs.Mount.{Answers, IsTreeOf}
use Rattle.name_index.specs.declared.index.NameIndex.{NameIndex}
use Rattle.object_store.specs.Reported.{table_sizes}
use Rattle.object_store.specs.declared.table.ObjectTable.{ObjectTable}
use Rattle.pages.specs.State.{PagesState}
use Rattle.paged_objects.specs.Representing.{volume_of, Shown}
use Rattle.nand_model.specs.Calls.{Device}
use Rattle.nand_model.specs.declared.nand.Nand.{Ghosts}
use Rattle.page_store.specs.declared.flash_pages.FlashPages.{FlashPages}
use Rattle.mounting.specs.Given.{IsGiven, IsGivenByScan, IsMade}
use Rattle.mounting.specs.Made.{CanOnlyBeRead, AreNext, IsMountedWith, Remembers}
use Rattle.mounting.specs.declared.mounted.Mounted.{Mounted}
use Rattle.mounting.specs.Named.{IsReadAs, IsTrustedSince}
use Rattle.mounting.specs.Reads.{ReadsAllTags, ReadsAtMost}
use Rattle.posix_calls.specs.PageVolumes.{pages_of, is_read_only, is_stopped, IsVolumeOf}
use Rattle.posix_calls.specs.declared.page_volume.PageVolume.{PageVolume}
use Rattle.paged_objects.specs.Parts as parts
use Rattle.paged_objects.specs.declared.store.PagedObjects.{PagedObjects}
use Rattle.mounting.specs.Places.{ArePlaced}
use Rattle.posix_calls.specs.Mounts.{AreMounted, IsMounted, IsMountedByScan, IsOver, LieAsScanned, RepresentsTree}

-- a tree that fits is a state that a volume can have
pub sound_at : (p : PagesState) (table : ObjectTable) (names : NameIndex) (objects : Objects) → table_sizes table ≡ volume_of p → IsMountedWith p table names objects → IsSound (table_sizes table) (at_mount objects)
sound_at p table names objects same mounted = subst (λ (z : Sizes). IsSound z (at_mount objects)) (sym same) (record {
  well_formed = tree_well_formed (volume_of p) objects mounted.answers.1.tree;
  fit = mounted.can.fit;
})

-- what a volume over these pages stands for
pub refers_to : {P : Type 0} (state : P → PagesState) (p : PagesState) (z : Sizes) (objects : Objects) (v : PageVolume P) (table : ObjectTable) (names : NameIndex)
    → z ≡ volume_of p → IsMountedWith p table names objects → state (pages_of v) ≡ p → IsVolumeOf state z (at_mount objects) v → RepresentsTree state v objects
refers_to state p z objects v table names same mounted pages volume = record {
  answers = subst (λ (q : PagesState). Answers q.device.geometry q.device.flash (IsTreeOf q.spare objects)) (sym pages) mounted.answers;
  volume = subst (λ (q : PagesState). IsVolumeOf state (volume_of q) (at_mount objects) v) (sym pages) (subst (λ (k : Sizes). IsVolumeOf state k (at_mount objects) v) same volume);
  shown = subst (λ (q : PagesState). Shown (volume_of q) q objects) (sym pages) mounted.shown;
}

-- a volume over the pages of what a mount gives stands for their tree
module _ {M : Type 0} {nand : Ghosts M} (state : FlashPages M nand → PagesState) (m : Mounted M nand) (o : PagedObjects (FlashPages M nand)) (v : PageVolume (FlashPages M nand))
    (in_pages : parts.pages_of o ≡ m.pages) (in_table : parts.table_of o ≡ m.table) (in_names : parts.names_of o ≡ m.names) (same : pages_of v ≡ parts.pages_of o) where
  stored : (tree : Objects) → IsMountedWith (state m.pages) m.table m.names tree → IsMountedWith (state (parts.pages_of o)) (parts.table_of o) (parts.names_of o) tree
  stored tree is = subst (λ (p : FlashPages M nand). IsMountedWith (state p) (parts.table_of o) (parts.names_of o) tree) (sym in_pages)
      (subst (λ (t : ObjectTable). IsMountedWith (state m.pages) t (parts.names_of o) tree) (sym in_table) (subst (λ (n : NameIndex). IsMountedWith (state m.pages) m.table n tree) (sym in_names) is))

  pub over_given : is_stopped v ≡ false → is_read_only v ≡ m.read_only → ((tree : Objects) → AreMounted state o m.read_only tree → RepresentsTree state v tree) → IsOver state m v
  over_given goes is represents = record {
    pages = same ∙ in_pages;
    goes_on = goes;
    read_only = is;
    tree = λ made honest.
        let reported = made.tree (sym (ap (λ (p : FlashPages M nand). (state p).device.honest) (same ∙ in_pages)) ∙ honest) in
        let are : AreMounted state o m.read_only reported.0 = record {
          sizes = ap table_sizes in_table ∙ made.sizes.volume ∙ sym (ap (λ (p : FlashPages M nand). volume_of (state p)) in_pages);
          mounted = stored reported.0 reported.1;
          worn = ap (λ (p : FlashPages M nand). (state p).worn) in_pages ∙ made.worn;
        } in
        (reported.0, represents reported.0 are);
  }

-- a volume over what a mount gives is mounted
module _ {M : Type 0} {nand : Ghosts M} (state : FlashPages M nand → PagesState) (m : Mounted M nand) (v : PageVolume (FlashPages M nand)) (over : IsOver state m v) where
  there : (F : PagesState → Type 0) → F (state m.pages) → F (state (pages_of v))
  there F = subst (λ (p : FlashPages M nand). F (state p)) (sym over.pages)

  module _ (made : IsMade state m) where
    only_read : (is_read_only v ≡ true) ↔ CanOnlyBeRead (state (pages_of v))
    only_read = there (λ q. (is_read_only v ≡ true) ↔ CanOnlyBeRead q) (subst (λ x. (x ≡ true) ↔ CanOnlyBeRead (state m.pages)) (sym over.read_only) made.read_only)

    next_there : (state (pages_of v)).device.honest ≡ true → AreNext (state (pages_of v)).device.flash (state (pages_of v)).next
    next_there = there (λ q. q.device.honest ≡ true → AreNext q.device.flash q.next) made.next

    -- its pages lie as those that a mount gives
    pub placed_over : LieAsScanned state v
    placed_over = subst (λ (p : FlashPages M nand). (state p).device.honest ≡ true → ArePlaced (state p).device (state p).spare p) (sym over.pages) made.placed

  pub mounted_over : (device now : Device) → IsGiven state device now m → IsMounted state device v
  mounted_over device now given = record {
    now = now;
    since = there (λ q. IsTrustedSince device now q.device) given.since;
    goes_on = over.goes_on;
    read_only = only_read given.made;
    next = next_there given.made;
    tree = over.tree given.made;
    checked = λ truth. there (λ q. IsChecked device.geometry device.flash q.checkpoint) (given.checked truth);
    within_limit = there (λ q. ReadsAtMost device q.device) given.within_limit;
    remembers = λ honest. there (Remembers device) (given.remembers honest);
  }

  pub scanned_over : (device now : Device) → IsGivenByScan state device now m → IsMountedByScan state device v
  scanned_over device now given = record {
    now = now;
    since = there (λ q. IsReadAs true device now q.device) given.since;
    goes_on = over.goes_on;
    read_only = only_read given.made;
    next = next_there given.made;
    tree = over.tree given.made;
    checked = λ honest truth. there (λ q. IsChecked device.geometry device.flash q.checkpoint) (given.checked honest truth);
    within_limit = there (λ q. ReadsAllTags device q.device) given.within_limit;
    remembers = λ honest. there (Remembers device) (given.remembers honest);
  }
