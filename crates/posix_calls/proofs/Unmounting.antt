-- How a volume ends, by how its pages end.
use Rattle.std.specs.Prelude.{◌≡◌, ◌⊎◌, ◌≤◌, ℕ, Bool, true, false, Result, Ok, Err, OnOk}
use Rattle.std.proofs.Common.{refl, sym, ◌∙◌, ap, subst, inl, inr}
use Rattle.std.proofs.lemmas.Bool.{true≢false}
use Rattle.nand_model.specs.Calls.{Device}
use Rattle.nand_model.specs.declared.geometry.Geometry.{Geometry}
use Rattle.paged_objects.specs.laws.Holding.{same_objects}
use Rattle.object_store.specs.Stores.{settled}
use Rattle.flash_tree.specs.Mount.{sizes_of}
use Rattle.flash_tree.specs.Newest.{HasNewest}
use Rattle.flash_tree.specs.Tree.{InFootprint}
use Rattle.page_store.specs.Sealing.{EndsOn, IsExact, IsSealed, SealEnds}
use Rattle.page_store.specs.laws.Sealing.{ends_going}
use Rattle.posix_calls.specs.Closing.{KeepsOnly, CanWrite}
use Rattle.posix_calls.specs.PageVolumes.{pages_of, is_read_only, is_stopped, IsVolumeOf}
use Rattle.posix_calls.specs.declared.page_volume.PageVolume.{PageVolume}
use Rattle.pages.specs.State.{PagesState}
use Rattle.pages.specs.Stores.{GoesOn, CommittedAs, bad_on}
use Rattle.paged_objects.specs.Ending.{HasEnded}
use Rattle.paged_objects.specs.Representing.{Shown}
use Rattle.paged_objects.specs.laws.OnFlash.{shown_there}
use Rattle.posix_calls.specs.Endings.{LiesOn, IsUnmounted, CostsACheckpoint, LeavesCheckpoint, EndsWith, reply_of}
use Rattle.posix_calls.specs.laws.Ending.{ends_after, goes_right, right_after}
use Rattle.posix_profile.specs.State.{Objects, State}
use Rattle.posix_profile.specs.declared.reply.Errno.TheVariants as errors
use Rattle.posix_profile.specs.declared.reply.Reply.{Reply}
use Rattle.posix_profile.specs.declared.reply.Reply.TheVariants as replies
use Rattle.nand_model.specs.Trusting.{trusted_as}
use Rattle.volume_terms.specs.Sizes.{Sizes}
use Rattle.volume_terms.specs.declared.fault.StoreFault.{StoreFault}
use Rattle.volume_terms.specs.declared.fault.StoreFault.TheVariants as faults

not_done : replies.Error errors.EIO ≡ replies.Done → ⊥
not_done is = cc

-- How the pages of a volume ended, with a last reply.
pub record Finished {P : Type 0} (state : P → PagesState) (v : PageVolume P) (p : PagesState) (reply : Reply) : Type 0 where
  pub goes_on : GoesOn (state (pages_of v)) p
  pub stopped : is_stopped v ≡ true → (reply ≡ replies.Error errors.EIO) × (p ≡ state (pages_of v))
  pub read_only : is_read_only v ≡ true → p ≡ state (pages_of v)
  pub replies_are : is_stopped v ≡ false → (reply ≡ replies.Done) ⊎ (reply ≡ replies.Error errors.EIO)
  pub power : reply ≡ replies.Done → (state (pages_of v)).device.gone ≡ false → p.device.gone ≡ false
  pub read_only_done : is_stopped v ≡ false → is_read_only v ≡ true → reply ≡ replies.Done
  pub done : is_stopped v ≡ false → (z : Sizes) (s : State) → IsVolumeOf state z s v → reply ≡ replies.Done → Shown z p (settled s.objects)
  pub tree : is_stopped v ≡ false → (z : Sizes) (s : State) → IsVolumeOf state z s v → (tree : Objects) → Shown z (state (pages_of v)) tree
      → Shown z p tree ⊎ Shown z p (settled s.objects)
  pub cause : is_stopped v ≡ false → (z : Sizes) (s : State) → IsVolumeOf state z s v → reply ≡ replies.Error errors.EIO → HasEnded (state (pages_of v)) p
  pub exact : (z : Sizes) (s : State) → CanWrite state z s v → reply ≡ replies.Done → KeepsOnly z p (settled s.objects)

-- the device keeps its power where the pages say so
power_there : (p : PagesState) (device : Device) → LiesOn p device → p.device.gone ≡ false → device.gone ≡ false
power_there p device (reported, is) power = sym (ap (λ (d : Device). d.gone) is) ∙ power

-- it has as many bad blocks
few_there : (p : PagesState) (device : Device) → LiesOn p device → bad_on p.device ≤ p.spare → bad_on device ≤ p.spare
few_there p device (reported, is) within_limit = subst (λ (d : Device). bad_on d ≤ p.spare) is within_limit

-- a tree that was shown is shown by what was committed
sealed_shown : (z : Sizes) (p q : PagesState) (tree : Objects) → EndsOn p q → p.sound ≡ true → CommittedAs q p.committed → Shown z p tree → Shown z q tree
sealed_shown z p q tree ends sound committed shown = record {
  pages = p.committed;
  objects = shown.objects;
  sizes = ap (λ (g : Geometry). sizes_of g q.spare) ends.device.geometry ∙ ap (sizes_of p.device.geometry) ends.spare ∙ shown.sizes;
  carried = committed.carried;
  committed = committed.committed;
  found = committed.found;
  holds = same_objects z shown.pages p.committed shown.objects shown.holds (shown.committed sound);
  can = shown.can;
  settles = shown.settles;
}

-- pages that are only those of the tree that is shown
exact_there : (z : Sizes) (p : PagesState) (tree : Objects) → Shown z p tree → KeepsOnly z p tree → IsExact p
exact_there z p tree shown only sound honest =
    let there = shown_there z p tree shown honest in (
      tree,
      record {
        volume = there.0;
        shows = there.1;
        all = λ o c foot. only.all honest o c (subst (λ (k : Sizes). InFootprint k (HasNewest p.device.flash) tree o c) shown.sizes foot);
        only = λ o c has. subst (λ (k : Sizes). InFootprint k (HasNewest p.device.flash) tree o c) (sym shown.sizes) (only.only honest o c has);
      },
    )

module _ {P : Type 0} (state : P → PagesState) (v : PageVolume P) (p : PagesState) (reply : Reply) (finished : Finished state v p reply) (device : Device) where
  -- the device is given back as the pages left it
  pub left_alone : LiesOn p device → IsUnmounted state v device reply
  left_alone lies = record {
    pages = p;
    device_is = lies;
    ends_on = ends_going (state (pages_of v)) p finished.goes_on;
    stopped = finished.stopped;
    read_only = finished.read_only;
    replies_are = finished.replies_are;
    read_only_done = finished.read_only_done;
    power = λ reported was. power_there p device lies (finished.power reported was);
    within_limit = λ written z s is done. few_there p device lies (finished.exact z s (written, is) done).within_limit;
    done = finished.done;
    tree = finished.tree;
    cause = finished.cause;
    checked = λ runs z s is. goes_right (state (pages_of v)) p finished.goes_on;
  }

  module _ (due : Type 0) (raw : Device) (done : reply ≡ replies.Done) (written : is_read_only v ≡ false) (result : Result (Unit {0}) StoreFault) (sealed : IsSealed due p raw result) (reported : Reply) (is : reported ≡ reply_of result) where
    goes : is_stopped v ≡ true → ⊥
    goes stopped = not_done (sym (finished.stopped stopped).0 ∙ done)

    shown_on : (z : Sizes) (s : State) → IsVolumeOf state z s v → (tree : Objects) → Shown z p tree → Shown z sealed.pages tree
    shown_on z s represents tree shown = let sound = (finished.exact z s (written, represents) done).sound in sealed_shown z p sealed.pages tree sealed.ends_on sound (sealed.committed sound) shown

    has_power : (r : Result (Unit {0}) StoreFault) → SealEnds due p sealed.pages r → reply_of r ≡ replies.Done → p.device.gone ≡ false → sealed.pages.device.gone ≡ false
    has_power (Ok done') (inl same) all power = ap (λ (d : Device). d.gone) same.1.device ∙ power
    has_power (Ok done') (inr wrote) all power = wrote.1
    has_power (Err fault) ends not power = absurd (not_done not)

    ended : (r : Result (Unit {0}) StoreFault) → SealEnds due p sealed.pages r → p.sound ≡ true → reply_of r ≡ replies.Error errors.EIO → HasEnded (state (pages_of v)) sealed.pages
    ended (Ok done') ends sound not = absurd (not_done (sym not))
    ended (Err faults.NoMemory) ends sound all = absurd ends
    ended (Err faults.Device) (inl failed) sound all = inl failed
    ended (Err faults.Device) (inr unsound) sound all = absurd (true≢false (sym sound ∙ unsound))
    ended (Err faults.Worn) ends sound all = inr (inl ends)

    which : (r : Result (Unit {0}) StoreFault) → (reply_of r ≡ replies.Done) ⊎ (reply_of r ≡ replies.Error errors.EIO)
    which (Ok done') = inl refl
    which (Err fault) = inr refl

    few_after : (r : Result (Unit {0}) StoreFault) → OnOk r (bad_on sealed.pages.device ≤ sealed.pages.spare) → reply_of r ≡ replies.Done → bad_on sealed.pages.device ≤ sealed.pages.spare
    few_after (Ok done') within_limit all = within_limit
    few_after (Err fault) within_limit not = absurd (not_done not)

    -- a checkpoint of the pages was written, where one was due
    pub sealed_after : LiesOn sealed.pages device → IsUnmounted state v device reported
    sealed_after lies = record {
      pages = sealed.pages;
      device_is = lies;
      ends_on = ends_after (state (pages_of v)) p sealed.pages (ends_going (state (pages_of v)) p finished.goes_on) sealed.ends_on;
      stopped = λ stopped. absurd (goes stopped);
      read_only = λ read_only. absurd (true≢false (sym read_only ∙ written));
      replies_are = λ runs. subst (λ (r : Reply). (r ≡ replies.Done) ⊎ (r ≡ replies.Error errors.EIO)) (sym is) (which result);
      read_only_done = λ runs read_only. absurd (true≢false (sym read_only ∙ written));
      power = λ all was. power_there sealed.pages device lies (has_power result sealed.ends (sym is ∙ all) (finished.power done was));
      within_limit = λ _ z s represents all. few_there sealed.pages device lies (few_after result (sealed.within_limit (finished.exact z s (written, represents) done).within_limit) (sym is ∙ all));
      done = λ runs z s represents all. shown_on z s represents (settled s.objects) (finished.done runs z s represents done);
      tree = λ runs z s represents tree shown. inr (shown_on z s represents (settled s.objects) (finished.done runs z s represents done));
      cause = λ runs z s represents stop. ended result sealed.ends (finished.exact z s (written, represents) done).sound (sym is ∙ stop);
      checked = λ runs z s represents.
          right_after (state (pages_of v)) p sealed.pages (ends_going (state (pages_of v)) p finished.goes_on) (goes_right (state (pages_of v)) p finished.goes_on)
          (sealed.checked (exact_there z p (settled s.objects) (finished.done runs z s represents done) (finished.exact z s (written, represents) done)));
    }

-- What follows the last reply of a volume that can be written, over the device that is given back.
module _ {P : Type 0} (state : P → PagesState) (due : P → Type 0) (length : P → ℕ) (v : PageVolume P) (pages : P) (reply : Reply) (finished : Finished state v (state pages) reply) (written : is_read_only v ≡ false)
    (raw device : Device) (reported : Reply) (ends : EndsWith (due pages) (state pages) reply raw reported) (costs : CostsACheckpoint (length pages) (state pages).device raw) (lies : (trusted : Bool) × (raw ≡ trusted_as trusted device)) where
  on_raw : (q : PagesState) → q.device ≡ raw → LiesOn q device
  on_raw q is = (lies.0, is ∙ lies.1)

  pub ends_with : IsUnmounted state v device reported
  ends_with = elim ends [
    | inl (done, sealed, is, same) ↦ sealed_after state v (state pages) reply finished device (due pages) raw done written sealed is reported same (on_raw is.pages is.device_is)
    | inr (not, is, same) ↦ subst (λ (r : Reply). IsUnmounted state v device r) (sym same) (left_alone state v (state pages) reply finished device (on_raw (state pages) is))
  ]

  left_by : (sealed : Result (Unit {0}) StoreFault) → IsSealed (due pages) (state pages) raw sealed → reply_of sealed ≡ replies.Done → LeavesCheckpoint state due length v device
  left_by (Ok done') is done = record {
    committed_map = pages;
    goes_on = finished.goes_on;
    left = is.pages;
    device_is = on_raw is.pages is.device_is;
    ends = is.ends;
    costs = subst (CostsACheckpoint (length pages) (state pages).device) (sym is.device_is) costs;
  }
  left_by (Err fault) is done = absurd (not_done done)

  pub leaves_one : reported ≡ replies.Done → LeavesCheckpoint state due length v device
  leaves_one done = elim ends [
    | inl (first, sealed, is, same) ↦ left_by sealed is (sym same ∙ done)
    | inr (not, is, same) ↦ absurd (not (sym same ∙ done))
  ]
