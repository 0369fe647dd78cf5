-- What a mount shows after calls of a store of pages.
use Rattle.std.specs.Prelude.{◌≡◌, ◌⊎◌, ℕ, true}
use Rattle.std.proofs.Common.{refl, sym, ◌∙◌, subst, inl, inr}
use Rattle.nand_model.specs.Flash.{Flash}
use Rattle.nand_model.specs.Calls.{Device}
use Rattle.nand_model.specs.Changes.{OnlyReads}
use Rattle.nand_model.specs.declared.geometry.Geometry.{Geometry}
use Rattle.flash_tree.specs.FreeBlocks.{LeavesFree}
use Rattle.flash_tree.specs.laws.Place.{same_flash}
use Rattle.volume_terms.specs.Sizes.{Sizes}
use Rattle.posix_profile.specs.State.{Objects}
use Rattle.object_store.specs.Stores.{settled}
use Rattle.pages.specs.Maps.{PageMap}
use Rattle.pages.specs.State.{PagesState}
use Rattle.pages.specs.Stores.{Carries, HasPage, HasNumbersLeft, HasFailed, IsCarried, SamePages, GoesOn, CommittedAs, KeepsEither}
use Rattle.pages.specs.laws.Mountable.{finds_read}
use Rattle.paged_objects.specs.Holding.{HoldsObjects, HoldsIn}
use Rattle.object_store.specs.Stores.{CanHave}
use Rattle.paged_objects.specs.laws.Holding.{same_objects}
use Rattle.paged_objects.specs.Representing.{volume_of, PagesRepresent, Shown}
use Rattle.paged_objects.specs.Ending.{StaysAs, Turns, Changes, Fails, Commits}
use Rattle.paged_objects.specs.laws.Going.{ended_after, stays_goes, goes_on, volume_on}

-- what a device carries it carries after reads
carried_read : (a b : Device) (spare : ℕ) (m : PageMap) → OnlyReads a b → a.honest ≡ true → IsCarried a spare m → IsCarried b spare m
carried_read a b spare m reads honest carried =
    let same = sym (same_flash a b reads honest) in
    record {
      newest = subst (λ (f : Flash). Carries f m) same carried.newest;
      free = subst (λ (g : Geometry). HasNumbersLeft b.flash → LeavesFree g b.flash spare (HasPage m)) (sym reads.lasts.geometry)
          (subst (λ (f : Flash). HasNumbersLeft f → LeavesFree a.geometry f spare (HasPage m)) same carried.free);
    }

-- pages that stay show the same tree
pub stays_shown : (z : Sizes) (p q : PagesState) (tree : Objects) → StaysAs p q → Shown z p tree → Shown z q tree
stays_shown z p q tree stays shown = record {
  pages = shown.pages;
  objects = shown.objects;
  sizes = volume_on p q (stays_goes p q stays) ∙ shown.sizes;
  carried = λ honest.
      let before : p.device.honest ≡ true = sym stays.device.lasts.honest ∙ honest in
      subst (λ spare. IsCarried q.device spare shown.pages) (sym stays.spare) (carried_read p.device q.device p.spare shown.pages stays.device before (shown.carried before));
  committed = λ sound o c. stays.committed o c ∙ shown.committed (sym stays.sound ∙ sound) o c;
  found = finds_read p q shown.pages stays.device stays.first shown.found;
  holds = shown.holds;
  can = shown.can;
  settles = shown.settles;
}

-- and hold the same objects
pub stays_representing : (z : Sizes) (p q : PagesState) (objects : Objects) → StaysAs p q → PagesRepresent z p objects → PagesRepresent z q objects
stays_representing z p q objects stays represents = record {
  sound = stays.sound ∙ represents.sound;
  sizes = volume_on p q (stays_goes p q stays) ∙ represents.sizes;
  page_bytes = stays.page_bytes ∙ represents.page_bytes;
  most = stays.most ∙ represents.most;
  holds = same_objects z p.present q.present objects represents.holds stays.present;
  shown = (represents.shown.0, stays_shown z p q represents.shown.0 stays represents.shown.1);
}

-- what objects are in is what their changes are planned from
pub holds_in : (z : Sizes) (p : PagesState) (objects : Objects) → PagesRepresent z p objects → HoldsIn p z objects
holds_in z p objects represents = record { sound = represents.sound; size = sym represents.page_bytes; holds = represents.holds }

-- the tree that a mount shows after a call
tree_after : (z : Sizes) (q : PagesState) (tree other : Objects) → Shown z q tree ⊎ Shown z q other → (shown : Objects) × Shown z q shown
tree_after z q tree other (inl first) = (tree, first)
tree_after z q tree other (inr second) = (other, second)

-- after a change that was made the store has the new objects
pub changed_represents : (z : Sizes) (p q : PagesState) (old new : Objects) (m : PageMap) → GoesOn p q → PagesRepresent z p old → q.sound ≡ true → HoldsObjects z m new → SamePages q.present m
    → Turns z old p q → PagesRepresent z q new
changed_represents z p q old new m goes represents sound holds same turns = record {
  sound = sound;
  sizes = volume_on p q goes ∙ represents.sizes;
  page_bytes = goes.page_bytes ∙ represents.page_bytes;
  most = goes.most ∙ represents.most;
  holds = same_objects z m q.present new holds same;
  shown = tree_after z q represents.shown.0 (settled old) (turns represents.shown.0 represents.shown.1);
}

-- pages that are committed show what they hold, settled
pub committed_shown : (z : Sizes) (q : PagesState) (m : PageMap) (objects : Objects) → volume_of q ≡ z → CommittedAs q m → HoldsObjects z m objects → CanHave z objects → Shown z q (settled objects)
committed_shown z q m objects sizes committed holds can = record {
  pages = m;
  objects = objects;
  sizes = sizes;
  carried = committed.carried;
  committed = committed.committed;
  found = committed.found;
  holds = holds;
  can = can;
  settles = refl;
}

-- where the committed pages of a sound store are committed, the tree that was shown is shown
pub still_shown : (z : Sizes) (p q : PagesState) (tree : Objects) → GoesOn p q → p.sound ≡ true → CommittedAs q p.committed → Shown z p tree → Shown z q tree
still_shown z p q tree goes sound committed shown = record {
  pages = p.committed;
  objects = shown.objects;
  sizes = volume_on p q goes ∙ shown.sizes;
  carried = committed.carried;
  committed = committed.committed;
  found = committed.found;
  holds = same_objects z shown.pages p.committed shown.objects shown.holds (shown.committed sound);
  can = shown.can;
  settles = shown.settles;
}

-- committed as they were, or as they are present: the tree that was shown, or the settled objects
pub either_turns : (z : Sizes) (p q : PagesState) (objects : Objects) → GoesOn p q → PagesRepresent z p objects → CanHave z objects → KeepsEither p q → Turns z objects p q
either_turns z p q objects goes represents can (inl committed) tree shown = inl (still_shown z p q tree goes represents.sound committed shown)
either_turns z p q objects goes represents can (inr present) tree shown = inr (committed_shown z q p.present objects (volume_on p q goes ∙ represents.sizes) present represents.holds can)

-- reads before a call do not matter
pub turns_after : (z : Sizes) (p q r : PagesState) (objects : Objects) → StaysAs p q → Turns z objects q r → Turns z objects p r
turns_after z p q r objects stays turns tree shown = turns tree (stays_shown z p q tree stays shown)

pub changes_after : (z : Sizes) (p q r : PagesState) (objects : Objects) → StaysAs p q → Changes z objects q r → Changes z objects p r
changes_after z p q r objects stays changes = record {
  goes_on = goes_on p q r (stays_goes p q stays) changes.goes_on;
  turns = turns_after z p q r objects stays changes.turns;
}

pub fails_after : (z : Sizes) (p q r : PagesState) (objects : Objects) → StaysAs p q → Fails z objects q r → Fails z objects p r
fails_after z p q r objects stays fails = record {
  goes_on = goes_on p q r (stays_goes p q stays) fails.goes_on;
  turns = turns_after z p q r objects stays fails.turns;
  cause = ended_after p q r stays.commits fails.cause;
}

pub commits_after : (z : Sizes) (p q r : PagesState) (objects : Objects) → StaysAs p q → Commits z objects q r → Commits z objects p r
commits_after z p q r objects stays commits = record {
  goes_on = goes_on p q r (stays_goes p q stays) commits.goes_on;
  shown = commits.shown;
  holds = commits.holds;
}

-- a read that ended the use of the store
pub read_fails : (z : Sizes) (p q : PagesState) (objects : Objects) → StaysAs p q → HasFailed q.device → Fails z objects p q
read_fails z p q objects stays failed = record {
  goes_on = stays_goes p q stays;
  turns = λ tree shown. inl (stays_shown z p q tree stays shown);
  cause = inl failed;
}
