-- The words of a store of objects over pages fit together.
use Rattle.std.specs.Prelude.{◌≡◌, ◌⊎◌, ℕ, Bool, true, false, not}
use Rattle.std.proofs.Common.{refl, sym, ◌∙◌, ap, subst, inl, inr}
use Rattle.std.specs.FinMap as map
use Rattle.volume_terms.specs.Sizes.{Sizes}
use Rattle.posix_profile.specs.State.{Objects}
use Rattle.posix_profile.specs.Charge.{charge}
use Rattle.object_store.specs.Stores.{IsLawful, settled}
use Rattle.object_store.specs.TableFacts.{IsStated}
use Rattle.object_store.specs.Reported.{Reports, ReportsTheSame}
use Rattle.object_store.specs.declared.table.ObjectTable.{ObjectTable}
use Rattle.pages.specs.State.{PagesState}
use Rattle.directories.specs.Hashing.{HoldsMore}
use Rattle.flash_tree.specs.Tree.{SlotIs}
use Rattle.name_index.specs.declared.index.NameIndex.{NameIndex}
use Rattle.page_tags.specs.Slots.{Entry}
use Rattle.pages.specs.Maps.{PageMap, has}
use Rattle.pages.specs.Stores.{SamePages}
use Rattle.paged_objects.specs.Naming.{HasNames}
use Rattle.paged_objects.specs.Representing.{PagesRepresent, Shown}
use Rattle.paged_objects.specs.Ending.{Changes, Fails, Commits}
use Rattle.paged_objects.specs.Known.{ObjectsState, sizes_in, Represents, StaysIn}
use Rattle.paged_objects.specs.Meaning.{paged_meaning}
use Rattle.paged_objects.specs.laws.Going.{stays_here, stays_on, stays_goes, goes_on}
use Rattle.paged_objects.specs.laws.Showing.{stays_shown, stays_representing, changes_after, fails_after, commits_after, read_fails}

-- a table that reports the same
pub same_here : (t : ObjectTable) → ReportsTheSame t t
same_here t = record { sizes = refl; each = λ o. refl; charge = refl; next = refl }

pub same_on : (a b c : ObjectTable) → ReportsTheSame a b → ReportsTheSame b c → ReportsTheSame a c
same_on a b c x y = record { sizes = y.sizes ∙ x.sizes; each = λ o. y.each o ∙ x.each o; charge = y.charge ∙ x.charge; next = y.next ∙ x.next }

pub reports_on : (a b : ObjectTable) (objects : Objects) → ReportsTheSame a b → Reports a objects → Reports b objects
reports_on a b objects same reports = record {
  each = λ o. subst (IsStated objects o (map.get objects o)) (sym (same.each o)) (reports.each o);
  charge = same.charge ∙ reports.charge ∙ ap (λ z. charge z objects) (sym same.sizes);
}

-- what has no power is gone
powerless : (gone : Bool) → not gone ≡ false → gone ≡ true
powerless true lost = refl
powerless false lost = let two : true ≡ false = lost in absurd cc

-- what is shown, for sizes that are the same
shown_at : (z y : Sizes) (p : PagesState) (tree : Objects) → y ≡ z → Shown z p tree → Shown y p tree
shown_at z y p tree is shown = subst (λ (k : Sizes). Shown k p tree) (sym is) shown

either_at : (z y : Sizes) (p : PagesState) (tree settles : Objects) → y ≡ z → Shown z p tree ⊎ Shown z p settles → Shown y p tree ⊎ Shown y p settles
either_at z y p tree settles is (inl shown) = inl (shown_at z y p tree is shown)
either_at z y p tree settles is (inr shown) = inr (shown_at z y p settles is shown)

-- slots of pages that are the same
pub same_slot : (z : Sizes) (m k : PageMap) (o i : ℕ) (e : Entry) → SamePages k m → SlotIs z (has k) o i e → SlotIs z (has m) o i e
same_slot z m k o i e same at = (at.0, sym (same o _) ∙ at.1, at.2, at.3)

-- an index that has more has the names that it had, of pages that are the same
pub more_names : (z : Sizes) (a b : NameIndex) (m k : PageMap) (objects : Objects) → HoldsMore a b → SamePages k m → HasNames a z m objects → HasNames b z k objects
more_names z a b m k objects more same has d dir s e less at = more d _ s (has d dir s e less (same_slot z m k d s e same at))

-- what does not change a store leaves what it represents
pub stays_here_in : (s : ObjectsState) → StaysIn s s
stays_here_in s = record { pages = stays_here s.pages; table = same_here s.table; names = λ d h t is. is }

pub stays_on_in : (a b c : ObjectsState) → StaysIn a b → StaysIn b c → StaysIn a c
stays_on_in a b c x y = record {
  pages = stays_on a.pages b.pages c.pages x.pages y.pages;
  table = same_on a.table b.table c.table x.table y.table;
  names = λ d h t is. y.names d h t (x.names d h t is);
}

pub represents_in : (a b : ObjectsState) (objects : Objects) → StaysIn a b → Represents a objects → Represents b objects
represents_in a b objects x represents = record {
  represents = subst (λ (z : Sizes). PagesRepresent z b.pages objects) (sym x.table.sizes) (stays_representing (sizes_in a) a.pages b.pages objects x.pages represents.represents);
  reports = reports_on a.table b.table objects x.table represents.reports;
  named = subst (λ (z : Sizes). HasNames b.names z b.pages.present objects) (sym x.table.sizes)
      (more_names (sizes_in a) a.names b.names a.pages.present b.pages.present objects x.names x.pages.present represents.named);
}

pub paged_lawful : {S : Type 0} (state : S → ObjectsState) → IsLawful (paged_meaning state)
paged_lawful {S} state = record {
  leaves_nothing = λ a. refl;
  reads_nothing = λ a. stays_here_in (state a);
  reads_on = λ a b c x y. stays_on_in (state a) (state b) (state c) x y;
  reads_lasts = λ a b x. (stays_goes (at a) (at b) x.pages, x.table.sizes);
  lasts_on = λ a b c x y. (goes_on (at a) (at b) (at c) x.0 y.0, y.1 ∙ x.1);
  lasts_sizes = λ a b x. x.1;
  reads_represent = λ a b objects x represents. represents_in (state a) (state b) objects x represents;
  reads_shows = λ a b tree x shown. shown_at (z a) (z b) (at b) tree x.table.sizes (stays_shown (z a) (at a) (at b) tree x.pages shown);
  changes_on = λ a b c old new x y. (
    changes_after (z a) (at a) (at b) (at c) old x.pages (subst (λ (k : Sizes). Changes k old (at b) (at c)) x.table.sizes y.0),
    y.1 ∙ x.table.sizes,
  );
  changes_shows = λ a b old new x tree shown. either_at (z a) (z b) (at b) tree (settled old) x.1 (x.0.turns tree shown);
  fails_on = λ a b c old new x y. (
    fails_after (z a) (at a) (at b) (at c) old x.pages (subst (λ (k : Sizes). Fails k old (at b) (at c)) x.table.sizes y.0),
    y.1 ∙ x.table.sizes,
  );
  unread_on = λ a b c x y. (stays_on_in (state a) (state b) (state c) x y.0, y.1);
  unread_reads = λ a b x. x.0;
  unread_fails = λ a b old new x. (read_fails (z a) (at a) (at b) old x.0.pages x.1, x.0.table.sizes);
  powerless_unread = λ a b x lost. (x, inl (powerless (at b).device.gone lost));
  fails_shows = λ a b old new x tree shown. either_at (z a) (z b) (at b) tree (settled old) x.1 (x.0.turns tree shown);
  commits_on = λ a b c objects x y. (
    commits_after (z a) (at a) (at b) (at c) objects x.pages (subst (λ (k : Sizes). Commits k objects (at b) (at c)) x.table.sizes y.0),
    y.1 ∙ x.table.sizes,
  );
  commits_shows = λ a b objects x. shown_at (z a) (z b) (at b) (settled objects) x.1 x.0.shown;
}
  where
    at : S → PagesState
    at s = (state s).pages

    z : S → Sizes
    z s = sizes_in (state s)
