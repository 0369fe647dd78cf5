-- What the words of the trait say of pages and a table.
use Rattle.std.specs.Prelude.{◌≡◌, ℕ, true, OnOk, IfErr, Result, Ok, Err}
use Rattle.std.proofs.Common.{refl, sym, ap, subst}
use Rattle.volume_terms.specs.Sizes.{Sizes, IsSizes}
use Rattle.volume_terms.specs.declared.fault.StoreFault.{StoreFault}
use Rattle.volume_terms.specs.declared.fault.StoreFault.TheVariants as faults
use Rattle.posix_profile.specs.State.{Objects}
use Rattle.posix_profile.specs.Charge.{fits}
use Rattle.posix_profile.specs.WellFormed.{IsForest}
use Rattle.object_store.specs.Changes.{CanMake, takes_none}
use Rattle.object_store.specs.declared.change.ObjectChange.{ObjectChange}
use Rattle.object_store.specs.declared.change.ObjectChange.TheVariants as changes
use Rattle.object_store.specs.Stores.{Has, ReadFaults, Applies}
use Rattle.object_store.specs.Stores as meant
use Rattle.object_store.specs.Reported.{table_sizes, Reports, ReportsTheSame}
use Rattle.object_store.specs.Stores.{CanHave}
use Rattle.object_store.specs.declared.table.ObjectTable.{ObjectTable}
use Rattle.name_index.specs.Names.{Holds}
use Rattle.name_index.specs.declared.index.NameIndex.{NameIndex}
use Rattle.paged_objects.specs.Naming.{HasNames}
use Rattle.pages.specs.State.{OnlyFinds}
use Rattle.pages.specs.Stores.{GoesOn, SamePages, CommittedAs, KeepsEither, CommitFailsBy}
use Rattle.paged_objects.specs.Faults.{ReadFailsBy}
use Rattle.paged_objects.specs.Representing.{PagesRepresent}
use Rattle.paged_objects.specs.Known.{ObjectsState, sizes_in, StaysIn, HasNamed, HasObjects}
use Rattle.paged_objects.specs.Changing.{ChangeEnds}
use Rattle.paged_objects.specs.Meaning.{paged_meaning}
use Rattle.paged_objects.specs.laws.Going.{finds_stay}
use Rattle.paged_objects.specs.laws.Lawful.{same_here, more_names}
use Rattle.paged_objects.proofs.Ends.{committed_map, commit_failed}

-- what the trait says of a store that has objects
pub has_objects : {S : Type 0} (state : S → ObjectsState) (a : S) (z : Sizes) (objects : Objects) → Has (paged_meaning state) z objects a → HasObjects (state a) objects
has_objects state a z objects has = record {
  pages = record {
    represents = has.represents.represents;
    can = record {
      numbers = subst IsSizes (sym has.sizes) has.numbers;
      forest = subst (λ (k : Sizes). IsForest k objects) (sym has.sizes) has.forest;
      fit = subst (λ (k : Sizes). fits k objects ≡ true) (sym has.sizes) has.fit;
    };
  };
  reports = has.represents.reports;
  named = has.represents.named;
}

pub has_named : (s : ObjectsState) (objects : Objects) → HasObjects s objects → HasNamed s.names (sizes_in s) s.pages objects
has_named s objects has = record { pages = has.pages; named = has.named }

-- what a volume can have, as the table says it
pub can_have : (z y : Sizes) (objects : Objects) → y ≡ z → CanHave z objects → CanHave y objects
can_have z y objects is can = subst (λ (k : Sizes). CanHave k objects) (sym is) can

-- a change that can be made, with the table's own sizes
pub can_make : (z y : Sizes) (objects : Objects) (change : ObjectChange) → y ≡ z → CanMake z objects change → CanMake y objects change
can_make z y objects change is make = subst (λ (k : Sizes). CanMake k objects change) (sym is) make

-- the same, after look-ups alone
found_in : (a b : ObjectsState) → OnlyFinds a.pages b.pages → b.table ≡ a.table → b.names ≡ a.names → StaysIn a b
found_in a b lookups table names = record {
  pages = finds_stay a.pages b.pages lookups;
  table = subst (ReportsTheSame a.table) (sym table) (same_here a.table);
  names = λ d h t is. subst (λ (x : NameIndex). Holds x d h t) (sym names) is;
}

module _ {S : Type 0} (state : S → ObjectsState) where
  -- a fault of a read
  pub read_faults : (a b : S) (fault : StoreFault) → OnlyFinds (state a).pages (state b).pages → (state b).table ≡ (state a).table → (state b).names ≡ (state a).names → ReadFailsBy (state b).pages fault
      → ReadFaults (paged_meaning state) a b fault
  read_faults a b faults.NoMemory lookups table names why = found_in (state a) (state b) lookups table names
  read_faults a b faults.Device lookups table names why = (found_in (state a) (state b) lookups table names, why)
  read_faults a b faults.Worn lookups table names why = absurd why

  -- the end of a commit, which leaves what is in memory
  pub commits : (a b : S) (objects : Objects) (result : Result (Unit {0}) StoreFault) → HasObjects (state a) objects → (state b).table ≡ (state a).table → (state b).names ≡ (state a).names → GoesOn (state a).pages (state b).pages
      → OnOk result ((state a).pages.sound ≡ true → (state b).pages.sound ≡ true) → OnOk result (SamePages (state b).pages.present (state a).pages.present)
      → KeepsEither (state a).pages (state b).pages → OnOk result (CommittedAs (state b).pages (state a).pages.present)
      → IfErr result (CommitFailsBy (state a).pages (state b).pages) → meant.Commits (paged_meaning state) objects a b result
  commits a b objects (Ok done) has table names goes sound present keeps committed why =
      let z : Sizes = sizes_in (state a) in
      let sizes : sizes_in (state b) ≡ z = ap table_sizes table in
      let done = committed_map z (state a).pages (state b).pages objects has.pages goes (sound has.pages.represents.sound) present keeps committed in (
        record {
          represents = subst (λ (k : Sizes). PagesRepresent k (state b).pages objects) (sym sizes) done.0;
          reports = subst (λ (t : ObjectTable). Reports t objects) (sym table) has.reports;
          named = subst (λ (k : Sizes). HasNames (state b).names k (state b).pages.present objects) (sym sizes)
              (more_names z (state a).names (state b).names (state a).pages.present (state b).pages.present objects (λ d h t is. subst (λ (x : NameIndex). Holds x d h t) (sym names) is) present has.named);
        },
        (done.1, sizes),
      )
  commits a b objects (Err faults.NoMemory) has table names goes sound present keeps committed why = absurd why
  commits a b objects (Err faults.Device) has table names goes sound present keeps committed why = (commit_failed (sizes_in (state a)) (state a).pages (state b).pages objects faults.Device has.pages goes keeps why, ap table_sizes table)
  commits a b objects (Err faults.Worn) has table names goes sound present keeps committed why = (commit_failed (sizes_in (state a)) (state a).pages (state b).pages objects faults.Worn has.pages goes keeps why, ap table_sizes table)

  -- the end of a change
  pub applied : (a b : S) (old new : Objects) (result : Result (Unit {0}) StoreFault) → GoesOn (state a).pages (state b).pages → sizes_in (state b) ≡ sizes_in (state a)
      → ChangeEnds (state a) (state b) old new result → Applies (paged_meaning state) old new a b result
  applied a b old new (Ok done) goes same ends = (
    record {
      represents = subst (λ (k : Sizes). PagesRepresent k (state b).pages new) (sym same) ends.0;
      reports = ends.1;
      named = subst (λ (k : Sizes). HasNames (state b).names k (state b).pages.present new) (sym same) ends.2;
    },
    (record { goes_on = goes; turns = ends.3 }, same),
  )
  applied a b old new (Err faults.NoMemory) goes same ends = ends
  applied a b old new (Err faults.Device) goes same ends = (ends, same)
  applied a b old new (Err faults.Worn) goes same ends = (ends, same)

-- only one that forgets takes no memory
pub forgets : (change : ObjectChange) → takes_none change ≡ true → (number : ℕ) × (change ≡ changes.Forget number)
forgets (changes.Create entry kind moment) is = absurd cc
forgets (changes.Name entry number moment) is = absurd cc
forgets (changes.Remove entry removed dropped moment) is = absurd cc
forgets (changes.Move from to number replaced dropped moment) is = absurd cc
forgets (changes.Write number offset bytes moment) is = absurd cc
forgets (changes.Resize number length moment) is = absurd cc
forgets (changes.Forget number) is = (number, refl)
