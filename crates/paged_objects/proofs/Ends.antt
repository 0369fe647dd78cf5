-- How the parts of a change end.
use Rattle.std.specs.Prelude.{◌≡◌, ◌∷◌, [], ℕ, true, OnOk, IfErr, IsErrOf, Result, Ok, Err}
use Rattle.std.proofs.Common.{refl, sym, ◌∙◌, subst, inl, inr}
use Rattle.std.specs.FinMap as map
use Rattle.volume_terms.specs.Sizes.{Sizes}
use Rattle.volume_terms.specs.declared.fault.StoreFault.{StoreFault}
use Rattle.volume_terms.specs.declared.fault.StoreFault.TheVariants as faults
use Rattle.posix_profile.specs.State.{Objects}
use Rattle.object_store.specs.Reported.{Reports, ReportsTheSame}
use Rattle.name_index.specs.Names.{DropsDirectory}
use Rattle.name_index.specs.declared.index.NameIndex.{NameIndex}
use Rattle.directories.specs.Hashing.{HoldsMore}
use Rattle.paged_objects.specs.Naming.{HasNames}
use Rattle.pages.specs.Faults.{MayLackMemory}
use Rattle.pages.specs.Maps.{PageMap, without_cuts}
use Rattle.pages.specs.State.{PagesState, OnlyFinds}
use Rattle.pages.specs.Stores.{SamePages, GoesOn, StaysSame, CommittedAs, KeepsEither, ChangeFailsBy, CommitFailsBy}
use Rattle.pages.specs.declared.fault.PageFault.{PageFault}
use Rattle.pages.specs.declared.fault.PageFault.TheVariants as page_faults
use Rattle.paged_objects.specs.Holding.{HoldsObjects}
use Rattle.paged_objects.specs.laws.Holding.{cut_object, same_objects}
use Rattle.paged_objects.specs.Faults.{fault_of, ReadFailsBy}
use Rattle.paged_objects.specs.Representing.{PagesRepresent}
use Rattle.paged_objects.specs.Ending.{StaysAs, Turns, Fails, Commits, HasPages, EndsPages}
use Rattle.paged_objects.specs.Known.{ObjectsState, sizes_in, HasNamed}
use Rattle.paged_objects.specs.Changing.{ChangeEnds}
use Rattle.paged_objects.specs.laws.Going.{finds_stay, refused_stays, stays_on, volume_on}
use Rattle.paged_objects.proofs.Causes.{used_up}
use Rattle.paged_objects.proofs.Dropped.{names_forgotten}
use Rattle.paged_objects.specs.laws.Showing.{stays_representing, changed_represents, still_shown, either_turns, committed_shown, turns_after, fails_after, read_fails}

-- a fault of reads, as the store's: one that has failed has lost its device
pub read_fault : (q : PagesState) (fault : PageFault) → (q.failed ≡ true → q.device.gone ≡ true) → MayLackMemory q fault → ReadFailsBy q (fault_of fault)
read_fault q page_faults.NoMemory lost why = tt
read_fault q page_faults.Device lost why = inl (lost why)
read_fault q page_faults.Worn lost why = absurd why
read_fault q page_faults.Damaged lost why = absurd why
read_fault q page_faults.Full lost why = absurd why

-- objects that are there after look-ups
pub has_after : (z : Sizes) (p q : PagesState) (objects : Objects) → OnlyFinds p q → HasPages z p objects → HasPages z q objects
has_after z p q objects lookups has = record { represents = stays_representing z p q objects (finds_stay p q lookups) has.represents; can = has.can }

pub named_after : (names : NameIndex) (z : Sizes) (p q : PagesState) (objects : Objects) → OnlyFinds p q → HasNamed names z p objects → HasNamed names z q objects
named_after names z p q objects lookups has = record {
  pages = has_after z p q objects lookups has.pages;
  named = subst (λ (m : PageMap). HasNames names z m objects) (sym lookups.present) has.named;
}

-- a change of pages that was taken or not
pub took : (z : Sizes) (p q : PagesState) (old new : Objects) (m : PageMap) (result : Result (Unit {0}) StoreFault) → HasPages z p old → HoldsObjects z m new → GoesOn p q
    → OnOk result (p.sound ≡ true → q.sound ≡ true) → OnOk result (SamePages q.present m) → KeepsEither p q → (IsErrOf result faults.NoMemory → StaysSame p q) → IfErr result (ChangeFailsBy p q)
    → EndsPages z p q old new result
took z p q old new m (Ok done) has holds goes sound same keeps refused why =
    let turns = either_turns z p q old goes has.represents has.can keeps in
    (changed_represents z p q old new m goes has.represents (sound has.represents.sound) holds same turns, turns)
took z p q old new m (Err faults.NoMemory) has holds goes sound same keeps refused why = refused_stays p q goes (refused refl)
took z p q old new m (Err faults.Device) has holds goes sound same keeps refused why = record { goes_on = goes; turns = either_turns z p q old goes has.represents has.can keeps; cause = inl why }
took z p q old new m (Err faults.Worn) has holds goes sound same keeps refused why = record { goes_on = goes; turns = either_turns z p q old goes has.represents has.can keeps; cause = inr (used_up z p q old has goes why) }

-- reads before a change do not matter
pub ends_after : (z : Sizes) (p q r : PagesState) (old new : Objects) (result : Result (Unit {0}) StoreFault) → StaysAs p q → EndsPages z q r old new result → EndsPages z p r old new result
ends_after z p q r old new (Ok done) stays ends = (ends.0, turns_after z p q r old stays ends.1)
ends_after z p q r old new (Err faults.NoMemory) stays ends = stays_on p q r stays ends
ends_after z p q r old new (Err faults.Device) stays ends = fails_after z p q r old stays ends
ends_after z p q r old new (Err faults.Worn) stays ends = fails_after z p q r old stays ends

-- a change that is not made for want of what it reads
pub read_ends : (z : Sizes) (p q : PagesState) (old new : Objects) (fault : StoreFault) → OnlyFinds p q → ReadFailsBy q fault → EndsPages z p q old new (Err fault)
read_ends z p q old new faults.NoMemory lookups why = finds_stay p q lookups
read_ends z p q old new faults.Device lookups why = read_fails z p q old (finds_stay p q lookups) why
read_ends z p q old new faults.Worn lookups why = absurd why

-- a change of the pages that is not made leaves what is in memory
pub not_made : (a b : ObjectsState) (old new : Objects) (fault : StoreFault) → ReportsTheSame a.table b.table → HoldsMore a.names b.names → EndsPages (sizes_in a) a.pages b.pages old new (Err fault) → ChangeEnds a b old new (Err fault)
not_made a b old new faults.NoMemory same more ends = record { pages = ends; table = same; names = more }
not_made a b old new faults.Device same more ends = ends
not_made a b old new faults.Worn same more ends = ends

-- what a cut leaves of what a mount shows
cut_turns : (z : Sizes) (p q : PagesState) (objects : Objects) → HasPages z p objects → GoesOn p q → CommittedAs q p.committed → Turns z objects p q
cut_turns z p q objects has goes committed tree shown = inl (still_shown z p q tree goes has.represents.sound committed shown)

-- an object whose pages are cut is gone
pub cut_done : (a b : ObjectsState) (objects : Objects) (number : ℕ) → HasPages (sizes_in a) a.pages objects → GoesOn a.pages b.pages → b.pages.sound ≡ true
    → SamePages b.pages.present (without_cuts (record { object = number; from = 0 } ∷ []) a.pages.present) → CommittedAs b.pages a.pages.committed → Reports b.table (map.remove objects number)
    → HasNames a.names (sizes_in a) a.pages.present objects → DropsDirectory number a.names b.names → ChangeEnds a b objects (map.remove objects number) (Ok tt)
cut_done a b objects number has goes sound same committed reports named drops = (
  changed_represents (sizes_in a) a.pages b.pages objects (map.remove objects number) (without_cuts (record { object = number; from = 0 } ∷ []) a.pages.present) goes has.represents sound
      (cut_object (sizes_in a) a.pages.present objects has.represents.holds number) same (cut_turns (sizes_in a) a.pages b.pages objects has goes committed),
  reports,
  names_forgotten a.names b.names (sizes_in a) a.pages.present b.pages.present objects number drops same named,
  cut_turns (sizes_in a) a.pages b.pages objects has goes committed,
)

-- a call that takes no memory ended the use of the store
ended_so : (z : Sizes) (p q : PagesState) (objects : Objects) (fault : StoreFault) → HasPages z p objects → GoesOn p q → Turns z objects p q → CommitFailsBy p q fault → Fails z objects p q
ended_so z p q objects faults.NoMemory has goes turns why = absurd why
ended_so z p q objects faults.Device has goes turns why = record { goes_on = goes; turns = turns; cause = inl why }
ended_so z p q objects faults.Worn has goes turns why = record { goes_on = goes; turns = turns; cause = inr (used_up z p q objects has goes why) }

-- an object whose pages are not cut
pub cut_failed : (a b : ObjectsState) (objects new : Objects) (fault : StoreFault) → HasPages (sizes_in a) a.pages objects → GoesOn a.pages b.pages → CommittedAs b.pages a.pages.committed → CommitFailsBy a.pages b.pages fault
    → ChangeEnds a b objects new (Err fault)
cut_failed a b objects new faults.NoMemory has goes committed why = absurd why
cut_failed a b objects new faults.Device has goes committed why = ended_so (sizes_in a) a.pages b.pages objects faults.Device has goes (cut_turns (sizes_in a) a.pages b.pages objects has goes committed) why
cut_failed a b objects new faults.Worn has goes committed why = ended_so (sizes_in a) a.pages b.pages objects faults.Worn has goes (cut_turns (sizes_in a) a.pages b.pages objects has goes committed) why

-- a commit that is done
pub committed_map : (z : Sizes) (p q : PagesState) (objects : Objects) → HasPages z p objects → GoesOn p q → q.sound ≡ true → SamePages q.present p.present → KeepsEither p q → CommittedAs q p.present
    → PagesRepresent z q objects × Commits z objects p q
committed_map z p q objects has goes sound same keeps committed = (
  changed_represents z p q objects objects p.present goes has.represents sound has.represents.holds same (either_turns z p q objects goes has.represents has.can keeps),
  record {
    goes_on = goes;
    shown = committed_shown z q p.present objects (volume_on p q goes ∙ has.represents.sizes) committed has.represents.holds has.can;
    holds = λ is. same_objects z p.present q.committed objects has.represents.holds (committed.committed is);
  },
)

-- one that ended the use of the store
pub commit_failed : (z : Sizes) (p q : PagesState) (objects : Objects) (fault : StoreFault) → HasPages z p objects → GoesOn p q → KeepsEither p q → CommitFailsBy p q fault → Fails z objects p q
commit_failed z p q objects fault has goes keeps why = ended_so z p q objects fault has goes (either_turns z p q objects goes has.represents has.can keeps) why
