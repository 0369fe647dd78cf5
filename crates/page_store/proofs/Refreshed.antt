-- What a refresh of a block leaves of a store.
use Rattle.std.specs.Prelude.{◌≡◌, ◌≢◌, ◌⊎◌, ◌<◌, ◌≤◌, ℕ, Bool, true, false, List, Some, Result, Ok, Err, IfErr, OnErr, OnOk}
use Rattle.std.proofs.Common.{sym, ◌∙◌, ap, subst, inl, inr, arith}
use Rattle.nand_model.specs.Calls.{Device, Lasts}
use Rattle.nand_model.specs.Flash.{Flash}
use Rattle.nand_model.specs.declared.geometry.Geometry.{Geometry}
use Rattle.flash_tree.specs.Newest.{Spot, IsNewest}
use Rattle.flash_tree.specs.laws.Newest.{one_spot}
use Rattle.flash_tree.specs.laws.Place.{had_power}
use Rattle.flash_tree.specs.declared.place.FreshPage.{FreshPage}
use Rattle.block_state.specs.Table.{Table}
use Rattle.chunk_index.specs.Committed.{HoldsNone}
use Rattle.chunk_index.specs.Maps.{committed_pages, count_committed_in}
use Rattle.chunk_index.specs.declared.form.CommittedPage.{CommittedPage}
use Rattle.chunk_index.specs.declared.index.Index.{Index}
use Rattle.transactions.specs.Checking.{LogState, log_of}
use Rattle.transactions.specs.Ready.{IsReady}
use Rattle.flash_log.specs.Bills.{PaysCollection}
use Rattle.flash_log.specs.Moving.{WhyNotMoved}
use Rattle.flash_log.specs.Refreshing.{IsClearedOut, IsWrittenAnew, MovesNothing}
use Rattle.flash_log.specs.Consistency.{AreHeld, AreCommitted, IsCommittedKey, IsConsistentLog}
use Rattle.flash_log.specs.Steps.{Step}
use Rattle.flash_log.specs.declared.fault.MoveFault.{MoveFault}
use Rattle.flash_log.specs.declared.fault.MoveFault.TheVariants as moves
use Rattle.flash_log.specs.laws.Costs.{costs_committed}
use Rattle.flash_log.specs.laws.FreeBlocks.{leaves_fewer, leaves_uncommitted, same_bad_blocks}
use Rattle.flash_log.specs.laws.CommittedPages.{spot_of}
use Rattle.flash_log.specs.laws.Mountable.{mountable_step}
use Rattle.flash_log.specs.laws.Moves.{are_held}
use Rattle.pages.specs.Maps.{PageMap, known_pages}
use Rattle.pages.specs.Refreshing as refreshing
use Rattle.pages.specs.Refreshing.{KeepsNone, LeavesBlock, RefreshFailsBy}
use Rattle.pages.specs.Stores.{HasPage, IsCarried, CommittedAs, SamePages}
use Rattle.page_store.specs.Carrying.{CarriesFound}
use Rattle.page_store.specs.Shown.{committed_data, present_data}
use Rattle.page_store.specs.Refreshing.{IsRefreshed, IsRefreshFault, PaysRefresh, RefreshEnds, moved_fault}
use Rattle.page_store.specs.StoreState.{StoreState, committed_in, seen_of}
use Rattle.volume_terms.specs.declared.fault.StoreFault.{StoreFault}
use Rattle.volume_terms.specs.declared.fault.StoreFault.TheVariants as faults
use Rattle.page_store.proofs.Carried.{has_page, known_there}
use Rattle.page_store.proofs.Findable.{finds_committed, found_unmoved}
use Rattle.page_store.proofs.Following.{carries_committed, same_committed, same_present}
use Rattle.page_store.proofs.Reported.{CarriesSince, is_sound, committed_still, not_sound}
use Rattle.page_store.proofs.Turning.{data_committed, committed_moved}

-- a step of the log from one state to another, with the committed pages where they were
module _ (spare : ℕ) (d e : Device) (t u : Table) (x y : Index) (step : Step spare (log_of d t) (log_of e u) x y) (can_write : IsReady d t) (consistent : IsConsistentLog spare d t x)
    (law : (z : Index) (b : ℕ) → count_committed_in z b ≡ 0 → HoldsNone (committed_pages z) b) (honest : d.honest ≡ true) (was : AreCommitted d.flash (committed_pages x)) where
  held : AreHeld t x
  held = are_held t x (law x) consistent.tables.counts

  -- the committed pages are carried, perhaps elsewhere
  carried_moved : IsCarried e spare (committed_data x d.flash)
  carried_moved = record {
    newest = carries_committed x d.flash e.flash was (step.same_data honest);
    free = λ left. leaves_fewer e.geometry e.flash spare (IsCommittedKey (committed_pages y)) (HasPage (committed_data x d.flash))
        (λ o c has. committed_moved x y step.index o c (data_committed x d.flash o c has)) (step.free honest (leaves_uncommitted spare d t x can_write consistent.tables held was));
  }

  -- and a mount by summaries finds them
  pub found_moved : CarriesFound (log_of d t) x e spare (committed_data x d.flash)
  found_moved = record {
    carried = carried_moved;
    found = λ before. finds_committed e x d.flash (found_unmoved e x y step.index (mountable_step spare (log_of d t) (log_of e u) x y step honest before).found);
  }

  -- no committed page lies in a block from which nothing is to be moved
  pub none_idle : (v : ℕ) → MovesNothing v t → (o c : ℕ) (p : CommittedPage) → committed_pages x o c ≡ Some p → p.block ≢ v
  none_idle v (inl none) o c p at here =
      let some = held o c p at in
      let same : (t.entry p.block).committed ≡ (t.entry v).committed = ap (λ b. (t.entry b).committed) here in
      omega (arith, some, same, none)
  none_idle v (inr bad) o c p at here =
      let k = was o c p at in
      let there : k.newest.holds.group.block ≡ v = sym k.newest.holds.block ∙ here in
      let two : true ≡ false = sym bad ∙ can_write.marks v ∙ ap d.flash.bad (sym there) ∙ k.newest.holds.whole.good in
      cc

  -- the newest page of a committed key lies where that is committed
  lies_there : (o c : ℕ) (s : Spot) (p : CommittedPage) → committed_pages x o c ≡ Some p → IsNewest d.flash o c s → s.block ≡ p.block
  lies_there o c s p at newest = let k = was o c p at in ap (λ (z : Spot). z.block) (one_spot d.flash o c s (spot_of p k.tag) newest k.newest)

  pub leaves_none : (v : ℕ) → HoldsNone (committed_pages x) v → LeavesBlock v d.flash e.flash (committed_data x d.flash)
  leaves_none v none o c s has newest here again =
      let (p, at) = data_committed x d.flash o c has in
      none o c p at (sym (lies_there o c s p at newest) ∙ here)

  module _ (now : AreCommitted e.flash (committed_pages y)) where
    -- what was committed in the block was written anew
    leaves_anew : (v : ℕ) → e.gone ≡ false → IsWrittenAnew v (log_of d t) (log_of e u) y → LeavesBlock v d.flash e.flash (committed_data x d.flash)
    leaves_anew v power anew o c s has newest here again =
        let (p, at) = data_committed x d.flash o c has in
        let m = step.index.moved o c p at in
        let k = now o c m.at m.is in
        let same : spot_of m.at k.tag ≡ s = one_spot e.flash o c (spot_of m.at k.tag) s k.newest again in
        let there : m.at.block ≡ v = ap (λ (z : Spot). z.block) same ∙ here in
        let above : t.next_group ≤ s.tag.group = anew honest power o c m.at s m.is there again in
        let good : d.flash.bad s.block ≡ false = ap d.flash.bad newest.holds.block ∙ newest.holds.whole.good in
        let below = (can_write.below honest s.block s.page s.tag good newest.holds.has).1 in
        omega (arith, above, below)

    pub leaves_refreshed : (v : ℕ) → MovesNothing v t ⊎ (IsClearedOut v u × (e.gone ≡ false)) → IsWrittenAnew v (log_of d t) (log_of e u) y → LeavesBlock v d.flash e.flash (committed_data x d.flash)
    leaves_refreshed v (inl idle) anew = leaves_none v (none_idle v idle)
    leaves_refreshed v (inr (left, power)) anew = leaves_anew v power anew

    pub committed_refreshed : SamePages (committed_data y e.flash) (committed_data x d.flash)
    committed_refreshed = same_committed x y d.flash e.flash step.index was now (step.same_data honest)

    pub current_refreshed : (pages : List FreshPage) → SamePages (present_data y pages e.flash) (present_data x pages d.flash)
    current_refreshed pages = same_present x y d.flash e.flash step.index was now (step.same_data honest) pages

-- no committed page lies past the last block
pub none_outside : (spare : ℕ) (d : Device) (t : Table) (x : Index) (block : ℕ) → IsReady d t → IsConsistentLog spare d t x → d.geometry.blocks ≤ block → HoldsNone (committed_pages x) block
none_outside spare d t x block can_write consistent past o c p at here =
    let inside : p.block < d.geometry.blocks = subst (λ (g : Geometry). p.block < g.blocks) can_write.geometry (consistent.tables.within o c p at).block in
    omega (arith, past, inside, here)

-- nothing was moved, or the device has power: what is committed is the newest of its keys
pub committed_now : (v : ℕ) (a b : LogState) (x y : Index) → (MovesNothing v a.table → (b ≡ a) × (y ≡ x)) → AreCommitted a.device.flash (committed_pages x) → (b.device.gone ≡ false → AreCommitted b.device.flash (committed_pages y))
    → MovesNothing v a.table ⊎ (IsClearedOut v b.table × (b.device.gone ≡ false)) → AreCommitted b.device.flash (committed_pages y)
committed_now v a b x y idle was now (inl none) =
    let same = idle none in
    subst (λ (l : LogState). AreCommitted l.device.flash (committed_pages y)) (sym same.0) (subst (λ (z : Index). AreCommitted a.device.flash (committed_pages z)) (sym same.1) was)
committed_now v a b x y idle was now (inr moved) = now moved.1

-- and it has as much power as before
pub power_now : (v : ℕ) (a b : LogState) (x y : Index) → Lasts a.device b.device → (MovesNothing v a.table → (b ≡ a) × (y ≡ x)) → MovesNothing v a.table ⊎ (IsClearedOut v b.table × (b.device.gone ≡ false))
    → b.device.gone ≡ a.device.gone
power_now v a b x y lasts idle (inl none) = ap (λ (l : LogState). l.device.gone) (idle none).0
power_now v a b x y lasts idle (inr moved) = moved.1 ∙ sym (had_power a.device b.device lasts moved.1)

-- a block keeps no more pages than it has
pub pays_refresh : (v : ℕ) (a b : LogState) (fault : MoveFault) (other : StoreFault) → a.table.geometry ≡ a.device.geometry → (a.table.entry v).committed ≤ a.table.geometry.pages → PaysCollection v a b (Err fault) → PaysRefresh a b (Err other)
pays_refresh v a b fault other same fits pays = record { costs = costs_committed v 0 a.device b.device a.table same fits pays.costs; marks = pays.marks; answers = tt; reads = pays.reads }

pub pays_refreshed : (v : ℕ) (a b : LogState) → a.table.geometry ≡ a.device.geometry → (a.table.entry v).committed ≤ a.table.geometry.pages → PaysCollection v a b (Ok tt) → PaysRefresh a b (Ok tt)
pays_refreshed v a b same fits pays = record { costs = costs_committed v 0 a.device b.device a.table same fits pays.costs; marks = pays.marks; answers = pays.answers; reads = pays.reads }

-- each fault has its cause
pub refresh_fails : (a b : StoreState) (fault : MoveFault) → WhyNotMoved a.spare b.log.device b.log.table fault → IsRefreshFault a b (moved_fault fault)
refresh_fails a b moves.Worn why = why
refresh_fails a b moves.Lost why = inr (inl why)
refresh_fails a b moves.Gone why = inl why

-- pages that are known leave the block
pub leaves_known : (h : Bool) (v : ℕ) (f g : Flash) (m : PageMap) → LeavesBlock v f g m → LeavesBlock v f g (known_pages h m)
leaves_known h v f g m leaves o c s has = leaves o c s (has.0, known_there h m o c has.0 has.1)

-- ---- as those above see it

pub when_refreshed : {A : Type 0} (result : Result (Unit {0}) StoreFault) (block : ℕ) (a b : StoreState) → RefreshEnds block a b result → (IsRefreshed block a b → A) → OnOk result A
when_refreshed (Ok done) block a b ends then = then ends
when_refreshed (Err fault) block a b ends then = tt

-- a refresh that failed leaves a broken store, and so does one of a broken store
pub stops_refreshed : (result : Result (Unit {0}) StoreFault) (block : ℕ) (a b : StoreState) → RefreshEnds block a b result → OnErr result (b.broken ≡ true)
stops_refreshed (Ok done) block a b ends = tt
stops_refreshed (Err fault) block a b ends = ends.0

pub breaks_refreshed : (result : Result (Unit {0}) StoreFault) (block : ℕ) (a b : StoreState) → RefreshEnds block a b result → a.broken ≡ true → b.broken ≡ true
breaks_refreshed (Ok done) block a b ends is = absurd (let two : true ≡ false = sym is ∙ ends.whole.was in cc)
breaks_refreshed (Err fault) block a b ends is = ends.0

-- what was committed is committed
pub committed_seen : (result : Result (Unit {0}) StoreFault) (block : ℕ) (a b : StoreState) (lent : List ℕ) → RefreshEnds block a b result → CarriesSince (seen_of b lent) (committed_in a) → CommittedAs (seen_of b lent) (committed_in a)
committed_seen (Ok done) block a b lent ends carries = record { carried = λ _. carries.carried; committed = λ _. ends.committed_map; found = carries.found }
committed_seen (Err fault) block a b lent ends carries = committed_still (seen_of b lent) (committed_in a) (not_sound b.log.device.honest b.broken ends.0) carries

pub refreshed_seen : (result : Result (Unit {0}) StoreFault) (block : ℕ) (a b : StoreState) (lent lent' : List ℕ) → Lasts a.log.device b.log.device → a.log.device.honest ≡ true → RefreshEnds block a b result
    → OnOk result (refreshing.IsRefreshed block (seen_of a lent) (seen_of b lent'))
refreshed_seen (Ok done) block a b lent lent' lasts honest ends = record { sound = is_sound b.log.device.honest b.broken (lasts.honest ∙ honest) ends.whole.is; present = ends.current; leaves = ends.leaves honest }
refreshed_seen (Err fault) block a b lent lent' lasts honest ends = tt

pub refresh_reported : (result : Result (Unit {0}) StoreFault) (block : ℕ) (a b : StoreState) (lent : List ℕ) → b.spare ≡ a.spare → IsReady b.log.device b.log.table → a.broken ≡ false → RefreshEnds block a b result
    → IfErr result (RefreshFailsBy (seen_of b lent))
refresh_reported (Ok done) block a b lent spare can_write whole ends = tt
refresh_reported (Err faults.NoMemory) block a b lent spare can_write whole ends = ends.1
refresh_reported (Err faults.Device) block a b lent spare can_write whole ends = elim ends.1 [
  | inl gone ↦ inl gone
  | inr rest ↦ elim rest [
    | inl lies ↦ inr lies
    | inr broken ↦ absurd (let two : true ≡ false = sym broken ∙ whole in cc)
  ]
]
refresh_reported (Err faults.Worn) block a b lent spare can_write whole ends = elim ends.1 [
  | inl seq ↦ inr (inl seq)
  | inr rest ↦ elim rest [
    | inl group ↦ inl group
    | inr more ↦ let bad = same_bad_blocks b.log.device b.log.table can_write in let over = more.0 in inr (inr (omega (arith, spare, bad, over)))
  ]
]

-- a block that keeps no page has no committed one
pub none_held : (block : ℕ) (a : StoreState) (lent : List ℕ) → a.log.device.honest ≡ true → AreCommitted a.log.device.flash (committed_pages a.index) → KeepsNone block (seen_of a lent) → HoldsNone (committed_pages a.index) block
none_held block a lent honest committed none o c p at here =
    let k = committed o c p at in
    none o c (spot_of p k.tag) (has_page a.log.device a.index o c p honest committed at) k.newest here
