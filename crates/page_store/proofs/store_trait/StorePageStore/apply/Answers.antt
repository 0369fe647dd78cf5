use Rattle.std.specs.Prelude.{◌≡◌, ◌≤◌, ◌/◌, Option, length, not, ◌&&◌}
use Rattle.std.proofs.Common.{refl, ◌∙◌, sym, ap, arith}
use Rattle.nand_model.specs.Calls.{Device}
use Rattle.nand_model.specs.declared.geometry.Geometry.{Geometry}
use Rattle.block_state.specs.Table.{Table}
use Rattle.flash_log.specs.Snapshots.{Snapshot, remembered_flash}
use Rattle.page_store.specs.BufferOf.{contents, most_pages}
use Rattle.pages.specs.Stores.{BuffersPages}
use Rattle.page_store.specs.StoreOf.{next_numbers}
use Rattle.page_store.specs.StoreState.{committed_in, current_in, seen_of, StoreState}
use Rattle.page_store.specs.StateOf.{lent_by, state_of}
use Rattle.page_store.proofs.Carried.{has_page, store_carries}
use Rattle.page_store.proofs.Steps.{few_new}
use Rattle.page_store.specs.laws.Sound.{sound_whole}
use Rattle.page_store.proofs.ReadOnly.{near_buffered, sound_honest}
use Rattle.page_store.proofs.Reported.{both_whole, change_reported, either_since, failed_stays, finds_now, hands_reported, is_sound, keeps_either, limits_reported, marks_reported, sound_on, stays_broken_changed, stays_mountable, stops_changed, stops_reported, unchanged, ways, when_changed}
use Rattle.page_store.proofs.store_trait.StorePageStore.apply.Goals as goal

pub returns-clause-goes_on : goal.returns-clause-goes_on
returns-clause-goes_on g c =
    let new = c.change.new.self in
    let a : StoreState = state_of c.args.self.now in
    let b : StoreState = state_of new in
    let e = c.change.ensures in
    let lasts = e.lasts in
    record {
      page_bytes = ap (λ (k : Geometry). k.bytes) lasts.device.geometry;
      most = new.most ∙ ap (λ (k : Geometry). k.pages / 4) lasts.device.geometry ∙ sym c.args.self.now.most;
      spare = lasts.spare;
      worn = refl;
      refused = lasts.counts.refused;
      commits = lasts.counts.commits;
      failed = failed_stays a.log.device b.log.device a.broken b.broken lasts.device (stays_broken_changed c.args.change c.change.result a b e.ends);
      device = lasts.device;
      numbers = hands_reported a.log.device b.log.device a.log.table b.log.table lasts.numbers;
      marks = marks_reported a.log.device b.log.device a.log.table b.log.table c.args.self.now.log.can_write new.log.can_write e.pays.pays.marks;
      limits = λ honest _. limits_reported b.log.device b.log.table new.log.can_write new.log.consistent.limits (lasts.device.honest ∙ honest);
      truth = lasts.numbers.truth;
      mountable = stays_mountable a b (lent_by c.args.self.now) (lent_by new) lasts.device lasts.first new.log.mountable;
    }

pub returns-clause-makes : goal.returns-clause-makes
returns-clause-makes g c = λ sound.
    let a : StoreState = state_of c.args.self.now in
    let b : StoreState = state_of c.change.new.self in
    let e = c.change.ensures in
    let honest = sound_honest a.log.device.honest a.broken sound in
    when_changed c.args.change c.change.result a b e.ends
    (λ is. record { sound = is_sound b.log.device.honest b.broken (e.lasts.device.honest ∙ honest) (both_whole a b is.whole).1; present = is.current honest })

pub returns-clause-committed : goal.returns-clause-committed
returns-clause-committed g c = λ sound.
    let new = c.change.new.self in
    let a : StoreState = state_of c.args.self.now in
    let b : StoreState = state_of new in
    let r = c.change.result in
    let change = c.args.change in
    let e = c.change.ensures in
    let honest = sound_honest a.log.device.honest a.broken sound in
    let whole = sound_whole a.log.device.honest a.broken sound in
    let q = seen_of b (lent_by new) in
    let m = committed_in a in
    let n = current_in a in
    keeps_either q m n
    (ways r q m n (sound_on r a.log.device b.log.device a.broken b.broken e.lasts.device (when_changed change r a b e.ends (λ is. both_whole a b is.whole)) honest)
    (when_changed change r a b e.ends (λ is. is.committed_map)) (stops_reported r b.log.device.honest b.broken (stops_changed change r a b e.ends))
    (λ none. let is = unchanged change r a b e.ends none in (is_sound b.log.device.honest b.broken (e.lasts.device.honest ∙ honest) (is.broken ∙ whole), is.committed_map)))
    (λ is. record {
      carried = store_carries b.spare b.log.device b.log.table b.index c.the_counts_are_of_the_keys.ensures.none new.log.can_write new.log.consistent.tables (new.newest (sound_whole b.log.device.honest b.broken is) (sound_honest b.log.device.honest b.broken is));
      found = finds_now b (lent_by new) new.log.mountable;
    })
    (either_since a b (lent_by c.args.self.now) (lent_by new) m n e.lasts c.args.self.now.log.mountable (e.carried whole honest))

pub returns-clause-refused : goal.returns-clause-refused
returns-clause-refused g c = λ none.
    let a : StoreState = state_of c.args.self.now in
    let b : StoreState = state_of c.change.new.self in
    let is = unchanged c.args.change c.change.result a b c.change.ensures.ends none in
    record {
      present = is.current;
      committed = is.committed_map;
      sound = ap (λ w. b.log.device.honest && not w) is.broken ∙ ap (λ (d : Device). d.honest && not a.broken) is.device;
      device = is.device;
      next = ap next_numbers is.table;
      checkpoint = ap (λ (u : Table). u.checkpoint) is.table;
      first = ap (λ (f : Option Snapshot). remembered_flash f) c.change.ensures.lasts.first;
    }

pub returns-clause-stops : goal.returns-clause-stops
returns-clause-stops g c =
    let b : StoreState = state_of c.change.new.self in
    stops_reported c.change.result b.log.device.honest b.broken (stops_changed c.args.change c.change.result (state_of c.args.self.now) b c.change.ensures.ends)

pub returns-clause-fault : goal.returns-clause-fault
returns-clause-fault g c = λ sound.
    let self = c.args.self.now in
    let new = c.change.new.self in
    let a : StoreState = state_of self in
    let b : StoreState = state_of new in
    let e = c.change.ensures in
    let honest = sound_honest a.log.device.honest a.broken sound in
    let whole = sound_whole a.log.device.honest a.broken sound in
    let within_limit : length (contents self.buffer) ≤ most_pages self.buffer = self.buffer.within_limit in
    let most : most_pages self.buffer ≡ a.log.device.geometry.pages / 4 = self.most in
    change_reported a b (lent_by self) (lent_by new) self.log.can_write.geometry e.lasts.device.geometry e.lasts.spare new.log.can_write (omega (arith, most)) within_limit (self.within_limit whole)
    (c.the_counts_add_up_to_the_committed_keys.ensures.all a.log.table a.index self.log.consistent.tables.counts) (λ o k at is. has_page a.log.device a.index o k at honest (self.newest whole honest) is)
    c.args.change c.change.result whole e.ends

pub returns-clause-room : goal.returns-clause-room
returns-clause-room g c = λ fits.
    let none = c.change.ensures.room (omega (arith, fits, few_new c.args.self.now.log.index c.args.change.pages.items)) in
    record { device = none.device; commits = none.commits }

pub returns-clause-buffers : goal.returns-clause-buffers
returns-clause-buffers g c =
    let new = c.change.new.self in
    when_changed {A = BuffersPages c.args.change.pages.items (seen_of (state_of c.args.self.now) (lent_by c.args.self.now)) (seen_of (state_of new) (lent_by new))} c.args.change c.change.result (state_of c.args.self.now)
    (state_of new) c.change.ensures.ends
    (λ is. record { power = is.whole.power; in_buffer = is.within_limit; near = λ i p there. near_buffered _ _ (is.in_buffer i p there) })
