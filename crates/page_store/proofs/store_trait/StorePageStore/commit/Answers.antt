use Rattle.std.specs.Prelude.{◌≡◌, ◌⊎◌, ◌≤◌, ◌/◌, List, length}
use Rattle.std.proofs.Common.{refl, ◌∙◌, sym, ap, inl, inr, arith}
use Rattle.flash_tree.specs.declared.place.FreshPage.{FreshPage}
use Rattle.nand_model.specs.declared.geometry.Geometry.{Geometry}
use Rattle.page_store.specs.BufferOf.{contents, most_pages}
use Rattle.pages.specs.Stores.{SamePages}
use Rattle.page_store.specs.StoreState.{committed_in, current_in, seen_of, StoreState}
use Rattle.page_store.specs.StateOf.{lent_by, state_of}
use Rattle.page_store.proofs.Carried.{has_page, store_carries}
use Rattle.page_store.specs.laws.Sound.{sound_whole}
use Rattle.page_store.proofs.ReadOnly.{sound_honest}
use Rattle.page_store.proofs.Reported.{both_whole, commit_reported, none_buffered, committed_map, made_durable, either_since, failed_stays, finds_now, hands_reported, keeps_either, limits_reported, marks_reported, sound_on, stays_broken, stays_mountable, stopped, stops_either, stops_reported, stops_written, takes_none, ways, when_written}
use Rattle.page_store.proofs.store_trait.StorePageStore.commit.Goals as goal

pub returns-clause-goes_on : goal.returns-clause-goes_on
returns-clause-goes_on g c =
    let new = c.write_out.new.self in
    let a : StoreState = state_of c.args.self.now in
    let b : StoreState = state_of new in
    let e = c.write_out.ensures in
    let lasts = e.keeps.lasts in
    record {
      page_bytes = ap (λ (k : Geometry). k.bytes) lasts.device.geometry;
      most = new.most ∙ ap (λ (k : Geometry). k.pages / 4) lasts.device.geometry ∙ sym c.args.self.now.most;
      spare = lasts.spare;
      worn = refl;
      refused = lasts.counts.refused;
      commits = lasts.counts.commits;
      failed = failed_stays a.log.device b.log.device a.broken b.broken lasts.device (stays_broken c.write_out.result a b e.ends);
      device = lasts.device;
      numbers = hands_reported a.log.device b.log.device a.log.table b.log.table lasts.numbers;
      marks = marks_reported a.log.device b.log.device a.log.table b.log.table c.args.self.now.log.can_write new.log.can_write e.pays.marks;
      limits = λ honest _. limits_reported b.log.device b.log.table new.log.can_write new.log.consistent.limits (lasts.device.honest ∙ honest);
      truth = lasts.numbers.truth;
      mountable = stays_mountable a b (lent_by c.args.self.now) (lent_by new) lasts.device lasts.first new.log.mountable;
    }

pub returns-clause-empties : goal.returns-clause-empties
returns-clause-empties g c =
    let a : StoreState = state_of c.args.self.now in
    let b : StoreState = state_of c.write_out.new.self in
    when_written c.write_out.result a b c.write_out.ensures.ends (λ is. record { power = is.whole.power; empty = ap (λ (xs : List FreshPage). length xs) is.empty })

pub returns-clause-committed : goal.returns-clause-committed
returns-clause-committed g c = λ sound.
    let new = c.write_out.new.self in
    let a : StoreState = state_of c.args.self.now in
    let b : StoreState = state_of new in
    let r = c.write_out.result in
    let e = c.write_out.ensures in
    let honest = sound_honest a.log.device.honest a.broken sound in
    let whole = sound_whole a.log.device.honest a.broken sound in
    let q = seen_of b (lent_by new) in
    let m = committed_in a in
    let n = current_in a in
    keeps_either q m n
    (ways r q m n (sound_on r a.log.device b.log.device a.broken b.broken e.keeps.lasts.device (when_written r a b e.ends (λ is. both_whole a b is.whole)) honest)
    (when_written {A = SamePages q.committed m ⊎ SamePages q.committed n} r a b e.ends (λ is. inr is.committed_map))
    (stops_reported r b.log.device.honest b.broken (stops_either r b.broken (stops_written r a b e.ends))) (λ none. absurd (takes_none r a b e.ends none)))
    (λ is. record {
      carried = store_carries b.spare b.log.device b.log.table b.index c.the_counts_are_of_the_keys.ensures.none new.log.can_write new.log.consistent.tables (new.newest (sound_whole b.log.device.honest b.broken is) (sound_honest b.log.device.honest b.broken is));
      found = finds_now b (lent_by new) new.log.mountable;
    })
    (either_since a b (lent_by c.args.self.now) (lent_by new) m n e.keeps.lasts c.args.self.now.log.mountable (e.carried whole honest))

pub returns-clause-makes : goal.returns-clause-makes
returns-clause-makes g c = λ sound.
    let new = c.write_out.new.self in
    let a : StoreState = state_of c.args.self.now in
    let b : StoreState = state_of new in
    let r = c.write_out.result in
    let e = c.write_out.ensures in
    let honest = sound_honest a.log.device.honest a.broken sound in
    let whole = sound_on r a.log.device b.log.device a.broken b.broken e.keeps.lasts.device (when_written r a b e.ends (λ is. both_whole a b is.whole)) honest in
    let committed = committed_map r (seen_of b (lent_by new)) (current_in a) whole (when_written r a b e.ends (λ is. is.committed_map))
    (λ is. record {
      carried = store_carries b.spare b.log.device b.log.table b.index c.the_counts_are_of_the_keys.ensures.none new.log.can_write new.log.consistent.tables (new.newest (sound_whole b.log.device.honest b.broken is) (sound_honest b.log.device.honest b.broken is));
      found = finds_now b (lent_by new) new.log.mountable;
    }) in
    made_durable r (seen_of a (lent_by c.args.self.now)) (seen_of b (lent_by new)) whole (when_written r a b e.ends (λ is. is.current)) committed

pub returns-clause-stops : goal.returns-clause-stops
returns-clause-stops g c =
    let b : StoreState = state_of c.write_out.new.self in
    stopped c.write_out.result b.log.device.honest b.broken (stops_written c.write_out.result (state_of c.args.self.now) b c.write_out.ensures.ends)

pub returns-clause-fault : goal.returns-clause-fault
returns-clause-fault g c = λ sound.
    let self = c.args.self.now in
    let new = c.write_out.new.self in
    let a : StoreState = state_of self in
    let b : StoreState = state_of new in
    let e = c.write_out.ensures in
    let honest = sound_honest a.log.device.honest a.broken sound in
    let whole = sound_whole a.log.device.honest a.broken sound in
    let within_limit : length (contents self.buffer) ≤ most_pages self.buffer = self.buffer.within_limit in
    let most : most_pages self.buffer ≡ a.log.device.geometry.pages / 4 = self.most in
    commit_reported a b (lent_by self) (lent_by new) self.log.can_write.geometry e.keeps.lasts.device.geometry e.keeps.lasts.spare new.log.can_write (omega (arith, most)) within_limit (self.within_limit whole)
    (c.the_counts_add_up_to_the_committed_keys.ensures.all a.log.table a.index self.log.consistent.tables.counts) (λ o k at is. has_page a.log.device a.index o k at honest (self.newest whole honest) is)
    c.write_out.result whole e.ends

pub returns-clause-memory : goal.returns-clause-memory
returns-clause-memory g c = λ none. takes_none c.write_out.result (state_of c.args.self.now) (state_of c.write_out.new.self) c.write_out.ensures.ends none

pub returns-clause-idle : goal.returns-clause-idle
returns-clause-idle g c = λ none.
    let self = c.args.self.now in
    let empty = none_buffered (contents self.buffer) none in
    record {
      commits = record { device = c.write_out.ensures.nothing empty; commits = c.write_out.ensures.keeps.counts.none none };
      done = λ sound. c.write_out.ensures.unhindered (sound_whole (g.N.Nand.state self.log.device).honest self.broken sound) (inl empty);
    }
