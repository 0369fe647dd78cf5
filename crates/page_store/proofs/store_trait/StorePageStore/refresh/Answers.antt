use Rattle.std.specs.Prelude.{◌/◌, length}
use Rattle.std.proofs.Common.{refl, ◌∙◌, sym, ap}
use Rattle.nand_model.specs.declared.geometry.Geometry.{Geometry}
use Rattle.page_store.specs.BufferOf.{contents}
use Rattle.page_store.specs.StoreState.{committed_in, StoreState}
use Rattle.page_store.specs.StateOf.{lent_by, state_of}
use Rattle.page_store.specs.declared.buffer.Buffer.{Buffer}
use Rattle.page_store.specs.declared.counts.StoreCounts.{StoreCounts}
use Rattle.page_store.specs.laws.Sound.{sound_whole}
use Rattle.page_store.proofs.ReadOnly.{sound_honest}
use Rattle.page_store.proofs.Refreshed.{breaks_refreshed, committed_seen, none_held, refresh_reported, refreshed_seen, stops_refreshed, when_refreshed}
use Rattle.page_store.proofs.Reported.{carries_since, failed_stays, hands_reported, limits_reported, marks_reported, stays_mountable, stopped}
use Rattle.page_store.proofs.store_trait.StorePageStore.refresh.Goals as goal

pub returns : goal.returns
returns g c =
    let self = c.args.self.now in
    let new = c.refresh_block.new.self in
    let a : StoreState = state_of self in
    let b : StoreState = state_of new in
    let r = c.refresh_block.result in
    let e = c.refresh_block.ensures in
    let lasts = e.keeps.lasts in
    let block = c.args.block in
    record {
      goes_on = record {
        page_bytes = ap (λ (k : Geometry). k.bytes) lasts.device.geometry;
        most = new.most ∙ ap (λ (k : Geometry). k.pages / 4) lasts.device.geometry ∙ sym self.most;
        spare = lasts.spare;
        worn = refl;
        refused = lasts.counts.refused;
        commits = lasts.counts.commits;
        failed = failed_stays a.log.device b.log.device a.broken b.broken lasts.device (breaks_refreshed r block a b e.ends);
        device = lasts.device;
        numbers = hands_reported a.log.device b.log.device a.log.table b.log.table lasts.numbers;
        marks = marks_reported a.log.device b.log.device a.log.table b.log.table self.log.can_write new.log.can_write e.pays.marks;
        limits = λ honest _. limits_reported b.log.device b.log.table new.log.can_write new.log.consistent.limits (lasts.device.honest ∙ honest);
        truth = lasts.numbers.truth;
        mountable = stays_mountable a b (lent_by self) (lent_by new) lasts.device lasts.first new.log.mountable;
      };
      commits = ap (λ (k : StoreCounts). k.commits.total) e.keeps.counts;
      in_buffer = ap (λ (k : Buffer). length (contents k)) e.keeps.buffer;
      lent = e.lent;
      power = when_refreshed r block a b e.ends (λ is. is.whole.power);
      stops = stopped r b.log.device.honest b.broken (stops_refreshed r block a b e.ends);
      costs = e.pays.costs;
      reads = e.pays.reads;
      ends = λ sound.
          let honest = sound_honest a.log.device.honest a.broken sound in
          let whole = sound_whole a.log.device.honest a.broken sound in
          record {
            committed = committed_seen r block a b (lent_by new) e.ends (carries_since a b (lent_by self) (lent_by new) (committed_in a) lasts self.log.mountable (e.carried whole honest));
            done = refreshed_seen r block a b (lent_by self) (lent_by new) lasts.device honest e.ends;
            cause = refresh_reported r block a b (lent_by new) lasts.spare new.log.can_write whole e.ends;
            idle = λ none. e.nothing (none_held block a (lent_by self) honest (self.newest whole honest) none);
          };
    }
