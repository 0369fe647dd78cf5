use Rattle.std.proofs.Common.{◌∙◌}
use Rattle.page_store.specs.BufferOf.{contents}
use Rattle.page_store.specs.laws.Buffering.{buffers_same}
use Rattle.page_store.proofs.Carried.{newest_committed_page}
use Rattle.page_store.proofs.Findable.{mountable_committed_since}
use Rattle.page_store.proofs.Steps.{consistent_committed, shown_same}
use Rattle.page_store.proofs.store.Store.prepare.Goals as goal

pub invariant_of-self : goal.invariant_of-self
invariant_of-self g c =
    let log = c.args.self.now.log in
    (log.can_write, (consistent_committed log.index c.prepare_all.new.index c.prepare_all.ensures.committed _ _ _ log.consistent, (log.room_size, (mountable_committed_since _ _ log.index c.prepare_all.new.index c.prepare_all.ensures.committed log.mountable, tt))))

pub invariant_of-self-in-Ok : goal.invariant_of-self-in-Ok
invariant_of-self-in-Ok g c =
    let self = c.args.self.now in
    let e = c.prepare_all.ensures in
    let y = c.prepare_all.new.index in
    record {
      buffers = buffers_same self.log.index y (contents self.buffer) e.present self.buffers;
      objects = self.objects;
      most = self.most;
      size = self.size;
      buffer_size = self.buffer_size;
      cache_size = e.sizes.page_bytes ∙ self.cache_size;
      place = self.place;
      within_limit = self.within_limit;
      free = self.free;
      newest = λ whole honest. newest_committed_page (g.N.Nand.state self.log.device).flash self.log.index y e.committed (self.newest whole honest);
      shown = λ whole honest. shown_same self.log.index y (contents self.buffer) (g.N.Nand.state self.log.device).flash self.cache c.prepare_all.new.cache e.present e.fewer (self.shown whole honest);
    }

pub invariant_of-self-in-Err : goal.invariant_of-self-in-Err
invariant_of-self-in-Err g c =
    let self = c.args.self.now in
    let e = c.prepare_all.ensures in
    let y = c.prepare_all.new.index in
    record {
      buffers = buffers_same self.log.index y (contents self.buffer) e.present self.buffers;
      objects = self.objects;
      most = self.most;
      size = self.size;
      buffer_size = self.buffer_size;
      cache_size = e.sizes.page_bytes ∙ self.cache_size;
      place = self.place;
      within_limit = self.within_limit;
      free = self.free;
      newest = λ whole honest. newest_committed_page (g.N.Nand.state self.log.device).flash self.log.index y e.committed (self.newest whole honest);
      shown = λ whole honest. shown_same self.log.index y (contents self.buffer) (g.N.Nand.state self.log.device).flash self.cache c.prepare_all.new.cache e.present e.fewer (self.shown whole honest);
    }
