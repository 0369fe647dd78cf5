use Rattle.std.specs.Prelude.{◌≡◌, List, [], ◌∷◌}
use Rattle.std.proofs.Common.{◌∙◌}
use Rattle.page_store.specs.BufferOf.{contents}
use Rattle.page_store.specs.Shown.{present_data}
use Rattle.pages.specs.declared.change.Cut.{Cut}
use Rattle.page_store.specs.declared.store.Found.TheVariants as places
use Rattle.page_store.proofs.Carried.{newest_committed_page}
use Rattle.page_store.proofs.Findable.{mountable_committed_since}
use Rattle.page_store.proofs.Steps.{consistent_committed, known_cut, objects_cut, shown_cut}
use Rattle.page_store.proofs.store.Store.cut_away.Goals as goal

pub invariant_of-self : goal.invariant_of-self
invariant_of-self g c =
    let log = c.args.self.now.log in
    (log.can_write, (consistent_committed log.index c.cut_all.new.index c.cut_all.ensures.committed _ _ _ log.consistent, (log.room_size, (mountable_committed_since _ _ log.index c.cut_all.new.index c.cut_all.ensures.committed log.mountable, tt))))

pub invariant_of-self-2 : goal.invariant_of-self-2
invariant_of-self-2 g c =
    let self = c.args.self.now in
    let e = c.cut_all.ensures in
    let y = c.cut_all.new.index in
    let cuts : List Cut = c.args.cut ∷ [] in
    let flash = (g.N.Nand.state self.log.device).flash in
    record {
      buffers = e.buffers;
      objects = λ whole. objects_cut _ _ _ self.log.index y (contents self.buffer) (contents c.cut_all.new.self) cuts flash self.log.consistent self.buffers (self.objects whole) e.buffers (e.cuts flash);
      most = e.sizes.0 ∙ self.most;
      size = self.size;
      buffer_size = e.sizes.1 ∙ self.buffer_size;
      cache_size = c.drop_cuts.ensures.sizes.page_bytes ∙ self.cache_size;
      place = λ i is. absurd (let two : places.Nowhere ≡ places.Buffered i = is in cc);
      within_limit = self.within_limit;
      free = self.free;
      newest = λ whole honest. newest_committed_page flash self.log.index y e.committed (self.newest whole honest);
      shown = λ whole honest o k xs is. e.cuts flash o k ∙ shown_cut cuts (present_data self.log.index (contents self.buffer) flash) self.cache c.drop_cuts.new.cache (self.shown whole honest) c.drop_cuts.ensures.fewer c.drop_cuts.ensures.lacks o k xs is;
    }

pub returns-clause-current : goal.returns-clause-current
returns-clause-current g c = λ honest.
    let self = c.args.self.now in
    let d = g.N.Nand.state self.log.device in
    known_cut d.honest (c.args.cut ∷ []) (present_data self.log.index (contents self.buffer) d.flash) (present_data c.cut_all.new.index (contents c.cut_all.new.self) d.flash) honest (c.cut_all.ensures.cuts d.flash)
