use Rattle.std.specs.Prelude.{◌≡◌, List, Option, IsSome}
use Rattle.std.proofs.Common.{◌∙◌, sym, subst}
use Rattle.page_store.specs.BufferOf.{contents}
use Rattle.page_store.specs.Shown.{present_data}
use Rattle.flash_tree.specs.declared.place.FreshPage.{FreshPage}
use Rattle.pages.specs.declared.change.Cut.{Cut}
use Rattle.page_store.specs.Slots.{Held}
use Rattle.page_store.specs.Caching.{LacksCuts, LacksPages, KeepsUncut}
use Rattle.page_store.specs.declared.store.Found.TheVariants as places
use Rattle.page_store.proofs.Carried.{newest_committed_page}
use Rattle.page_store.proofs.Findable.{mountable_committed_since}
use Rattle.page_store.proofs.Shown.{lacks_on}
use Rattle.page_store.proofs.Steps.{consistent_committed, known_changed, objects_changed, shown_changed}
use Rattle.page_store.proofs.store.Store.make.Goals as goal

pub invariant_of-self : goal.invariant_of-self
invariant_of-self g c =
    let log = c.args.self.now.log in
    (log.can_write, (consistent_committed log.index c.apply.new.index c.apply.ensures.committed _ _ _ log.consistent, (log.room_size, (mountable_committed_since _ _ log.index c.apply.new.index c.apply.ensures.committed log.mountable, tt))))

pub invariant_of-self-2 : goal.invariant_of-self-2
invariant_of-self-2 g c =
    let self = c.args.self.now in
    let e = c.apply.ensures in
    let y = c.apply.new.index in
    let flash = (g.N.Nand.state self.log.device).flash in
    record {
      buffers = e.buffers;
      objects = λ whole. objects_changed _ _ _ self.log.index y (contents self.buffer) (contents c.apply.new.self) c.args.change flash self.log.consistent self.buffers (self.objects whole) c.requires.trees e.buffers (e.changes flash);
      most = e.sizes.0 ∙ self.most;
      size = self.size;
      buffer_size = e.sizes.1 ∙ self.buffer_size;
      cache_size = c.drop_committed.ensures.sizes.page_bytes ∙ c.drop_cuts.ensures.sizes.page_bytes ∙ self.cache_size;
      place = λ i is. absurd (let two : places.Nowhere ≡ places.Buffered i = is in cc);
      within_limit = self.within_limit;
      free = self.free;
      newest = λ whole honest. newest_committed_page (g.N.Nand.state self.log.device).flash self.log.index y e.committed (self.newest whole honest);
      shown = λ whole honest o k xs is. e.changes flash o k
          ∙ shown_changed c.args.change (present_data self.log.index (contents self.buffer) flash) self.cache c.drop_cuts.new.cache c.drop_committed.new.cache (self.shown whole honest)
          c.drop_cuts.ensures.fewer c.drop_committed.ensures.fewer (subst (λ (l : List Cut). LacksCuts l c.drop_cuts.new.cache) c.deref.ensures.value c.drop_cuts.ensures.lacks) (subst (λ (l : List FreshPage). LacksPages l c.drop_committed.new.cache) c.deref-2.ensures.value c.drop_committed.ensures.lacks) o k xs is;
    }

pub returns-clause-current : goal.returns-clause-current
returns-clause-current g c = λ honest.
    let self = c.args.self.now in
    let d = g.N.Nand.state self.log.device in
    known_changed d.honest c.args.change (present_data self.log.index (contents self.buffer) d.flash) (present_data c.apply.new.index (contents c.apply.new.self) d.flash) honest (c.apply.ensures.changes d.flash)

pub returns-clause-places : goal.returns-clause-places
returns-clause-places g c = λ o k uncut had.
    let self = c.args.self.now in
    let others = subst (λ (l : List Cut). KeepsUncut l self.cache c.drop_cuts.new.cache) c.deref.ensures.value c.drop_cuts.ensures.others in
    c.drop_committed.ensures.places o k (subst (λ (h : Option Held). IsSome h) (sym (others o k uncut)) had)

pub drop_committed-requires : goal.drop_committed-requires
drop_committed-requires g c = λ none o k i of.
    let lacks : LacksPages c.deref-2.result.now c.args.self.now.cache = subst (λ (l : List FreshPage). LacksPages l c.args.self.now.cache) (sym c.deref-2.ensures.value) (c.requires.lacks none) in
    lacks_on c.args.self.now.cache c.drop_cuts.new.cache o k c.drop_cuts.ensures.fewer (lacks o k i of)
