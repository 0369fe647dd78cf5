use Rattle.std.proofs.Common.{◌≡◌, ◌<◌, length, ◌∙◌, sym, subst}
use Rattle.chunk_index.specs.declared.form.Present.TheVariants as presents
use Rattle.chunk_index.specs.Maps.{present}
use Rattle.page_store.specs.laws.Buffering.{place_within}
use Rattle.page_store.specs.BufferOf.{contents}
use Rattle.page_store.specs.StateOf.{lent_by, state_of}
use Rattle.page_store.proofs.ReadOnly.{near_cached, finds_seen, buffered_lent, committed_lent, not_absent, fault_seen}
use Rattle.page_store.proofs.store.StorePages.find.Goals as goal

pub invariant_of-self : goal.invariant_of-self
invariant_of-self g c =
    let self = c.args.self.now in
    let is : present self.log.index c.args.key.object c.args.key.chunk ≡ presents.InBuffer c.in-InBuffer.place = sym c.present.ensures ∙ c.in-InBuffer.is in
    record {
      buffers = self.buffers;
      objects = self.objects;
      most = self.most;
      size = self.size;
      buffer_size = self.buffer_size;
      cache_size = self.cache_size;
      place = λ i same.
          let one : c.in-InBuffer.place ≡ i = cc in
          subst (λ n. n < length (contents self.buffer)) one (place_within (contents self.buffer) c.in-InBuffer.place _ (self.buffers.there _ _ c.in-InBuffer.place is));
      within_limit = self.within_limit;
      free = self.free;
      newest = self.newest;
      shown = self.shown;
    }

pub returns-in-InBuffer-clause-page : goal.returns-in-InBuffer-clause-page
returns-in-InBuffer-clause-page g c = λ sound.
    let self = c.args.self.now in
    let is : present self.log.index c.args.key.object c.args.key.chunk ≡ presents.InBuffer c.in-InBuffer.place = sym c.present.ensures ∙ c.in-InBuffer.is in
    buffered_lent (g.N.Nand.state self.log.device) self.log.index (contents self.buffer) self.scratch.items c.args.key.object c.args.key.chunk c.in-InBuffer.place self.broken is
    (place_within (contents self.buffer) c.in-InBuffer.place _ (self.buffers.there _ _ c.in-InBuffer.place is)) sound

pub returns-in-OnFlash-clause-lookups : goal.returns-in-OnFlash-clause-lookups
returns-in-OnFlash-clause-lookups g c =
    let self = c.args.self.now in
    let new = c.find_committed.new.self in
    finds_seen (state_of self) (state_of new) (lent_by self) (lent_by new) c.find_committed.ensures.looks

pub returns-in-OnFlash-clause-page : goal.returns-in-OnFlash-clause-page
returns-in-OnFlash-clause-page g c = λ sound.
    let e = c.find_committed.ensures in
    committed_lent (state_of c.args.self.now) (lent_by c.find_committed.new.self) c.args.key.object c.args.key.chunk c.in-OnFlash.at c.find_committed.result (sym c.present.ensures ∙ c.in-OnFlash.is) sound e.there e.page

pub returns-in-OnFlash-clause-absent : goal.returns-in-OnFlash-clause-absent
returns-in-OnFlash-clause-absent g c = λ sound none.
    let self = c.args.self.now in
    absurd (not_absent (g.N.Nand.state self.log.device) self.log.index (contents self.buffer) c.args.key.object c.args.key.chunk c.in-OnFlash.at self.broken (sym c.present.ensures ∙ c.in-OnFlash.is) self.newest sound none)

pub returns-in-OnFlash-clause-fault : goal.returns-in-OnFlash-clause-fault
returns-in-OnFlash-clause-fault g c =
    let self = c.args.self.now in
    let new = c.find_committed.new.self in
    fault_seen (state_of self) (state_of new) (lent_by self) (lent_by new) c.find_committed.result c.find_committed.ensures.fault

pub returns-in-OnFlash-clause-near : goal.returns-in-OnFlash-clause-near
returns-in-OnFlash-clause-near g c = λ near.
    let self = c.args.self.now in
    c.find_committed.ensures.cached (near_cached (present self.log.index c.args.key.object c.args.key.chunk) c.in-OnFlash.at _ (sym c.present.ensures ∙ c.in-OnFlash.is) near)
