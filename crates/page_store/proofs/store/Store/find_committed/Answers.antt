use Rattle.std.proofs.Common.{◌≡◌, ◌∙◌, ◌/◌, sym, ap, subst}
use Rattle.nand_model.specs.declared.geometry.Geometry.{Geometry}
use Rattle.transactions.specs.laws.Ready.{ready_read}
use Rattle.block_state.specs.TableOf.{table}
use Rattle.transactions.specs.Checking.{log_of}
use Rattle.flash_log.specs.Room.{IsRoomFor}
use Rattle.page_store.specs.BufferOf.{contents}
use Rattle.page_store.specs.StoreState.{StoreState}
use Rattle.page_store.specs.StateOf.{state_of}
use Rattle.page_store.specs.declared.store.Found.TheVariants as places
use Rattle.page_store.proofs.Findable.{mountable_read_since}
use Rattle.page_store.proofs.Steps.{numbered_on}
use Rattle.page_store.proofs.ReadOnly.{lies, consistent_read, newest_read, shown_read, load_fails}
use Rattle.page_store.proofs.store.Store.find_committed.Goals as goal

pub invariant_of-self : goal.invariant_of-self
invariant_of-self g c =
    let log = c.args.self.now.log in
    let reads = c.load_committed.ensures.reads in
    (ready_read _ _ _ log.can_write reads, (consistent_read _ _ _ _ log.index reads log.consistent, (subst (λ (k : Geometry). IsRoomFor k log.room) (sym reads.lasts.geometry) log.room_size, (mountable_read_since _ _ _ _ log.index reads log.mountable, tt))))

pub invariant_of-self-in-Ok : goal.invariant_of-self-in-Ok
invariant_of-self-in-Ok g c =
    let self = c.args.self.now in
    let reads = c.load_committed.ensures.reads in
    let bytes = ap (λ (k : Geometry). k.bytes) reads.lasts.geometry in
    record {
      buffers = self.buffers;
      objects = λ whole. numbered_on _ _ (contents self.buffer) reads.lasts (self.objects whole);
      most = self.most ∙ ap (λ (k : Geometry). k.pages / 4) (sym reads.lasts.geometry);
      size = c.load_committed.ensures.size ∙ self.size ∙ sym bytes;
      buffer_size = self.buffer_size ∙ sym bytes;
      cache_size = c.load_committed.ensures.sizes.page_bytes ∙ self.cache_size ∙ sym bytes;
      place = λ i is. absurd (let two : places.Cached c.args.key ≡ places.Buffered i = is in cc);
      within_limit = self.within_limit;
      free = self.free;
      newest = λ whole. newest_read _ _ self.log.index reads (self.newest whole);
      shown = λ whole. shown_read _ _ self.log.index (contents self.buffer) c.args.key c.args.at self.cache c.load_committed.new.cache reads c.requires c.load_committed.ensures.caches (self.shown whole);
    }

pub invariant_of-self-in-Err : goal.invariant_of-self-in-Err
invariant_of-self-in-Err g c =
    let self = c.args.self.now in
    let reads = c.load_committed.ensures.reads in
    let bytes = ap (λ (k : Geometry). k.bytes) reads.lasts.geometry in
    record {
      buffers = self.buffers;
      objects = λ whole. numbered_on _ _ (contents self.buffer) reads.lasts (self.objects whole);
      most = self.most ∙ ap (λ (k : Geometry). k.pages / 4) (sym reads.lasts.geometry);
      size = c.load_committed.ensures.size ∙ self.size ∙ sym bytes;
      buffer_size = self.buffer_size ∙ sym bytes;
      cache_size = c.load_committed.ensures.sizes.page_bytes ∙ self.cache_size ∙ sym bytes;
      place = self.place;
      within_limit = self.within_limit;
      free = self.free;
      newest = λ whole. newest_read _ _ self.log.index reads (self.newest whole);
      shown = λ whole. shown_read _ _ self.log.index (contents self.buffer) c.args.key c.args.at self.cache c.load_committed.new.cache reads c.requires c.load_committed.ensures.caches (self.shown whole);
    }

pub load_committed-requires-clause-block : goal.load_committed-requires-clause-block
load_committed-requires-clause-block g c = let self = c.args.self.now in (lies _ _ _ self.log.index c.args.key.object c.args.key.chunk c.args.at self.log.can_write self.log.consistent c.requires).0

pub load_committed-requires-clause-page : goal.load_committed-requires-clause-page
load_committed-requires-clause-page g c = let self = c.args.self.now in (lies _ _ _ self.log.index c.args.key.object c.args.key.chunk c.args.at self.log.can_write self.log.consistent c.requires).1

pub returns-in-Err-clause-fault : goal.returns-in-Err-clause-fault
returns-in-Err-clause-fault g c =
    let self = c.args.self.now in
    let a : StoreState = state_of self in
    let b : StoreState = record a { log = log_of (g.N.Nand.state c.load_committed.new.device) (table self.log.blocks); counts = c.note.new.self } in
    load_fails a b c.args.key.object c.args.key.chunk c.args.at c.in-Err.fault c.load_committed.ensures.reads self.log.consistent c.requires c.in-Err.ensures.fault c.note.ensures.refused
