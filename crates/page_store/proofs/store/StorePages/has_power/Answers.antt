use Rattle.std.proofs.Common.{◌∙◌, ◌/◌, sym, ap, subst}
use Rattle.nand_model.specs.declared.geometry.Geometry.{Geometry}
use Rattle.transactions.specs.laws.Ready.{ready_read}
use Rattle.flash_log.specs.Room.{IsRoomFor}
use Rattle.page_store.specs.BufferOf.{contents}
use Rattle.page_store.proofs.Findable.{mountable_read_since}
use Rattle.page_store.proofs.Steps.{numbered_on}
use Rattle.page_store.proofs.ReadOnly.{consistent_read, newest_read, still_shown}
use Rattle.page_store.proofs.store.StorePages.has_power.Goals as goal

pub invariant_of-self : goal.invariant_of-self
invariant_of-self g c =
    let self = c.args.self.now in
    let log = self.log in
    let reads = c.has_power.ensures.reads in
    let bytes = ap (λ (k : Geometry). k.bytes) reads.lasts.geometry in (
      (ready_read _ _ _ log.can_write reads, (consistent_read _ _ _ _ log.index reads log.consistent, (subst (λ (k : Geometry). IsRoomFor k log.room) (sym reads.lasts.geometry) log.room_size, (mountable_read_since _ _ _ _ log.index reads log.mountable, tt)))),
      (
        self.buffers,
        (
          λ whole. numbered_on _ _ (contents self.buffer) reads.lasts (self.objects whole),
          (
            self.most ∙ ap (λ (k : Geometry). k.pages / 4) (sym reads.lasts.geometry),
            (
              self.size ∙ sym bytes,
              (
                self.buffer_size ∙ sym bytes,
                (
                  self.cache_size ∙ sym bytes,
                  (
                    self.place,
                    (
                      self.within_limit,
                      (
                        self.free,
                        (
                          λ whole. newest_read _ _ log.index reads (self.newest whole),
                          (λ whole. still_shown _ _ log.index (contents self.buffer) self.cache reads (self.shown whole), tt),
                        ),
                      ),
                    ),
                  ),
                ),
              ),
            ),
          ),
        ),
      ),
    )
