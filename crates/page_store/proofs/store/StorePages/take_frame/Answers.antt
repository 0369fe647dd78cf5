use Rattle.std.proofs.Common.{◌∙◌, sym, ap, option_and_then}
use Rattle.page_store.specs.BufferOf.{contents}
use Rattle.page_store.specs.Slots.{page_in}
use Rattle.page_store.specs.StateOf.{state_of}
use Rattle.page_store.proofs.CachedPages.{committed_same}
use Rattle.page_store.proofs.Spares.{seen_same}
use Rattle.page_store.proofs.store.StorePages.take_frame.Goals as goal

pub invariant_of-self : goal.invariant_of-self
invariant_of-self g c =
    let self = c.args.self.now in
    let same = committed_same self.cache c.take_spare.new.self c.take_spare.ensures.same in
    record {
      buffers = self.buffers;
      objects = self.objects;
      most = self.most;
      size = self.size;
      buffer_size = self.buffer_size;
      cache_size = c.take_spare.ensures.same.page_bytes ∙ self.cache_size;
      place = self.place;
      within_limit = self.within_limit;
      free = self.free;
      newest = self.newest;
      shown = λ whole honest o l xs is. self.shown whole honest o l xs (ap (option_and_then page_in) (sym (same.each o l)) ∙ is);
    }

pub returns-clause-same : goal.returns-clause-same
returns-clause-same g c =
    let self = c.args.self.now in
    seen_same (state_of self) c.take_spare.new.self (contents self.buffer) self.scratch.items self.found c.take_spare.ensures.same
