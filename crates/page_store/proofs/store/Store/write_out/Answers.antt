use Rattle.std.specs.Prelude.{◌≡◌, ◌≤◌, ◌/◌, true, false, List, [], Some, None, length, slice_get}
use Rattle.std.proofs.Common.{◌∙◌, refl, sym, ap, subst, inl, inr, arith}
use Rattle.nand_model.specs.declared.geometry.Geometry.{Geometry}
use Rattle.page_store.specs.BufferOf.{contents}
use Rattle.page_store.specs.Shown.{committed_data, present_data}
use Rattle.flash_tree.specs.declared.place.FreshPage.{FreshPage}
use Rattle.page_store.specs.BufferOf.{last_written}
use Rattle.page_store.specs.Buffering.{Buffers}
use Rattle.page_store.specs.Caching.{Shows, AreIn, TakesPages}
use Rattle.pages.specs.Stores.{SamePages}
use Rattle.block_state.specs.Committed.{bad_count}
use Rattle.block_state.specs.TableOf.{table}
use Rattle.flash_log.specs.Consistency.{HasFreeBlocks}
use Rattle.transactions.specs.Checking.{log_of}
use Rattle.std.proofs.lemmas.Bool.{true≢false}
use Rattle.page_store.specs.StoreState.{StoreState}
use Rattle.page_store.specs.StateOf.{state_of}
use Rattle.page_store.proofs.Changed.{lasts_still}
use Rattle.page_store.specs.Changing.{IsCommitFault}
use Rattle.page_store.specs.declared.store.Found.TheVariants as places
use Rattle.page_store.proofs.Carried.{either_known, committed_is_carried, newest_committed}
use Rattle.page_store.proofs.Steps.{buffered_shown, commit_fails, committed_power, known_on, some_buffered, writable}
use Rattle.page_store.proofs.store.Store.write_out.Goals as goal

pub invariant_of-self : goal.invariant_of-self
invariant_of-self g c =
    let self = c.args.self.now in
    let w = c.commit.ensures in
    let k = c.keep_written.ensures in
    let done = c.in-Ok.ensures.ends in
    let old = g.N.Nand.state self.log.device in
    let new = g.N.Nand.state c.commit.new.log.device in
    let y = c.commit.new.log.index in
    let empty : contents c.keep_written.new.buffer ≡ [] = k.pages ∙ done.empty in
    let bytes = ap (λ (z : Geometry). z.bytes) w.log.lasts.geometry in
    record {
      buffers = subst (Buffers y) (sym k.pages) w.buffer.1.buffers;
      objects = λ _ i p is. absurd (let two : None ≡ Some p = sym (ap (λ (l : List FreshPage). slice_get l i) empty) ∙ is in cc);
      most = k.buffer_sizes.0 ∙ w.buffer.0.most ∙ self.most ∙ ap (λ (z : Geometry). z.pages / 4) (sym w.log.lasts.geometry);
      size = self.size ∙ sym bytes;
      buffer_size = k.buffer_sizes.1 ∙ w.buffer.0.bytes ∙ self.buffer_size ∙ sym bytes;
      cache_size = k.sizes.page_bytes ∙ self.cache_size ∙ sym bytes;
      place = λ i is. absurd (let two : places.Nowhere ≡ places.Buffered i = is in cc);
      within_limit = λ _. subst (λ s. bad_count (table c.commit.new.log.blocks) ≤ s) (sym w.terms.spare) done.within_limit;
      free = λ _. subst (HasFreeBlocks (table c.commit.new.log.blocks)) (sym w.terms.spare) done.free;
      newest = λ whole honest.
          let before = sym w.log.lasts.honest ∙ honest in
          newest_committed (contents self.buffer) old new self.log.index y (λ none. (w.nothing none).device) (λ none. (w.nothing none).committed) (self.newest whole before) done.power (w.log.consistent.newest honest);
      shown = λ whole honest.
          let before = sym w.log.lasts.honest ∙ honest in
          let m = present_data y (contents c.commit.new.buffer) new.flash in
          let shows : Shows self.cache m = λ o l xs is. done.present before o l ∙ self.shown whole before o l xs is in
          let are : AreIn (last_written c.commit.new.buffer) m = λ i p is. done.present before p.key.object p.key.chunk
          ∙ buffered_shown self.log.index (contents self.buffer) old.flash self.buffers i p (subst (λ (l : List FreshPage). slice_get l i ≡ Some p) done.last is) in
          subst (λ (l : List FreshPage). Shows c.keep_written.new.cache (present_data y l new.flash)) (sym k.pages) (k.shows m shows are);
    }

pub returns-in-Err-clause-carried : goal.returns-in-Err-clause-carried
returns-in-Err-clause-carried g c = λ whole honest.
    let self = c.args.self.now in
    let d = g.N.Nand.state self.log.device in
    let carried = committed_is_carried self.log.spare d (table self.log.blocks) self.log.index c.the_counts_are_of_the_keys.ensures.none self.log.can_write self.log.consistent.tables (self.newest whole honest) in
    either_known (log_of d (table self.log.blocks)) self.log.index d.honest (g.N.Nand.state c.commit.new.log.device) self.log.spare (committed_data self.log.index d.flash) (present_data self.log.index (contents self.buffer) d.flash) ((c.commit.ensures.carries honest).newest carried)

pub commit-requires-clause-reserve : goal.commit-requires-clause-reserve
commit-requires-clause-reserve g c = (c.args.self.now.within_limit c.if-self.false, c.args.self.now.free c.if-self.false)

pub commit-requires-clause-buffers : goal.commit-requires-clause-buffers
commit-requires-clause-buffers g c =
    let self = c.args.self.now in
    record { buffers = self.buffers; pages = writable (g.N.Nand.state self.log.device) self.buffer (self.objects c.if-self.false) self.buffer_size }

pub returns-in-Err-clause-ends : goal.returns-in-Err-clause-ends
returns-in-Err-clause-ends g c =
    let old : StoreState = state_of c.args.self.now in
    let new : StoreState = record old { log = log_of (g.N.Nand.state c.commit.new.log.device) (table c.commit.new.log.blocks) } in
    record {
      is = refl;
      begins = λ _.
          let some = some_buffered (contents c.args.self.now.buffer) (λ none. let two : false ≡ true = (c.in-Err.ensures.nothing none).done in absurd cc) in
          let long = ap length c.pages.ensures in
          c.begin.ensures.some (omega (arith, some, long));
      cause = subst (IsCommitFault old new) (sym c.store_fault.ensures) (commit_fails old new c.in-Err.fault c.in-Err.ensures.ends);
    }

pub returns-in-Ok-clause-carried : goal.returns-in-Ok-clause-carried
returns-in-Ok-clause-carried g c = λ whole honest.
    let self = c.args.self.now in
    let d = g.N.Nand.state self.log.device in
    let carried = committed_is_carried self.log.spare d (table self.log.blocks) self.log.index c.the_counts_are_of_the_keys.ensures.none self.log.can_write self.log.consistent.tables (self.newest whole honest) in
    either_known (log_of d (table self.log.blocks)) self.log.index d.honest (g.N.Nand.state c.commit.new.log.device) self.log.spare (committed_data self.log.index d.flash) (present_data self.log.index (contents self.buffer) d.flash) ((c.commit.ensures.carries honest).newest carried)

pub returns-then-self-clause-keeps : goal.returns-then-self-clause-keeps
returns-then-self-clause-keeps g c = record { lasts = lasts_still (state_of c.args.self.now); counts = record { refused = refl; commits = omega arith; none = λ _. refl }; keys = λ _ _ is. is; cache = λ _ _ is. is }

pub returns-then-self-clause-ends : goal.returns-then-self-clause-ends
returns-then-self-clause-ends g c = record { is = c.if-self.true; begins = λ whole. absurd (true≢false (sym c.if-self.true ∙ whole)); cause = inr (inr c.if-self.true) }

pub returns-in-Err-clause-unhindered : goal.returns-in-Err-clause-unhindered
returns-in-Err-clause-unhindered g c = λ whole why. elim why [
  | inl none ↦ let two : false ≡ true = (c.in-Err.ensures.nothing none).done in absurd cc
  | inr is ↦ let two : false ≡ true = c.in-Err.ensures.well.unhindered is in absurd cc
]

pub returns-in-Ok-clause-ends : goal.returns-in-Ok-clause-ends
returns-in-Ok-clause-ends g c =
    let self = c.args.self.now in
    let k = c.keep_written.ensures in
    let done = c.in-Ok.ensures.ends in
    let old = g.N.Nand.state self.log.device in
    let new = g.N.Nand.state c.commit.new.log.device in
    let y = c.commit.new.log.index in
    let empty : contents c.keep_written.new.buffer ≡ [] = k.pages ∙ done.empty in
    record {
      whole = record {
        was = c.if-self.false;
        is = c.if-self.false;
        power = committed_power old new (contents self.buffer) c.commit.ensures.log.lasts (λ none. (c.commit.ensures.nothing none).device) done.power;
      };
      committed_map = known_on old.honest new.honest (present_data self.log.index (contents self.buffer) old.flash) (committed_data y new.flash) c.commit.ensures.log.lasts.honest done.committed;
      current = known_on old.honest new.honest (present_data self.log.index (contents self.buffer) old.flash) (present_data y (contents c.keep_written.new.buffer) new.flash) c.commit.ensures.log.lasts.honest
          (subst (λ (l : List FreshPage). old.honest ≡ true → SamePages (present_data y l new.flash) (present_data self.log.index (contents self.buffer) old.flash)) (sym k.pages) done.present);
      empty = empty;
      cached = subst (λ (l : List FreshPage). TakesPages l self.cache c.keep_written.new.cache) done.last k.takes;
      keeps_open = c.in-Ok.ensures.well.stays_open;
    }
