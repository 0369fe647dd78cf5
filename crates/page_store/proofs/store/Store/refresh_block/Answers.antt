use Rattle.std.specs.Prelude.{◌≡◌, ◌≤◌, ◌/◌, true, false}
use Rattle.std.proofs.Common.{◌∙◌, refl, sym, ap, subst, inl, inr, arith, rules}
use Rattle.std.proofs.lemmas.Bool.{true≢false}
use Rattle.nand_model.specs.Calls.{Device}
use Rattle.nand_model.specs.declared.geometry.Geometry.{Geometry}
use Rattle.block_state.specs.Committed.{bad_count}
use Rattle.block_state.specs.Table.{Table}
use Rattle.block_state.specs.TableOf.{table}
use Rattle.chunk_index.specs.Maps.{committed_pages}
use Rattle.transactions.specs.Checking.{LogState, log_of}
use Rattle.flash_log.specs.Consistency.{AreCommitted, HasFreeBlocks}
use Rattle.page_store.specs.BufferOf.{contents}
use Rattle.page_store.specs.Shown.{committed_data, present_data}
use Rattle.page_store.specs.Refreshing.{IsRefreshFault}
use Rattle.page_store.specs.StateOf.{state_of}
use Rattle.page_store.specs.StoreState.{StoreState}
use Rattle.page_store.proofs.Carried.{found_known, store_finds}
use Rattle.flash_log.specs.laws.Steps.{step_none}
use Rattle.page_store.proofs.Changed.{lasts_still}
use Rattle.page_store.proofs.Following.{buffers_moved}
use Rattle.page_store.proofs.Refreshed.{current_refreshed, found_moved, committed_now, committed_refreshed, leaves_known, leaves_none, leaves_refreshed, none_outside, pays_refresh, pays_refreshed, power_now, refresh_fails}
use Rattle.page_store.proofs.Steps.{known_on, numbered_on}
use Rattle.page_store.proofs.store.Store.refresh_block.Goals as goal

pub refresh-requires-clause-within_limit : goal.refresh-requires-clause-within_limit
refresh-requires-clause-within_limit g c = c.args.self.now.within_limit c.if-self.false

pub returns-in-Ok-clause-keeps : goal.returns-in-Ok-clause-keeps
returns-in-Ok-clause-keeps g c =
    let r = c.in-Ok.ensures in
    record {
      lasts = record { device = r.step.lasts; numbers = r.step.numbers; spare = r.terms.spare; first = r.terms.first; counts = record { refused = omega arith; commits = omega arith } };
      buffer = refl;
      cache = refl;
      counts = refl;
    }

pub returns-in-Ok-clause-pays : goal.returns-in-Ok-clause-pays
returns-in-Ok-clause-pays g c =
    let self = c.args.self.now in
    let a : LogState = log_of (g.N.Nand.state self.log.device) (table self.log.blocks) in
    let b : LogState = log_of (g.N.Nand.state c.refresh.new.self.device) (table c.refresh.new.self.blocks) in
    pays_refreshed c.args.block a b self.log.can_write.geometry (self.log.consistent.tables.fits c.args.block) c.in-Ok.ensures.pays

pub returns-in-Ok-clause-carried : goal.returns-in-Ok-clause-carried
returns-in-Ok-clause-carried g c = λ whole honest.
    let self = c.args.self.now in
    let d : Device = g.N.Nand.state self.log.device in
    let e : Device = g.N.Nand.state c.refresh.new.self.device in
    found_known (log_of d (table self.log.blocks)) self.log.index d.honest e self.log.spare (committed_data self.log.index d.flash)
    (found_moved self.log.spare d e (table self.log.blocks) (table c.refresh.new.self.blocks) self.log.index c.refresh.new.self.index c.in-Ok.ensures.step self.log.can_write self.log.consistent
    c.the_counts_are_of_the_keys.ensures.none honest (self.newest whole honest))

pub returns-in-Ok-clause-nothing : goal.returns-in-Ok-clause-nothing
returns-in-Ok-clause-nothing g c = λ none.
    let self = c.args.self.now in
    let committed : ((table self.log.blocks).entry c.args.block).committed ≡ 0 = self.log.consistent.tables.counts.counts c.args.block ∙ c.the_counts_are_of_the_keys.ensures.zero self.log.index c.args.block none in
    ap (λ (l : LogState). l.device) (c.in-Ok.ensures.nothing (inl committed)).0.log

pub returns-in-Ok-clause-ends : goal.returns-in-Ok-clause-ends
returns-in-Ok-clause-ends g c =
    let self = c.args.self.now in
    let d : Device = g.N.Nand.state self.log.device in
    let e : Device = g.N.Nand.state c.refresh.new.self.device in
    let t : Table = table self.log.blocks in
    let u : Table = table c.refresh.new.self.blocks in
    let x = self.log.index in
    let y = c.refresh.new.self.index in
    let r = c.in-Ok.ensures in
    let law = c.the_counts_are_of_the_keys.ensures.none in
    let whole : self.broken ≡ false = c.if-self.false in
    let now : d.honest ≡ true → AreCommitted e.flash (committed_pages y) = λ honest.
    committed_now c.args.block (log_of d t) (log_of e u) x y (λ idle. let same = (r.nothing idle).0 in (same.log, same.index)) (self.newest whole honest)
    (λ power. r.step.consistent.newest (r.step.lasts.honest ∙ honest) power) r.ends.moved in
    record {
      whole = record { was = whole; is = whole; power = power_now c.args.block (log_of d t) (log_of e u) x y r.step.lasts (λ idle. let same = (r.nothing idle).0 in (same.log, same.index)) r.ends.moved };
      committed_map = known_on d.honest e.honest (committed_data x d.flash) (committed_data y e.flash) r.step.lasts.honest
          (λ honest. committed_refreshed self.log.spare d e t u x y r.step self.log.can_write self.log.consistent law honest (self.newest whole honest) (now honest));
      current = known_on d.honest e.honest (present_data x (contents self.buffer) d.flash) (present_data y (contents self.buffer) e.flash) r.step.lasts.honest
          (λ honest. current_refreshed self.log.spare d e t u x y r.step self.log.can_write self.log.consistent law honest (self.newest whole honest) (now honest) (contents self.buffer));
      leaves = λ honest. leaves_known d.honest c.args.block d.flash e.flash (committed_data x d.flash)
          (leaves_refreshed self.log.spare d e t u x y r.step self.log.can_write self.log.consistent law honest (self.newest whole honest) (now honest) c.args.block r.ends.moved r.anew);
    }

pub returns-in-Err-clause-keeps : goal.returns-in-Err-clause-keeps
returns-in-Err-clause-keeps g c =
    let r = c.in-Err.ensures in
    record {
      lasts = record { device = r.step.lasts; numbers = r.step.numbers; spare = r.terms.spare; first = r.terms.first; counts = record { refused = omega arith; commits = omega arith } };
      buffer = refl;
      cache = refl;
      counts = refl;
    }

pub returns-in-Err-clause-pays : goal.returns-in-Err-clause-pays
returns-in-Err-clause-pays g c =
    let self = c.args.self.now in
    let a : LogState = log_of (g.N.Nand.state self.log.device) (table self.log.blocks) in
    let b : LogState = log_of (g.N.Nand.state c.refresh.new.self.device) (table c.refresh.new.self.blocks) in
    pays_refresh c.args.block a b c.in-Err.fault c.store_fault.result self.log.can_write.geometry (self.log.consistent.tables.fits c.args.block) c.in-Err.ensures.pays

pub returns-in-Err-clause-carried : goal.returns-in-Err-clause-carried
returns-in-Err-clause-carried g c = λ whole honest.
    let self = c.args.self.now in
    let d : Device = g.N.Nand.state self.log.device in
    let e : Device = g.N.Nand.state c.refresh.new.self.device in
    found_known (log_of d (table self.log.blocks)) self.log.index d.honest e self.log.spare (committed_data self.log.index d.flash)
    (found_moved self.log.spare d e (table self.log.blocks) (table c.refresh.new.self.blocks) self.log.index c.refresh.new.self.index c.in-Err.ensures.step self.log.can_write self.log.consistent
    c.the_counts_are_of_the_keys.ensures.none honest (self.newest whole honest))

pub returns-in-Err-clause-nothing : goal.returns-in-Err-clause-nothing
returns-in-Err-clause-nothing g c = λ none.
    let self = c.args.self.now in
    let committed : ((table self.log.blocks).entry c.args.block).committed ≡ 0 = self.log.consistent.tables.counts.counts c.args.block ∙ c.the_counts_are_of_the_keys.ensures.zero self.log.index c.args.block none in
    ap (λ (l : LogState). l.device) (c.in-Err.ensures.nothing (inl committed)).0.log

pub returns-in-Err-clause-ends : goal.returns-in-Err-clause-ends
returns-in-Err-clause-ends g c =
    let old : StoreState = state_of c.args.self.now in
    let new : StoreState = record old { log = log_of (g.N.Nand.state c.refresh.new.self.device) (table c.refresh.new.self.blocks) } in
    (refl, subst (IsRefreshFault old new) (sym c.store_fault.ensures) (refresh_fails old new c.in-Err.fault c.in-Err.ensures.ends))

pub returns-then-self-clause-keeps : goal.returns-then-self-clause-keeps
returns-then-self-clause-keeps g c = record { lasts = lasts_still (state_of c.args.self.now); buffer = refl; cache = refl; counts = refl }

pub returns-then-self-clause-ends : goal.returns-then-self-clause-ends
returns-then-self-clause-ends g c = (c.if-self.true, inr (inr c.if-self.true))

pub returns-then-block-blocks-clause-keeps : goal.returns-then-block-blocks-clause-keeps
returns-then-block-blocks-clause-keeps g c = record { lasts = lasts_still (state_of c.args.self.now); buffer = refl; cache = refl; counts = refl }

pub returns-then-block-blocks-clause-carried : goal.returns-then-block-blocks-clause-carried
returns-then-block-blocks-clause-carried g c = λ whole honest.
    let self = c.args.self.now in
    let d : Device = g.N.Nand.state self.log.device in
    store_finds self.log.spare d (table self.log.blocks) self.log.index c.the_counts_are_of_the_keys.ensures.none self.log.can_write self.log.consistent.tables (self.newest whole honest)

pub returns-then-block-blocks-clause-ends : goal.returns-then-block-blocks-clause-ends
returns-then-block-blocks-clause-ends g c =
    let self = c.args.self.now in
    let d : Device = g.N.Nand.state self.log.device in
    let t : Table = table self.log.blocks in
    let x = self.log.index in
    let past : d.geometry.blocks ≤ c.args.block = search rules in
    record {
      whole = record { was = c.if-self.false; is = c.if-self.false; power = refl };
      committed_map = λ o l. refl;
      current = λ o l. refl;
      leaves = λ honest. leaves_known d.honest c.args.block d.flash d.flash (committed_data x d.flash)
          (leaves_none self.log.spare d d t t x x (step_none self.log.spare d t x self.log.can_write self.log.consistent) self.log.can_write self.log.consistent c.the_counts_are_of_the_keys.ensures.none honest (self.newest c.if-self.false honest)
          c.args.block (none_outside self.log.spare d t x c.args.block self.log.can_write self.log.consistent past));
    }

pub invariant_of-self : goal.invariant_of-self
invariant_of-self g c =
    let self = c.args.self.now in
    let d : Device = g.N.Nand.state self.log.device in
    let e : Device = g.N.Nand.state c.refresh.new.self.device in
    let t : Table = table self.log.blocks in
    let u : Table = table c.refresh.new.self.blocks in
    let x = self.log.index in
    let y = c.refresh.new.self.index in
    let r = c.in-Ok.ensures in
    let law = c.the_counts_are_of_the_keys.ensures.none in
    let bytes = ap (λ (z : Geometry). z.bytes) r.step.lasts.geometry in
    let now : self.broken ≡ false → d.honest ≡ true → AreCommitted e.flash (committed_pages y) = λ whole honest.
    committed_now c.args.block (log_of d t) (log_of e u) x y (λ idle. let same = (r.nothing idle).0 in (same.log, same.index)) (self.newest whole honest)
    (λ power. r.step.consistent.newest (r.step.lasts.honest ∙ honest) power) r.ends.moved in
    record {
      buffers = buffers_moved x y r.step.index (contents self.buffer) self.buffers;
      objects = λ whole. numbered_on d e (contents self.buffer) r.step.lasts (self.objects whole);
      most = self.most ∙ ap (λ (z : Geometry). z.pages / 4) (sym r.step.lasts.geometry);
      size = self.size ∙ sym bytes;
      buffer_size = self.buffer_size ∙ sym bytes;
      cache_size = self.cache_size ∙ sym bytes;
      place = self.place;
      within_limit = λ whole. subst (λ s. bad_count u ≤ s) (sym r.terms.spare) r.ends.within_limit;
      free = λ whole. subst (HasFreeBlocks u) (sym r.terms.spare) (r.ends.free (self.free whole));
      newest = λ whole honest. now whole (sym r.step.lasts.honest ∙ honest);
      shown = λ whole honest.
          let before = sym r.step.lasts.honest ∙ honest in
          λ o l xs is. current_refreshed self.log.spare d e t u x y r.step self.log.can_write self.log.consistent law before (self.newest whole before) (now whole before) (contents self.buffer) o l ∙ self.shown whole before o l xs is;
    }

pub invariant_of-self-in-Err : goal.invariant_of-self-in-Err
invariant_of-self-in-Err g c =
    let self = c.args.self.now in
    let d : Device = g.N.Nand.state self.log.device in
    let e : Device = g.N.Nand.state c.refresh.new.self.device in
    let r = c.in-Err.ensures in
    let bytes = ap (λ (z : Geometry). z.bytes) r.step.lasts.geometry in
    record {
      buffers = buffers_moved self.log.index c.refresh.new.self.index r.step.index (contents self.buffer) self.buffers;
      objects = λ whole. absurd (true≢false whole);
      most = self.most ∙ ap (λ (z : Geometry). z.pages / 4) (sym r.step.lasts.geometry);
      size = self.size ∙ sym bytes;
      buffer_size = self.buffer_size ∙ sym bytes;
      cache_size = self.cache_size ∙ sym bytes;
      place = self.place;
      within_limit = λ whole. absurd (true≢false whole);
      free = λ whole. absurd (true≢false whole);
      newest = λ whole honest. absurd (true≢false whole);
      shown = λ whole honest. absurd (true≢false whole);
    }
