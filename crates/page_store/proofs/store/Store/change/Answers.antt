use Rattle.std.specs.Prelude.{◌≡◌, ◌≤◌, true, ◌+◌, List, length, Some, slice_get}
use Rattle.std.proofs.Common.{◌∙◌, sym, ap, subst, inl, inr, arith}
use Rattle.std.proofs.lemmas.Bool.{true≢false}
use Rattle.std.proofs.lemmas.Result.{err_from_is_err_and}
use Rattle.page_store.specs.Changing.{IsBroken}
use Rattle.page_store.specs.BufferOf.{contents}
use Rattle.page_store.specs.declared.buffer.Buffer.{Buffer}
use Rattle.pages.specs.laws.Changes.{changed_same}
use Rattle.flash_tree.specs.declared.place.FreshPage.{FreshPage}
use Rattle.page_store.specs.Cached.{held_count, capacity_of}
use Rattle.page_store.specs.declared.cache.PageCache.{PageCache}
use Rattle.page_store.specs.Caching.{LacksPages}
use Rattle.page_store.specs.StoreState.{StoreState, current_in, waiting}
use Rattle.page_store.specs.StateOf.{state_of}
use Rattle.page_store.specs.Buffering.{AreReady}
use Rattle.page_store.proofs.Carried.{store_finds}
use Rattle.page_store.proofs.Changed.{broken_ends, broken_made, carried_made, commits_none, commits_not, commits_not_after, committed_made, current_before, lasts_made, lasts_prepared, lasts_still, open_made, pays_done, pays_failed, pays_here, pays_made, refused_made, same_here, whole_made}
use Rattle.page_store.proofs.Steps.{fits_on, ready_prepared, few_new}
use Rattle.page_store.proofs.store.Store.change.Goals as goal

pub returns-then-self-clause-lasts : goal.returns-then-self-clause-lasts
returns-then-self-clause-lasts g c = lasts_still (state_of c.args.self.now)

pub returns-then-self-clause-pays : goal.returns-then-self-clause-pays
returns-then-self-clause-pays g c = let old : StoreState = state_of c.args.self.now in pays_here (waiting old) old.spare old.log _

pub returns-then-self-clause-ends : goal.returns-then-self-clause-ends
returns-then-self-clause-ends g c = record { is = c.if-self.true; begins = λ whole. absurd (true≢false (sym c.if-self.true ∙ whole)); cause = inr (inr c.if-self.true) }

pub returns-in_err-prepare-clause-lasts : goal.returns-in_err-prepare-clause-lasts
returns-in_err-prepare-clause-lasts g c = lasts_prepared (state_of c.args.self.now) (state_of c.prepare.new.self) c.prepare.ensures.same

pub returns-in_err-prepare-clause-pays : goal.returns-in_err-prepare-clause-pays
returns-in_err-prepare-clause-pays g c =
    let b : StoreState = state_of c.prepare.new.self in
    let r = c.from_residual.result in
    pays_made (state_of c.args.self.now) b b b c.prepare.ensures.same (same_here b) r (pays_here (waiting b) b.spare b.log r)

pub returns-in_err-prepare-clause-room : goal.returns-in_err-prepare-clause-room
returns-in_err-prepare-clause-room g c = λ _. commits_none (state_of c.args.self.now) (state_of c.prepare.new.self) c.prepare.ensures.same

pub returns-in_err-prepare-clause-carried : goal.returns-in_err-prepare-clause-carried
returns-in_err-prepare-clause-carried g c =
    let p = c.prepare.new.self in
    let b : StoreState = state_of p in
    carried_made (state_of c.args.self.now) b b b c.prepare.ensures.same (same_here b)
    (λ whole honest. inl (store_finds p.log.spare b.log.device b.log.table p.log.index c.the_counts_are_of_the_keys.ensures.none p.log.can_write p.log.consistent.tables (p.newest whole honest)))

pub returns-in_err-prepare-clause-ends : goal.returns-in_err-prepare-clause-ends
returns-in_err-prepare-clause-ends g c =
    let is = c.in_err-prepare.ensures.fault in
    let p = err_from_is_err_and c.from_residual.result c.from_residual.ensures.1 in
    rw p.1 (refused_made (state_of c.args.self.now) (state_of c.prepare.new.self) c.prepare.ensures.same c.args.change p.0 (p.2 ∙ is.0) is.1)

pub returns-in_err-is_committed-clause-lasts : goal.returns-in_err-is_committed-clause-lasts
returns-in_err-is_committed-clause-lasts g c =
    let m : StoreState = state_of c.make_room.new.self in
    lasts_made (state_of c.args.self.now) (state_of c.prepare.new.self) m m c.prepare.ensures.same (same_here m) c.make_room.ensures.keeps.lasts

pub returns-in_err-is_committed-clause-pays : goal.returns-in_err-is_committed-clause-pays
returns-in_err-is_committed-clause-pays g c =
    let a : StoreState = state_of c.args.self.now in
    let b : StoreState = state_of c.prepare.new.self in
    let m : StoreState = state_of c.make_room.new.self in
    let p = err_from_is_err_and c.from_residual-in_err-is_committed.result c.from_residual-in_err-is_committed.ensures.1 in
    rw p.1 (pays_made a b m m c.prepare.ensures.same (same_here m) _ (pays_failed (waiting b) b.spare b.log m.log c.in_err-is_committed.field-0.0 p.0 c.in_err-is_committed.ensures.pays))

pub returns-in_err-is_committed-clause-carried : goal.returns-in_err-is_committed-clause-carried
returns-in_err-is_committed-clause-carried g c =
    let m : StoreState = state_of c.make_room.new.self in
    carried_made (state_of c.args.self.now) (state_of c.prepare.new.self) m m c.prepare.ensures.same (same_here m) c.make_room.ensures.carried

pub returns-in_err-is_committed-clause-room : goal.returns-in_err-is_committed-clause-room
returns-in_err-is_committed-clause-room g c = λ fits.
    let self = c.args.self.now in
    let p = c.prepare.new.self in
    let same = c.prepare.ensures.same in
    commits_not (state_of self) (state_of p) (state_of c.make_room.new.self) same
    (c.make_room.ensures.sufficient (fits_on self.log.index p.log.index self.buffer p.buffer c.args.change.pages.items c.deref-2.result.now same.current same.buffer c.deref-2.ensures.value fits))

pub returns-in_err-is_committed-clause-ends : goal.returns-in_err-is_committed-clause-ends
returns-in_err-is_committed-clause-ends g c =
    let a : StoreState = state_of c.args.self.now in
    let m : StoreState = state_of c.make_room.new.self in
    let p = err_from_is_err_and c.from_residual-in_err-is_committed.result c.from_residual-in_err-is_committed.ensures.1 in
    let broken = broken_made a (state_of c.prepare.new.self) m m c.prepare.ensures.same (same_here m) c.in_err-is_committed.field-0.0 c.in_err-is_committed.ensures.ends in
    rw p.1 (broken_ends c.args.change a m p.0 (subst (IsBroken a m) (sym p.2) broken))

pub make-requires-clause-prepared : goal.make-requires-clause-prepared
make-requires-clause-prepared g c =
    let m = c.make_room.new.self in
    let has_room : AreReady c.prepare.new.self.log.index c.args.change.pages.items = subst (AreReady c.prepare.new.self.log.index) c.deref.ensures.value c.in_ok-prepare.ensures.has_room in
    λ o k i of. ready_prepared m.log.index o k (c.make_room.ensures.keeps.keys o k (has_room o k i of))

pub make-requires-clause-lacks : goal.make-requires-clause-lacks
make-requires-clause-lacks g c = λ none.
    let p = c.prepare.new.self in
    let lacks : LacksPages c.args.change.pages.items p.cache = subst (λ (l : List FreshPage). LacksPages l p.cache) c.deref.ensures.value c.in_ok-prepare.ensures.lacks in
    subst (λ (cache : PageCache). LacksPages c.args.change.pages.items cache) (sym (c.in_ok-is_committed.ensures.ends.cache none)) lacks

pub returns-clause-lasts : goal.returns-clause-lasts
returns-clause-lasts g c =
    lasts_made (state_of c.args.self.now) (state_of c.prepare.new.self) (state_of c.make_room.new.self) (state_of c.make.new.self) c.prepare.ensures.same c.make.ensures.same c.make_room.ensures.keeps.lasts

pub returns-clause-pays : goal.returns-clause-pays
returns-clause-pays g c =
    let b : StoreState = state_of c.prepare.new.self in
    let m : StoreState = state_of c.make_room.new.self in
    pays_made (state_of c.args.self.now) b m (state_of c.make.new.self) c.prepare.ensures.same c.make.ensures.same _ (pays_done (waiting b) b.spare b.log m.log _ _ c.in_ok-is_committed.ensures.pays)

pub returns-clause-carried : goal.returns-clause-carried
returns-clause-carried g c =
    carried_made (state_of c.args.self.now) (state_of c.prepare.new.self) (state_of c.make_room.new.self) (state_of c.make.new.self) c.prepare.ensures.same c.make.ensures.same c.make_room.ensures.carried

pub returns-clause-room : goal.returns-clause-room
returns-clause-room g c = λ fits.
    let self = c.args.self.now in
    let p = c.prepare.new.self in
    let same = c.prepare.ensures.same in
    let m : StoreState = state_of c.make_room.new.self in
    commits_not_after (state_of self) m (state_of c.make.new.self)
    (commits_not (state_of self) (state_of p) m same
    (c.make_room.ensures.sufficient (fits_on self.log.index p.log.index self.buffer p.buffer c.args.change.pages.items c.deref-2.result.now same.current same.buffer c.deref-2.ensures.value fits)))
    c.make.ensures.same c.make.ensures.committed_map

pub returns-clause-ends : goal.returns-clause-ends
returns-clause-ends g c =
    let self = c.args.self.now in
    let a : StoreState = state_of self in
    let b : StoreState = state_of c.prepare.new.self in
    let m : StoreState = state_of c.make_room.new.self in
    let n : StoreState = state_of c.make.new.self in
    let before = c.prepare.ensures.same in
    let after = c.make.ensures.same in
    let room = c.in_ok-is_committed.ensures.ends in
    record {
      whole = whole_made a b m n before after room.whole;
      committed_map = committed_made a b m n before after c.make.ensures.committed_map room.committed_map;
      current = λ honest o k.
          let reported : m.log.device.honest ≡ true = (lasts_made a b m m before (same_here m) c.make_room.ensures.keeps.lasts).device.honest ∙ honest in
          c.make.ensures.current reported o k ∙ changed_same c.args.change (current_in m) (current_in a) o k (room.current o k ∙ current_before a b m n before after o k);
      in_buffer = c.make.ensures.in_buffer;
      within_limit =
          let same = ap (λ (x : Buffer). length (contents x)) before.buffer in
          let fewer = room.fewer in
          omega (arith, c.make.ensures.within_limit, fewer, same, few_new m.index c.args.change.pages.items);
      places = λ fits i q is uncut.
          let pages = c.deref.ensures.value in
          let had = c.in_ok-prepare.ensures.places (subst (λ (ps : List FreshPage). held_count self.cache + length ps ≤ capacity_of self.cache) (sym pages) fits) i q (subst (λ (ps : List FreshPage). slice_get ps i ≡ Some q) (sym pages) is) in
          c.make.ensures.places q.key.object q.key.chunk uncut (c.make_room.ensures.keeps.cache q.key.object q.key.chunk had);
      keeps_open = open_made a b m n before after room.keeps_open;
    }
