use Rattle.std.specs.Prelude.{◌≡◌, ◌≤◌, ◌/◌, length, true, false}
use Rattle.std.proofs.Common.{◌∙◌, refl, sym, ap, subst, inl, inr, arith}
use Rattle.nand_model.specs.declared.geometry.Geometry.{Geometry}
use Rattle.page_store.specs.BufferOf.{contents}
use Rattle.block_state.specs.TableOf.{table}
use Rattle.page_store.specs.StoreState.{StoreState, waiting}
use Rattle.page_store.specs.StateOf.{state_of}
use Rattle.page_store.proofs.Carried.{store_finds}
use Rattle.page_store.proofs.Changed.{lasts_still, pays_commit, pays_done, pays_failed, pays_here}
use Rattle.page_store.proofs.Steps.{room_after}
use Rattle.page_store.proofs.store.Store.make_room.Goals as goal

pub returns-then-has_room-clause-keeps : goal.returns-then-has_room-clause-keeps
returns-then-has_room-clause-keeps g c = record { lasts = lasts_still (state_of c.args.self.now); counts = record { refused = refl; commits = omega arith; none = λ _. refl }; keys = λ _ _ is. is; cache = λ _ _ is. is }

pub returns-then-has_room-clause-pays : goal.returns-then-has_room-clause-pays
returns-then-has_room-clause-pays g c = let old : StoreState = state_of c.args.self.now in pays_here (waiting old) old.spare old.log _

pub returns-then-has_room-clause-carried : goal.returns-then-has_room-clause-carried
returns-then-has_room-clause-carried g c = λ whole honest.
    let self = c.args.self.now in
    inl (store_finds self.log.spare (g.N.Nand.state self.log.device) (table self.log.blocks) self.log.index c.the_counts_are_of_the_keys.ensures.none self.log.can_write self.log.consistent.tables (self.newest whole honest))

pub returns-then-has_room-clause-sufficient : goal.returns-then-has_room-clause-sufficient
returns-then-has_room-clause-sufficient g c = λ _. record { log = refl; index = refl; commits = refl }

pub returns-then-has_room-clause-ends : goal.returns-then-has_room-clause-ends
returns-then-has_room-clause-ends g c = record {
  whole = record { was = c.requires.whole; is = c.requires.whole; power = refl };
  committed_map = inl (λ _ _. refl);
  current = λ _ _. refl;
  room = c.if-has_room.ensures.0 refl;
  fewer = omega arith;
  cache = λ _. refl;
  keeps_open = inl refl;
}

pub returns-in-Ok-clause-pays : goal.returns-in-Ok-clause-pays
returns-in-Ok-clause-pays g c =
    let a : StoreState = state_of c.args.self.now in
    let b : StoreState = state_of c.write_out.new.self in
    pays_done (waiting a) a.spare a.log b.log _ _ (pays_commit (waiting a) a.spare a.log b.log _ c.in-Ok.ensures.pays)

pub returns-in-Ok-clause-ends : goal.returns-in-Ok-clause-ends
returns-in-Ok-clause-ends g c =
    let new = c.write_out.new.self in
    let done = c.in-Ok.ensures.ends in
    let most = new.most ∙ ap (λ (k : Geometry). k.pages / 4) c.write_out.ensures.keeps.lasts.device.geometry in
    let none : length (contents new.buffer) ≡ 0 = ap length done.empty in
    record {
      whole = done.whole;
      committed_map = inr done.committed_map;
      current = done.current;
      room = room_after new.log.index (contents new.buffer) c.args.pages.now _ done.empty (subst (λ n. length c.args.pages.now ≤ n) (sym most) c.requires.within_limit);
      fewer = omega (arith, none);
      cache = λ not. absurd (let two : true ≡ false = not in cc);
      keeps_open = inr done.keeps_open;
    }

pub returns-in-Err-clause-pays : goal.returns-in-Err-clause-pays
returns-in-Err-clause-pays g c =
    let a : StoreState = state_of c.args.self.now in
    let b : StoreState = state_of c.write_out.new.self in
    pays_failed (waiting a) a.spare a.log b.log _ _ (pays_commit (waiting a) a.spare a.log b.log _ c.in-Err.ensures.pays)
