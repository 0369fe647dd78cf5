-- What holds of calls of the log in turn.
use Rattle.std.proofs.Common.{◌≡◌, ℕ, true, Some, None, refl, sym, ap, subst, ◌∙◌, inl, inr}
use Rattle.std.proofs.lemmas.Bool.{cases_eq}
use Rattle.nand_model.specs.Flash.{Flash}
use Rattle.nand_model.specs.Calls.{Device}
use Rattle.nand_model.specs.laws.Calls.{lasts_on, lasts_here}
use Rattle.block_state.specs.Table.{Table}
use Rattle.chunk_index.specs.declared.form.CommittedPage.{CommittedPage}
use Rattle.chunk_index.specs.declared.index.Index.{Index}
use Rattle.chunk_index.specs.Maps.{committed_pages, present, moved_to}
use Rattle.chunk_index.specs.Shelves.{look}
use Rattle.transactions.specs.Checking.{LogState, log_of}
use Rattle.transactions.specs.Ready.{IsReady}
use Rattle.transactions.specs.laws.Handing.{hands_on, hands_nothing, hands_closed}
use Rattle.transactions.specs.laws.Ready.{ready_closed}
use Rattle.flash_log.specs.Copying.{KeepsCounts, KeepsDataAt}
use Rattle.flash_log.specs.Moving.{IsCommittedPageIn, MovesOut}
use Rattle.flash_log.specs.Passing.{KeepsFound}
use Rattle.flash_log.specs.Consistency.{AreHeld, HasVersion, KeepsFree, SameData, IsConsistentLog}
use Rattle.flash_log.specs.Steps.{MovesCommitted, Step}
use Rattle.flash_log.specs.laws.Erased.{erased_as, erased_here, erased_on, leaves_closed}
use Rattle.flash_log.specs.laws.Found.{findable_here, findable_on, findable_still}
use Rattle.flash_log.specs.laws.FreeBlocks.{free_here, free_on}
use Rattle.flash_log.specs.laws.Moves.{follows_here, moves_out_none, same_data, same_committed_sum}
use Rattle.flash_log.specs.laws.Turns.{moved_twice, consistent_closed}

-- ---- committed pages

-- pages that were moved out of one block
pub moves_committed_out : (v : ℕ) (x y : Index) → MovesOut v x y → MovesCommitted x y
moves_committed_out v x y moves = record {
  moved = λ o c p is. elim (cases_eq p.block v) [
    | inl e ↦ moves.moved o c p is e
    | inr ne ↦
        let apart : IsCommittedPageIn v x o c → ⊥ = λ k. let same : Some k.0 ≡ Some p = sym k.1 ∙ is in let e : k.0 ≡ p = cc in ne (sym (ap (λ (q : CommittedPage). q.block) e) ∙ k.2) in
        record { at = p; is = moves.committed o c apart ∙ is; version = refl; present = moves.present o c apart ∙ follows_here (look x.shelf.objects o c) p is }
  ];
  committed = λ o c none. moves.committed o c (apart o c none) ∙ none;
  present = λ o c none. moves.present o c (apart o c none);
  prepared = moves.prepared;
  can_write = moves.can_write;
} where
  apart : (o c : ℕ) → committed_pages x o c ≡ None → IsCommittedPageIn v x o c → ⊥
  apart o c none k = let two : None ≡ Some k.0 = sym none ∙ k.1 in cc

pub moves_committed_none : (x : Index) → MovesCommitted x x
moves_committed_none x = moves_committed_out 0 x x (moves_out_none 0 x)

pub moves_committed_on : (x y z : Index) → MovesCommitted x y → MovesCommitted y z → MovesCommitted x z
moves_committed_on x y z first then = record {
  moved = λ o c p is.
      let a = first.moved o c p is in
      let b = then.moved o c a.at a.is in
      record { at = b.at; is = b.is; version = b.version ∙ a.version; present = b.present ∙ ap (moved_to b.at) a.present ∙ moved_twice a.at b.at (present x o c) };
  committed = λ o c none. then.committed o c (first.committed o c none);
  present = λ o c none. then.present o c (first.committed o c none) ∙ first.present o c none;
  prepared = λ o c is. then.prepared o c (first.prepared o c is);
  can_write = λ o c is. then.can_write o c (first.can_write o c is);
}

pub same_data_on : (x y : Index) (f g h : Flash) → MovesCommitted x y → SameData (committed_pages x) f g → SameData (committed_pages y) g h → SameData (committed_pages x) f h
same_data_on x y f g h moves first then o c p xs is v =
    let m = moves.moved o c p is in
    subst (λ n. HasVersion h o c n xs) m.version (then o c m.at xs m.is (subst (λ n. HasVersion g o c n xs) (sym m.version) (first o c p xs is v)))

-- ---- calls

-- nothing is done
pub step_none : (spare : ℕ) (d : Device) (t : Table) (x : Index) → IsReady d t → IsConsistentLog spare d t x → Step spare (log_of d t) (log_of d t) x x
step_none spare d t x can_write consistent = record {
  lasts = lasts_here d;
  can_write = can_write;
  consistent = consistent;
  numbers = hands_nothing d t;
  geometry = refl;
  marks = λ b is. is;
  committed_count = refl;
  index = moves_committed_none x;
  same_data = λ honest o c p bytes is has. has;
  free = free_here spare d x;
  findable = findable_here d x;
  erased = erased_here d t;
}

-- the open block is closed
pub step_closed : (spare : ℕ) (d : Device) (t u : Table) (x : Index) → u ≡ record t { open_block = None } → IsReady d t → IsConsistentLog spare d t x → Step spare (log_of d t) (log_of d u) x x
step_closed spare d t u x is can_write consistent = subst (λ (s : Table). Step spare (log_of d t) (log_of d s) x x) (sym is) (record {
  lasts = lasts_here d;
  can_write = ready_closed d t can_write;
  consistent = consistent_closed spare d t (record t { open_block = None }) x refl consistent;
  numbers = hands_closed d t (record t { open_block = None }) refl;
  geometry = refl;
  marks = λ b is. is;
  committed_count = refl;
  index = moves_committed_none x;
  same_data = λ honest o c p bytes is has. has;
  free = free_here spare d x;
  findable = findable_here d x;
  erased = erased_as d t (record t { open_block = None }) (leaves_closed d.flash t (record t { open_block = None }) refl refl refl refl);
})

-- the index stays
pub step_committed : (spare : ℕ) (d0 d1 : Device) (t0 t1 : Table) (x : Index) → AreHeld t0 x → KeepsCounts d0 d1 t0 t1 → IsConsistentLog spare d0 t0 x → IsConsistentLog spare d1 t1 x
    → (d0.honest ≡ true → KeepsDataAt t0 d0.flash d1.flash) → (d0.honest ≡ true → KeepsFound t0 d0 d1) → KeepsFree spare d0 d1 x x → Step spare (log_of d0 t0) (log_of d1 t1) x x
step_committed spare d0 d1 t0 t1 x held keeps consistent stays_consistent stays found free = record {
  lasts = keeps.lasts;
  can_write = keeps.can_write;
  consistent = stays_consistent;
  numbers = keeps.numbers;
  geometry = keeps.geometry;
  marks = keeps.marks;
  committed_count = same_committed_sum t0 t1 keeps.geometry keeps.committed;
  index = moves_committed_none x;
  same_data = same_data spare d0 d1 t0 t1 x held keeps consistent stays;
  free = free;
  findable = findable_still spare d0 d1 t0 x held keeps.lasts consistent found;
  erased = keeps.erased;
}

-- one call after the other
pub step_on : (spare : ℕ) (a b c : LogState) (x y z : Index) → Step spare a b x y → Step spare b c y z → Step spare a c x z
step_on spare a b c x y z first then = record {
  lasts = lasts_on a.device b.device c.device first.lasts then.lasts;
  can_write = then.can_write;
  consistent = then.consistent;
  numbers = hands_on a.device b.device c.device a.table b.table c.table first.lasts then.lasts first.numbers then.numbers;
  geometry = then.geometry ∙ first.geometry;
  marks = λ k is. then.marks k (first.marks k is);
  committed_count = then.committed_count ∙ first.committed_count;
  index = moves_committed_on x y z first.index then.index;
  same_data = λ honest. same_data_on x y a.device.flash b.device.flash c.device.flash first.index (first.same_data honest) (then.same_data (first.lasts.honest ∙ honest));
  free = free_on spare a.device b.device c.device x y z first.lasts.honest first.free then.free;
  findable = findable_on a.device b.device c.device x y z first.lasts.honest first.numbers.truth.summaries first.findable then.findable;
  erased = erased_on a.device b.device c.device a.table b.table c.table first.lasts.honest first.erased then.erased;
}
