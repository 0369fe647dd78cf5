-- Blocks that are retired in turn, each the block of the suspect copy of the one before.
use Rattle.std.proofs.Common.{◌≡◌, ◌≢◌, ◌<◌, ◌≤◌, ℕ, ◌+◌, true, false, Option, Some, None, Result, Ok, Err, sym, ap, subst, ◌∙◌, arith, inl, inr}
use Rattle.std.proofs.lemmas.Bool.{cases_eq}
use Rattle.nand_model.specs.Calls.{Device}
use Rattle.nand_model.specs.declared.geometry.Geometry.{Geometry}
use Rattle.block_state.specs.Committed.{free_count, uncommitted_count}
use Rattle.block_state.specs.Table.{Table}
use Rattle.block_state.specs.laws.Committed.{free_where_closed, free_where_held}
use Rattle.chunk_index.specs.declared.index.Index.{Index}
use Rattle.chunk_index.specs.Committed.{HoldsNone}
use Rattle.chunk_index.specs.Maps.{committed_pages}
use Rattle.transactions.specs.Checking.{LogState, log_of}
use Rattle.flash_log.specs.Bills.{Pays, PaysOut, bill_of}
use Rattle.flash_log.specs.Moving.{MovesOut, LiesIn, IsAway}
use Rattle.flash_log.specs.Refreshing.{FillsAnew}
use Rattle.flash_log.specs.Retiring.{IsOut, IsRetired, RetireEnds, open_failures}
use Rattle.flash_log.specs.Consistency.{AreHeld}
use Rattle.flash_log.specs.Steps.{Step}
use Rattle.flash_log.specs.declared.fault.MoveFault.{MoveFault}
use Rattle.flash_log.specs.laws.Bills.{pays_on}
use Rattle.flash_log.specs.laws.Steps.{step_on}
use Rattle.flash_log.specs.laws.Turns.{moves_out_on}
use Rattle.flash_log.proofs.Refreshed.{fills_next}

-- What holds after some of the blocks.
pub record Retiring (spare v : ℕ) (old new : LogState) (x y : Index) (suspect : Option ℕ) : Type 0 where
  pub step : Step spare old new x y
  pub moved : MovesOut v x y
  pub pays : PaysOut old new (Ok suspect)
  pub anew : FillsAnew old new y
  pub out : IsOut v spare old.table new.table suspect
  pub power : new.device.gone ≡ false

module _ (spare v w : ℕ) (d0 d : Device) (t0 t : Table) (x0 x : Index) (r : Retiring spare v (log_of d0 t0) (log_of d t) x0 x (Some w)) where
  -- the first block held committed pages
  some : 1 ≤ (t0.entry v).committed
  some = elim (cases_eq (t0.entry v).committed 0) [
    | inr ne ↦ omega (arith, ne)
    | inl none ↦ let two : Some w ≡ None = (r.out.was_empty none).1 in absurd cc
  ]

  lies : LiesIn v w t0 t
  lies = (r.out.moved some).0

  pub next_uncommitted : (t0.entry w).committed ≡ 0
  next_uncommitted = lies.was

  not_first : v ≢ w
  not_first e = let two : true ≡ false = sym r.out.bad ∙ ap (λ b. (t.entry b).bad) e ∙ lies.good in cc

  pub moved_next : (x' : Index) → HoldsNone (committed_pages x0) w → MovesOut w x x' → MovesOut v x0 x'
  moved_next x' none moved = moves_out_on v w x0 x x' none r.moved moved

  pub step_next : (d' : Device) (t' : Table) (x' : Index) → Step spare (log_of d t) (log_of d' t') x x' → Step spare (log_of d0 t0) (log_of d' t') x0 x'
  step_next d' t' x' step = step_on spare (log_of d0 t0) (log_of d t) (log_of d' t') x0 x x' r.step step

  -- the mark of the block answers the failure of its copy
  pub pays_next : {S F : Type 0} (o : ℕ) (d' : Device) (t' : Table) (result : Result S F) → Pays (bill_of (log_of d t) (d.geometry.pages + 2) 1 o) (log_of d t) (log_of d' t') result
      → Pays (bill_of (log_of d0 t0) (d0.geometry.pages + 2) 1 o) (log_of d0 t0) (log_of d' t') result
  pays_next o d' t' result pays =
      let same : d.geometry.pages ≡ d0.geometry.pages = ap (λ (g : Geometry). g.pages) r.step.lasts.geometry in
      pays_on (d0.geometry.pages + 2) 1 (bill_of (log_of d0 t0) (d0.geometry.pages + 2) 1 1) (bill_of (log_of d t) (d.geometry.pages + 2) 1 o) (log_of d0 t0) (log_of d t) (log_of d' t') (Some w) result
      (omega (arith, same)) (omega (arith, same)) (omega arith) r.pays pays

  module _ (d' : Device) (t' : Table) (x' : Index) (suspect : Option ℕ) (none : HoldsNone (committed_pages x0) w) (step : Step spare (log_of d t) (log_of d' t') x x') (out : IsOut w spare t t' suspect) where
    later : (t'.entry v).bad ≡ true
    later = step.marks v r.out.bad

    lies_on : (k : ℕ) → LiesIn w k t t' → LiesIn v k t0 t'
    lies_on k l = record {
      within = subst (λ (g : Geometry). k < g.blocks) r.step.geometry l.within;
      good = l.good;
      was = sym (lies.elsewhere k not_v not_w) ∙ l.was;
      there = l.there ∙ lies.there;
      elsewhere = λ b nv nk. elim (cases_eq b w) [
        | inl e ↦ ap (λ n. (t'.entry n).committed) e ∙ out.uncommitted ∙ sym (ap (λ n. (t0.entry n).committed) e ∙ lies.was)
        | inr nw ↦ l.elsewhere b nw nk ∙ lies.elsewhere b nv nw
      ];
    } where
      not_v : k ≢ v
      not_v e = let two : true ≡ false = sym later ∙ ap (λ b. (t'.entry b).bad) (sym e) ∙ l.good in cc

      not_w : k ≢ w
      not_w e = let same : (t.entry k).committed ≡ (t.entry w).committed = ap (λ b. (t.entry b).committed) e in omega (arith, same, l.was, lies.there, some)

    away_on : (s : Option ℕ) → IsAway w t t' s → IsAway v t0 t' s
    away_on None (k, l) = (k, record { lies = lies_on k l.lies; open_block = l.open_block; next = l.next ∙ lies.there })
    away_on (Some k) (l, closed) = (lies_on k l, closed)

    there_some : 1 ≤ (t.entry w).committed
    there_some = omega (arith, lies.there, some)

    uncommitted_on : (s : Option ℕ) → IsAway w t t' s → (t'.entry v).committed ≡ 0
    uncommitted_on None (k, l) = l.lies.elsewhere v not_first (λ e. let two : true ≡ false = sym later ∙ ap (λ b. (t'.entry b).bad) e ∙ l.lies.good in cc) ∙ r.out.uncommitted
    uncommitted_on (Some k) (l, closed) = l.elsewhere v not_first (λ e. let two : true ≡ false = sym later ∙ ap (λ b. (t'.entry b).bad) e ∙ l.good in cc) ∙ r.out.uncommitted

    pub retiring_next : MovesOut w x x' → PaysOut (log_of d t) (log_of d' t') (Ok suspect) → AreHeld t' x' → FillsAnew (log_of d t) (log_of d' t') x' → d'.gone ≡ false → Retiring spare v (log_of d0 t0) (log_of d' t') x0 x' suspect
    retiring_next moved pays held anew power = record {
      step = step_next d' t' x' step;
      moved = moved_next x' none moved;
      pays = pays_next (open_failures (Ok suspect)) d' t' (Ok suspect) pays;
      anew = fills_next spare v w (log_of d0 t0) (log_of d t) (log_of d' t') x0 x x' r.step some lies held out.uncommitted anew;
      out = record {
        bad = later;
        uncommitted = uncommitted_on suspect (out.moved there_some);
        was_empty = λ none_there. absurd (omega (arith, some, none_there));
        moved = λ _. away_on suspect (out.moved there_some);
        within_limit = out.within_limit;
        more = omega (arith, r.out.more, out.more);
      };
      power = power;
    }

-- where no block is left to retire, blocks enough are free
pub retired_all : (spare v : ℕ) (d0 d : Device) (t0 t : Table) (x0 x : Index) → Retiring spare v (log_of d0 t0) (log_of d t) x0 x None → IsRetired v spare t0 t
retired_all spare v d0 d t0 t x0 x r = record {
  bad = r.out.bad;
  uncommitted = r.out.uncommitted;
  moved = r.out.moved;
  within_limit = r.out.within_limit;
  more = r.out.more;
  free = elim (cases_eq (t0.entry v).committed 0) [
    | inl none ↦ let same : free_count t ≡ uncommitted_count t = free_where_closed t (r.out.was_empty none).0 in omega (arith, same, r.step.consistent.tables.uncommitted)
    | inr ne ↦
        let away = r.out.moved (omega (arith, ne)) in
        let committed : (t.entry away.0).committed ≡ (t0.entry v).committed = away.1.lies.there in
        let same : free_count t ≡ uncommitted_count t = free_where_held t away.0 away.1.open_block (omega (arith, committed, ne)) in
        omega (arith, same, r.step.consistent.tables.uncommitted)
  ];
}

-- the table was closed before
pub ends_closed : (v spare : ℕ) (d : Device) (t t' : Table) (result : Result (Unit {0}) MoveFault) → RetireEnds v spare d (record t { open_block = None }) t' result → RetireEnds v spare d t t' result
ends_closed v spare d t t' (Err fault) ends = ends
ends_closed v spare d t t' (Ok done) (is, power) = (
  record {
    bad = is.bad;
    uncommitted = is.uncommitted;
    moved = λ some. let m = is.moved some in
        (m.0, record { lies = record { within = m.1.lies.within; good = m.1.lies.good; was = m.1.lies.was; there = m.1.lies.there; elsewhere = m.1.lies.elsewhere }; open_block = m.1.open_block; next = m.1.next });
    within_limit = is.within_limit;
    more = is.more;
    free = is.free;
  },
  power,
)

-- none is not some
pub some_none : (n : ℕ) → Some n ≡ None → ⊥
some_none n is = absurd cc
