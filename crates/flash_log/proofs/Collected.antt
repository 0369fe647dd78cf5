-- What stands where a block is collected.
use Rattle.std.proofs.Common.{◌≡◌, ◌≢◌, ◌≤◌, ℕ, ◌+◌, ◌*◌, Some, Result, Ok, Err, refl, ap, sym, ◌∙◌, arith, inl, inr}
use Rattle.std.proofs.lemmas.Bool.{cases_eq}
use Rattle.nand_model.specs.Calls.{Device}
use Rattle.block_state.specs.Committed.{bad_count, uncommitted_count, free_count}
use Rattle.block_state.specs.Table.{Table}
use Rattle.block_state.specs.laws.Committed.{free_where_held}
use Rattle.chunk_index.specs.Committed.{HoldsNone}
use Rattle.chunk_index.specs.Maps.{committed_pages, count_committed_in}
use Rattle.chunk_index.specs.declared.index.Index.{Index}
use Rattle.transactions.specs.Checking.{log_of}
use Rattle.flash_log.specs.Bills.{PaysCollection, PaysMove, PaysRetirement, bill_of}
use Rattle.flash_log.specs.declared.fault.MoveFault.{MoveFault}
use Rattle.flash_log.specs.declared.moving.Moved.TheVariants as places
use Rattle.flash_log.specs.laws.Bills.{pays_on}
use Rattle.nand_model.specs.declared.geometry.Geometry.{Geometry}
use Rattle.flash_log.specs.Moving.{MovesOut, LiesIn, LiesOpen}
use Rattle.flash_log.specs.Retiring.{IsRetired, RetireEnds}
use Rattle.flash_log.specs.Consistency.{IsConsistentLog}
use Rattle.flash_log.specs.laws.Turns.{moves_out_on}
use Rattle.flash_log.specs.RoomMaking.{IsCollected, CollectEnds}

-- the copies are trusted
pub collected_open : (v w spare : ℕ) (d : Device) (t u : Table) (y : Index) → 1 ≤ (t.entry v).committed → LiesOpen v w t u → (u.entry v).committed ≡ 0 → bad_count u ≤ spare → IsConsistentLog spare d u y
    → IsCollected v spare t u
collected_open v w spare d t u y some lies left within_limit consistent =
    let there = lies.lies.there in
    let same : free_count u ≡ uncommitted_count u = free_where_held u w lies.open_block (omega (arith, there, some)) in
    record { opened = (w, lies.open_block, lies.next); left = inl left; within_limit = within_limit; free = omega (arith, same, consistent.tables.uncommitted) }

-- their block is retired, and what was in it is moved, perhaps into the first
pub collected_retired : (v w spare : ℕ) (t u s : Table) → 1 ≤ (t.entry v).committed → LiesIn v w t u → (u.entry v).committed ≡ 0 → IsRetired w spare u s → IsCollected v spare t s
collected_retired v w spare t u s some lies left out =
    let away = out.moved (let there = lies.there in omega (arith, there, some)) in
    record {
      opened = (away.0, away.1.open_block, away.1.next ∙ lies.there);
      left = elim (cases_eq v away.0) [
        | inl e ↦ inr (away.1.open_block ∙ ap Some (sym e))
        | inr ne ↦ inl (away.1.lies.elsewhere v apart ne ∙ left)
      ];
      within_limit = out.within_limit;
      free = out.free;
    } where
      apart : v ≢ w
      apart e = let same : (t.entry v).committed ≡ (t.entry w).committed = ap (λ b. (t.entry b).committed) e in omega (arith, same, some, lies.was)

pub ends_retired : (v w spare : ℕ) (d : Device) (t u s : Table) (result : Result (Unit {0}) MoveFault) → 1 ≤ (t.entry v).committed → LiesIn v w t u → (u.entry v).committed ≡ 0 → RetireEnds w spare d u s result
    → CollectEnds v spare d t s result
ends_retired v w spare d t u s (Ok done) some lies left ends = (collected_retired v w spare t u s some lies left ends.0, ends.1)
ends_retired v w spare d t u s (Err fault) some lies left ends = ends

pub out_retired : (v w spare : ℕ) (d : Device) (t u : Table) (x y z : Index) → ((b : ℕ) → count_committed_in x b ≡ 0 → HoldsNone (committed_pages x) b)
    → IsConsistentLog spare d t x → LiesIn v w t u → MovesOut v x y → MovesOut w y z → MovesOut v x z
out_retired v w spare d t u x y z law consistent lies first then = moves_out_on v w x y z (law w (sym (consistent.tables.counts.counts w) ∙ lies.was)) first then

-- its retirement answers the failure of the copy
pub pays_retired : (v w : ℕ) (d0 d1 d2 : Device) (t u s : Table) (result : Result (Unit {0}) MoveFault) → d1.geometry ≡ d0.geometry → PaysMove v (log_of d0 t) (log_of d1 u) (Ok (places.Suspect w))
    → PaysRetirement (log_of d1 u) (log_of d2 s) result → PaysCollection v (log_of d0 t) (log_of d2 s) result
pays_retired v w d0 d1 d2 t u s result geometry first then =
    pays_on ((t.entry v).committed + 1) 0 (bill_of (log_of d0 t) ((t.entry v).committed + 1) 0 1) (bill_of (log_of d1 u) (d1.geometry.pages + 2) 1 0) (log_of d0 t) (log_of d1 u) (log_of d2 s) (places.Suspect w) result
    (each d0.geometry.pages d1.geometry.pages same) (sufficient d0.geometry.pages d1.geometry.pages (t.entry v).committed same) refl first then where
      same : d1.geometry.pages ≡ d0.geometry.pages
      same = ap (λ (x : Geometry). x.pages) geometry

      each : (a b : ℕ) → b ≡ a → b + 2 ≡ a + 2
      each a b is = omega (arith, is)

      sufficient : (a b k : ℕ) → b ≡ a → k + 1 + (b + 2) ≤ k + 1 + (a + 2) * 1
      sufficient a b k is = omega (arith, is)
