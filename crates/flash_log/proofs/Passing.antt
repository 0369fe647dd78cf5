-- What holds of blocks that are passed over.
use Rattle.std.specs.Prelude.{◌≡◌, ◌≢◌, ◌⊎◌, ◌<◌, ◌≤◌, ◌^◌, ℕ, ◌+◌, true, false, None, Result}
use Rattle.std.proofs.Common.{refl, sym, ◌∙◌, ap, subst, inl, inr, arith}
use Rattle.std.proofs.lemmas.Bool.{cases_Bool, cases_eq}
use Rattle.nand_model.specs.Flash.{Flash}
use Rattle.nand_model.specs.Calls.{Device, Erases, Lasts, Marks}
use Rattle.nand_model.specs.declared.geometry.Geometry.{Geometry}
use Rattle.nand_model.specs.declared.nand.EraseFault.{EraseFault}
use Rattle.nand_model.specs.declared.nand.Gone.{Gone}
use Rattle.flash_tree.specs.Keeping.{KeepsElsewhere}
use Rattle.flash_tree.specs.Fading.{Fades}
use Rattle.flash_tree.specs.laws.Fading.{fades_erase, fades_mark, loses_fading}
use Rattle.flash_tree.specs.laws.Newest.{has_before, stays_on}
use Rattle.nand_model.specs.laws.Changes.{shrinks-erase}
use Rattle.block_state.specs.declared.blocks.BlockEntry.{BlockEntry}
use Rattle.block_state.specs.Committed.{bad_count, uncommitted_count, SameCounts}
use Rattle.block_state.specs.laws.Committed.{mark_bad, mark_uncommitted, same_bad_count, same_uncommitted_count}
use Rattle.block_state.specs.Table.{Table, Sets}
use Rattle.transactions.specs.Marking.{NotesMark}
use Rattle.transactions.specs.Opening.{Opens}
use Rattle.flash_tree.specs.Numbering.{AreBelow}
use Rattle.flash_log.specs.Erased.{KeepsErased}
use Rattle.flash_log.specs.Passing.{GainsNoTag, KeepsFound, KeepsCommitted, Passes}
use Rattle.flash_log.specs.Taking.{Takes, TakesNone}
use Rattle.flash_log.specs.laws.Erased.{erased_as, erased_on, leaves_closed}
use Rattle.flash_log.specs.laws.Found.{found_erased, found_here, found_marked, found_on, places_committed}

-- a block without a committed page has none that is committed
keeps_committed : (b : ℕ) (t : Table) (old new : Flash) → (t.entry b).committed ≡ 0 → KeepsElsewhere b old new → KeepsCommitted t old new
keeps_committed b t old new none keeps o c s newest some =
    keeps o c s newest (λ is. let here : (t.entry s.block).committed ≡ 0 = ap (λ n. (t.entry n).committed) is ∙ none in absurd (omega (arith, here, some)))

-- nor does it gain a tag
gains_none : (b : ℕ) (t : Table) (old new : Flash) → (t.entry b).committed ≡ 0 → Fades b old new → GainsNoTag t old new
gains_none b t old new none fades k l u some has = has_before b old new (loses_fading b old new fades) k l u has

-- one change and then another
pub passes_on : (a b c : Device) (t u v : Table) → Lasts a b → Passes a b t u → Passes b c u v → Passes a c t v
passes_on a b c t u v lasts first then = record {
  geometry = then.geometry ∙ first.geometry;
  next_group = then.next_group ∙ first.next_group;
  limit = λ le. then.limit (first.limit le);
  committed = λ k. then.committed k ∙ first.committed k;
  marks_stay = λ k is. then.marks_stay k (first.marks_stay k is);
  marked = λ k is. elim (then.marked k is) [ inl was ↦ first.marked k was | inr none ↦ inr (sym (first.committed k) ∙ none) ];
  failures = omega (arith, first.failures, then.failures);
  uncommitted = then.uncommitted ∙ first.uncommitted;
  newest = λ honest o c' s newest some.
      let stays = first.newest honest o c' s newest some in
      stays_on a.flash b.flash c.flash o c' s stays
      (then.newest (lasts.honest ∙ honest) o c' s stays.newest (subst (λ n. 1 ≤ n) (sym (first.committed s.block)) some));
  tags = λ honest k l x some has. first.tags honest k l x some (then.tags (lasts.honest ∙ honest) k l x (subst (λ n. 1 ≤ n) (sym (first.committed k)) some) has);
  found = λ honest. found_on a b c t u first.committed (places_committed t a.flash b.flash (first.newest honest)) (first.found honest) (then.found (lasts.honest ∙ honest));
  erased = erased_on a b c t u v lasts.honest first.erased then.erased;
}

-- where marks and counts are the same
pub passes_same : (old new : Device) (t t' : Table) → SameCounts t t' → t'.next_group ≡ t.next_group → (t.next_seq ≤ 2 ^ 62 → t'.next_seq ≤ 2 ^ 62)
    → old.failures ≤ new.failures → (old.honest ≡ true → KeepsCommitted t old.flash new.flash) → (old.honest ≡ true → GainsNoTag t old.flash new.flash)
    → (old.honest ≡ true → KeepsFound t old new) → KeepsErased old new t t' → Passes old new t t'
passes_same old new t t' same group limit failures newest tags found erased =
    let bad : bad_count t' ≡ bad_count t = same_bad_count t t' same in
    let uncommitted : uncommitted_count t' ≡ uncommitted_count t = same_uncommitted_count t t' same in
    record {
      geometry = same.geometry;
      next_group = group;
      limit = limit;
      committed = same.committed;
      marks_stay = λ b is. same.bad b ∙ is;
      marked = λ b is. inl (sym (same.bad b) ∙ is);
      failures = omega (arith, bad, failures);
      uncommitted = omega (arith, bad, uncommitted);
      newest = newest;
      tags = tags;
      found = found;
      erased = erased;
    }

-- no block is open any longer
pub passes_closed : (d : Device) (t t' : Table) → t' ≡ record t { open_block = None } → Passes d d t t'
passes_closed d t t' is =
    passes_same d d t t'
    (record { bad = λ b. ap (λ (x : Table). (x.entry b).bad) is; committed = λ b. ap (λ (x : Table). (x.entry b).committed) is; geometry = ap (λ (x : Table). x.geometry) is })
    (ap (λ (x : Table). x.next_group) is)
    (λ le. let seq = ap (λ (x : Table). x.next_seq) is in omega (arith, seq, le))
    (omega arith)
    (λ _ o c s newest some. record { newest = newest; page = refl })
    (λ _ k l u some has. has)
    (λ _. found_here t d)
    (erased_as d t t' (leaves_closed d.flash t t' (ap (λ (x : Table). x.entry) is) (ap (λ (x : Table). x.geometry) is) (ap (λ (x : Table). x.checkpoint) is) (ap (λ (x : Table). x.open_block) is)))

-- an erase of a block without a committed page
pub passes_erased : (b : ℕ) (old new : Device) (t t' : Table) (result : Result (Unit {0}) EraseFault) → t' ≡ t → (t.entry b).committed ≡ 0 → Erases b old new result
    → (old.honest ≡ true → KeepsElsewhere b old.flash new.flash) → KeepsErased old new t t' → Passes old new t t'
passes_erased b old new t t' result is none erases keeps erased =
    passes_same old new t t'
    (record { bad = λ k. ap (λ (x : Table). (x.entry k).bad) is; committed = λ k. ap (λ (x : Table). (x.entry k).committed) is; geometry = ap (λ (x : Table). x.geometry) is })
    (ap (λ (x : Table). x.next_group) is)
    (λ le. let seq = ap (λ (x : Table). x.next_seq) is in omega (arith, seq, le))
    erases.lasts.failures
    (λ honest. keeps_committed b t old.flash new.flash none (keeps honest))
    (λ honest. gains_none b t old.flash new.flash none (fades_erase b old.flash new.flash (shrinks-erase b old new result honest erases)))
    (found_erased b old new t result none erases)
    erased

-- its opening changes no count
pub same_opened : (b : ℕ) (t t' : Table) → Opens b t t' → SameCounts t t'
same_opened b t t' opens = record {
  bad = λ k. elim (cases_eq k b) [
    | inl e ↦ ap (λ n. (t'.entry n).bad) e ∙ ap (λ (x : BlockEntry). x.bad) opens.sets.here ∙ ap (λ n. (t.entry n).bad) (sym e)
    | inr ne ↦ ap (λ (x : BlockEntry). x.bad) (opens.sets.others k ne)
  ];
  committed = λ k. elim (cases_eq k b) [
    | inl e ↦ ap (λ n. (t'.entry n).committed) e ∙ ap (λ (x : BlockEntry). x.committed) opens.sets.here ∙ ap (λ n. (t.entry n).committed) (sym e)
    | inr ne ↦ ap (λ (x : BlockEntry). x.committed) (opens.sets.others k ne)
  ];
  geometry = opens.sets.geometry;
}

-- and nothing that is committed, once it is erased
pub passes_opened : (b : ℕ) (old new : Device) (t t' : Table) (result : Result (Unit {0}) EraseFault) → t.next_seq < 2 ^ 62 → (t.entry b).committed ≡ 0 → Erases b old new result
    → (old.honest ≡ true → KeepsElsewhere b old.flash new.flash) → Opens b t t' → KeepsErased old new t t' → Passes old new t t'
passes_opened b old new t t' result less none erases keeps opens erased =
    passes_same old new t t'
    (same_opened b t t' opens)
    opens.sets.next_group
    (λ _. let seq = opens.next_seq in omega (arith, seq, less))
    erases.lasts.failures
    (λ honest. keeps_committed b t old.flash new.flash none (keeps honest))
    (λ honest. gains_none b t old.flash new.flash none (fades_erase b old.flash new.flash (shrinks-erase b old new result honest erases)))
    (found_erased b old new t result none erases)
    erased

-- a mark of a block without a committed page, after a failure of it
pub passes_marked : (b : ℕ) (old mid new : Device) (t t' : Table) (result : Result (Unit {0}) Gone) → b < t.geometry.blocks → (t.entry b).bad ≡ false → (t.entry b).committed ≡ 0
    → Lasts old mid → old.failures + 1 ≤ mid.failures → (old.honest ≡ true → KeepsElsewhere b old.flash mid.flash) → (old.honest ≡ true → GainsNoTag t old.flash mid.flash)
    → (old.honest ≡ true → KeepsFound t old mid)
    → Marks b mid new result → (mid.honest ≡ true → KeepsElsewhere b mid.flash new.flash) → NotesMark b new.flash t t' → KeepsErased old new t t' → Passes old new t t'
passes_marked b old mid new t t' result within good none lasts failed erased gained before marks marked notes tracked = go (cases_Bool (new.flash.bad b)) where
  newest : old.honest ≡ true → KeepsCommitted t old.flash new.flash
  newest honest o c s is some =
      let stays = keeps_committed b t old.flash mid.flash none (erased honest) o c s is some in
      stays_on old.flash mid.flash new.flash o c s stays (keeps_committed b t mid.flash new.flash none (marked (lasts.honest ∙ honest)) o c s stays.newest some)

  found : old.honest ≡ true → KeepsFound t old new
  found honest = found_on old mid new t t (λ k. refl) (places_committed t old.flash mid.flash (keeps_committed b t old.flash mid.flash none (erased honest))) (before honest)
      (found_marked b mid new t result none marks (lasts.honest ∙ honest))

  tags : old.honest ≡ true → GainsNoTag t old.flash new.flash
  tags honest k l u some has = gained honest k l u some (gains_none b t mid.flash new.flash none (fades_mark b mid new result (lasts.honest ∙ honest) marks) k l u some has)

  committed : (k : ℕ) → (t'.entry k).committed ≡ (t.entry k).committed
  committed k = elim (cases_eq k b) [
    | inl e ↦ ap (λ n. (t'.entry n).committed) e ∙ ap (λ (x : BlockEntry). x.committed) notes.sets.here ∙ ap (λ n. (t.entry n).committed) (sym e)
    | inr ne ↦ ap (λ (x : BlockEntry). x.committed) (notes.sets.others k ne)
  ]

  here : (t'.entry b).bad ≡ new.flash.bad b
  here = ap (λ (x : BlockEntry). x.bad) notes.sets.here

  elsewhere : (k : ℕ) → k ≢ b → (t'.entry k).bad ≡ (t.entry k).bad
  elsewhere k ne = ap (λ (x : BlockEntry). x.bad) (notes.sets.others k ne)

  -- it is marked
  set : new.flash.bad b ≡ true → Passes old new t t'
  set is =
      let sets : Sets b (record (t.entry b) { bad = true }) t t' = record {
        here = notes.sets.here ∙ ap (λ x. record (t.entry b) { bad = x }) is;
        others = notes.sets.others;
        geometry = notes.sets.geometry;
        next_group = notes.sets.next_group;
      } in
      let more : bad_count t' ≡ bad_count t + 1 = mark_bad t t' b sets within good in
      let less : uncommitted_count t ≡ uncommitted_count t' + 1 = mark_uncommitted t t' b sets within good none in
      record {
        geometry = notes.sets.geometry;
        next_group = notes.sets.next_group;
        limit = λ le. let seq = notes.next_seq in omega (arith, seq, le);
        committed = committed;
        marks_stay = λ k was. elim (cases_eq k b) [
          | inl e ↦ ap (λ n. (t'.entry n).bad) e ∙ here ∙ is
          | inr ne ↦ elsewhere k ne ∙ was
        ];
        marked = λ k now. elim (cases_eq k b) [
          | inl e ↦ inr (ap (λ n. (t.entry n).committed) e ∙ none)
          | inr ne ↦ inl (sym (elsewhere k ne) ∙ now)
        ];
        failures = omega (arith, more, failed, marks.lasts.failures);
        uncommitted = omega (arith, more, less);
        newest = newest;
        tags = tags;
        found = found;
        erased = tracked;
      }

  -- the power went before it was
  not_set : new.flash.bad b ≡ false → Passes old new t t'
  not_set is =
      passes_same old new t t'
      (record {
        bad = λ k. elim (cases_eq k b) [
          | inl e ↦ ap (λ n. (t'.entry n).bad) e ∙ here ∙ is ∙ sym good ∙ ap (λ n. (t.entry n).bad) (sym e)
          | inr ne ↦ elsewhere k ne
        ];
        committed = committed;
        geometry = notes.sets.geometry;
      })
      notes.sets.next_group
      (λ le. let seq = notes.next_seq in omega (arith, seq, le))
      (omega (arith, failed, marks.lasts.failures))
      newest
      tags
      found
      tracked

  go : (new.flash.bad b ≡ true) ⊎ (new.flash.bad b ≡ false) → Passes old new t t'
  go (inl is) = set is
  go (inr is) = not_set is

-- a block that was taken after others were passed over
pub takes_from : (b : ℕ) (old mid new : Device) (t u v : Table) → Passes old mid t u → TakesNone t u → Takes b new u v → Takes b new t v
takes_from b old mid new t u v passes none takes = record {
  within = subst (λ (g : Geometry). b < g.blocks) passes.geometry takes.within;
  good = elim (cases_Bool (t.entry b).bad) [
    | inr good ↦ good
    | inl bad ↦ let two : true ≡ false = sym (passes.marks_stay b bad) ∙ takes.good in absurd cc
  ];
  uncommitted = sym (passes.committed b) ∙ takes.uncommitted;
  open_block = takes.open_block;
  next = takes.next;
  seq = takes.seq ∙ none.next_seq;
  next_seq = takes.next_seq ∙ ap (λ n. n + 1) none.next_seq;
  below = λ honest. subst (λ n. AreBelow new.flash n t.next_seq) passes.next_group (subst (λ n. AreBelow new.flash u.next_group n) none.next_seq (takes.below honest));
}

-- an erase
pub gains_erased : (b : ℕ) (old new : Device) (t : Table) (result : Result (Unit {0}) EraseFault) → (t.entry b).committed ≡ 0 → Erases b old new result → old.honest ≡ true → GainsNoTag t old.flash new.flash
gains_erased b old new t result none erases honest = gains_none b t old.flash new.flash none (fades_erase b old.flash new.flash (shrinks-erase b old new result honest erases))
