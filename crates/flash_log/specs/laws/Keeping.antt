-- What holds of steps that leave the index.
use Rattle.std.proofs.Common.{◌≡◌, ◌<◌, ◌≤◌, ℕ, zero, suc, ◌+◌, Bool, true, false, cond, Option, Some, None, Result, Ok, Err, refl, sym, ap, subst, ◌∙◌, arith, inl, inr}
use Rattle.std.proofs.lemmas.Bool.{cases_eq}
use Rattle.volume_terms.specs.Sizes.{number_end}
use Rattle.nand_model.specs.Calls.{Device, Lasts}
use Rattle.nand_model.specs.declared.geometry.Geometry.{Geometry}
use Rattle.nand_model.specs.laws.Calls.{lasts_on, lasts_here}
use Rattle.block_state.specs.declared.blocks.BlockEntry.{BlockEntry}
use Rattle.block_state.specs.Counting.{how_many}
use Rattle.block_state.specs.laws.Counting.{one_if, sum_below-suc}
use Rattle.block_state.specs.Committed.{bad_count, uncommitted_count, SameCounts}
use Rattle.block_state.specs.laws.Committed.{same_bad_count, same_uncommitted_count}
use Rattle.block_state.specs.Table.{Table, is_bad}
use Rattle.transactions.specs.Groups.{TakesPages, OkTable, TableEnds, closed}
use Rattle.transactions.specs.Handing.{HandsOut}
use Rattle.transactions.specs.Ready.{IsReady}
use Rattle.transactions.specs.laws.Handing.{hands_on, hands_nothing, hands_closed}
use Rattle.transactions.specs.laws.Ready.{ready_closed}
use Rattle.transactions.specs.declared.group.Placed.{Placed}
use Rattle.transactions.specs.declared.group.GroupFault.{GroupFault}
use Rattle.transactions.specs.declared.group.GroupFault.TheVariants as groups
use Rattle.flash_log.specs.Copying.{KeepsCounts}
use Rattle.flash_log.specs.Erased.{KeepsErased}
use Rattle.flash_log.specs.Passing.{Passes}
use Rattle.flash_log.specs.Consistency.{IsWithinLimits}
use Rattle.flash_log.specs.laws.Erased.{erased_as, erased_here, erased_on, leaves_closed}

-- ---- tables

pub same_here : (t : Table) → SameCounts t t
same_here t = record { bad = λ b. refl; committed = λ b. refl; geometry = refl }

-- a table whose group number is used and that has no open block
pub same_closed : (t u : Table) → u ≡ closed t → SameCounts t u
same_closed t u is = record {
  bad = λ b. ap (λ (x : Table). (x.entry b).bad) is;
  committed = λ b. ap (λ (x : Table). (x.entry b).committed) is;
  geometry = ap (λ (x : Table). x.geometry) is;
}

same_taken : (count : ℕ) (t u : Table) → TakesPages count t u → SameCounts t u
same_taken count t u takes = record { bad = λ b. (each b t.open_block refl).0; committed = λ b. (each b t.open_block refl).1; geometry = takes.geometry } where
  each : (b : ℕ) (o : Option ℕ) → t.open_block ≡ o → ((u.entry b).bad ≡ (t.entry b).bad) × ((u.entry b).committed ≡ (t.entry b).committed)
  each b None is =
      let same : u.entry b ≡ t.entry b = takes.others b (λ at. let two : None ≡ Some b = sym is ∙ at in cc) in
      (ap (λ (x : BlockEntry). x.bad) same, ap (λ (x : BlockEntry). x.committed) same)
  each b (Some o) is = elim (cases_eq b o) [
    | inl e ↦
        let here = takes.here o is in (
          ap (λ k. (u.entry k).bad) e ∙ ap (λ (x : BlockEntry). x.bad) here ∙ ap (λ k. (t.entry k).bad) (sym e),
          ap (λ k. (u.entry k).committed) e ∙ ap (λ (x : BlockEntry). x.committed) here ∙ ap (λ k. (t.entry k).committed) (sym e),
        )
    | inr ne ↦
        let same : u.entry b ≡ t.entry b = takes.others b (λ at. let two : Some o ≡ Some b = sym is ∙ at in let e : o ≡ b = cc in ne (sym e)) in
        (ap (λ (x : BlockEntry). x.bad) same, ap (λ (x : BlockEntry). x.committed) same)
  ]

-- however the writing of a group ends, no mark and no committed count changes
pub same_ends : (count : ℕ) (t u : Table) (result : Result Placed GroupFault) → TableEnds count t u result → SameCounts t u
same_ends count t u (Ok placed) ends = go placed.suspect ends where
  go : (suspect : Bool) → OkTable suspect count t u → SameCounts t u
  go true is = same_closed t u is
  go false takes = same_taken count t u takes
same_ends count t u (Err groups.NoRoom) is = record {
  bad = λ b. ap (λ (x : Table). (x.entry b).bad) is;
  committed = λ b. ap (λ (x : Table). (x.entry b).committed) is;
  geometry = ap (λ (x : Table). x.geometry) is;
}
same_ends count t u (Err groups.Failed) is = same_closed t u is
same_ends count t u (Err groups.Lost) is = same_closed t u is
same_ends count t u (Err groups.Gone) is = same_closed t u is

-- ---- numbers

-- a group's number is used
limits_used : (t u : Table) → u.next_group ≤ t.next_group + 1 → u.next_seq ≡ t.next_seq → t.next_group < number_end → IsWithinLimits t → IsWithinLimits u
limits_used t u group seq less (groups, seqs) = (omega (arith, group, less), omega (arith, seq, seqs))

limits_closed : (t u : Table) → u ≡ closed t → t.next_group < number_end → IsWithinLimits t → IsWithinLimits u
limits_closed t u is less =
    let group : u.next_group ≡ t.next_group + 1 = ap (λ (x : Table). x.next_group) is in
    limits_used t u (omega (arith, group)) (ap (λ (x : Table). x.next_seq) is) less

-- however the writing of a group ends, no number of 2^62 is handed out
pub limits_ends : (count : ℕ) (t u : Table) (result : Result Placed GroupFault) → TableEnds count t u result → t.next_group < number_end → IsWithinLimits t → IsWithinLimits u
limits_ends count t u (Ok placed) ends less limits = go placed.suspect ends limits where
  go : (suspect : Bool) → OkTable suspect count t u → IsWithinLimits t → IsWithinLimits u
  go true is = limits_closed t u is less
  go false takes = let group = takes.next_number in limits_used t u (omega (arith, group)) takes.next_seq less
limits_ends count t u (Err groups.NoRoom) is less limits = subst IsWithinLimits (sym is) limits
limits_ends count t u (Err groups.Failed) is less limits = limits_closed t u is less limits
limits_ends count t u (Err groups.Lost) is less limits = limits_closed t u is less limits
limits_ends count t u (Err groups.Gone) is less limits = limits_closed t u is less limits

-- ---- steps

-- as many have a property where each keeps it
counts_more : (f g : ℕ → Bool) (n : ℕ) → ((k : ℕ) → f k ≡ true → g k ≡ true) → how_many f n ≤ how_many g n
counts_more f g zero each = omega arith
counts_more f g (suc n) each =
    let before : how_many f n ≤ how_many g n = counts_more f g n each in
    let one : how_many f (suc n) ≡ how_many f n + one_if f n = sum_below-suc (one_if f) n in
    let two : how_many g (suc n) ≡ how_many g n + one_if g n = sum_below-suc (one_if g) n in
    let here : one_if f n ≤ one_if g n = go (f n) (g n) (each n) in
    omega (arith, before, one, two, here) where
      go : (x y : Bool) → (x ≡ true → y ≡ true) → cond {A = ℕ} x 1 0 ≤ cond {A = ℕ} y 1 0
      go false y is = omega arith
      go true true is = omega arith
      go true false is = let two : false ≡ true = is refl in absurd cc

pub bad_rises : (t u : Table) → u.geometry ≡ t.geometry → ((b : ℕ) → (t.entry b).bad ≡ true → (u.entry b).bad ≡ true) → bad_count t ≤ bad_count u
bad_rises t u geometry marks = subst (λ (g : Geometry). bad_count t ≤ how_many (is_bad u) g.blocks) (sym geometry) (counts_more (is_bad t) (is_bad u) t.geometry.blocks marks)

pub keeps_passes : (old new : Device) (t u v : Table) → SameCounts t u → Lasts old new → IsReady new v → HandsOut old new t v → (IsWithinLimits t → IsWithinLimits u) → KeepsErased old old t u → Passes old new u v
    → KeepsCounts old new t v
keeps_passes old new t u v same lasts can_write numbers limits erased passes =
    let bad : bad_count u ≡ bad_count t = same_bad_count t u same in
    let uncommitted : uncommitted_count u ≡ uncommitted_count t = same_uncommitted_count t u same in
    record {
      lasts = lasts;
      can_write = can_write;
      numbers = numbers;
      geometry = passes.geometry ∙ same.geometry;
      committed = λ b. passes.committed b ∙ same.committed b;
      marks = λ b is. passes.marks_stay b (same.bad b ∙ is);
      marked = λ b is. elim (passes.marked b is) [ inl was ↦ inl (sym (same.bad b) ∙ was) | inr none ↦ inr (sym (same.committed b) ∙ none) ];
      uncommitted = omega (arith, passes.uncommitted, bad, uncommitted);
      rises = bad_rises t v (passes.geometry ∙ same.geometry) (λ b is. passes.marks_stay b (same.bad b ∙ is));
      limits = λ is. let now = limits is in let group = passes.next_group in (omega (arith, group, now.0), passes.limit now.1);
      erased = erased_on old old new t u v refl erased passes.erased;
    }

pub keeps_same : (old new : Device) (t u : Table) → SameCounts t u → Lasts old new → IsReady new u → HandsOut old new t u → (IsWithinLimits t → IsWithinLimits u) → KeepsErased old new t u → KeepsCounts old new t u
keeps_same old new t u same lasts can_write numbers limits erased =
    let bad : bad_count u ≡ bad_count t = same_bad_count t u same in
    let uncommitted : uncommitted_count u ≡ uncommitted_count t = same_uncommitted_count t u same in
    record {
      lasts = lasts;
      can_write = can_write;
      numbers = numbers;
      geometry = same.geometry;
      committed = same.committed;
      marks = λ b is. same.bad b ∙ is;
      marked = λ b is. inl (sym (same.bad b) ∙ is);
      uncommitted = omega (arith, bad, uncommitted);
      rises = omega (arith, bad);
      limits = limits;
      erased = erased;
    }

pub keeps_on : (a b c : Device) (t u v : Table) → KeepsCounts a b t u → KeepsCounts b c u v → KeepsCounts a c t v
keeps_on a b c t u v first then = record {
  lasts = lasts_on a b c first.lasts then.lasts;
  can_write = then.can_write;
  numbers = hands_on a b c t u v first.lasts then.lasts first.numbers then.numbers;
  geometry = then.geometry ∙ first.geometry;
  committed = λ k. then.committed k ∙ first.committed k;
  marks = λ k is. then.marks k (first.marks k is);
  marked = λ k is. elim (then.marked k is) [ inl was ↦ first.marked k was | inr none ↦ inr (sym (first.committed k) ∙ none) ];
  uncommitted = then.uncommitted ∙ first.uncommitted;
  rises = omega (arith, first.rises, then.rises);
  limits = λ is. then.limits (first.limits is);
  erased = erased_on a b c t u v first.lasts.honest first.erased then.erased;
}

-- where no call is made
pub keeps_nothing : (d : Device) (t : Table) → IsReady d t → KeepsCounts d d t t
keeps_nothing d t can_write = keeps_same d d t t (same_here t) (lasts_here d) can_write (hands_nothing d t) (λ is. is) (erased_here d t)

-- no block is open any longer
pub keeps_closed : (d : Device) (t u : Table) → u ≡ record t { open_block = None } → IsReady d t → KeepsCounts d d t u
keeps_closed d t u is can_write = keeps_same d d t u
    (record { bad = λ b. ap (λ (x : Table). (x.entry b).bad) is; committed = λ b. ap (λ (x : Table). (x.entry b).committed) is; geometry = ap (λ (x : Table). x.geometry) is })
    (lasts_here d)
    (subst (IsReady d) (sym is) (ready_closed d t can_write))
    (hands_closed d t u is)
    (λ (groups, seqs). (
      let same = ap (λ (x : Table). x.next_group) is in omega (arith, same, groups),
      let same = ap (λ (x : Table). x.next_seq) is in omega (arith, same, seqs),
    ))
    (erased_as d t u (leaves_closed d.flash t u (ap (λ (x : Table). x.entry) is) (ap (λ (x : Table). x.geometry) is) (ap (λ (x : Table). x.checkpoint) is) (ap (λ (x : Table). x.open_block) is)))
