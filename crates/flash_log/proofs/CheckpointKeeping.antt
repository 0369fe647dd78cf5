-- What the steps of the writing of a checkpoint keep.
use Rattle.std.proofs.Common.{◌≡◌, ◌⊎◌, ◌<◌, ◌≤◌, ℕ, ◌+◌, ◌-◌, true, false, Some, None, Result, Ok, Err, refl, sym, ap, ◌∙◌, arith, inl, inr}
use Rattle.std.proofs.lemmas.Bool.{cases_Bool, cases_eq}
use Rattle.nand_model.specs.Calls.{Device, Lasts, Marks, MarkEnds}
use Rattle.nand_model.specs.laws.Calls.{lasts_on, lasts_here}
use Rattle.nand_model.specs.declared.nand.Gone.{Gone}
use Rattle.flash_tree.specs.Keeping.{KeepsElsewhere}
use Rattle.flash_tree.specs.Numbering.{AreBelow}
use Rattle.flash_tree.specs.laws.Newest.{stays_on}
use Rattle.flash_tree.specs.laws.Place.{had_power}
use Rattle.block_state.specs.declared.blocks.BlockEntry.{BlockEntry}
use Rattle.block_state.specs.Committed.{bad_count, uncommitted_count, SameCounts}
use Rattle.block_state.specs.laws.Committed.{mark_bad, mark_uncommitted, same_bad_count, same_uncommitted_count}
use Rattle.block_state.specs.Table.{Table, Sets}
use Rattle.chunk_index.specs.declared.index.Index.{Index}
use Rattle.chunk_index.specs.Maps.{committed_pages}
use Rattle.transactions.specs.Checking.{LogState, log_of}
use Rattle.transactions.specs.Handing.{HandsNumbers, HandsOut}
use Rattle.transactions.specs.laws.Handing.{below_greater, hands_nothing}
use Rattle.transactions.specs.Marking.{NotesMark}
use Rattle.transactions.specs.Opening.{MayLose}
use Rattle.transactions.specs.Ready.{IsReady}
use Rattle.flash_log.specs.Passing.{Passes}
use Rattle.flash_log.specs.Consistency.{AreHeld, IsConsistentLog}
use Rattle.flash_log.specs.Taking.{LiesApart}
use Rattle.flash_log.specs.laws.Erased.{erased_here, erased_marked, erased_on}
use Rattle.flash_log.specs.laws.Found.{findable_here, findable_still, found_here, found_marked, found_on}
use Rattle.flash_log.specs.CheckpointKeeping.{IsExact, KeepsPages, Seals, ShowsExactly, StaysChecked}
use Rattle.flash_log.specs.CheckpointWriting.{Leaves}
use Rattle.flash_log.proofs.IndexStays.{LeavesIndex, is_in_left, data_left, free_left}
use Rattle.posix_profile.specs.State.{Objects}

-- ---- two steps in turn

-- what one hands out and then another
numbers_on : (a b c : Device) (t u v : Table) → Lasts a b → Lasts b c → HandsNumbers a b t u → HandsNumbers b c u v → HandsNumbers a c t v
numbers_on a b c t u v before after first then = record {
  groups_rise = omega (arith, first.groups_rise, then.groups_rise);
  seqs_rise = omega (arith, first.seqs_rise, then.seqs_rise);
  seqs = omega (arith, first.seqs, then.seqs);
  groups = λ honest power. omega (arith, first.groups honest (had_power b c after power), then.groups (before.honest ∙ honest) power);
  below = λ honest is. then.below (before.honest ∙ honest) (first.below honest is);
  written = written;
} where
  written : a.honest ≡ true → AreBelow a.flash t.next_group t.next_seq → (more : ℕ) → c.changes ≡ a.changes + more → AreBelow c.flash (t.next_group + more) (t.next_seq + more)
  written honest is more totaled = elim (cases_Bool b.gone) [
    | inl gone ↦ rw (after.gone gone) (first.written honest is more (ap (λ (d : Device). d.changes) (sym (after.gone gone)) ∙ totaled))
    | inr power ↦
        let still : b.honest ≡ true = before.honest ∙ honest in
        let rest : c.changes ≡ b.changes + (c.changes - b.changes) = omega (arith, after.changes) in
        below_greater c.flash (u.next_group + (c.changes - b.changes)) (u.next_seq + (c.changes - b.changes)) _ _
        (omega (arith, first.groups honest power, totaled, after.changes)) (omega (arith, first.seqs, totaled, after.changes))
        (then.written still (first.below honest is) (c.changes - b.changes) rest)
  ]

pub keeps_on : (a b c : LogState) → KeepsPages a b → KeepsPages b c → KeepsPages a c
keeps_on a b c first then = record {
  lasts = lasts_on a.device b.device c.device first.lasts then.lasts;
  can_write = then.can_write;
  numbers = numbers_on a.device b.device c.device a.table b.table c.table first.lasts then.lasts first.numbers then.numbers;
  geometry = then.geometry ∙ first.geometry;
  committed = λ k. then.committed k ∙ first.committed k;
  uncommitted = then.uncommitted ∙ first.uncommitted;
  limits = λ is. then.limits (first.limits is);
  newest = λ honest o k s other newest some.
      let stays = first.newest honest o k s other newest some in
      stays_on a.device.flash b.device.flash c.device.flash o k s stays
      (then.newest (first.lasts.honest ∙ honest) o k s other stays.newest (let same = first.committed s.block in omega (arith, same, some)));
  summaries = λ honest right. then.summaries (first.lasts.honest ∙ honest) (first.summaries honest right);
  found = λ honest. found_on a.device b.device c.device a.table b.table first.committed
      (λ o k s other newest some. (s, (first.newest honest o k s other newest some).newest, refl)) (first.found honest) (then.found (first.lasts.honest ∙ honest));
  erased = erased_on a.device b.device c.device a.table b.table c.table first.lasts.honest first.erased then.erased;
}

pub leaves_on : (right : Type 0) (block : ℕ) (a b c : LogState) → Leaves right block a b → Leaves (Unit {0}) block b c → Leaves right block a c
leaves_on right block a b c first then = record {
  keeps = keeps_on a b c first.keeps then.keeps;
  checked = λ is honest was. then.checked tt (first.keeps.lasts.honest ∙ honest) (first.checked is honest was);
  reads = let one = first.reads in let two = then.reads in omega (arith, one, two);
  open_block = then.open_block;
  checkpoint = then.checkpoint;
}

-- a block is taken
pub keeps_taken : (d e : Device) (t u : Table) → Lasts d e → IsReady e u → HandsOut d e t u → Passes d e t u → KeepsPages (log_of d t) (log_of e u)
keeps_taken d e t u lasts can_write hands passes = record {
  lasts = lasts;
  can_write = can_write;
  numbers = hands.numbers;
  geometry = passes.geometry;
  committed = passes.committed;
  uncommitted = passes.uncommitted;
  limits = λ (groups, seqs). (let same = passes.next_group in omega (arith, same, groups), passes.limit seqs);
  newest = λ honest o k s other newest some. passes.newest honest o k s newest some;
  summaries = hands.truth.summaries;
  found = passes.found;
  erased = passes.erased;
}

-- nothing is done
pub keeps_here : (d : Device) (t : Table) → IsReady d t → HandsNumbers d d t t → KeepsPages (log_of d t) (log_of d t)
keeps_here d t can_write numbers = record {
  lasts = lasts_here d;
  can_write = can_write;
  numbers = numbers;
  geometry = refl;
  committed = λ b. refl;
  uncommitted = refl;
  limits = λ is. is;
  newest = λ honest o k s other newest some. record { newest = newest; page = refl };
  summaries = λ honest right. right;
  found = λ honest. found_here t d;
  erased = erased_here d t;
}

-- ---- a mark

module _ (v : ℕ) (d e : Device) (t u : Table) (result : Result (Unit {0}) Gone) (within : v < t.geometry.blocks) (good : (t.entry v).bad ≡ false) (none : (t.entry v).committed ≡ 0)
    (marks : Marks v d e result) (notes : NotesMark v e.flash t u) where
  pub marked_committed : (b : ℕ) → (u.entry b).committed ≡ (t.entry b).committed
  marked_committed b = elim (cases_eq b v) [
    | inl is ↦ ap (λ k. (u.entry k).committed) is ∙ ap (λ (x : BlockEntry). x.committed) notes.sets.here ∙ ap (λ k. (t.entry k).committed) (sym is)
    | inr ne ↦ ap (λ (x : BlockEntry). x.committed) (notes.sets.others b ne)
  ]

  set_bad : e.flash.bad v ≡ true → Sets v (record (t.entry v) { bad = true }) t u
  set_bad is = record {
    here = notes.sets.here ∙ ap (λ x. record (t.entry v) { bad = x }) is;
    others = notes.sets.others;
    geometry = notes.sets.geometry;
    next_group = notes.sets.next_group;
  }

  same_marks : e.flash.bad v ≡ false → SameCounts t u
  same_marks is = record {
    bad = λ b. elim (cases_eq b v) [
      | inl at ↦ ap (λ k. (u.entry k).bad) at ∙ ap (λ (x : BlockEntry). x.bad) notes.sets.here ∙ is ∙ sym good ∙ ap (λ k. (t.entry k).bad) (sym at)
      | inr ne ↦ ap (λ (x : BlockEntry). x.bad) (notes.sets.others b ne)
    ];
    committed = marked_committed;
    geometry = notes.sets.geometry;
  }

  -- where it is set one more is bad
  pub one_more : e.flash.bad v ≡ true → bad_count u ≡ bad_count t + 1
  one_more is = mark_bad t u v (set_bad is) within good

  -- and at most one more in any case
  pub most_one : bad_count u ≤ bad_count t + 1
  most_one = elim (cases_Bool (e.flash.bad v)) [
    | inl is ↦ let more = one_more is in omega (arith, more)
    | inr is ↦ let same : bad_count u ≡ bad_count t = same_bad_count t u (same_marks is) in omega (arith, same)
  ]

  pub marked_uncommitted : uncommitted_count u + bad_count u ≡ uncommitted_count t + bad_count t
  marked_uncommitted = elim (cases_Bool (e.flash.bad v)) [
    | inl is ↦
        let more : bad_count u ≡ bad_count t + 1 = one_more is in
        let less : uncommitted_count t ≡ uncommitted_count u + 1 = mark_uncommitted t u v (set_bad is) within good none in
        omega (arith, more, less)
    | inr is ↦
        let bad : bad_count u ≡ bad_count t = same_bad_count t u (same_marks is) in
        let uncommitted : uncommitted_count u ≡ uncommitted_count t = same_uncommitted_count t u (same_marks is) in
        omega (arith, bad, uncommitted)
  ]

  pub keeps_marked : IsReady e u → HandsOut d e t u → (d.honest ≡ true → KeepsElsewhere v d.flash e.flash) → KeepsPages (log_of d t) (log_of e u)
  keeps_marked can_write hands elsewhere = record {
    lasts = marks.lasts;
    can_write = can_write;
    numbers = hands.numbers;
    geometry = notes.sets.geometry;
    committed = marked_committed;
    uncommitted = marked_uncommitted;
    limits = λ (groups, seqs). (let same = notes.sets.next_group in omega (arith, same, groups), let same = notes.next_seq in omega (arith, same, seqs));
    newest = λ honest o k s other newest some. elsewhere honest o k s newest (λ is. let zero_there : (t.entry s.block).committed ≡ 0 = ap (λ b. (t.entry b).committed) is ∙ none in omega (arith, zero_there, some));
    summaries = hands.truth.summaries;
    found = found_marked v d e t result none marks;
    erased = erased_marked v d e t u result (λ bad. let two : true ≡ false = sym bad ∙ good in absurd cc) marks notes;
  }

  same_failures : (r : Result (Unit {0}) Gone) → MarkEnds d e r → e.failures ≡ d.failures
  same_failures (Ok done) ends = ends.failures
  same_failures (Err gone) ends = ends.failures

  -- what a mark leaves of a block that was closed
  pub leaves_marked : IsReady e u → HandsOut d e t u → (d.honest ≡ true → KeepsElsewhere v d.flash e.flash) → t.open_block ≡ None → MayLose v t → Leaves (Unit {0}) v (log_of d t) (log_of e u)
  leaves_marked can_write hands elsewhere closed first = record {
    keeps = keeps_marked can_write hands elsewhere;
    checked = λ _. hands.truth.checked;
    reads = let same = same_failures result marks.ends in let reads = marks.reads in omega (arith, same, reads);
    open_block = notes.open_block ∙ closed;
    checkpoint = λ c is. go c (hands.truth.noted c is) first;
  } where
    go : (c : ℕ) → t.checkpoint ≡ Some c → (t.checkpoint ≡ None) ⊎ (t.checkpoint ≡ Some v) → c ≡ v
    go c was (inl none_there) = let two : None ≡ Some c = sym none_there ∙ was in absurd cc
    go c was (inr here) = let both : Some v ≡ Some c = sym here ∙ was in cc

-- ---- so what stands of a log stands

module _ (spare : ℕ) (x : Index) (d e : Device) (t u : Table) (held : AreHeld t x) (consistent : IsConsistentLog spare d t x) (keeps : KeepsPages (log_of d t) (log_of e u))
    (closed : u.open_block ≡ None) (apart : LiesApart u) where
  leaves : LeavesIndex d e t u
  leaves = record {
    lasts = keeps.lasts;
    can_write = keeps.can_write;
    geometry = keeps.geometry;
    committed = keeps.committed;
    rises = keeps.numbers.groups_rise;
    uncommitted = keeps.uncommitted;
    limits = keeps.limits;
    newest = keeps.newest;
    written = λ o is. let two : None ≡ Some o = sym closed ∙ is in absurd cc;
    apart = λ _. apart;
  }

  pub seals_from : (IsExact d x → StaysChecked (log_of d t) (log_of e u))
      → (d.honest ≡ true → (s : ℕ) (objects : Objects) → ShowsExactly d.geometry d.flash (committed_pages x) s objects → ShowsExactly e.geometry e.flash (committed_pages x) s objects)
      → Seals spare x (log_of d t) (log_of e u)
  seals_from checked shows = record {
    keeps = keeps;
    consistent = is_in_left spare x d e t u held consistent leaves;
    checked = checked;
    shows = shows;
    same_data = data_left spare x d e t u held consistent leaves;
    free = free_left spare x d e t u held consistent leaves;
    findable = findable_still spare d e t x held keeps.lasts consistent keeps.found;
  }

-- nothing is done
pub seals_here : (spare : ℕ) (x : Index) (d : Device) (t : Table) → IsReady d t → IsConsistentLog spare d t x → Seals spare x (log_of d t) (log_of d t)
seals_here spare x d t can_write consistent = record {
  keeps = keeps_here d t can_write (hands_nothing d t).numbers;
  consistent = consistent;
  checked = λ _ honest is. is;
  shows = λ honest s objects is. is;
  same_data = λ honest o c p bytes is has. has;
  free = λ honest leaves. leaves;
  findable = findable_here d x;
}
