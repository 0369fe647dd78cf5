-- The calls of a session, one more at a time.
use Rattle.std.specs.Prelude.{◌≡◌, ◌+◌, ◌-◌, ◌^◌, ℕ, false, Option, List, [], ◌∷◌, length, min, Result}
use Rattle.std.proofs.Common.{refl, sym, ◌∙◌, ap, subst, inl, inr, arith}
use Rattle.std.proofs.lemmas.Bool.{cases_Bool}
use mathlib.Core.Logic.{∥∥₁_elim}
use Rattle.nand_model.specs.Calls.{Device, Lasts, Reads, Programs, Erases, Marks}
use Rattle.nand_model.specs.Plans.{Plan}
use Rattle.nand_model.specs.Planned.{after_read, after_change, ReadsAsPlanned, ProgramsAsPlanned, ErasesAsPlanned, MarksAsPlanned}
use Rattle.nand_model.specs.laws.Calls.{lasts_on, lasts_here}
use Rattle.nand_model.specs.declared.fate.Fate.{Fate}
use Rattle.nand_model.specs.declared.nand.PageKind.{PageKind}
use Rattle.nand_model.specs.declared.nand.Gone.{Gone}
use Rattle.nand_model.specs.declared.nand.ProgramFault.{ProgramFault}
use Rattle.nand_model.specs.declared.nand.EraseFault.{EraseFault}
use Rattle.powercut.specs.Planning.{calls_of}
use Rattle.powercut.specs.Running.{Call, Reading, Programming, Erasing, Marking, Does, plan_after, AreDone}
use Rattle.powercut.specs.Naming.{Totals, totals, KeepsPlan, HasRun}

-- a call keeps what each call keeps
does_lasts : (plan : Plan) (call : Call) (old new : Device) → Does plan call old new → Lasts old new
does_lasts plan (Reading result) old new does = does.0.lasts
does_lasts plan (Programming b p bytes tag result) old new does = does.0.lasts
does_lasts plan (Erasing b result) old new does = does.0.lasts
does_lasts plan (Marking b result) old new does = does.0.lasts

-- and so do calls in turn
pub done_lasts : (fuse : Option (ℕ × List Fate)) (failures : List (ℕ × List Fate)) (calls : List Call) (first last : Device) → AreDone fuse failures calls first last → Lasts first last
done_lasts fuse failures [] first last is = subst (λ (d : Device). Lasts first d) (sym is) (lasts_here first)
done_lasts fuse failures (call ∷ calls) first last done =
    lasts_on first done.0 last (done_lasts fuse failures calls first done.0 done.1) (does_lasts (plan_after fuse failures (length calls)) call done.0 last done.3)

-- what a call does by a plan is so of each plan with the same fuse and failures, at the same call
does_same : (p : Plan) (n : ℕ) (call : Call) (old new : Device) → p.calls ≡ min n (2 ^ 64 - 1) → Does p call old new → Does (plan_after p.fuse p.failures n) call old new
does_same p n call old new is does =
    let at : record p { changes = 0 } ≡ plan_after p.fuse p.failures n = λ i. record { calls = is i; changes = 0; fuse = p.fuse; failures = p.failures } in
    subst (λ (q : Plan). Does q call old new) at (unchanged call does)
  where
    unchanged : (call : Call) → Does p call old new → Does (record p { changes = 0 }) call old new
    unchanged (Reading result) does = does
    unchanged (Programming b page bytes tag result) does = (does.0, record { ends = does.1.ends; page = does.1.page })
    unchanged (Erasing b result) does = (does.0, record { ends = does.1.ends; pages = does.1.pages })
    unchanged (Marking b result) does = (does.0, record { ends = does.1.ends; mark = does.1.mark })

-- a session of no calls
pub runs_here : (reported : Totals) (p : Plan) (d : Device) → reported ≡ totals d → d.gone ≡ false → HasRun reported p d
runs_here reported p d is power = record {
  start = d;
  reported_is = sym is;
  power = power;
  calls = [];
  done = refl;
  count = let calls : reported.0 ≡ calls_of d = ap (λ (t : Totals). t.0) is in omega (arith, calls);
}

-- one call more
module _ (reported : Totals) (p q : Plan) (d e : Device) (fuse : q.fuse ≡ p.fuse) (failures : q.failures ≡ p.failures) (keeps : KeepsPlan d p reported) (lasts : Lasts d e) (call : Call) (does : Does p call d e)
    (made : d.gone ≡ false → calls_of e ≡ calls_of d + 1) where
  -- the plan goes on
  goes_on : (x : Device) → HasRun reported p x → HasRun reported q x
  goes_on x run = record {
    start = run.start;
    reported_is = run.reported_is;
    power = run.power;
    calls = run.calls;
    done = subst (λ f. AreDone f q.failures run.calls run.start x) (sym fuse) (subst (λ fs. AreDone p.fuse fs run.calls run.start x) (sym failures) run.done);
    count = run.count;
  }

  with_call : d.gone ≡ false → HasRun reported p d → HasRun reported p e
  with_call power run = record {
    start = run.start;
    reported_is = run.reported_is;
    power = run.power;
    calls = call ∷ run.calls;
    done = (
      d,
      run.done,
      power,
      let count = run.count in
          let after : calls_of d - reported.0 ≡ length run.calls = omega (arith, count) in
          does_same p (length run.calls) call d e (keeps.totaled power ∙ ap (λ n. min n (2 ^ 64 - 1)) after) does,
    );
    count = let count = run.count in let one = made power in omega (arith, count, one);
  }

  more : HasRun reported p d → HasRun reported q e
  more run = elim (cases_Bool d.gone) [
    | inl gone ↦ goes_on e (subst (λ (x : Device). HasRun reported p x) (sym (lasts.gone gone)) run)
    | inr power ↦ goes_on e (with_call power run)
  ]

  pub runs_on : ∥ HasRun reported p d ∥₁ → ∥ HasRun reported q e ∥₁
  runs_on run = ∥∥₁_elim run (λ x y. squash₁ x y) (λ (r : HasRun reported p d). ∣ more r ∣₁)

module _ (reported : Totals) (p q : Plan) (d e : Device) (keeps : KeepsPlan d p reported) (run : ∥ HasRun reported p d ∥₁) where
  -- a read more
  pub read_runs : (result : Result PageKind Gone) → Reads d e result → ReadsAsPlanned p d result → q ≡ after_read p → ∥ HasRun reported q e ∥₁
  read_runs result reads planned is =
      runs_on reported p q d e (ap (λ (x : Plan). x.fuse) is) (ap (λ (x : Plan). x.failures) is) keeps reads.lasts (Reading result) (reads, planned)
      (λ power. let more = reads.reads power in let same = reads.changes in omega (arith, more, same)) run

  -- a program more
  pub program_runs : (b page : ℕ) (bytes tag : List ℕ) (result : Result (Unit {0}) ProgramFault) → Programs b page bytes tag d e result → ProgramsAsPlanned b page bytes tag p d e result
      → q ≡ after_change d.gone p → ∥ HasRun reported q e ∥₁
  program_runs b page bytes tag result programs planned is =
      runs_on reported p q d e (ap (λ (x : Plan). x.fuse) is) (ap (λ (x : Plan). x.failures) is) keeps programs.lasts (Programming b page bytes tag result) (programs, planned)
      (λ power. let more = programs.changes power in let same = programs.reads in omega (arith, more, same)) run

  -- an erase more
  pub erase_runs : (b : ℕ) (result : Result (Unit {0}) EraseFault) → Erases b d e result → ErasesAsPlanned b p d e result → q ≡ after_change d.gone p → ∥ HasRun reported q e ∥₁
  erase_runs b result erases planned is =
      runs_on reported p q d e (ap (λ (x : Plan). x.fuse) is) (ap (λ (x : Plan). x.failures) is) keeps erases.lasts (Erasing b result) (erases, planned)
      (λ power. let more = erases.changes power in let same = erases.reads in omega (arith, more, same)) run

  -- a mark more
  pub mark_runs : (b : ℕ) (result : Result (Unit {0}) Gone) → Marks b d e result → MarksAsPlanned b p d e result → q ≡ after_change d.gone p → ∥ HasRun reported q e ∥₁
  mark_runs b result marks planned is =
      runs_on reported p q d e (ap (λ (x : Plan). x.fuse) is) (ap (λ (x : Plan). x.failures) is) keeps marks.lasts (Marking b result) (marks, planned)
      (λ power. let more = marks.changes power in let same = marks.reads in omega (arith, more, same)) run
