-- A device that comes back from a session committed the plan of that session.
use Rattle.std.specs.Prelude.{◌≡◌, ◌≤◌, ◌+◌, ◌-◌, ◌*◌, ◌^◌, ℕ, Bool, true, false, List, length, map, min, cond}
use Rattle.std.proofs.Common.{sym, ◌∙◌, ap, subst, arith}
use mathlib.Core.Logic.{∥∥₁_elim}
use Rattle.nand_model.specs.Calls.{Device, Lasts}
use Rattle.nand_model.specs.Plans.{Plan}
use Rattle.nand_model.specs.declared.fate.Fate.{Fate}
use Rattle.nand_model.specs.declared.geometry.Geometry.{Geometry}
use Rattle.powercut.specs.Planning.{call_of, fuse_call, failing, calls_of, calls_since, are_counted, IsPlanned}
use Rattle.powercut.specs.Running.{AreDone, IsAs, RunsAsPlanned}
use Rattle.powercut.specs.Naming.{session_number, named, flash_number, Totals, totals, begun, KeepsPlan, HasRun}
use Rattle.powercut.proofs.Names.{AreSame, sessions_same, same_bad, same_next, same_page}
use Rattle.powercut.proofs.Keeping.{reached_most}
use Rattle.powercut.proofs.Runs.{done_lasts}

one_at_most : (b : Bool) → cond b 1 0 ≤ 1
one_at_most true = omega arith
one_at_most false = omega arith

-- the number is the one that the session began with
same_number : (n m : ℕ) (gone : Bool) → 2 * n ≤ 2 * m + cond gone 1 0 → 2 * m + cond gone 1 0 ≤ 2 * n + 1 → n ≡ m
same_number n m gone least most = let one = one_at_most gone in omega (arith, least, most, one)

module _ (p : Plan) (first last : Device) (q : Plan) (reported : Totals) (lasts : Lasts (begun p first) (named (session_number q.fuse q.failures reported) last)) where
  same : AreSame p.fuse q.fuse p.failures q.failures (totals first) reported
  same = sessions_same p.fuse q.fuse p.failures q.failures (totals first) reported (same_number _ _ last.gone lasts.cuts lasts.once)

  same_call : fuse_call p ≡ fuse_call q
  same_call = ap call_of same.fuse

  same_failing : failing p ≡ failing q
  same_failing = ap (λ (fs : List (ℕ × List Fate)). map (λ f. f.0) fs) same.failing

  module _ (keeps : KeepsPlan last q reported) where
    pub passed : IsPlanned p first last
    passed = record {
      cuts = let now = keeps.cuts in let was = same.cuts in omega (arith, now, was);
      cut = λ gone. let at = keeps.cut gone in (let some = at.0 in let fuse = same_call in omega (arith, some, fuse), let reached = at.1 in let fuse = same_call in let calls = same.calls in omega (arith, reached, fuse, calls));
      uncut = λ goes some. let fuse = same_call in let calls = same.calls in let lt = keeps.uncut goes (omega (arith, some, fuse)) in omega (arith, lt, fuse, calls);
      failures = λ all.
          let within_limit = keeps.failures (sym (ap are_counted same_failing) ∙ all) in
          let most = reached_most (failing q) (calls_of last - reported.0) in
          let len : length (failing p) ≡ length (failing q) = ap (λ (ks : List ℕ). length ks) same_failing in
          let were = same.failures in
          omega (arith, within_limit, most, len, were);
    }

    -- its calls are from the first device on
    pub passed_calls : last.gone ≡ false → q.calls ≡ calls_since first last
    passed_calls power = keeps.totaled power ∙ ap (λ n. min (calls_of last - n) (2 ^ 64 - 1)) (sym same.calls)

  module _ (run : HasRun reported q last) where
    committed : Lasts run.start last
    committed = done_lasts q.fuse q.failures run.calls run.start last run.done

    geometry : run.start.geometry ≡ first.geometry
    geometry = sym committed.geometry ∙ lasts.geometry

    flash : flash_number first.geometry run.start.flash ≡ flash_number first.geometry first.flash
    flash = ap (λ (g : Geometry). flash_number g run.start.flash) (sym geometry) ∙ ap (λ (t : Totals). t.3) run.reported_is ∙ sym same.flash

    as_first : IsAs first run.start
    as_first = record {
      geometry = geometry;
      honest = sym committed.honest ∙ lasts.honest;
      bad = λ b lt. same_bad first.geometry run.start.flash first.flash flash b lt;
      next = λ b lt. same_next first.geometry run.start.flash first.flash flash b lt;
      page = λ b page lt less. same_page first.geometry run.start.flash first.flash flash b lt page less;
      cuts = ap (λ (t : Totals). t.2) run.reported_is ∙ sym same.cuts;
      failures = ap (λ (t : Totals). t.1) run.reported_is ∙ sym same.failures;
      changes =
          let calls : calls_of run.start ≡ calls_of first = ap (λ (t : Totals). t.0) run.reported_is ∙ sym same.calls in
          let reads : run.start.reads ≡ first.reads = ap (λ (t : Totals). t.4) run.reported_is ∙ sym same.reads in
          omega (arith, calls, reads);
      reads = ap (λ (t : Totals). t.4) run.reported_is ∙ sym same.reads;
    }

    ran : RunsAsPlanned p first last
    ran = record {
      start = run.start;
      is_as = as_first;
      power = run.power;
      calls = run.calls;
      done = subst (λ f. AreDone f p.failures run.calls run.start last) (sym same.fuse) (subst (λ fs. AreDone q.fuse fs run.calls run.start last) (sym same.failing) run.done);
      count = let count = run.count in let calls = same.calls in omega (arith, count, calls);
    }

  pub passed_runs : ∥ HasRun reported q last ∥₁ → ∥ RunsAsPlanned p first last ∥₁
  passed_runs run = ∥∥₁_elim run (λ x y. squash₁ x y) (λ (r : HasRun reported q last). ∣ ran r ∣₁)
