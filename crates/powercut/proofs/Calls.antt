-- What each call of a device in memory counts, by its plan.
use Rattle.std.specs.Prelude.{◌≡◌, ◌⊎◌, ◌+◌, ℕ, Bool, true, false, List, Result, Ok, Err, is_some, cond}
use Rattle.std.proofs.Common.{refl, sym, ◌∙◌, ap, subst, inl, inr, arith}
use Rattle.std.proofs.lemmas.Bool.{true≢false}
use Rattle.nand_model.specs.Calls.{Device, Reads, Programs, Erases, Marks, Completes, Fails, Goes, ProgramEnds, EraseEnds}
use Rattle.nand_model.specs.Plans.{Plan, is_fused, failure_at, change_end, program_result, erase_result}
use Rattle.nand_model.specs.Planned.{next_call, after_read, after_change, ReadsAsPlanned, ProgramsAsPlanned, ErasesAsPlanned, MarksAsPlanned}
use Rattle.nand_model.specs.declared.nand.PageKind.{PageKind}
use Rattle.nand_model.specs.declared.nand.Gone.{Gone}
use Rattle.nand_model.specs.declared.nand.ProgramFault.{ProgramFault}
use Rattle.nand_model.specs.declared.nand.EraseFault.{EraseFault}
use Rattle.powercut.specs.Naming.{Totals, KeepsPlan}
use Rattle.powercut.proofs.Keeping.{Counts, keeps_on}

not_true : (b : Bool) → (b ≡ true → ⊥) → b ≡ false
not_true true never = absurd (never refl)
not_true false never = refl

module _ (d e : Device) (p q : Plan) (reported : Totals) (keeps : KeepsPlan d p reported) where
  -- a read
  pub read_keeps : (result : Result PageKind Gone) → Reads d e result → ReadsAsPlanned p d result → q ≡ after_read p → KeepsPlan e q reported
  read_keeps result reads planned is =
      keeps_on d e p q reported keeps reads.lasts (ap (λ (x : Plan). x.fuse) is) (ap (λ (x : Plan). x.failures) is) (ap (λ (x : Plan). x.calls) is) (counts result reads planned)
    where
      counts : (result : Result PageKind Gone) → Reads d e result → ReadsAsPlanned p d result → d.gone ≡ false → Counts p d e
      counts (Ok kind) reads planned power = record {
        made = let more = reads.reads power in let same = reads.changes in omega (arith, more, same);
        goes = reads.ends.is ∙ sym (not_true _ (λ fused. let two : false ≡ true = (planned power).1 fused in true≢false (sym two)));
        fails = inl reads.ends.failures;
      }
      counts (Err gone) reads planned power = record {
        made = let more = reads.reads power in let same = reads.changes in omega (arith, more, same);
        goes = reads.ends.is ∙ sym ((planned power).0 refl);
        fails = inl reads.ends.failures;
      }

  -- a mark
  pub mark_keeps : (b : ℕ) (result : Result (Unit {0}) Gone) → Marks b d e result → MarksAsPlanned b p d e result → q ≡ after_change d.gone p → KeepsPlan e q reported
  mark_keeps b result marks planned is =
      keeps_on d e p q reported keeps marks.lasts (ap (λ (x : Plan). x.fuse) is) (ap (λ (x : Plan). x.failures) is) (ap (λ (x : Plan). x.calls) is) (counts result marks planned)
    where
      counts : (result : Result (Unit {0}) Gone) → Marks b d e result → MarksAsPlanned b p d e result → d.gone ≡ false → Counts p d e
      counts (Ok done) marks planned power = record {
        made = let more = marks.changes power in let same = marks.reads in omega (arith, more, same);
        goes = marks.ends.is ∙ sym (not_true _ (λ fused. let two : false ≡ true = (planned.ends power).1 fused in true≢false (sym two)));
        fails = inl marks.ends.failures;
      }
      counts (Err gone) marks planned power = record {
        made = let more = marks.changes power in let same = marks.reads in omega (arith, more, same);
        goes = marks.ends.is ∙ sym ((planned.ends power).0 refl);
        fails = inl marks.ends.failures;
      }

-- a program or an erase is cut at the fuse, else failed where that is listed, else whole
three : {A : Type 0} (cut failed whole : A) (fused listed : Bool) (P : A → Type 0) → P (cond fused cut (cond listed failed whole))
    → ((fused ≡ true) × P cut) ⊎ (((fused ≡ false) × (listed ≡ true) × P failed) ⊎ ((fused ≡ false) × P whole))
three cut failed whole true listed P is = inl (refl, is)
three cut failed whole false true P is = inr (inl (refl, refl, is))
three cut failed whole false false P is = inr (inr (refl, is))

module _ (d e : Device) (p q : Plan) (reported : Totals) (keeps : KeepsPlan d p reported) where
  abbrev fused : Bool
  fused = is_fused p.fuse (next_call p)

  abbrev listed : Bool
  listed = is_some (failure_at p.failures (next_call p))

  counts_cut : (e.reads ≡ d.reads) → (e.changes ≡ d.changes + 1) → fused ≡ true → Goes d e → Counts p d e
  counts_cut same more is goes = record { made = omega (arith, more, same); goes = goes.is ∙ sym is; fails = inl goes.failures }

  counts_failed : (e.reads ≡ d.reads) → (e.changes ≡ d.changes + 1) → fused ≡ false → listed ≡ true → Fails d e → Counts p d e
  counts_failed same more is some fails = record { made = omega (arith, more, same); goes = fails.is ∙ sym is; fails = inr (fails.failures, some) }

  counts_whole : (e.reads ≡ d.reads) → (e.changes ≡ d.changes + 1) → fused ≡ false → Completes d e → Counts p d e
  counts_whole same more is done = record { made = omega (arith, more, same); goes = done.is ∙ sym is; fails = inl done.failures }

  program_counts : (result : Result (Unit {0}) ProgramFault) → e.reads ≡ d.reads → e.changes ≡ d.changes + 1 → ProgramEnds d e result → result ≡ program_result (change_end p (next_call p)) → Counts p d e
  program_counts result same more ended is = elim (three _ _ _ fused listed (λ end. result ≡ program_result end) is) [
    | inl cut ↦ counts_cut same more cut.0 (subst (ProgramEnds d e) cut.1 ended)
    | inr (inl failed) ↦ counts_failed same more failed.0 failed.1 (subst (ProgramEnds d e) failed.2 ended)
    | inr (inr whole) ↦ counts_whole same more whole.0 (subst (ProgramEnds d e) whole.1 ended)
  ]

  erase_counts : (result : Result (Unit {0}) EraseFault) → e.reads ≡ d.reads → e.changes ≡ d.changes + 1 → EraseEnds d e result → result ≡ erase_result (change_end p (next_call p)) → Counts p d e
  erase_counts result same more ended is = elim (three _ _ _ fused listed (λ end. result ≡ erase_result end) is) [
    | inl cut ↦ counts_cut same more cut.0 (subst (EraseEnds d e) cut.1 ended)
    | inr (inl failed) ↦ counts_failed same more failed.0 failed.1 (subst (EraseEnds d e) failed.2 ended)
    | inr (inr whole) ↦ counts_whole same more whole.0 (subst (EraseEnds d e) whole.1 ended)
  ]

  -- a program
  pub program_keeps : (b page : ℕ) (bytes tag : List ℕ) (result : Result (Unit {0}) ProgramFault) → Programs b page bytes tag d e result → ProgramsAsPlanned b page bytes tag p d e result
      → q ≡ after_change d.gone p → KeepsPlan e q reported
  program_keeps b page bytes tag result programs planned is =
      keeps_on d e p q reported keeps programs.lasts (ap (λ (x : Plan). x.fuse) is) (ap (λ (x : Plan). x.failures) is) (ap (λ (x : Plan). x.calls) is)
      (λ power. program_counts result programs.reads (programs.changes power) programs.ends (planned.ends power))

  -- an erase
  pub erase_keeps : (b : ℕ) (result : Result (Unit {0}) EraseFault) → Erases b d e result → ErasesAsPlanned b p d e result → q ≡ after_change d.gone p → KeepsPlan e q reported
  erase_keeps b result erases planned is =
      keeps_on d e p q reported keeps erases.lasts (ap (λ (x : Plan). x.fuse) is) (ap (λ (x : Plan). x.failures) is) (ap (λ (x : Plan). x.calls) is)
      (λ power. erase_counts result erases.reads (erases.changes power) erases.ends (planned.ends power))
