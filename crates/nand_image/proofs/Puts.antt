-- Marks and pages that are put one after the other.
use Rattle.std.proofs.Common.{ℕ, List, refl, ap, ◌∙◌, inl, inr, arith}
use Rattle.std.proofs.lemmas.Bool.{cases_eq}
use Rattle.nand_model.specs.Flash.{Page}
use Rattle.nand_model.specs.Calls.{Device}
use Rattle.nand_model.specs.Putting.{Rests, PutsPage}
use Rattle.nand_image.specs.Readings.{PutsMarks, PutsPages}

pub rests_here : (a : Device) → Rests a a
rests_here a = record { geometry = refl; gone = refl; honest = refl; steady = refl; cuts = refl; failures = refl; changes = refl; reads = refl }

pub rests_on : (a b c : Device) → Rests a b → Rests b c → Rests a c
rests_on a b c first then = record {
  geometry = then.geometry ∙ first.geometry;
  gone = then.gone ∙ first.gone;
  honest = then.honest ∙ first.honest;
  steady = then.steady ∙ first.steady;
  cuts = then.cuts ∙ first.cuts;
  failures = then.failures ∙ first.failures;
  changes = then.changes ∙ first.changes;
  reads = then.reads ∙ first.reads;
}

pub marks_none : (marks : List ℕ) (a : Device) → PutsMarks marks 0 a a
marks_none marks a = record {
  rests = rests_here a;
  zero_marks = λ b is. refl;
  other_marks = λ b less not. absurd (omega arith);
  next = refl;
  page = refl;
}

pub pages_none : (a : Device) → PutsPages a a
pages_none a = record { rests = rests_here a; bad = refl; nexts = λ b is. is }

pub pages_more : (b p : ℕ) (page : Page) (old mid new : Device) → PutsPages old mid → PutsPage b p page mid new → PutsPages old new
pages_more b p page old mid new puts put = record {
  rests = rests_on old mid new puts.rests put.rests;
  bad = put.bad ∙ puts.bad;
  nexts = λ k is. elim (cases_eq k b) [
    | inl e ↦ ap new.flash.next e ∙ put.next
    | inr ne ↦ put.other_nexts k ne ∙ puts.nexts k is
  ];
}
