-- How the calls of an honest device change its flash.
use Rattle.std.specs.Prelude.{◌≡◌, ◌⊎◌, ℕ, true, List, Result, Ok, Err, Some}
use Rattle.std.proofs.Common.{refl, sym, ◌∙◌, ap, arith, inl, inr}
use Rattle.std.proofs.lemmas.Bool.{cases_eq}
use Rattle.nand_model.specs.Flash.{Page, Erased, Uncorrectable, IsClean}
use Rattle.nand_model.specs.Calls.{Device, Reads, ReadEnds, Programs, Erases, EraseLeaves}
use Rattle.nand_model.specs.laws.Calls.{lasts_on, lasts_here}
use Rattle.nand_model.specs.Changes.{Grows, Shrinks, OnlyReads}
use Rattle.nand_model.specs.declared.nand.PageKind.{PageKind}
use Rattle.nand_model.specs.declared.nand.Gone.{Gone}
use Rattle.nand_model.specs.declared.nand.ProgramFault.{ProgramFault}
use Rattle.nand_model.specs.declared.nand.EraseFault.{EraseFault}

-- what is programmed was erased, so no other page than an erased one changes
pub grows-program : (b p : ℕ) (bytes tag : List ℕ) (old new : Device) (result : Result (Unit {0}) ProgramFault) → old.honest ≡ true
    → IsClean old.flash → old.flash.next b ≡ Some p → Programs b p bytes tag old new result → Grows old.flash new.flash
grows-program b p bytes tag old new result honest clean next does k l not = elim (cases_eq k b) [
  | inr ne ↦ does.other_blocks honest k l ne
  | inl e ↦ elim (cases_eq l p) [
    | inr ne ↦ ap (λ n. new.flash.page n l) e ∙ does.same_block honest l ne ∙ sym (ap (λ n. old.flash.page n l) e)
    | inl at ↦ absurd (not (ap (λ n. old.flash.page n l) e ∙ ap (old.flash.page b) at ∙ clean b p p next (omega arith)))
  ]
]

erased_or_left : (result : Result (Unit {0}) EraseFault) (old new : Page) → EraseLeaves result old new → (new ≡ old) ⊎ (new ≡ Erased) ⊎ (new ≡ Uncorrectable)
erased_or_left (Ok done) old new is = inr (inl is)
erased_or_left (Err fault) old new is = is

-- an erase changes the pages of its block alone, and writes none
pub shrinks-erase : (b : ℕ) (old new : Device) (result : Result (Unit {0}) EraseFault) → old.honest ≡ true → Erases b old new result → Shrinks b old.flash new.flash
shrinks-erase b old new result honest does = record {
  bad = does.bad;
  others = does.other_blocks honest;
  inside = λ l. erased_or_left result (old.flash.page b l) (new.flash.page b l) (does.pages honest l);
}

ends_without_failure : (old new : Device) (result : Result PageKind Gone) → ReadEnds old new result → new.failures ≡ old.failures
ends_without_failure old new (Ok kind) ends = ends.failures
ends_without_failure old new (Err gone) ends = ends.failures

-- one read
pub only_reads-read : (old new : Device) (result : Result PageKind Gone) → Reads old new result → OnlyReads old new
only_reads-read old new result does = record {
  lasts = does.lasts;
  failures = ends_without_failure old new result does.ends;
  changes = does.changes;
  bad = does.bad;
  next = does.next;
  page = does.page;
}

-- some reads and then others
pub only_reads_on : (a b c : Device) → OnlyReads a b → OnlyReads b c → OnlyReads a c
only_reads_on a b c first then = record {
  lasts = lasts_on a b c first.lasts then.lasts;
  failures = then.failures ∙ first.failures;
  changes = then.changes ∙ first.changes;
  bad = then.bad ∙ first.bad;
  next = then.next ∙ first.next;
  page = λ honest. then.page (first.lasts.honest ∙ honest) ∙ first.page honest;
}

-- no read
pub only_reads_here : (a : Device) → OnlyReads a a
only_reads_here a = record { lasts = lasts_here a; failures = refl; changes = refl; bad = refl; next = refl; page = λ honest. refl }
