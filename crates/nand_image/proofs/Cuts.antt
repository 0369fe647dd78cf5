-- A call that is cut and leaves the old pages is a cut call.
use Rattle.std.proofs.Common.{◌≡◌, ℕ, List, Some, Err, ap, ◌∙◌, inl, arith}
use Rattle.nand_model.specs.Flash.{Flash, IsClean}
use Rattle.nand_model.specs.Calls.{Device, Goes, Programs, Erases, Marks}
use Rattle.nand_model.specs.Putting.{CutsChange, CutsMark, unsteady}
use Rattle.nand_model.specs.declared.nand.ProgramFault.TheVariants as program_faults
use Rattle.nand_model.specs.declared.nand.EraseFault.TheVariants as erase_faults
use Rattle.nand_model.specs.declared.nand.Gone.{Gone}

goes_unsteady : (old new : Device) → Goes old new → Goes (unsteady old) (unsteady new)
goes_unsteady old new is = record { is = is.is; cuts = is.cuts; failures = is.failures }

pub program_cut : (b p : ℕ) (bytes tag : List ℕ) (old new : Device) → IsClean old.flash → old.flash.next b ≡ Some p → CutsChange b old new
    → Programs b p bytes tag (unsteady old) (unsteady new) (Err program_faults.Gone)
program_cut b p bytes tag old new clean next cut = record {
  lasts = cut.lasts;
  ends = goes_unsteady old new cut.goes;
  changes = λ _. cut.changes;
  reads = cut.reads;
  bad = cut.bad;
  next = λ _. cut.next;
  other_nexts = cut.other_nexts;
  page = λ _. inl (ap (λ f. f b p) cut.page ∙ clean b p p next (omega arith));
  same_block = λ _ l _. ap (λ f. f b l) cut.page;
  other_blocks = λ _ k l _. ap (λ f. f k l) cut.page;
}

pub erase_cut : (b : ℕ) (old new : Device) → CutsChange b old new → Erases b (unsteady old) (unsteady new) (Err erase_faults.Gone)
erase_cut b old new cut = record {
  lasts = cut.lasts;
  ends = goes_unsteady old new cut.goes;
  changes = λ _. cut.changes;
  reads = cut.reads;
  bad = cut.bad;
  next = λ _. cut.next;
  other_nexts = cut.other_nexts;
  pages = λ _ l. inl (ap (λ f. f b l) cut.page);
  other_blocks = λ _ k l _. ap (λ f. f k l) cut.page;
}

pub mark_cut : (b : ℕ) (old new : Device) (gone : Gone) → CutsMark old new → Marks b (unsteady old) (unsteady new) (Err gone)
mark_cut b old new gone cut = record {
  lasts = cut.lasts;
  ends = goes_unsteady old new cut.goes;
  changes = λ _. cut.changes;
  reads = cut.reads;
  bad = inl (ap (λ (f : Flash). f.bad b) cut.flash);
  other_bads = λ k _. ap (λ (f : Flash). f.bad k) cut.flash;
  next = ap (λ (f : Flash). f.next) cut.flash;
  page = λ _. ap (λ (f : Flash). f.page) cut.flash;
}
