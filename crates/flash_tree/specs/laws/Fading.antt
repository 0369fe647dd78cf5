-- What a block loses, and what stays elsewhere.
use Rattle.std.specs.Prelude.{◌≡◌, ℕ, true, false, List, Result, Ok, Err}
use Rattle.std.proofs.Common.{sym, ◌∙◌, ap, inl, inr}
use Rattle.std.proofs.lemmas.Bool.{cases_eq}
use Rattle.nand_model.specs.Flash.{Flash, Erased, Written, Uncorrectable}
use Rattle.nand_model.specs.Calls.{Device, Marks, MarkLeaves}
use Rattle.nand_model.specs.Changes.{Shrinks}
use Rattle.nand_model.specs.declared.nand.Gone.{Gone}
use Rattle.flash_tree.specs.Fading.{Fades}
use Rattle.flash_tree.specs.Keeping.{Loses}

pub loses_fading : (b : ℕ) (old new : Flash) → Fades b old new → Loses b old new
loses_fading b old new fades = record {
  good = fades.good;
  tags = λ l t has. record { bytes = has.bytes; page = fades.pages l has.bytes _ has.page; valid = has.valid };
  other_marks = fades.other_marks;
  other_pages = fades.other_pages;
}

pub fades_erase : (b : ℕ) (old new : Flash) → Shrinks b old new → Fades b old new
fades_erase b old new shrinks = record {
  good = λ is. ap (λ f. f b) (sym shrinks.bad) ∙ is;
  pages = λ l bytes tag is. elim (shrinks.inside l) [
    | inl same ↦ sym same ∙ is
    | inr (inl erased) ↦ let two : Erased ≡ Written bytes tag = sym erased ∙ is in absurd cc
    | inr (inr lost) ↦ let two : Uncorrectable ≡ Written bytes tag = sym lost ∙ is in absurd cc
  ];
  other_marks = λ k ne. ap (λ f. f k) shrinks.bad;
  other_pages = shrinks.others;
}

pub fades_mark : (b : ℕ) (old new : Device) (result : Result (Unit {0}) Gone) → old.honest ≡ true → Marks b old new result → Fades b old.flash new.flash
fades_mark b old new result honest marks = record {
  good = was_good result marks.bad;
  pages = λ l bytes tag is. ap (λ f. f b l) (sym (marks.page honest)) ∙ is;
  other_marks = marks.other_bads;
  other_pages = λ k l ne. ap (λ f. f k l) (marks.page honest);
} where
  was_good : (result : Result (Unit {0}) Gone) → MarkLeaves result (old.flash.bad b) (new.flash.bad b) → new.flash.bad b ≡ false → old.flash.bad b ≡ false
  was_good (Ok done) marked is = let two : true ≡ false = sym marked ∙ is in absurd cc
  was_good (Err gone) (inl same) is = sym same ∙ is
  was_good (Err gone) (inr marked) is = let two : true ≡ false = sym marked ∙ is in absurd cc

-- what is written afterwards was so before
pub written_before : (b : ℕ) (old new : Flash) → Fades b old new → (k l : ℕ) (bytes tag : List ℕ) → new.page k l ≡ Written bytes tag → old.page k l ≡ Written bytes tag
written_before b old new fades k l bytes tag is = elim (cases_eq k b) [
  | inr ne ↦ sym (fades.other_pages k l ne) ∙ is
  | inl e ↦ ap (λ n. old.page n l) e ∙ fades.pages l bytes tag (ap (λ n. new.page n l) (sym e) ∙ is)
]

pub good_before : (b : ℕ) (old new : Flash) → Fades b old new → (k : ℕ) → new.bad k ≡ false → old.bad k ≡ false
good_before b old new fades k is = elim (cases_eq k b) [
  | inr ne ↦ sym (fades.other_marks k ne) ∙ is
  | inl e ↦ ap old.bad e ∙ fades.good (ap new.bad (sym e) ∙ is)
]
