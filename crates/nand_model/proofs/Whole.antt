-- What keeps the sizes of a device in memory, its blocks clean and its pages whole.
use Rattle.std.proofs.Common.{◌≡◌, ◌≢◌, ◌+◌, ◌<◌, ◌≤◌, ◌⊎◌, ℕ, Some, None, List, length, refl, sym, ◌∙◌, ap, subst, arith, inl, inr}
use Rattle.std.proofs.lemmas.Bool.{cases_eq, cases_lt}
use Rattle.nand_model.specs.Flash.{Flash, Page, Erased, Written, Uncorrectable, IsClean, IsSized, AreBytes}
use Rattle.nand_model.specs.Plans.{programmed, erased, left_by, page_by, fate_at, erase_result}
use Rattle.nand_model.specs.Calls.{EraseLeaves}
use Rattle.nand_model.specs.laws.Memory.{view_at_past}
use Rattle.nand_model.specs.Memory.{IsWhole, flash_of, view_at, pages_at, size_at, next_at}
use Rattle.nand_model.specs.declared.fate.Fate.{Fate}
use Rattle.nand_model.specs.declared.fate.Fate.TheVariants as fates
use Rattle.nand_model.specs.declared.plan.End.{End}
use Rattle.nand_model.specs.declared.plan.End.TheVariants as ends
use Rattle.nand_model.specs.declared.geometry.Geometry.{Geometry}
use Rattle.nand_model.specs.declared.block.MemPage.{MemPage}
use Rattle.nand_model.specs.declared.block.MemBlock.{MemBlock}

-- the sizes stay
pub whole_committed_pages : (g : Geometry) (old new : List MemBlock) → IsWhole g old → length new ≡ length old
    → ((k : ℕ) → length (pages_at new k) ≡ length (pages_at old k))
    → ((k l : ℕ) → size_at (pages_at new k) l ≡ size_at (pages_at old k) l)
    → IsClean (flash_of new) → ((b p : ℕ) → next_at new b ≡ Some p → p ≤ g.pages) → IsSized g.bytes (flash_of new) → IsWhole g new
whole_committed_pages g old new whole len lens sizes clean next sized = record {
  count = len ∙ whole.count;
  pages = λ b lt. lens b ∙ whole.pages b lt;
  bytes = λ b p lt less. sizes b p ∙ whole.bytes b p lt less;
  clean = clean;
  next = next;
  sized = sized;
}

-- where the pages stay, and no block has another next page
pub clean_committed : (old new : Flash) → ((b l : ℕ) → new.page b l ≡ old.page b l) → ((b p : ℕ) → new.next b ≡ Some p → old.next b ≡ Some p) → IsClean old → IsClean new
clean_committed old new pages nexts clean b p q is le = pages b q ∙ clean b p q (nexts b p is) le

pub sized_committed : (size : ℕ) (old new : Flash) → ((b l : ℕ) → new.page b l ≡ old.page b l) → IsSized size old → IsSized size new
sized_committed size old new pages sized b p bytes tag is = sized b p bytes tag (sym (pages b p) ∙ is)

module _ (old new : Flash) (b p : ℕ) (same : (l : ℕ) → l ≢ p → new.page b l ≡ old.page b l) (others : (k l : ℕ) → k ≢ b → new.page k l ≡ old.page k l) where
  -- a program makes the pages after its page the next, or none
  pub clean_programmed : IsClean old → old.next b ≡ Some p → (new.next b ≡ None) ⊎ (new.next b ≡ Some (p + 1)) → ((k : ℕ) → k ≢ b → new.next k ≡ old.next k) → IsClean new
  clean_programmed clean was next nexts k q l is le = elim (cases_eq k b) [
    | inl e ↦
        let next_b : new.next b ≡ Some q = ap new.next (sym e) ∙ is in
        let after : q ≡ p + 1 = grind arith in
        let ne : l ≢ p = omega arith in
        ap (λ n. new.page n l) e ∙ same l ne ∙ clean b p l was (omega arith)
    | inr ne ↦ others k l ne ∙ clean k q l (sym (nexts k ne) ∙ is) le
  ]

  -- its page is as wanted, or not written
  pub sized_programmed : (size : ℕ) (bytes tag : List ℕ) → IsSized size old → AreBytes size bytes → AreBytes 48 tag
      → (new.page b p ≡ Erased) ⊎ (new.page b p ≡ Written bytes tag) ⊎ (new.page b p ≡ Uncorrectable) → IsSized size new
  sized_programmed size bytes tag sized data_fits tag_fits page k l xs ys is = elim (cases_eq k b) [
    | inr ne ↦ sized k l xs ys (sym (others k l ne) ∙ is)
    | inl e ↦ elim (cases_eq l p) [
      | inr ne ↦ sized b l xs ys (sym (same l ne) ∙ ap (λ n. new.page n l) (sym e) ∙ is)
      | inl at ↦
          let here : new.page b p ≡ Written xs ys = ap (new.page b) (sym at) ∙ ap (λ n. new.page n l) (sym e) ∙ is in
          written page here
    ]
  ] where
    written : (new.page b p ≡ Erased) ⊎ (new.page b p ≡ Written bytes tag) ⊎ (new.page b p ≡ Uncorrectable) → new.page b p ≡ Written xs ys → AreBytes size xs × AreBytes 48 ys
    written (inl erased) here = let no : Erased ≡ Written xs ys = sym erased ∙ here in absurd cc
    written (inr (inl full)) here =
        let one : Written bytes tag ≡ Written xs ys = sym full ∙ here in
        let data_is : bytes ≡ xs = cc in
        let tag_is : tag ≡ ys = cc in
        (rw (← data_is) data_fits, rw (← tag_is) tag_fits)
    written (inr (inr lost)) here = let no : Uncorrectable ≡ Written xs ys = sym lost ∙ here in absurd cc

module _ (old new : Flash) (b : ℕ) (others : (k l : ℕ) → k ≢ b → new.page k l ≡ old.page k l) where
  -- an erase that is whole makes the pages of its block the next, any other none
  pub clean_erased : IsClean old → (new.next b ≡ None) ⊎ ((l : ℕ) → new.page b l ≡ Erased) → ((k : ℕ) → k ≢ b → new.next k ≡ old.next k) → IsClean new
  clean_erased clean (inl none) nexts k q l is le = elim (cases_eq k b) [
    | inl e ↦ let no : None ≡ Some q = sym none ∙ ap new.next (sym e) ∙ is in cc
    | inr ne ↦ others k l ne ∙ clean k q l (sym (nexts k ne) ∙ is) le
  ]
  clean_erased clean (inr erased) nexts k q l is le = elim (cases_eq k b) [
    | inl e ↦ ap (λ n. new.page n l) e ∙ erased l
    | inr ne ↦ others k l ne ∙ clean k q l (sym (nexts k ne) ∙ is) le
  ]

  -- its pages are as they were, or not written
  pub sized_erased : (size : ℕ) → IsSized size old → ((l : ℕ) → (new.page b l ≡ old.page b l) ⊎ (new.page b l ≡ Erased) ⊎ (new.page b l ≡ Uncorrectable)) → IsSized size new
  sized_erased size sized leaves k l xs ys is = elim (cases_eq k b) [
    | inr ne ↦ sized k l xs ys (sym (others k l ne) ∙ is)
    | inl e ↦
        let here : new.page b l ≡ Written xs ys = ap (λ n. new.page n l) (sym e) ∙ is in
        elim (leaves l) [
          | inl same ↦ sized b l xs ys (sym same ∙ here)
          | inr lost ↦ elim lost [
            | inl is_erased ↦ let no : Erased ≡ Written xs ys = sym is_erased ∙ here in absurd cc
            | inr is_lost ↦ let no : Uncorrectable ≡ Written xs ys = sym is_lost ∙ here in absurd cc
          ]
        ]
  ]

page_is : (fate : Fate) (bytes tag : List ℕ) → (page_by fate bytes tag ≡ Erased) ⊎ (page_by fate bytes tag ≡ Written bytes tag) ⊎ (page_by fate bytes tag ≡ Uncorrectable)
page_is fates.Old bytes tag = inl refl
page_is fates.New bytes tag = inr (inl refl)
page_is fates.Erased bytes tag = inl refl
page_is fates.Uncorrectable bytes tag = inr (inr refl)

-- what a program may leave, however it ends
pub programmed_is : (end : End) (list : List Fate) (bytes tag : List ℕ)
    → (programmed end list bytes tag ≡ Erased) ⊎ (programmed end list bytes tag ≡ Written bytes tag) ⊎ (programmed end list bytes tag ≡ Uncorrectable)
programmed_is ends.Whole list bytes tag = inr (inl refl)
programmed_is ends.Failed list bytes tag = page_is (fate_at list 0) bytes tag
programmed_is ends.Cut list bytes tag = page_is (fate_at list 0) bytes tag

left_is : (fate : Fate) (page : Page) → (left_by fate page ≡ page) ⊎ (left_by fate page ≡ Erased) ⊎ (left_by fate page ≡ Uncorrectable)
left_is fates.Old page = inl refl
left_is fates.New page = inr (inl refl)
left_is fates.Erased page = inr (inl refl)
left_is fates.Uncorrectable page = inr (inr refl)

-- what an erase leaves of a page, however it ends
erased_leaves : (end : End) (list : List Fate) (k : ℕ) (page : Page) → EraseLeaves (erase_result end) page (erased end list k page)
erased_leaves ends.Whole list k page = refl
erased_leaves ends.Failed list k page = left_is (fate_at list k) page
erased_leaves ends.Cut list k page = left_is (fate_at list k) page

nothing_leaves : (end : End) → EraseLeaves (erase_result end) Erased Erased
nothing_leaves ends.Whole = refl
nothing_leaves ends.Failed = inl refl
nothing_leaves ends.Cut = inl refl

-- the same of all places of a block, past its end too
pub leaves_each : (end : End) (list : List Fate) (old new : List MemPage) → length new ≡ length old
    → ((k : ℕ) → k < length old → view_at new k ≡ erased end list k (view_at old k)) → (k : ℕ) → EraseLeaves (erase_result end) (view_at old k) (view_at new k)
leaves_each end list old new len each k = elim (cases_lt k (length old)) [
  | inl lt ↦ subst (EraseLeaves (erase_result end) (view_at old k)) (sym (each k lt)) (erased_leaves end list k (view_at old k))
  | inr ge ↦
      let past : view_at old k ≡ Erased = view_at_past old k ge in
      let past_too : view_at new k ≡ Erased = view_at_past new k (omega arith) in
      rw (past, past_too) (nothing_leaves end)
]

-- however the erase ends, each page is as it was, or erased, or lost
pub leaves_any : (end : End) (old new : Page) → EraseLeaves (erase_result end) old new → (new ≡ old) ⊎ (new ≡ Erased) ⊎ (new ≡ Uncorrectable)
leaves_any ends.Whole old new is = inr (inl is)
leaves_any ends.Failed old new is = is
leaves_any ends.Cut old new is = is
