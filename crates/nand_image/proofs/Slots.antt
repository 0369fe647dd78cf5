-- Pages that stand one after the other.
use Rattle.std.proofs.Common.{◌≡◌, ◌≢◌, ◌<◌, ◌≤◌, ℕ, ◌+◌, ◌*◌, ◌/◌, ◌%◌, List, length, take, drop, slice_index, Option, Some, ap, sym, ◌∙◌, inl, inr, arith, below_more, le_refl, take-take, length-drop, get_or-take}
use Rattle.std.proofs.lemmas.Bool.{cases_eq}
use Rattle.std.proofs.lemmas.List.{drop-take, drop-drop}
use Rattle.std.proofs.lemmas.Nat.{div-add-mod'}
use Rattle.std.proofs.Math.Nat.{add-mul, mul-le-mul_right}
use Rattle.nand_model.specs.Flash.{Page}
use Rattle.nand_model.specs.Memory.{page_of}
use Rattle.nand_model.specs.Calls.{Device}
use Rattle.nand_model.specs.Putting.{PutsPage}
use Rattle.nand_image.specs.Images.{kind_of_byte, page_in}
use Rattle.nand_image.specs.Readings.{FillsWhole, IsShort, TakesPages}
use Rattle.nand_image.specs.declared.fault.ImageFault.{ImageFault}
use Rattle.nand_image.specs.declared.fault.ImageFault.TheVariants as faults

next_times : (n w : ℕ) → (n + 1) * w ≡ n * w + w
next_times n w = omega (arith, add-mul n 1 w)

-- what stands behind a page is no part of it
page_in_front : (size : ℕ) (image : List ℕ) → page_in size (take (49 + size) image) ≡ page_in size image
page_in_front size image =
    let all : ℕ = 49 + size in
    let kind : slice_index (take all image) 0 ≡ slice_index image 0 = get_or-take all image 0 0 (omega arith) in
    let bytes : take size (drop 49 (take all image)) ≡ take size (drop 49 image) =
    ap (take size) (drop-take 49 size image) ∙ take-take size size (drop 49 image) (le_refl size) in
    let same : 49 + size ≡ 1 + (48 + size) = omega arith in
    let tag : take 48 (drop 1 (take all image)) ≡ take 48 (drop 1 image) =
    ap (λ n. take 48 (drop 1 (take n image))) same ∙ ap (take 48) (drop-take 1 (48 + size) image) ∙ take-take 48 (48 + size) (drop 1 image) (omega arith) in
    ap (λ k. page_of (kind_of_byte k) (take size (drop 49 (take all image))) (take 48 (drop 1 (take all image)))) kind
    ∙ ap (λ l. page_of (kind_of_byte (slice_index image 0)) l (take 48 (drop 1 (take all image)))) bytes
    ∙ ap (λ l. page_of (kind_of_byte (slice_index image 0)) (take size (drop 49 image)) l) tag

-- two places in the same row and column are one
same_place : (i n per : ℕ) → i / per ≡ n / per → i % per ≡ n % per → i ≡ n
same_place i n per row column = sym (div-add-mod' i per) ∙ ap (λ k. k * per + i % per) row ∙ ap (λ k. n / per * per + k) column ∙ div-add-mod' n per

-- a page is put behind those that were
pub pages_step : (size per n : ℕ) (old mid new : Option (List ℕ)) (slot : List ℕ) (a b : Device) → length slot ≡ 49 + size → TakesPages old mid size per n a.flash.page
    → FillsWhole mid new slot → PutsPage (n / per) (n % per) (page_in size slot) a b → TakesPages old new size per (n + 1) b.flash.page
pages_step size per n old mid new slot a b wide first whole put left is =
    let w : ℕ = 49 + size in
    let so_far = first left is in
    let behind : List ℕ = drop (n * w) left in
    let part = whole behind so_far.rest in
    let more : (n + 1) * w ≡ n * w + w = next_times n w in
    let bytes : slot ≡ take w behind = part.bytes ∙ ap (λ k. take k behind) wide in
    record {
      within = omega (arith, more, so_far.within, part.within, wide, length-drop (n * w) left);
      each = below_more (λ i. b.flash.page (i / per) (i % per) ≡ page_in size (drop (i * w) left)) n
          (λ i less. committed i less ∙ so_far.each i less) (put.here ∙ ap (page_in size) bytes ∙ page_in_front size behind);
      rest = part.rest ∙ ap (λ k. Some (drop k behind)) wide ∙ ap Some (drop-drop w (n * w) left ∙ ap (λ k. drop k left) (sym more));
    }
  where
    committed : (i : ℕ) → i < n → b.flash.page (i / per) (i % per) ≡ a.flash.page (i / per) (i % per)
    committed i less = elim (cases_eq (i / per) (n / per)) [
      | inr ne ↦ put.other_blocks (i / per) (i % per) ne
      | inl e ↦
          let ne : i % per ≢ n % per = λ at. let one = same_place i n per e at in absurd (omega (arith, one, less)) in
          ap (λ k. b.flash.page k (i % per)) e ∙ put.same_block (i % per) ne ∙ sym (ap (λ k. a.flash.page k (i % per)) e)
    ]

-- where there is no whole page left, the pages are too few
pub pages_short : (fault : ImageFault) (size per n count wide : ℕ) (old mid : Option (List ℕ)) (page : ℕ → ℕ → Page) → n < count → wide ≡ 49 + size → TakesPages old mid size per n page
    → IsShort mid wide fault → IsShort old (count * (49 + size)) fault
pages_short faults.Read size per n count wide old mid page less is first short = tt
pages_short faults.Write size per n count wide old mid page less is first short = short
pages_short faults.Magic size per n count wide old mid page less is first short = short
pages_short faults.BadGeometry size per n count wide old mid page less is first short = short
pages_short faults.NoMemory size per n count wide old mid page less is first short = short
pages_short faults.Size size per n count wide old mid page less is first short = λ left at.
    let w : ℕ = 49 + size in
    let so_far = first left at in
    let within_limit : length (drop (n * w) left) < wide = short (drop (n * w) left) so_far.rest in
    let all : (n + 1) * w ≤ count * w = mul-le-mul_right w (omega (arith, less)) in
    omega (arith, next_times n w, all, within_limit, is, length-drop (n * w) left)
