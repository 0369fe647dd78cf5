-- What follows the head of an image: marks, pages, and then nothing.
use Rattle.std.proofs.Common.{◌≡◌, ◌<◌, ℕ, ◌+◌, ◌*◌, ◌/◌, ◌%◌, List, length, drop, slice_index, Option, Some, ap, sym, ◌∙◌, arith, length-drop, get_or-take}
use Rattle.std.proofs.lemmas.List.{drop-drop}
use Rattle.std.proofs.Math.Nat.{mul_comm}
use Rattle.std.proofs.lemmas.Nat.{mul-add-lt, div-mul-add, mod-mul-add}
use Rattle.nand_model.specs.Flash.{Page}
use Rattle.nand_model.specs.Calls.{Device}
use Rattle.nand_model.specs.Changes.{IsBlank}
use Rattle.nand_model.specs.declared.geometry.Geometry.{Geometry}
use Rattle.nand_image.specs.Layout.{slot_size}
use Rattle.nand_image.specs.Images.{page_in}
use Rattle.nand_image.specs.Readings.{IsWhole, FillsWhole, IsShort, PutsMarks, PutsPages, TakesPages, IsEnded, IsLong, body_size, IsBody, IsOfOtherSize}
use Rattle.nand_image.specs.declared.fault.ImageFault.{ImageFault}
use Rattle.nand_image.specs.declared.fault.ImageFault.TheVariants as faults

-- a place among the marks holds the mark
mark_of : (marks left : List ℕ) (now : Option (List ℕ)) (b : ℕ) → IsWhole marks left now → b < length marks → slice_index marks b ≡ slice_index left b
mark_of marks left now b whole less = ap (λ (l : List ℕ). slice_index l b) whole.bytes ∙ get_or-take (length marks) left b 0 less

module _ (g : Geometry) (old mid new : Option (List ℕ)) (marks : List ℕ) (wide : length marks ≡ g.blocks) (whole : FillsWhole old mid marks) where
  pub body_of : (page : ℕ → ℕ → Page) (a b d : Device) → IsBlank a.flash → PutsMarks marks (length marks) a b → PutsPages b d → d.flash.page ≡ page
      → TakesPages mid new g.bytes g.pages (g.blocks * g.pages) page → IsEnded new → (left : List ℕ) → old ≡ Some left → IsBody g left d
  body_of page a b d blank put puts same pages ended left is =
      let w : ℕ = slot_size g in
      let m = whole left is in
      let behind : List ℕ = drop (length marks) left in
      let p = pages behind m.rest in
      let end : length (drop (g.blocks * g.pages * w) behind) ≡ 0 = ended (drop (g.blocks * g.pages * w) behind) p.rest in
      let mark = λ (k : ℕ) (less : k < g.blocks). mark_of marks left mid k m (omega (arith, less, wide)) in
      record {
        size = omega (arith, end, wide, m.within, p.within, length-drop (g.blocks * g.pages * w) behind, length-drop (length marks) left);
        good = λ k less zero. ap (λ f. f k) puts.bad ∙ put.zero_marks k (mark k less ∙ zero) ∙ blank.good k;
        bad = λ k less not. ap (λ f. f k) puts.bad ∙ put.other_marks k (omega (arith, less, wide)) (λ zero. not (sym (mark k less) ∙ zero));
        pages = λ k l less within_limit.
            let place : ℕ = k * g.pages + l in
            let row : place / g.pages ≡ k = div-mul-add k g.pages l within_limit in
            let column : place % g.pages ≡ l = mod-mul-add k g.pages l within_limit in
            let inside : place < g.blocks * g.pages = omega (arith, mul-add-lt k g.pages l g.blocks less within_limit, mul_comm g.pages g.blocks) in
            let reported : page (place / g.pages) (place % g.pages) ≡ page_in g.bytes (drop (place * w) behind) = p.each place inside in
            ap (λ f. f k l) same ∙ sym (ap (λ n. page n l) row) ∙ sym (ap (page (place / g.pages)) column) ∙ reported
            ∙ ap (page_in g.bytes) (drop-drop (place * w) (length marks) left ∙ ap (λ n. drop (n + place * w) left) wide);
      }

  -- too few bytes for the pages
  pub pages_fault : (fault : ImageFault) → IsShort mid (g.blocks * g.pages * slot_size g) fault → IsOfOtherSize old (body_size g) fault
  pages_fault faults.Read short = tt
  pages_fault faults.Write short = short
  pages_fault faults.Magic short = short
  pages_fault faults.BadGeometry short = short
  pages_fault faults.NoMemory short = tt
  pages_fault faults.Size short = λ left is size.
      let m = whole left is in
      let within_limit = short (drop (length marks) left) m.rest in
      absurd (omega (arith, within_limit, size, wide, length-drop (length marks) left))

  -- bytes behind the pages
  pub end_fault : (fault : ImageFault) (page : ℕ → ℕ → Page) → TakesPages mid new g.bytes g.pages (g.blocks * g.pages) page → IsLong new fault → IsOfOtherSize old (body_size g) fault
  end_fault faults.Read page pages long = tt
  end_fault faults.Write page pages long = long
  end_fault faults.Magic page pages long = long
  end_fault faults.BadGeometry page pages long = long
  end_fault faults.NoMemory page pages long = tt
  end_fault faults.Size page pages long = λ left is size.
      let m = whole left is in
      let behind : List ℕ = drop (length marks) left in
      let p = pages behind m.rest in
      let some = long (drop (g.blocks * g.pages * slot_size g) behind) p.rest in
      absurd (omega (arith, some, size, wide, p.within, m.within, length-drop (g.blocks * g.pages * slot_size g) behind, length-drop (length marks) left))
