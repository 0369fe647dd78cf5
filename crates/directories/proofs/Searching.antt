-- The slots of a chunk, in its page and in the directory.
use Rattle.std.specs.Prelude.{◌≡◌, ◌<◌, ◌≤◌, ℕ, ◌+◌, ◌*◌, ◌/◌, ◌%◌, List, take, drop, Some}
use Rattle.std.proofs.Common.{sym, ◌∙◌, ap, subst, arith}
use Rattle.std.proofs.lemmas.Nat.{div-mul-add, mod-mul-add}
use Rattle.page_tags.specs.Slots.{Entry}
use Rattle.volume_terms.specs.Sizes.{Sizes, page_slots}
use Rattle.pages.specs.Maps.{PageMap}
use Rattle.directories.specs.Directories.{SlotOf}
use Rattle.directories.specs.Slots.{SlotAt, AreSlots}

-- a key has one page
pub one_page : (m : PageMap) (o c : ℕ) (xs ys : List ℕ) → m o c ≡ Some xs → m o c ≡ Some ys → xs ≡ ys
one_page m o c xs ys x y = let two : Some xs ≡ Some ys = sym x ∙ y in cc

module _ (z : Sizes) (m : PageMap) (d c : ℕ) where
  -- a slot of a chunk's page is one of the directory
  pub slot_of_page : (k : ℕ) (e : Entry) (page : List ℕ) → k < page_slots z → m d (1 + c) ≡ Some page → SlotAt page k e → SlotOf z m d (c * page_slots z + k) e
  slot_of_page k e page less is at =
      let n : ℕ = page_slots z in
      let chunk : (c * n + k) / n ≡ c = div-mul-add c n k less in
      let place : (c * n + k) % n ≡ k = mod-mul-add c n k less in
      (page, subst (λ j. m d (1 + j) ≡ Some page) (sym chunk) is, at.0, ap (λ j. take 272 (drop (272 * j) page)) place ∙ at.1)

  -- and the other way round
  pub slot_in_page : (k : ℕ) (e : Entry) (page : List ℕ) → k < page_slots z → m d (1 + c) ≡ Some page → SlotOf z m d (c * page_slots z + k) e → SlotAt page k e
  slot_in_page k e page less is s =
      let n : ℕ = page_slots z in
      let chunk : (c * n + k) / n ≡ c = div-mul-add c n k less in
      let place : (c * n + k) % n ≡ k = mod-mul-add c n k less in
      let same : page ≡ s.0 = one_page m d (1 + c) page s.0 is (subst (λ j. m d (1 + j) ≡ Some s.0) chunk s.1) in
      (s.2, ap (λ (xs : List ℕ). take 272 (drop (272 * k) xs)) same ∙ ap (λ j. take 272 (drop (272 * j) s.0)) (sym place) ∙ s.3)

  -- where a chunk has slots its page is there
  pub page_of_slots : (count : ℕ) → 1 ≤ count → 1 ≤ page_slots z → AreSlots (SlotOf z m d) (c * page_slots z) (c * page_slots z + count) → (xs : List ℕ) × (m d (1 + c) ≡ Some xs)
  page_of_slots count some slots are =
      let n : ℕ = page_slots z in
      let s = are (c * n + 0) (omega arith) (omega (arith, some)) in
      let here : (c * n + 0) / n ≡ c = div-mul-add c n 0 (omega (arith, slots)) in
      (s.1.0, subst (λ k. m d (1 + k) ≡ Some s.1.0) here s.1.1)

-- ---- several chunks

-- fewer slots are slots
pub slots_among : (at : ℕ → Entry → Type 0) (from to most : ℕ) → to ≤ most → AreSlots at 0 most → AreSlots at from to
slots_among at from to most high are i low less = are i (omega arith) (omega (arith, less, high))
