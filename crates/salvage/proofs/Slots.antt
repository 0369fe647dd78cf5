-- The slots of a directory, one after the other.
use Rattle.std.specs.Prelude.{◌≡◌, ◌≢◌, ◌<◌, ◌≤◌, ℕ, zero, suc, ◌+◌, ◌*◌, ◌/◌, ◌%◌, List, [], ◌∷◌, ◌++◌, take, drop, Some, None}
use Rattle.std.proofs.Common.{refl, sym, ◌∙◌, ap, subst, inl, inr, arith}
use Rattle.std.proofs.lemmas.List.{map_push}
use Rattle.std.proofs.lemmas.Nat.{div-mul-add, mod-mul-add}
use Rattle.page_tags.specs.Slots.{Entry, slot_bytes}
use Rattle.flash_tree.specs.Slots.{IsTreeSlot}
use Rattle.flash_tree.specs.Tree.{NewestMap, SlotIs}
use Rattle.pages.specs.Maps.{PageMap, has}
use Rattle.posix_profile.specs.State.{Name}
use Rattle.volume_terms.specs.Sizes.{Sizes, page_slots}
use Rattle.salvage.specs.Slots.{TakesSlot}
use Rattle.salvage.specs.Reported.{AreRead, no_slots, reads, lacks, ListsSlots, pairs_in, pairs_of}
use Rattle.salvage.specs.declared.reported.Listing.{Listing}
use Rattle.salvage.specs.declared.reported.SalvagedName.{SalvagedName}

-- the same under other names
pub read_as : (z : Sizes) (m : NewestMap) (d i j : ℕ) (ps qs : List (Name × ℕ)) (a b : ℕ) → i ≡ j → ps ≡ qs → a ≡ b → AreRead z m d i ps a → AreRead z m d j qs b
read_as z m d i j ps qs a b p q r h = subst (λ k. AreRead z m d k qs b) p (subst (λ (xs : List (Name × ℕ)). AreRead z m d i xs b) q (subst (λ n. AreRead z m d i ps n) r h))

module _ (z : Sizes) (m : PageMap) (d c : ℕ) where
  -- a slot of a chunk's page is one of the directory
  slot_of_page : (k : ℕ) (e : Entry) (page : List ℕ) → k < page_slots z → m d (1 + c) ≡ Some page → IsTreeSlot e → take 272 (drop (272 * k) page) ≡ slot_bytes e
      → SlotIs z (has m) d (c * page_slots z + k) e
  slot_of_page k e page less is valid bytes =
      let n : ℕ = page_slots z in
      let chunk : (c * n + k) / n ≡ c = div-mul-add c n k less in
      let place : (c * n + k) % n ≡ k = mod-mul-add c n k less in
      (page, subst (λ j. m d (1 + j) ≡ Some page) (sym chunk) is, valid, ap (λ j. take 272 (drop (272 * j) page)) place ∙ bytes)

  -- bytes of a page that are no slot are none of the directory's
  no_slot_of_page : (k : ℕ) (page : List ℕ) → k < page_slots z → m d (1 + c) ≡ Some page
      → ((e : Entry) → IsTreeSlot e → take 272 (drop (272 * k) page) ≢ slot_bytes e) → (e : Entry) → SlotIs z (has m) d (c * page_slots z + k) e → ⊥
  no_slot_of_page k page less is not e s =
      let n : ℕ = page_slots z in
      let chunk : (c * n + k) / n ≡ c = div-mul-add c n k less in
      let place : (c * n + k) % n ≡ k = mod-mul-add c n k less in
      let two : Some page ≡ Some s.0 = sym is ∙ subst (λ j. m d (1 + j) ≡ Some s.0) chunk s.1 in
      let same : page ≡ s.0 = cc in
      not e s.2 (ap (λ (xs : List ℕ). take 272 (drop (272 * k) xs)) same ∙ ap (λ j. take 272 (drop (272 * j) s.0)) (sym place) ∙ s.3)

  -- where a chunk has no page, none of its slots is there
  no_page : (k : ℕ) → k < page_slots z → m d (1 + c) ≡ None → (e : Entry) → SlotIs z (has m) d (c * page_slots z + k) e → ⊥
  no_page k less is e s =
      let n : ℕ = page_slots z in
      let chunk : (c * n + k) / n ≡ c = div-mul-add c n k less in
      let two : None ≡ Some s.0 = sym is ∙ subst (λ j. m d (1 + j) ≡ Some s.0) chunk s.1 in
      cc

  pub one_more : (k : ℕ) (page bytes : List ℕ) (old new : Listing) → k < page_slots z → m d (1 + c) ≡ Some page → bytes ≡ take 272 (drop (272 * k) page) → TakesSlot bytes old new
      → ListsSlots z (has m) d (c * page_slots z + k) old → ListsSlots z (has m) d (c * page_slots z + (k + 1)) new
  one_more k page bytes old new less at is (inl (e, t)) h =
      let slot = slot_of_page k e page less at t.valid (sym is ∙ t.are) in
      read_as z (has m) d (c * page_slots z + k + 1) (c * page_slots z + (k + 1)) (pairs_of old ++ (e.name, e.object) ∷ []) (pairs_of new) old.lost new.lost (omega arith) (sym t.pairs) (sym t.lost) (reads e h slot)
  one_more k page bytes old new less at is (inr t) h =
      let not = no_slot_of_page k page less at (λ e valid same. t.no_slot e valid (is ∙ same)) in
      read_as z (has m) d (c * page_slots z + k + 1) (c * page_slots z + (k + 1)) (pairs_of old) (pairs_of new) (old.lost + 1) new.lost (omega arith) (sym t.pairs) (sym t.lost) (lacks h not)

  -- where a chunk has no page, its slots are lost
  pub all_lost : (count : ℕ) (ps : List (Name × ℕ)) (lost : ℕ) → count ≤ page_slots z → m d (1 + c) ≡ None
      → AreRead z (has m) d (c * page_slots z) ps lost → AreRead z (has m) d (c * page_slots z + count) ps (lost + count)
  all_lost zero ps lost within_limit is h = read_as z (has m) d (c * page_slots z) (c * page_slots z + zero) ps ps lost (lost + zero) (omega arith) refl (omega arith) h
  all_lost (suc k) ps lost within_limit is h =
      let before = all_lost k ps lost (omega (arith, within_limit)) is h in
      read_as z (has m) d (c * page_slots z + k + 1) (c * page_slots z + suc k) ps ps (lost + k + 1) (lost + suc k) (omega arith) refl (omega arith) (lacks before (no_page k (omega (arith, within_limit)) is))

-- a slot adds one lost at most
pub lost_one : (bytes : List ℕ) (old new : Listing) → TakesSlot bytes old new → new.lost ≤ old.lost + 1
lost_one bytes old new (inl (e, t)) = let same = t.lost in omega (arith, same)
lost_one bytes old new (inr t) = let same = t.lost in omega (arith, same)

-- no slot was gone through
pub none_yet : (z : Sizes) (m : NewestMap) (d n : ℕ) (ps : List (Name × ℕ)) (lost : ℕ) → 0 ≡ n → ps ≡ [] → lost ≡ 0 → AreRead z m d n ps lost
none_yet z m d n ps lost count pairs none = read_as z m d 0 n [] ps 0 lost count (sym pairs) (sym none) no_slots

-- a name more is a pair more
pub pair_more : (names more : List SalvagedName) (new : SalvagedName) (name : Name) → more ≡ names ++ new ∷ [] → new.name.items ≡ name → pairs_in more ≡ pairs_in names ++ (name, new.object) ∷ []
pair_more names more new name is same =
    ap pairs_in is ∙ map_push (λ (n : SalvagedName). (n.name.items, n.object)) names new ∙ ap (λ (xs : Name). pairs_in names ++ (xs, new.object) ∷ []) same
