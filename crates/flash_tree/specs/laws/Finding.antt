-- Going through a list of objects finds one thing of each, and so ends in one way.
use Rattle.std.specs.Prelude.{◌≡◌, ◌⊎◌, ℕ, ◌+◌, List, length, slice_get, map as list_map, Some}
use Rattle.std.proofs.Common.{refl, sym, ◌∙◌, ap, subst, inl, inr, arith}
use Rattle.std.proofs.lemmas.Option.{slice_get_within}
use Rattle.page_tags.specs.Headers.{Fields, IsHeader, IsHeaderOf, IsFirstFault, header_bytes}
use Rattle.page_tags.specs.laws.Header.{header_or_fault, one_first_fault}
use Rattle.page_tags.specs.Slots.{Entry}
use Rattle.page_tags.specs.declared.header.HeaderFault.{HeaderFault}
use Rattle.page_tags.specs.declared.header.ObjectKind.TheVariants as kinds
use Rattle.volume_terms.specs.Sizes.{Sizes}
use Rattle.volume_terms.specs.laws.List.{slice_get_there}
use Rattle.flash_tree.specs.Tree.{IsPageSize, NewestMap, IsSingle, HasHeader}
use Rattle.volume_terms.specs.laws.Same.{same_lists}
use Rattle.flash_tree.specs.laws.OneTree.{one_header, one_slot}
use Rattle.flash_tree.specs.Mount.{Wrong, wrong_by, HasHeaderFault, HasChunks, LacksChunk, AreSlots, LacksSlots, Finding, Stops, Leads, IsFileThere, IsDirectoryThere, LacksContent, Finds, with_new, ListEnd, Wrongly, GoesThrough, ends, stops, goes}

-- a header takes 32 bytes and its presence bits
pub length-header_bytes : (f : Fields) → length (header_bytes f) ≡ 32 + length f.bits
unfolding header_bytes
length-header_bytes f = omega arith

-- so it fills a page of its size
pub fills_page : (d : ℕ) (f : Fields) → IsPageSize d → IsHeader d f → length (header_bytes f) ≡ d
fills_page d f size valid = length-header_bytes f ∙ omega (arith, valid.room, size.least)

module _ (z : Sizes) (size : IsPageSize z.page_bytes) (m : NewestMap) (single : IsSingle m) (o : ℕ) where
  pub same_header : (f g : Fields) → HasHeader z m o f → HasHeader z m o g → f ≡ g
  same_header f g a b = one_header z size.most m single o f g a b

  -- a page is not a header and at fault
  pub header_no_fault : (f : Fields) (fault : HeaderFault) → HasHeader z m o f → HasHeaderFault m o fault → ⊥
  header_no_fault f fault has (page, there, first) =
      let same : page ≡ header_bytes f = single o 0 _ _ there has.0 in
      let len : length (header_bytes f) ≡ z.page_bytes = fills_page z.page_bytes f size has.1 in
      let of : IsHeaderOf (header_bytes f) f = record { valid = subst (λ d. IsHeader d f) (sym len) has.1; encodes = refl } in
      let first_there : IsFirstFault (header_bytes f) fault = subst (λ p. IsFirstFault p fault) same first in
      header_or_fault (header_bytes f) f fault (omega (arith, len, size.most)) of first_there.here

  pub kinds_apart : (f g : Fields) → HasHeader z m o f → HasHeader z m o g → f.kind ≡ kinds.File → g.kind ≡ kinds.Directory → ⊥
  kinds_apart f g a b file directory =
      let two : kinds.File ≡ kinds.Directory = sym file ∙ ap (λ (x : Fields). x.kind) (same_header f g a b) ∙ directory in
      cc

  -- a directory has one list of slots
  pub same_slots : (n : ℕ) (s t : List Entry) → AreSlots z m o n s → AreSlots z m o n t → s ≡ t
  same_slots n s t a b = same_lists s t (sym a.size ∙ b.size) (λ i x y is is'. one_slot z size.most m single o i x y (a.each i x is) (b.each i y is'))

  chunks_or_none : (f : Fields) → HasChunks m o f → LacksChunk m o f → ⊥
  chunks_or_none f has (c, some, present, none) = let there = has c some present in none there.0 there.1

  slots_or_none : (n : ℕ) (slots : List Entry) → AreSlots z m o n slots → LacksSlots z m o n → ⊥
  slots_or_none n slots are (inl (i, lt, none)) =
      let there = slice_get_there slots i (omega (arith, are.size)) in
      none there.0 (are.each i there.0 there.1)
  slots_or_none n slots are (inr (i, j, before, lt, a, b, a_there, b_there, same)) =
      let x = slice_get_there slots i (omega (arith, are.size)) in
      let y = slice_get_there slots j (omega (arith, are.size)) in
      let x_is : x.0 ≡ a = one_slot z size.most m single o i x.0 a (are.each i x.0 x.1) a_there in
      let y_is : y.0 ≡ b = one_slot z size.most m single o j y.0 b (are.each j y.0 y.1) b_there in
      let names : x.0.name ≡ y.0.name = ap (λ (e : Entry). e.name) x_is ∙ same ∙ ap (λ (e : Entry). e.name) (sym y_is) in
      let one : i ≡ j = are.once i j x.0 y.0 x.1 y.1 names in
      omega arith

  content_or_not : (named : List ℕ) → IsFileThere z m o named ⊎ IsDirectoryThere z m o named → LacksContent z m o → ⊥
  content_or_not named (inl (f, has, file, chunks, none)) (g, has', inl (file', lacks)) =
      chunks_or_none f chunks (subst (LacksChunk m o) (sym (same_header f g has has')) lacks)
  content_or_not named (inl (f, has, file, chunks, none)) (g, has', inr (directory, lacks)) = kinds_apart f g has has' file directory
  content_or_not named (inr (f, has, directory, slots, are, is)) (g, has', inl (file, lacks)) = kinds_apart g f has' has file directory
  content_or_not named (inr (f, has, directory, slots, are, is)) (g, has', inr (directory', lacks)) =
      slots_or_none f.length slots are (subst (λ (x : Fields). LacksSlots z m o x.length) (sym (same_header f g has has')) lacks)

  pub header_there : (named : List ℕ) → IsFileThere z m o named ⊎ IsDirectoryThere z m o named → (f : Fields) × HasHeader z m o f
  header_there named (inl (f, has, kind, chunks, none)) = (f, has)
  header_there named (inr (f, has, kind, slots, are, is)) = (f, has)

  leads_or_stops : (named : List ℕ) (wrong : Wrong) → Finds z m o (Leads named) → Finds z m o (Stops wrong) → ⊥
  leads_or_stops named wrong leads (inl (is, none)) = let h = header_there named leads in none (header_bytes h.0) h.1.0
  leads_or_stops named wrong leads (inr (inl (fault, faulty, is))) = let h = header_there named leads in header_no_fault h.0 fault h.1 faulty
  leads_or_stops named wrong leads (inr (inr (is, lacks))) = content_or_not named leads lacks

  same_leads : (a b : List ℕ) → Finds z m o (Leads a) → Finds z m o (Leads b) → a ≡ b
  same_leads a b (inl (f, has, file, chunks, none)) (inl (g, has', file', chunks', none')) = none ∙ sym none'
  same_leads a b (inl (f, has, file, chunks, none)) (inr (g, has', directory, slots, are, is)) = absurd (kinds_apart f g has has' file directory)
  same_leads a b (inr (f, has, directory, slots, are, is)) (inl (g, has', file, chunks, none)) = absurd (kinds_apart g f has' has file directory)
  same_leads a b (inr (f, has, directory, slots, are, is)) (inr (g, has', directory', slots', are', is')) =
      let same : slots ≡ slots' = same_slots f.length slots slots' are (subst (λ (x : Fields). AreSlots z m o x.length slots') (sym (same_header f g has has')) are') in
      is ∙ ap (list_map (λ (e : Entry). e.object)) same ∙ sym is'

  pub same_fault : (a b : HeaderFault) → HasHeaderFault m o a → HasHeaderFault m o b → a ≡ b
  same_fault a b (page, there, first) (page', there', first') =
      let same : page ≡ page' = single o 0 _ _ there there' in
      one_first_fault page' a b (subst (λ p. IsFirstFault p a) same first) first'

  same_stops : (v w : Wrong) → Finds z m o (Stops v) → Finds z m o (Stops w) → v ≡ w
  same_stops v w (inl (is, none)) (inl (is', none')) = is ∙ sym is'
  same_stops v w (inl (is, none)) (inr (inl (fault, faulty, is'))) = absurd (none faulty.0 faulty.1)
  same_stops v w (inl (is, none)) (inr (inr (is', lacks))) = is ∙ sym is'
  same_stops v w (inr (inl (fault, faulty, is))) (inl (is', none)) = absurd (none faulty.0 faulty.1)
  same_stops v w (inr (inl (fault, faulty, is))) (inr (inl (fault', faulty', is'))) = is ∙ ap wrong_by (same_fault fault fault' faulty faulty') ∙ sym is'
  same_stops v w (inr (inl (fault, faulty, is))) (inr (inr (is', lacks))) = absurd (header_no_fault lacks.0 fault lacks.1 faulty)
  same_stops v w (inr (inr (is, lacks))) (inl (is', none)) = is ∙ sym is'
  same_stops v w (inr (inr (is, lacks))) (inr (inl (fault, faulty, is'))) = absurd (header_no_fault lacks.0 fault lacks.1 faulty)
  same_stops v w (inr (inr (is, lacks))) (inr (inr (is', lacks'))) = is ∙ sym is'

  -- one thing is found of an object
  pub one_finding : (a b : Finding) → Finds z m o a → Finds z m o b → a ≡ b
  one_finding (Leads a) (Leads b) x y = ap Leads (same_leads a b x y)
  one_finding (Leads a) (Stops w) x y = absurd (leads_or_stops a w x y)
  one_finding (Stops v) (Leads b) x y = absurd (leads_or_stops b v y x)
  one_finding (Stops v) (Stops w) x y = ap Stops (same_stops v w x y)

module _ (z : Sizes) (size : IsPageSize z.page_bytes) (m : NewestMap) (single : IsSingle m) where
  same_object : (list : List ℕ) (n o p : ℕ) → slice_get list n ≡ Some o → slice_get list n ≡ Some p → o ≡ p
  same_object list n o p is is' = let two : Some o ≡ Some p = sym is ∙ is' in cc

  -- going through the list ends in one way
  pub one_end : (list : List ℕ) (n : ℕ) (a b : ListEnd) → GoesThrough z m list n a → GoesThrough z m list n b → a ≡ b
  one_end list n a b (ends len) (ends len') = refl
  one_end list n a b (ends len) (stops o wrong is lookups) = let lt = slice_get_within list n o is in absurd (omega arith)
  one_end list n a b (ends len) (goes o named is lookups on) = let lt = slice_get_within list n o is in absurd (omega arith)
  one_end list n a b (stops o wrong is lookups) (ends len) = let lt = slice_get_within list n o is in absurd (omega arith)
  one_end list n a b (stops o wrong is lookups) (stops o' wrong' is' finds') =
      let same : Stops wrong ≡ Stops wrong' = one_finding z size m single o _ _ lookups (subst (λ p. Finds z m p (Stops wrong')) (same_object list n o' o is' is) finds') in
      let wrongs : wrong ≡ wrong' = cc in
      ap Wrongly wrongs
  one_end list n a b (stops o wrong is lookups) (goes o' named is' finds' on) =
      let same : Stops wrong ≡ Leads named = one_finding z size m single o _ _ lookups (subst (λ p. Finds z m p (Leads named)) (same_object list n o' o is' is) finds') in
      absurd cc
  one_end list n a b (goes o named is lookups on) (ends len) = let lt = slice_get_within list n o is in absurd (omega arith)
  one_end list n a b (goes o named is lookups on) (stops o' wrong is' finds') =
      let same : Leads named ≡ Stops wrong = one_finding z size m single o _ _ lookups (subst (λ p. Finds z m p (Stops wrong)) (same_object list n o' o is' is) finds') in
      absurd cc
  one_end list n a b (goes o named is lookups on) (goes o' named' is' finds' on') =
      let same : Leads named ≡ Leads named' = one_finding z size m single o _ _ lookups (subst (λ p. Finds z m p (Leads named')) (same_object list n o' o is' is) finds') in
      let names : named ≡ named' = cc in
      one_end (with_new list named) (n + 1) a b on (subst (λ l. GoesThrough z m (with_new list l) (n + 1) b) (sym names) on')
