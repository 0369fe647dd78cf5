-- Of each object it can be decided what going through it finds.
use Rattle.std.specs.Prelude.{◌≡◌, ◌≢◌, ◌⊎◌, ◌<◌, ℕ, zero, suc, ◌+◌, ◌-◌, ◌*◌, ◌/◌, ◌%◌, true, false, List, [], ◌∷◌, ◌++◌, length, take, drop, slice_get, map as list_map, Option, Some, None}
use Rattle.std.specs.Option.{option_map_or}
use Rattle.std.proofs.Common.{refl, sym, ◌∙◌, ap, subst, inl, inr, arith, length-append}
use Rattle.std.proofs.lemmas.Bool.{cases_Bool, cases_order}
use Rattle.std.proofs.lemmas.Option.{slice_get_within}
use Rattle.volume_terms.specs.laws.List.{same_or_not, get_push, slice_get_there}
use Rattle.page_tags.specs.Headers.{Fields, IsHeader, IsBytes, MayBeSet, is_present}
use Rattle.page_tags.specs.laws.Header.{header_or_first_fault}
use Rattle.page_tags.specs.Slots.{Entry}
use Rattle.flash_tree.specs.laws.TreeSlot.{tree_slot_or_none}
use Rattle.page_tags.specs.declared.header.HeaderFault.{HeaderFault}
use Rattle.page_tags.specs.declared.header.ObjectKind.{ObjectKind}
use Rattle.page_tags.specs.declared.header.ObjectKind.TheVariants as kinds
use Rattle.volume_terms.specs.Sizes.{Sizes, page_slots}
use Rattle.posix_profile.specs.State.{Name}
use Rattle.flash_tree.specs.Tree.{NewestMap, IsSingle, HasHeader, SlotIs}
use Rattle.flash_tree.specs.Mount.{IsDamaged, wrong_by, HasNone, HasHeaderFault, HasChunks, LacksChunk, AreSlots, LacksSlots, Finding, Stops, Leads, Finds}
use Rattle.flash_tree.specs.Tree.{IsPageSize}
use Rattle.flash_tree.specs.laws.NewestExists.{IsStated, all_or_one}

-- a list of what there is at each place below n
pub listed : {A : Type 0} (P : ℕ → A → Type 0) (n : ℕ) → ((i : ℕ) → i < n → (x : A) × P i x)
    → (xs : List A) × (length xs ≡ n) × ((i : ℕ) (x : A) → slice_get xs i ≡ Some x → P i x)
listed P zero each = ([], refl, λ i x is. let two : None ≡ Some x = is in absurd cc)
listed {A} P (suc n) each =
    let rest = listed P n (λ i lt. each i (omega arith)) in
    let last = each n (omega arith) in (
      rest.0 ++ last.0 ∷ [],
      omega (arith, length-append rest.0 (last.0 ∷ []), rest.1),
      λ i x is. elim (get_push rest.0 last.0 i x is) [
        | inl there ↦ rest.2 i x there.1
        | inr (at, same) ↦ let here : n ≡ i = omega (arith, at, rest.1) in subst (λ j. P j x) here (subst (P n) (sym same) last.1)
      ],
    )

module _ (z : Sizes) (size : IsPageSize z.page_bytes) (m : NewestMap) (single : IsSingle m)
    (reported : (o c : ℕ) → ((page : List ℕ) × m o c page) ⊎ HasNone m o c)
    (sized : (o c : ℕ) (page : List ℕ) → m o c page → (length page ≡ z.page_bytes) × IsBytes page) (o : ℕ) where
  -- no header, a fault, or a header
  pub header_reported : HasNone m o 0 ⊎ ((fault : HeaderFault) × HasHeaderFault m o fault) ⊎ ((f : Fields) × HasHeader z m o f)
  header_reported = elim (reported o 0) [
    | inr none ↦ inl none
    | inl (page, there) ↦
        let fits = sized o 0 page there in
        elim (header_or_first_fault page (omega (arith, fits.0, size.least)) fits.1) [
          | inl (f, of) ↦ inr (inr (f, (subst (m o 0) of.encodes there, subst (λ d. IsHeader d f) fits.0 of.valid)))
          | inr (fault, first) ↦ inr (inl (fault, (page, there, first)))
        ]
  ]

  -- ---- a file's chunks

  abbrev Chunk : Fields → ℕ → Type 0
  Chunk f i = is_present f.bits (1 + i) ≡ true → (page : List ℕ) × m o (1 + i) page

  chunk_reported : (f : Fields) (i : ℕ) → IsStated (Chunk f i)
  chunk_reported f i = elim (cases_Bool (is_present f.bits (1 + i))) [
    | inr absent ↦ inl (λ present. let two : true ≡ false = sym present ∙ absent in absurd cc)
    | inl present ↦ elim (reported o (1 + i)) [ inl there ↦ inl (λ p. there) | inr none ↦ inr (λ has. let page = has present in none page.0 page.1) ]
  ]

  chunk_lacks : (f : Fields) (i : ℕ) → (Chunk f i → ⊥) → LacksChunk m o f
  chunk_lacks f i not = elim (cases_Bool (is_present f.bits (1 + i))) [
    | inr absent ↦ absurd (not (λ present. let two : true ≡ false = sym present ∙ absent in absurd cc))
    | inl present ↦ elim (reported o (1 + i)) [ inl there ↦ absurd (not (λ p. there)) | inr none ↦ (1 + i, omega arith, present, none) ]
  ]

  chunks_reported : (f : Fields) → IsHeader z.page_bytes f → f.kind ≡ kinds.File → HasChunks m o f ⊎ LacksChunk m o f
  chunks_reported f valid file = elim (all_or_one (Chunk f) (chunk_reported f) ((f.length + z.page_bytes - 1) / z.page_bytes)) [
    | inr (i, lt, not) ↦ inr (chunk_lacks f i not)
    | inl all ↦ inl (λ c some present.
        let may : MayBeSet z.page_bytes kinds.File f.length c = subst (λ (kind : ObjectKind). MayBeSet z.page_bytes kind f.length c) file (valid.within c some present) in
        let same : 1 + (c - 1) ≡ c = omega arith in
        let page = all (c - 1) (omega arith) (ap (is_present f.bits) same ∙ present) in
        (page.0, subst (λ n. m o n page.0) same page.1))
  ]

  -- ---- a directory's slots

  abbrev Slot : ℕ → Type 0
  Slot i = (entry : Entry) × SlotIs z m o i entry

  slot_reported : (i : ℕ) → IsStated (Slot i)
  slot_reported i = elim (reported o (1 + i / page_slots z)) [
    | inr none ↦ inr (λ slot. none slot.1.0 slot.1.1)
    | inl (page, there) ↦ elim (tree_slot_or_none (take 272 (drop (272 * (i % page_slots z)) page))) [
      | inl (entry, valid, is) ↦ inl (entry, (page, there, valid, is))
      | inr not ↦ inr (λ slot.
          let same : slot.1.0 ≡ page = single o (1 + i / page_slots z) _ _ slot.1.1 there in
          not slot.0 slot.1.2 (ap (λ (p : List ℕ). take 272 (drop (272 * (i % page_slots z)) p)) (sym same) ∙ slot.1.3))
    ]
  ]

  -- the name at a place
  abbrev name_at : List Entry → ℕ → Name
  name_at slots i = option_map_or (λ entry. entry.name) (slice_get slots i) []

  name_is : (slots : List Entry) (i : ℕ) (entry : Entry) → slice_get slots i ≡ Some entry → name_at slots i ≡ entry.name
  name_is slots i entry is = ap (λ (e : Option Entry). option_map_or (λ entry. entry.name) e []) is

  -- no earlier slot has the name
  abbrev Fresh : List Entry → ℕ → Type 0
  Fresh slots j = (i : ℕ) → i < j → name_at slots i ≢ name_at slots j

  differs : (slots : List Entry) (i j : ℕ) → IsStated (name_at slots i ≢ name_at slots j)
  differs slots i j = elim (same_or_not (name_at slots i) (name_at slots j)) [ inl same ↦ inr (λ ne. ne same) | inr ne ↦ inl ne ]

  fresh_reported : (slots : List Entry) (j : ℕ) → IsStated (Fresh slots j)
  fresh_reported slots j = elim (all_or_one (λ i. name_at slots i ≢ name_at slots j) (λ i. differs slots i j) j) [
    | inl all ↦ inl all
    | inr (i, lt, not) ↦ inr (λ fresh. not (fresh i lt))
  ]

  earlier : (slots : List Entry) (j : ℕ) → (Fresh slots j → ⊥) → (i : ℕ) × (i < j) × (name_at slots i ≡ name_at slots j)
  earlier slots j not = elim (all_or_one (λ i. name_at slots i ≢ name_at slots j) (λ i. differs slots i j) j) [
    | inl all ↦ absurd (not all)
    | inr (i, lt, same) ↦ elim (same_or_not (name_at slots i) (name_at slots j)) [ inl is ↦ (i, lt, is) | inr ne ↦ absurd (same ne) ]
  ]

  slots_reported : (n : ℕ) → ((slots : List Entry) × AreSlots z m o n slots) ⊎ LacksSlots z m o n
  slots_reported n = elim (all_or_one Slot slot_reported n) [
    | inr (i, lt, not) ↦ inr (inl (i, lt, λ entry slot. not (entry, slot)))
    | inl all ↦
        let l = listed (λ i entry. SlotIs z m o i entry) n all in
        elim (all_or_one (Fresh l.0) (fresh_reported l.0) n) [
          | inl fresh ↦ inl (
            l.0,
            record {
              size = sym l.1;
              each = l.2;
              once = λ i j a b x y same.
                  let names : name_at l.0 i ≡ name_at l.0 j = name_is l.0 i a x ∙ same ∙ sym (name_is l.0 j b y) in
                  let i_lt : i < length l.0 = slice_get_within l.0 i a x in
                  let j_lt : j < length l.0 = slice_get_within l.0 j b y in
                  elim (cases_order i j) [
                    | inl is ↦ is
                    | inr (inl lt) ↦ absurd (fresh j (omega (arith, l.1)) i lt names)
                    | inr (inr gt) ↦ absurd (fresh i (omega (arith, l.1)) j gt (sym names))
                  ];
            },
          )
          | inr (j, lt, not) ↦
              let e = earlier l.0 j not in
              let a = slice_get_there l.0 e.0 (omega (arith, l.1, e.1)) in
              let b = slice_get_there l.0 j (omega (arith, l.1)) in
              inr (inr (e.0, j, e.1, lt, a.0, b.0, l.2 e.0 a.0 a.1, l.2 j b.0 b.1, sym (name_is l.0 e.0 a.0 a.1) ∙ e.2 ∙ name_is l.0 j b.0 b.1))
        ]
  ]

  -- something is found
  pub some_finding : (finding : Finding) × Finds z m o finding
  some_finding = elim header_reported [
    | inl none ↦ (Stops IsDamaged, inl (refl, none))
    | inr (inl (fault, faulty)) ↦ (Stops (wrong_by fault), inr (inl (fault, faulty, refl)))
    | inr (inr (f, has)) ↦ go f has f.kind refl
  ] where
    go : (f : Fields) → HasHeader z m o f → (kind : ObjectKind) → f.kind ≡ kind → (finding : Finding) × Finds z m o finding
    go f has kinds.File is = elim (chunks_reported f has.1 is) [
      | inl chunks ↦ (Leads [], inl (f, has, is, chunks, refl))
      | inr lacks ↦ (Stops IsDamaged, inr (inr (refl, (f, has, inl (is, lacks)))))
    ]
    go f has kinds.Directory is = elim (slots_reported f.length) [
      | inl (slots, are) ↦ (Leads (list_map (λ entry. entry.object) slots), inr (f, has, is, slots, are, refl))
      | inr lacks ↦ (Stops IsDamaged, inr (inr (refl, (f, has, inr (is, lacks)))))
    ]
