-- A flash of a device has an answer.
use Rattle.std.specs.Prelude.{◌≡◌, ◌≢◌, ◌⊎◌, ◌<◌, ℕ, ◌+◌, ◌*◌, List, [], ◌∷◌, length}
use Rattle.std.proofs.Common.{refl, sym, ◌∙◌, ap, subst, inl, inr, arith}
use Rattle.std.proofs.lemmas.Bool.{cases_lt}
use Rattle.std.proofs.lemmas.Nat.{mul-add-lt, same_from_place}
use Rattle.nand_model.specs.Flash.{Flash, IsWithin, IsSized}
use Rattle.nand_model.specs.declared.geometry.Geometry.{Geometry}
use Rattle.page_tags.specs.Headers.{Fields, IsBytes}
use Rattle.page_tags.specs.declared.tag.Tag.{Tag}
use Rattle.page_tags.specs.declared.header.HeaderFault.{HeaderFault}
use Rattle.page_tags.specs.declared.header.HeaderFault.TheVariants as faults
use Rattle.page_tags.specs.declared.header.ObjectKind.{ObjectKind}
use Rattle.page_tags.specs.declared.header.ObjectKind.TheVariants as kinds
use Rattle.volume_terms.specs.Sizes.{Sizes, root_number}
use Rattle.flash_tree.specs.Groups.{HasTag}
use Rattle.flash_tree.specs.Newest.{Spot, Holds, IsNewest, HasNewest}
use Rattle.flash_tree.specs.laws.Newest.{one_newest}
use Rattle.flash_tree.specs.Tree.{NewestMap, IsSingle, HasHeader}
use Rattle.flash_tree.specs.Mount.{IsDamaged, IsNewer, HasNone, HasHeaderFault, Leads, Finds, ListEnd, Wrongly, Wholly, GoesThrough, sizes_of, IsVolume, Answer, NotAVolume, IsWrong, IsTreeOf, Answers}
use Rattle.flash_tree.proofs.AnswerLaws.{is_page_size}
use Rattle.flash_tree.specs.laws.Newest.{one_tag}
use Rattle.flash_tree.specs.laws.NewestReported.{newest_or_none, data_or_none, place_within}
use Rattle.flash_tree.proofs.FindingExists.{header_reported, some_finding}
use Rattle.flash_tree.specs.laws.WalkExists.{some_end}
use Rattle.flash_tree.specs.laws.WholeList.{IsWholeList, whole_list}
use Rattle.flash_tree.proofs.ContentExists.{content_there}
use Rattle.flash_tree.proofs.TwiceExists.{twice_reported}
use Rattle.flash_tree.proofs.TreeExists.{tree_objects, some_tree}
use Rattle.flash_tree.proofs.RoomExists.{room_reported}

module _ (g : Geometry) (flash : Flash) (within : IsWithin g.pages g.blocks flash) (sized : IsSized g.bytes flash) where
  abbrev m : NewestMap
  m = HasNewest flash

  abbrev z : ℕ → Sizes
  z spare = sizes_of g spare

  single : IsSingle m
  single = one_newest flash

  reported : (o c : ℕ) → ((page : List ℕ) × m o c page) ⊎ HasNone m o c
  reported o c = data_or_none flash o c g.pages g.blocks within

  fits : (o c : ℕ) (page : List ℕ) → m o c page → (length page ≡ g.bytes) × IsBytes page
  fits o c page h = let s = sized h.spot.block h.spot.page page _ h.stored in (s.0.len, s.0.each)

  header : (spare o : ℕ) → HasNone m o 0 ⊎ ((fault : HeaderFault) × HasHeaderFault m o fault) ⊎ ((f : Fields) × HasHeader (z spare) m o f)
  header spare o = header_reported (z spare) (is_page_size g) m single reported fits o

  -- ---- a number for the place of each header

  abbrev place_by : (o : ℕ) → ((s : Spot) × IsNewest flash o 0 s) ⊎ ((s : Spot) → Holds flash o 0 s → ⊥) → ℕ
  place_by o (inl (s, newest)) = s.block * g.pages + s.page
  place_by o (inr none) = 0

  abbrev place : ℕ → ℕ
  place o = place_by o (newest_or_none flash o 0 g.pages g.blocks within)

  placed : (spare o : ℕ) (f : Fields) → HasHeader (z spare) m o f → (s : Spot) × IsNewest flash o 0 s × (place o ≡ s.block * g.pages + s.page)
  placed spare o f has = go (newest_or_none flash o 0 g.pages g.blocks within) where
    go : (x : ((s : Spot) × IsNewest flash o 0 s) ⊎ ((s : Spot) → Holds flash o 0 s → ⊥)) → (s : Spot) × IsNewest flash o 0 s × (place_by o x ≡ s.block * g.pages + s.page)
    go (inl (s, newest)) = (s, newest, refl)
    go (inr none) = absurd (none has.0.spot has.0.newest.holds)

  place_below : (spare o : ℕ) (f : Fields) → HasHeader (z spare) m o f → place o < g.blocks * g.pages
  place_below spare o f has =
      let p = placed spare o f has in
      let in' = place_within flash o 0 g.pages g.blocks within p.0 p.1.holds in
      omega (arith, p.2, mul-add-lt p.0.block g.pages p.0.page g.blocks in'.0 in'.1)

  place_apart : (spare o q : ℕ) (f h : Fields) → HasHeader (z spare) m o f → HasHeader (z spare) m q h → o ≢ q → place o ≢ place q
  place_apart spare o q f h has has' ne same =
      let x = placed spare o f has in
      let y = placed spare q h has' in
      let x_in = place_within flash o 0 g.pages g.blocks within x.0 x.1.holds in
      let y_in = place_within flash q 0 g.pages g.blocks within y.0 y.1.holds in
      let at = same_from_place x.0.block x.0.page y.0.block y.0.page g.pages x_in.1 y_in.1 (sym x.2 ∙ same ∙ y.2) in
      let there : HasTag flash y.0.block y.0.page x.0.tag = subst (λ b. HasTag flash b y.0.page x.0.tag) at.0 (subst (λ p. HasTag flash x.0.block p x.0.tag) at.1 x.1.holds.has) in
      let tag : x.0.tag ≡ y.0.tag = one_tag flash y.0.block y.0.page x.0.tag y.0.tag there y.1.holds.has in
      ne (sym x.1.holds.object ∙ ap (λ (t : Tag). t.object) tag ∙ y.1.holds.object)

  -- ---- the answer

  -- of a volume
  volume_answer : (spare : ℕ) → IsVolume g m spare → (a : Answer) × Answers g flash a
  volume_answer spare volume = go (some_end (z spare) (is_page_size g) m single (λ o. some_finding (z spare) (is_page_size g) m single reported fits o)
      (g.blocks * g.pages) place (place_below spare) (place_apart spare) root_number) where
        with_tree : (list : List ℕ) → GoesThrough (z spare) m (root_number ∷ []) 0 (Wholly list) → IsWholeList (z spare) m root_number list → (a : Answer) × Answers g flash a
        with_tree list on whole = elim (twice_reported (z spare) (is_page_size g) m single (header spare) root_number list whole) [
          | inl twice ↦ (IsWrong IsDamaged, inr (inr (inl (spare, volume, refl, list, on, twice))))
          | inr once ↦
              let content = λ (o : ℕ) (named : List ℕ) (lookups : Finds (z spare) m o (Leads named)). content_there (z spare) m (λ o c page has. (fits o c page has).1) o named lookups in
              let shown = some_tree (z spare) (is_page_size g) m single content volume.fields volume.has volume.kind list whole once in
              let objects = tree_objects (z spare) (is_page_size g) m single content volume.fields volume.has volume.kind list whole once in
              elim (room_reported g flash within spare (header spare) objects) [
                | inl room ↦ (IsTreeOf spare objects, (volume, shown, room))
                | inr full ↦ (IsWrong IsDamaged, inr (inr (inr (spare, volume, refl, objects, shown, full))))
              ]
        ]

        go : ((end : ListEnd) × GoesThrough (z spare) m (root_number ∷ []) 0 end) → (a : Answer) × Answers g flash a
        go (Wrongly wrong, on) = (IsWrong wrong, inr (inl (spare, volume, on)))
        go (Wholly list, on) = with_tree list on (whole_list (z spare) m root_number list on)

  -- of a root with a header
  root_answer : (f : Fields) → HasHeader (z 0) m root_number f → (kind : ObjectKind) → f.kind ≡ kind → (a : Answer) × Answers g flash a
  root_answer f has kinds.File is = (IsWrong IsDamaged, inl (inr (refl, f, has, inl is)))
  root_answer f has kinds.Directory is = elim (cases_lt g.blocks (f.spare + 4)) [
    | inl within_limit ↦ (IsWrong IsDamaged, inl (inr (refl, f, has, inr within_limit)))
    | inr room ↦ volume_answer f.spare (record { fields = f; has = has; kind = is; spare_is = refl; room = room })
  ]

  -- of a root with a fault
  fault_answer : (fault : HeaderFault) → HasHeaderFault m root_number fault → (a : Answer) × Answers g flash a
  fault_answer faults.Magic faulty = (NotAVolume, inr faulty)
  fault_answer (faults.Newer format) faulty = (IsWrong (IsNewer format), inl (inl (faults.Newer format, faulty, (λ e. cc), refl)))
  fault_answer faults.Kind faulty = (IsWrong IsDamaged, inl (inl (faults.Kind, faulty, (λ e. cc), refl)))
  fault_answer faults.Length faulty = (IsWrong IsDamaged, inl (inl (faults.Length, faulty, (λ e. cc), refl)))
  fault_answer faults.Pad faulty = (IsWrong IsDamaged, inl (inl (faults.Pad, faulty, (λ e. cc), refl)))

  -- there is an answer
  pub some_answer : (a : Answer) × Answers g flash a
  some_answer = elim (header 0 root_number) [
    | inl none ↦ (NotAVolume, inl none)
    | inr (inl (fault, faulty)) ↦ fault_answer fault faulty
    | inr (inr (f, has)) ↦ root_answer f has f.kind refl
  ]
