-- It can be decided whether there is room to go on with a tree.
use Rattle.std.specs.Prelude.{◌≡◌, ◌⊎◌, ◌<◌, ◌≤◌, ℕ, zero, suc, ◌+◌, ◌-◌, ◌/◌, true, false, List, [], ◌∷◌, ◌++◌, length, take, slice_get, unwrap_or, Option, Some, None}
use Rattle.std.specs.FinMap as map
use Rattle.std.proofs.Common.{refl, sym, ◌∙◌, ap, subst, inl, inr, arith, length-take}
use Rattle.std.proofs.lemmas.Bool.{cases_Bool, cases_eq, cases_lt}
use Rattle.std.proofs.lemmas.Option.{slice_get_within}
use Rattle.nand_model.specs.Flash.{Flash, IsWithin}
use Rattle.nand_model.specs.declared.geometry.Geometry.{Geometry}
use Rattle.page_tags.specs.declared.tag.Tag.{Tag}
use Rattle.page_tags.specs.Headers.{Fields, is_present}
use Rattle.page_tags.specs.declared.header.HeaderFault.{HeaderFault}
use Rattle.page_tags.specs.declared.header.ObjectKind.{ObjectKind}
use Rattle.page_tags.specs.declared.header.ObjectKind.TheVariants as kinds
use Rattle.volume_terms.specs.Sizes.{Sizes, page_slots, capacity}
use Rattle.volume_terms.specs.laws.List.{push_before, push_last, get_push, slice_get_there}
use Rattle.posix_profile.specs.State.{Object, Objects}
use Rattle.posix_profile.specs.Charge.{charge}
use Rattle.flash_tree.specs.Groups.{HasTag}
use Rattle.flash_tree.specs.Newest.{Spot, IsNewest, HasNewest}
use Rattle.flash_tree.specs.laws.Newest.{one_spot, one_newest}
use Rattle.flash_tree.specs.Tree.{HasHeader, LooksUp, InFootprint}
use Rattle.flash_tree.specs.Mount.{HasNone, HasHeaderFault, sizes_of, bad_blocks, IsFree, HasFree, HasRoom}
use Rattle.flash_tree.specs.laws.Finding.{same_header, header_no_fault}
use Rattle.flash_tree.specs.Tree.{IsPageSize}
use Rattle.flash_tree.proofs.FindingExists.{listed}
use Rattle.flash_tree.proofs.AnswerLaws.{is_page_size}
use Rattle.flash_tree.specs.laws.NewestExists.{IsStated, all_or_one, tag_at}
use Rattle.flash_tree.specs.laws.Newest.{one_tag}
use Rattle.flash_tree.specs.laws.NewestReported.{newest_or_none, place_within}
use Rattle.flash_tree.proofs.TwiceExists.{both_reported, same_reported}
use Rattle.flash_tree.specs.laws.WalkExists.{pigeonhole}
use Rattle.flash_tree.specs.laws.WholeList.{IsOn}

-- that one number below n is so can be decided
pub below_reported : (P : ℕ → Type 0) → ((i : ℕ) → IsStated (P i)) → (n : ℕ) → IsStated ((i : ℕ) × (i < n) × P i)
below_reported P reported n = elim (all_or_one (λ i. P i → ⊥) (λ i. elim (reported i) [ inl p ↦ inr (λ not. not p) | inr not ↦ inl not ]) n) [
  | inl none ↦ inr (λ f. none f.0 f.1 f.2)
  | inr (i, lt, some) ↦ elim (reported i) [ inl p ↦ inl (i, lt, p) | inr not ↦ absurd (some not) ]
]

kind_reported : (a b : ObjectKind) → IsStated (a ≡ b)
kind_reported kinds.File kinds.File = inl refl
kind_reported kinds.File kinds.Directory = inr (λ e. cc)
kind_reported kinds.Directory kinds.File = inr (λ e. cc)
kind_reported kinds.Directory kinds.Directory = inl refl

at_least_reported : (a b : ℕ) → IsStated (a ≤ b)
at_least_reported a b = elim (cases_lt b a) [ inl lt ↦ inr (λ le. omega arith) | inr ge ↦ inl ge ]

present_reported : (bits : List ℕ) (c : ℕ) → IsStated (is_present bits c ≡ true)
present_reported bits c = elim (cases_Bool (is_present bits c)) [ inl is ↦ inl is | inr not ↦ inr (λ is. let two : true ≡ false = sym is ∙ not in cc) ]

looks_reported : (z : Sizes) (f : Fields) (c : ℕ) → IsStated (LooksUp z f c)
looks_reported z f c = three (same_reported c 0)
    (three_reported (kind_reported f.kind kinds.File) (at_least_reported 1 c) (present_reported f.bits c))
    (both_reported _ _ (kind_reported f.kind kinds.Directory) (below_reported (λ i. c ≡ 1 + i / page_slots z) (λ i. same_reported c (1 + i / page_slots z)) f.length)) where
      three : {P Q R : Type 0} → IsStated P → IsStated Q → IsStated R → IsStated (P ⊎ Q ⊎ R)
      three (inl p) q r = inl (inl p)
      three (inr np) (inl q) r = inl (inr (inl q))
      three (inr np) (inr nq) (inl r) = inl (inr (inr r))
      three (inr np) (inr nq) (inr nr) = inr (λ x. elim x [ inl p ↦ np p | inr (inl q) ↦ nq q | inr (inr r) ↦ nr r ])

      three_reported : {P Q R : Type 0} → IsStated P → IsStated Q → IsStated R → IsStated (P × Q × R)
      three_reported (inl p) (inl q) (inl r) = inl (p, q, r)
      three_reported (inr np) q r = inr (λ x. np x.0)
      three_reported (inl p) (inr nq) r = inr (λ x. nq x.1)
      three_reported (inl p) (inl q) (inr nr) = inr (λ x. nr x.2)

module _ (g : Geometry) (flash : Flash) (within : IsWithin g.pages g.blocks flash) (z : Sizes) (size : IsPageSize z.page_bytes)
    (header : (o : ℕ) → HasNone (HasNewest flash) o 0 ⊎ ((fault : HeaderFault) × HasHeaderFault (HasNewest flash) o fault) ⊎ ((f : Fields) × HasHeader z (HasNewest flash) o f))
    (objects : Objects) where
  -- whether a key is looked up for the tree
  footprint_reported : (o c : ℕ) → IsStated (InFootprint z (HasNewest flash) objects o c)
  footprint_reported o c = go (map.get objects o) refl (header o) where
    go : (x : Option Object) → map.get objects o ≡ x → (HasNone (HasNewest flash) o 0 ⊎ ((fault : HeaderFault) × HasHeaderFault (HasNewest flash) o fault) ⊎ ((f : Fields) × HasHeader z (HasNewest flash) o f))
        → IsStated (InFootprint z (HasNewest flash) objects o c)
    go None got h = inr (λ i. let two : None ≡ Some i.object = sym got ∙ i.there in cc)
    go (Some x) got (inl none) = inr (λ i. none _ i.has.0)
    go (Some x) got (inr (inl (fault, faulty))) = inr (λ i. header_no_fault z size (HasNewest flash) (one_newest flash) o i.fields fault i.has faulty)
    go (Some x) got (inr (inr (f, has))) = elim (looks_reported z f c) [
      | inl looks ↦ inl (record { object = x; there = got; fields = f; has = has; looks = looks })
      | inr not ↦ inr (λ i. not (subst (λ y. LooksUp z y c) (same_header z size (HasNewest flash) (one_newest flash) o i.fields f i.has has) i.looks))
    ]

  -- a page of the block holds the newest page of a key of the tree
  record HoldsOne (b p : ℕ) : Type 0 where
    object : ℕ
    chunk : ℕ
    spot : Spot
    looked : InFootprint z (HasNewest flash) objects object chunk
    newest : IsNewest flash object chunk spot
    block : spot.block ≡ b
    page : spot.page ≡ p

  tag_here : (b p : ℕ) (h : HoldsOne b p) → HasTag flash b p h.spot.tag
  tag_here b p h = subst (λ k. HasTag flash k p h.spot.tag) h.block (subst (λ l. HasTag flash h.spot.block l h.spot.tag) h.page h.newest.holds.has)

  holds_one_reported : (b p : ℕ) → IsStated (HoldsOne b p)
  holds_one_reported b p = elim (tag_at flash b p) [
    | inr none ↦ inr (λ h. none h.spot.tag (tag_here b p h))
    | inl (t, has) ↦ elim (newest_or_none flash t.object t.chunk g.pages g.blocks within) [
      | inr nobody ↦ inr (λ h. nobody h.spot (key_of t has h).holds)
      | inl (s, newest) ↦ elim (both_reported _ _ (same_reported s.block b) (same_reported s.page p)) [
        | inr elsewhere ↦ inr (λ h. let at = one_spot flash t.object t.chunk s h.spot newest (key_of t has h) in elsewhere (ap (λ (x : Spot). x.block) at ∙ h.block, ap (λ (x : Spot). x.page) at ∙ h.page))
        | inl (block, page) ↦ elim (footprint_reported t.object t.chunk) [
          | inl looked ↦ inl (record { object = t.object; chunk = t.chunk; spot = s; looked = looked; newest = newest; block = block; page = page })
          | inr not ↦ inr (λ h.
              let tag : h.spot.tag ≡ t = one_tag flash b p h.spot.tag t (tag_here b p h) has in
              let o : h.object ≡ t.object = sym h.newest.holds.object ∙ ap (λ (u : Tag). u.object) tag in
              let c : h.chunk ≡ t.chunk = sym h.newest.holds.chunk ∙ ap (λ (u : Tag). u.chunk) tag in
              not (subst (InFootprint z (HasNewest flash) objects t.object) c (subst (λ k. InFootprint z (HasNewest flash) objects k h.chunk) o h.looked)))
        ]
      ]
    ]
  ] where
    key_of : (t : Tag) → HasTag flash b p t → (h : HoldsOne b p) → IsNewest flash t.object t.chunk h.spot
    key_of t has h =
        let tag : h.spot.tag ≡ t = one_tag flash b p h.spot.tag t (tag_here b p h) has in
        let o : h.object ≡ t.object = sym h.newest.holds.object ∙ ap (λ (u : Tag). u.object) tag in
        let c : h.chunk ≡ t.chunk = sym h.newest.holds.chunk ∙ ap (λ (u : Tag). u.chunk) tag in
        subst (λ k. IsNewest flash t.object k h.spot) c (subst (λ k. IsNewest flash k h.chunk h.spot) o h.newest)

  -- whether a block is free
  free_reported : (b : ℕ) → IsStated (IsFree g flash z objects b)
  free_reported b = elim (cases_lt b g.blocks) [
    | inr past ↦ inr (λ free. let lt = free.within in omega arith)
    | inl lt ↦ elim (cases_Bool (flash.bad b)) [
      | inl bad ↦ inr (λ free. let two : true ≡ false = sym bad ∙ free.good in cc)
      | inr good ↦ elim (below_reported (HoldsOne b) (holds_one_reported b) g.pages) [
        | inl (p, within_limit, h) ↦ inr (λ free. free.apart h.object h.chunk h.spot h.looked h.newest h.block)
        | inr none ↦ inl (record {
          within = lt;
          good = good;
          apart = λ o c s looked newest same.
              none (
                s.page,
                (place_within flash o c g.pages g.blocks within s newest.holds).1,
                record { object = o; chunk = c; spot = s; looked = looked; newest = newest; block = same; page = refl },
              );
        })
      ]
    ]
  ]

  -- the free blocks below n
  record AreFree (n : ℕ) (bs : List ℕ) : Type 0 where
    each : (i b : ℕ) → slice_get bs i ≡ Some b → (b < n) × IsFree g flash z objects b
    all : (b : ℕ) → b < n → IsFree g flash z objects b → IsOn bs b
    once : (i j b : ℕ) → slice_get bs i ≡ Some b → slice_get bs j ≡ Some b → i ≡ j

  free_below : (n : ℕ) → (bs : List ℕ) × AreFree n bs
  free_below zero = ([], record { each = λ i b is. absurd cc; all = λ b lt free. absurd (omega arith); once = λ i j b is is'. absurd cc })
  free_below (suc n) = more (free_below n) (free_reported n) where
    more : ((bs : List ℕ) × AreFree n bs) → IsStated (IsFree g flash z objects n) → (bs : List ℕ) × AreFree (suc n) bs
    more (bs, are) (inr not) = (
      bs,
      record {
        each = λ i b is. let e = are.each i b is in (omega (arith, e.0), e.1);
        all = λ b lt free. elim (cases_eq b n) [ inl same ↦ absurd (not (subst (IsFree g flash z objects) same free)) | inr ne ↦ are.all b (omega arith) free ];
        once = are.once;
      },
    )
    more (bs, are) (inl free) = (
      bs ++ n ∷ [],
      record {
        each = λ i b is. elim (get_push bs n i b is) [
          | inl there ↦ let e = are.each i b there.1 in (omega (arith, e.0), e.1)
          | inr (at, same) ↦ (omega arith, subst (IsFree g flash z objects) (sym same) free)
        ];
        all = λ b lt is_free. elim (cases_eq b n) [
          | inl same ↦ (length bs, push_last bs n ∙ ap Some (sym same))
          | inr ne ↦ let at = are.all b (omega arith) is_free in (at.0, push_before bs n at.0 b at.1)
        ];
        once = λ i j b is is'. elim (get_push bs n i b is) [
          | inl there ↦ elim (get_push bs n j b is') [
            | inl there' ↦ are.once i j b there.1 there'.1
            | inr (at', same') ↦ let e = are.each i b there.1 in absurd (omega (arith, e.0))
          ]
          | inr (at, same) ↦ elim (get_push bs n j b is') [
            | inl there' ↦ let e = are.each j b there'.1 in absurd (omega (arith, e.0))
            | inr (at', same') ↦ at ∙ sym at'
          ]
        ];
      },
    )

  taken : (n : ℕ) (bs : List ℕ) (i b : ℕ) → slice_get (take n bs) i ≡ Some b → slice_get bs i ≡ Some b
  taken zero bs i b is = absurd cc
  taken (suc n) [] i b is = absurd cc
  taken (suc n) (x ∷ bs) zero b is = is
  taken (suc n) (x ∷ bs) (suc i) b is = taken n bs i b is

  -- whether so many blocks are free
  pub count_reported : (count : ℕ) → IsStated (HasFree g flash z objects count)
  count_reported count = go (free_below g.blocks) where
    -- more free blocks than there are have no places among them
    too_many : (bs : List ℕ) → AreFree g.blocks bs → length bs < count → HasFree g flash z objects count → ⊥
    too_many bs are within_limit h =
        let l = listed (λ i p. (b : ℕ) × (slice_get h.blocks i ≡ Some b) × (slice_get bs p ≡ Some b)) count (λ i lt.
        let b = slice_get_there h.blocks i (omega (arith, h.size)) in
        let free = h.each i b.0 b.1 in
        let at = are.all b.0 free.within free in
        (at.0, (b.0, b.1, at.1))) in
        pigeonhole (length bs) (λ i. unwrap_or (slice_get l.0 i) 0)
        (λ i lt.
        let p = slice_get_there l.0 i (omega (arith, l.1)) in
        let is : unwrap_or (slice_get l.0 i) 0 ≡ p.0 = ap (λ (x : Option ℕ). unwrap_or x 0) p.1 in
        let of = l.2 i p.0 p.1 in
        let lt' : p.0 < length bs = slice_get_within bs p.0 of.0 of.2 in
        omega arith)
        (λ i j before lt same.
        let p = slice_get_there l.0 i (omega (arith, l.1)) in
        let q = slice_get_there l.0 j (omega (arith, l.1)) in
        let one : p.0 ≡ q.0 = sym (ap (λ (x : Option ℕ). unwrap_or x 0) p.1) ∙ same ∙ ap (λ (x : Option ℕ). unwrap_or x 0) q.1 in
        let of = l.2 i p.0 p.1 in
        let of' = l.2 j q.0 q.1 in
        let two : Some of.0 ≡ Some of'.0 = sym of.2 ∙ ap (slice_get bs) one ∙ of'.2 in
        let block : of.0 ≡ of'.0 = cc in
        let place : i ≡ j = h.once i j of'.0 (of.1 ∙ ap Some block) of'.1 in
        omega arith)

    go : ((bs : List ℕ) × AreFree g.blocks bs) → IsStated (HasFree g flash z objects count)
    go (bs, are) = elim (cases_lt (length bs) count) [
      | inl within_limit ↦ inr (too_many bs are within_limit)
      | inr sufficient ↦ inl (record {
        blocks = take count bs;
        size = length-take count bs ∙ omega arith;
        once = λ i j b is is'. are.once i j b (taken count bs i b is) (taken count bs j b is');
        each = λ i b is. (are.each i b (taken count bs i b is)).1;
      })
    ]

-- whether there is room for a tree
pub room_reported : (g : Geometry) (flash : Flash) (within : IsWithin g.pages g.blocks flash) (spare : ℕ)
    → ((o : ℕ) → HasNone (HasNewest flash) o 0 ⊎ ((fault : HeaderFault) × HasHeaderFault (HasNewest flash) o fault) ⊎ ((f : Fields) × HasHeader (sizes_of g spare) (HasNewest flash) o f))
    → (objects : Objects) → IsStated (HasRoom g flash spare objects)
room_reported g flash within spare header objects = elim (at_least_reported (charge (sizes_of g spare) objects) (capacity (sizes_of g spare))) [
  | inr full ↦ inr (λ room. full room.fits)
  | inl fits ↦ elim (at_least_reported (bad_blocks g flash) spare) [
    | inr many ↦ inl (record { fits = fits; free = λ within_limit. absurd (many within_limit) })
    | inl within_limit ↦ elim (count_reported g flash within (sizes_of g spare) (is_page_size g) header objects (1 + spare - bad_blocks g flash)) [
      | inl free ↦ inl (record { fits = fits; free = λ within_limit. free })
      | inr not ↦ inr (λ room. not (room.free within_limit))
    ]
  ]
]
