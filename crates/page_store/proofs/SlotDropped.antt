-- A page of the buffer that goes.
use Rattle.std.specs.Prelude.{◌≡◌, ◌≢◌, ◌⊎◌, ◌<◌, ℕ, ◌+◌, List, [], ◌∷◌, ◌++◌, length, Option, Some, slice_get}
use Rattle.std.specs.Option.{option_map}
use Rattle.std.proofs.Common.{sym, ◌∙◌, ap, subst, inl, inr, arith, set}
use Rattle.std.proofs.lemmas.Bool.{cases_eq}
use Rattle.std.proofs.lemmas.List.{length-append, length-set}
use Rattle.std.proofs.lemmas.Option.{slice_get_within}
use Rattle.volume_terms.specs.laws.List.{get_push, push_before, push_last}
use Rattle.flash_tree.specs.declared.place.FreshPage.{FreshPage}
use Rattle.pages.specs.Maps.{IsPageOf}
use Rattle.pages.specs.Changes.{AreSized}
use Rattle.chunk_index.specs.declared.form.Present.TheVariants as presents
use Rattle.chunk_index.specs.declared.form.Form.TheVariants as forms
use Rattle.chunk_index.specs.declared.index.Index.{Index}
use Rattle.chunk_index.specs.Shelves.{Differs}
use Rattle.chunk_index.specs.Maps.{present, Places}
use Rattle.page_store.specs.Shown.{data_by}
use Rattle.page_store.specs.Buffering.{lacks, DropsSlot}
use Rattle.page_store.proofs.Keys.{Holding, key_cases, differs_not, here, object_is, chunk_is, data_same, buffer_apart}
use Rattle.page_store.proofs.Slots.{get_set, set_other, set_here}

-- the key of one page is not that of another
differ : (x : Index) (pages : List FreshPage) (i j : ℕ) (p q : FreshPage) → Holding x pages → slice_get pages i ≡ Some p → slice_get pages j ≡ Some q → i ≢ j → Differs p.key.object p.key.chunk q.key.object q.key.chunk
differ x pages i j p q b at there ne = elim (key_cases p.key.object p.key.chunk q.key.object q.key.chunk) [
  | inr differs ↦ differs
  | inl same ↦ absurd (ne (buffer_apart x pages b p.key.object p.key.chunk i j (here pages i p at) (record { page = q; there = there; object = same.0; chunk = same.1 })))
]

-- the last page goes
module _ (x y : Index) (init : List FreshPage) (p : FreshPage) (b : Holding x (init ++ p ∷ [])) (drop : Places p.key.object p.key.chunk forms.Dropped x y) where
  last_of : (o c i : ℕ) → IsPageOf (init ++ p ∷ []) o c i → (i < length init × IsPageOf init o c i) ⊎ ((i ≡ length init) × (o ≡ p.key.object) × (c ≡ p.key.chunk))
  last_of o c i of = elim (get_push init p i of.page of.there) [
    | inl before ↦ inl (before.0, record { page = of.page; there = before.1; object = of.object; chunk = of.chunk })
    | inr last ↦ inr (last.0, (sym of.object ∙ ap (λ (q : FreshPage). q.key.object) last.1), (sym of.chunk ∙ ap (λ (q : FreshPage). q.key.chunk) last.1))
  ]

  longer : (o c i : ℕ) → IsPageOf init o c i → IsPageOf (init ++ p ∷ []) o c i
  longer o c i of = record { page = of.page; there = push_before init p i of.page of.there; object = of.object; chunk = of.chunk }

  -- it is of another key than each before it
  before_differs : (o c i : ℕ) → IsPageOf init o c i → Differs p.key.object p.key.chunk o c
  before_differs o c i of = elim (key_cases p.key.object p.key.chunk o c) [
    | inr differs ↦ differs
    | inl same ↦ absurd (
        let two : i ≡ length init = buffer_apart x (init ++ p ∷ []) b o c i (length init) (longer o c i of)
        (record { page = p; there = push_last init p; object = sym same.0; chunk = sym same.1 }) in
        let within : i < length init = slice_get_within init i of.page of.there in
        omega (arith, two, within))
  ]

  dropped_here : (o c : ℕ) → o ≡ p.key.object → c ≡ p.key.chunk → present y o c ≡ presents.Absent
  dropped_here o c a d = ap (λ k. present y k c) a ∙ ap (present y p.key.object) d ∙ drop.here

  pub last_buffers : Holding y init
  last_buffers = record {
    there = λ o c i is. elim (key_cases p.key.object p.key.chunk o c) [
      | inl same ↦ let both : presents.Absent ≡ presents.InBuffer i = sym (dropped_here o c same.0 same.1) ∙ is in absurd cc
      | inr differs ↦ elim (last_of o c i (b.there o c i (sym (drop.others o c differs) ∙ is))) [
        | inl before ↦ before.1
        | inr last ↦ absurd (differs_not p.key.object p.key.chunk o c differs last.1 last.2)
      ]
    ];
    reported = λ o c i of. drop.others o c (before_differs o c i of) ∙ b.reported o c i (longer o c i of);
  }

  pub last_drops : DropsSlot (length init) x y (init ++ p ∷ []) init
  last_drops = record {
    gone = λ o c of. elim (last_of o c (length init) of) [
      | inl before ↦ absurd (omega (arith, before.0))
      | inr last ↦ dropped_here o c last.1 last.2
    ];
    others = λ flash o c none. elim (key_cases p.key.object p.key.chunk o c) [
      | inl same ↦ absurd (none (record { page = p; there = push_last init p; object = sym same.0; chunk = sym same.1 }))
      | inr differs ↦ ap (data_by flash init) (drop.others o c differs)
          ∙ data_same flash (init ++ p ∷ []) init (present x o c) (λ i is. elim (last_of o c i (b.there o c i is)) [
            | inl before ↦ before.1.there ∙ sym (push_before init p i before.1.page before.1.there)
            | inr last ↦ absurd (differs_not p.key.object p.key.chunk o c differs last.1 last.2)
          ])
    ];
    lacking = λ o c none. elim (key_cases p.key.object p.key.chunk o c) [
      | inl same ↦ absurd (none (record { page = p; there = push_last init p; object = sym same.0; chunk = sym same.1 }))
      | inr differs ↦ ap lacks (drop.others o c differs)
    ];
    fewer = sym (length-append init (p ∷ []));
    below = λ o c k lt of. longer o c k of;
  }

-- a page before the last goes, and the last takes its place
module _ (x y z : Index) (init : List FreshPage) (p last : FreshPage) (slot : ℕ) (b : Holding x (init ++ last ∷ [])) (within : slot < length init) (at : slice_get init slot ≡ Some p)
    (drop : Places p.key.object p.key.chunk forms.Dropped x y) (place : Places last.key.object last.key.chunk (forms.Buffered slot) y z) where
  abbrev old : List FreshPage
  old = init ++ last ∷ []

  abbrev new : List FreshPage
  new = set init slot last

  at_old : slice_get old slot ≡ Some p
  at_old = push_before init last slot p at

  last_old : slice_get old (length init) ≡ Some last
  last_old = push_last init last

  -- the two keys differ
  two_keys : Differs last.key.object last.key.chunk p.key.object p.key.chunk
  two_keys = differ x old (length init) slot last p b last_old at_old (λ same. omega (arith, within, same))

  -- a page of the new list is the last one, or one of the old list that is neither
  new_of : (o c i : ℕ) → IsPageOf new o c i → ((i ≡ slot) × (o ≡ last.key.object) × (c ≡ last.key.chunk)) ⊎ ((i ≢ slot) × (i < length init) × IsPageOf old o c i)
  new_of o c i of = elim (get_set init slot i last of.page of.there) [
    | inr filled ↦ inl (filled.0, (sym of.object ∙ ap (λ (q : FreshPage). q.key.object) filled.1), (sym of.chunk ∙ ap (λ (q : FreshPage). q.key.chunk) filled.1))
    | inl other ↦ inr (other.0, slice_get_within init i of.page other.1, record { page = of.page; there = push_before init last i of.page other.1; object = of.object; chunk = of.chunk })
  ]

  -- a page of the old list is the last one, the one that goes, or one of the new list
  old_of : (o c i : ℕ) → IsPageOf old o c i → ((i ≡ length init) × (o ≡ last.key.object) × (c ≡ last.key.chunk)) ⊎ ((i ≡ slot) ⊎ ((i ≢ slot) × (i < length init) × IsPageOf new o c i))
  old_of o c i of = elim (get_push init last i of.page of.there) [
    | inr end ↦ inl (end.0, (sym of.object ∙ ap (λ (q : FreshPage). q.key.object) end.1), (sym of.chunk ∙ ap (λ (q : FreshPage). q.key.chunk) end.1))
    | inl before ↦ inr (elim (cases_eq i slot) [
      | inl is ↦ inl is
      | inr ne ↦ inr (ne, before.0, record { page = of.page; there = set_other init slot i last of.page ne before.1; object = of.object; chunk = of.chunk })
    ])
  ]

  new_slot : slice_get new slot ≡ Some last
  new_slot = set_here init slot last within

  at_last : (o c : ℕ) → o ≡ last.key.object → c ≡ last.key.chunk → present z o c ≡ presents.InBuffer slot
  at_last o c a d = ap (λ k. present z k c) a ∙ ap (present z last.key.object) d ∙ place.here

  at_gone : (o c : ℕ) → o ≡ p.key.object → c ≡ p.key.chunk → present z o c ≡ presents.Absent
  at_gone o c a d = ap (λ k. present z k c) a ∙ ap (present z p.key.object) d ∙ place.others p.key.object p.key.chunk two_keys ∙ drop.here

  elsewhere : (o c : ℕ) → Differs last.key.object last.key.chunk o c → Differs p.key.object p.key.chunk o c → present z o c ≡ present x o c
  elsewhere o c a d = place.others o c a ∙ drop.others o c d

  -- a page that stays is of neither key
  stays_other : (o c i : ℕ) → i ≢ slot → i < length init → IsPageOf old o c i → Differs last.key.object last.key.chunk o c × Differs p.key.object p.key.chunk o c
  stays_other o c i ne lt of =
      let one : o ≡ of.page.key.object = sym of.object in
      let two : c ≡ of.page.key.chunk = sym of.chunk in
      let a = differ x old (length init) i last of.page b last_old of.there (λ same. omega (arith, lt, same)) in
      let d = differ x old slot i p of.page b at_old of.there (λ same. ne (sym same)) in (
        subst (λ k. Differs last.key.object last.key.chunk k c) of.object (subst (λ l. Differs last.key.object last.key.chunk of.page.key.object l) of.chunk a),
        subst (λ k. Differs p.key.object p.key.chunk k c) of.object (subst (λ l. Differs p.key.object p.key.chunk of.page.key.object l) of.chunk d),
      )

  pub moved_buffers : Holding z new
  moved_buffers = record {
    there = λ o c i is. elim (key_cases last.key.object last.key.chunk o c) [
      | inl same ↦
          let both : presents.InBuffer i ≡ presents.InBuffer slot = sym is ∙ at_last o c same.0 same.1 in
          let one : i ≡ slot = cc in
          record { page = last; there = ap (slice_get new) one ∙ new_slot; object = sym same.0; chunk = sym same.1 }
      | inr a ↦ elim (key_cases p.key.object p.key.chunk o c) [
        | inl same ↦ let both : presents.Absent ≡ presents.InBuffer i = sym (at_gone o c same.0 same.1) ∙ is in absurd cc
        | inr d ↦ elim (old_of o c i (b.there o c i (sym (elsewhere o c a d) ∙ is))) [
          | inl end ↦ absurd (differs_not last.key.object last.key.chunk o c a end.1 end.2)
          | inr rest ↦ elim rest [
            | inl is_slot ↦
                let of = b.there o c i (sym (elsewhere o c a d) ∙ is) in
                let there : slice_get old i ≡ Some p = ap (slice_get old) is_slot ∙ at_old in
                absurd (differs_not p.key.object p.key.chunk o c d (object_is old o c i p there of) (chunk_is old o c i p there of))
            | inr stays ↦ stays.2
          ]
        ]
      ]
    ];
    reported = λ o c i of. elim (new_of o c i of) [
      | inl filled ↦ at_last o c filled.1 filled.2 ∙ ap presents.InBuffer (sym filled.0)
      | inr stays ↦
          let other = stays_other o c i stays.0 stays.1 stays.2 in
          elsewhere o c other.0 other.1 ∙ b.reported o c i stays.2
    ];
  }

  pub moved_drops : DropsSlot slot x z old new
  moved_drops = record {
    gone = λ o c of. at_gone o c (object_is old o c slot p at_old of) (chunk_is old o c slot p at_old of);
    others = λ flash o c none. elim (key_cases last.key.object last.key.chunk o c) [
      | inl same ↦
          let was : present x o c ≡ presents.InBuffer (length init) = b.reported o c (length init) (record { page = last; there = last_old; object = sym same.0; chunk = sym same.1 }) in
          ap (data_by flash new) (at_last o c same.0 same.1)
          ∙ ap (λ (m : Option FreshPage). option_map (λ (q : FreshPage). q.bytes.items) m) (new_slot ∙ sym last_old)
          ∙ sym (ap (data_by flash old) was)
      | inr a ↦ elim (key_cases p.key.object p.key.chunk o c) [
        | inl same ↦ absurd (none (record { page = p; there = at_old; object = sym same.0; chunk = sym same.1 }))
        | inr d ↦ ap (data_by flash new) (elsewhere o c a d)
            ∙ data_same flash old new (present x o c) (λ i is. elim (old_of o c i (b.there o c i is)) [
              | inl end ↦ absurd (differs_not last.key.object last.key.chunk o c a end.1 end.2)
              | inr rest ↦ elim rest [
                | inl is_slot ↦
                    let there : slice_get old i ≡ Some p = ap (slice_get old) is_slot ∙ at_old in
                    absurd (differs_not p.key.object p.key.chunk o c d (object_is old o c i p there (b.there o c i is)) (chunk_is old o c i p there (b.there o c i is)))
                | inr stays ↦
                    same_place o c i (b.there o c i is) stays.0 stays.1
              ]
            ])
      ]
    ];
    lacking = λ o c none. elim (key_cases last.key.object last.key.chunk o c) [
      | inl same ↦
          let was : present x o c ≡ presents.InBuffer (length init) = b.reported o c (length init) (record { page = last; there = last_old; object = sym same.0; chunk = sym same.1 }) in
          ap lacks (at_last o c same.0 same.1) ∙ sym (ap lacks was)
      | inr a ↦ elim (key_cases p.key.object p.key.chunk o c) [
        | inl same ↦ absurd (none (record { page = p; there = at_old; object = sym same.0; chunk = sym same.1 }))
        | inr d ↦ ap lacks (elsewhere o c a d)
      ]
    ];
    fewer = ap (λ n. n + 1) (length-set init slot last) ∙ sym (length-append init (last ∷ []));
    below = λ o c k lt of. elim (new_of o c k of) [
      | inl filled ↦ absurd (omega (arith, lt, filled.0))
      | inr stays ↦ stays.2
    ];
  } where
    same_place : (o c i : ℕ) (of : IsPageOf old o c i) → i ≢ slot → i < length init → slice_get new i ≡ slice_get old i
    same_place o c i of ne lt = elim (get_push init last i of.page of.there) [
      | inl before ↦ set_other init slot i last of.page ne before.1 ∙ sym of.there
      | inr end ↦ absurd (omega (arith, lt, end.0))
    ]

-- the page that goes is the last
pub dropped_last : (x y : Index) (old init : List FreshPage) (p last : FreshPage) (slot : ℕ) → old ≡ init ++ last ∷ [] → slice_get old slot ≡ Some p → slot ≡ length init → Holding x old
    → Places p.key.object p.key.chunk forms.Dropped x y → Holding y init × DropsSlot slot x y old init
dropped_last x y old init p last slot split at here b drop =
    let whole : Holding x (init ++ last ∷ []) = subst (Holding x) split b in
    let both : Some p ≡ Some last = sym at ∙ ap (λ (xs : List FreshPage). slice_get xs slot) split ∙ ap (slice_get (init ++ last ∷ [])) here ∙ push_last init last in
    let one : p ≡ last = cc in
    let drops : Places last.key.object last.key.chunk forms.Dropped x y = subst (λ (q : FreshPage). Places q.key.object q.key.chunk forms.Dropped x y) one drop in (
      last_buffers x y init last whole drops,
      subst (λ n. DropsSlot n x y old init) (sym here) (subst (λ (xs : List FreshPage). DropsSlot (length init) x y xs init) (sym split) (last_drops x y init last whole drops)),
    )

-- another takes its place
pub dropped_moved : (x y z : Index) (old init : List FreshPage) (p last : FreshPage) (slot : ℕ) → old ≡ init ++ last ∷ [] → slice_get old slot ≡ Some p → slot < length init → Holding x old
    → Places p.key.object p.key.chunk forms.Dropped x y → Places last.key.object last.key.chunk (forms.Buffered slot) y z → Holding z (set init slot last) × DropsSlot slot x z old (set init slot last)
dropped_moved x y z old init p last slot split at lt b drop place =
    let whole : Holding x (init ++ last ∷ []) = subst (Holding x) split b in
    let there : slice_get init slot ≡ Some p = elim (get_push init last slot p (ap (λ (xs : List FreshPage). slice_get xs slot) (sym split) ∙ at)) [
      | inl before ↦ before.1
      | inr end ↦ absurd (omega (arith, lt, end.0))
    ] in (
      moved_buffers x y z init p last slot whole lt there drop place,
      subst (λ (xs : List FreshPage). DropsSlot slot x z xs (set init slot last)) (sym split) (moved_drops x y z init p last slot whole lt there drop place),
    )

-- the pages that are left have their size
pub left_sized : (old init : List FreshPage) (last : FreshPage) (bytes : ℕ) → old ≡ init ++ last ∷ [] → AreSized old bytes → AreSized init bytes
left_sized old init last bytes split sized i q at = sized i q (ap (λ (xs : List FreshPage). slice_get xs i) split ∙ push_before init last i q at)

pub moved_sized : (old init : List FreshPage) (last : FreshPage) (slot bytes : ℕ) → old ≡ init ++ last ∷ [] → AreSized old bytes → AreSized (set init slot last) bytes
moved_sized old init last slot bytes split sized i q at = elim (get_set init slot i last q at) [
  | inl other ↦ left_sized old init last bytes split sized i q other.1
  | inr filled ↦ ap (λ (r : FreshPage). length r.bytes.items) filled.1 ∙ sized (length init) last (ap (λ (xs : List FreshPage). slice_get xs (length init)) split ∙ push_last init last)
]
