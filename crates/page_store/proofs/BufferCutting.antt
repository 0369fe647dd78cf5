-- What a cut takes goes, place by place.
use Rattle.std.specs.Prelude.{◌≡◌, ◌⊎◌, ◌<◌, ◌≤◌, ℕ, ◌+◌, List, [], ◌∷◌, ◌++◌, length, Some, None, slice_get, true, false, take}
use Rattle.std.proofs.Common.{refl, sym, ◌∙◌, ap, subst, inl, inr, arith}
use Rattle.std.proofs.lemmas.Bool.{cases_eq, cases_lt, cond-true, cond-false}
use Rattle.std.proofs.lemmas.Option.{slice_get_within}
use Rattle.nand_model.specs.Flash.{Flash}
use Rattle.flash_tree.specs.declared.place.FreshPage.{FreshPage}
use Rattle.pages.specs.Maps.{IsPageOf, takes, without_cuts}
use Rattle.pages.specs.Changes.{AreApart}
use Rattle.pages.specs.declared.change.Cut.{Cut}
use Rattle.pages.specs.laws.Maps.{cut_cases}
use Rattle.pages.specs.laws.Changes.{cuts_append, cuts_same, cuts_nothing}
use Rattle.chunk_index.specs.declared.form.Present.TheVariants as presents
use Rattle.chunk_index.specs.declared.index.Index.{Index}
use Rattle.chunk_index.specs.Shelves.{Differs}
use Rattle.chunk_index.specs.Maps.{present, Cuts, SameCommitted, StaysPrepared}
use Rattle.page_store.specs.Shown.{data_by, present_data}
use Rattle.page_store.specs.Buffering.{Buffers, lacks, new_keys, with_new, DropsSlot, DropsCut, CutsPages, IsTaken}
use Rattle.page_store.proofs.Keys.{Holding, object_is, chunk_is, new_less, new_same, lacks_one}

-- What stands while the pages are gone through that a cut may take: below a place none is taken.
pub record Dropping (cut : Cut) (i : ℕ) (x y : Index) (old new : List FreshPage) : Type 0 where
  pub buffers : Buffers y new
  pub committed : SameCommitted x y
  pub prepared : StaysPrepared x y
  pub below : (o c k : ℕ) → k < i → IsPageOf new o c k → IsTaken cut o c → ⊥
  pub others : (flash : Flash) (o c : ℕ) → (IsTaken cut o c → ⊥) → present_data y new flash o c ≡ present_data x old flash o c
  pub room : (ps : List FreshPage) → AreApart ps → with_new y new ps ≤ with_new x old ps
  pub within : i ≤ length new

pub dropping_starts : (cut : Cut) (x : Index) (pages : List FreshPage) → Buffers x pages → Dropping cut 0 x x pages pages
dropping_starts cut x pages b = record {
  buffers = b;
  committed = record { committed = λ o c. refl; counts = λ k. refl };
  prepared = λ o c is. is;
  below = λ o c k lt. absurd (omega (arith, lt));
  others = λ flash o c none. refl;
  room = λ ps apart. omega arith;
  within = omega arith;
}

-- a page that is not taken stays
pub dropping_passes : (cut : Cut) (i : ℕ) (x y : Index) (old new : List FreshPage) (p : FreshPage) → slice_get new i ≡ Some p → takes cut p.key.object p.key.chunk ≡ false
    → Dropping cut i x y old new → Dropping cut (i + 1) x y old new
dropping_passes cut i x y old new p at stays d = record {
  buffers = d.buffers;
  committed = d.committed;
  prepared = d.prepared;
  below = λ o c k lt of taken. elim (cases_eq k i) [
    | inr ne ↦ d.below o c k (omega (arith, lt, ne)) of taken
    | inl e ↦
        let there : slice_get new k ≡ Some p = ap (slice_get new) e ∙ at in
        elim (cut_cases cut p.key.object p.key.chunk) [
          | inl is ↦ let two : true ≡ false = sym is.0 ∙ stays in absurd cc
          | inr no' ↦ no'.1 (taken.0 ∙ object_is new o c k p there of) (subst (λ n. cut.from ≤ n) (chunk_is new o c k p there of) taken.1)
        ]
  ];
  others = d.others;
  room = d.room;
  within = let lt : i < length new = slice_get_within new i p at in omega (arith, lt);
}

-- a page that is taken goes
pub dropping_goes : (cut : Cut) (i : ℕ) (x y z : Index) (old mid new : List FreshPage) (p : FreshPage) → slice_get mid i ≡ Some p → takes cut p.key.object p.key.chunk ≡ true
    → Dropping cut i x y old mid → Buffers z new → SameCommitted y z → StaysPrepared y z → DropsSlot i y z mid new → Dropping cut i x z old new
dropping_goes cut i x y z old mid new p at taken d b committed prepared drops = record {
  buffers = b;
  committed = record { committed = λ o c. committed.committed o c ∙ d.committed.committed o c; counts = λ k. committed.counts k ∙ d.committed.counts k };
  prepared = λ o c is. prepared o c (d.prepared o c is);
  below = λ o c k lt of. d.below o c k lt (drops.below o c k lt of);
  others = λ flash o c none. drops.others flash o c (λ of. none (is_taken o c of)) ∙ d.others flash o c none;
  room = λ ps apart.
      let less : new_keys z ps ≤ new_keys y ps + 1 = new_less y z p.key.object p.key.chunk ps apart (λ k l differs. drops.lacking k l (λ of. not_both k l differs of)) in
      omega (arith, less, drops.fewer, d.room ps apart);
  within = let lt : i < length mid = slice_get_within mid i p at in omega (arith, lt, drops.fewer);
} where
  is_taken : (o c : ℕ) → IsPageOf mid o c i → IsTaken cut o c
  is_taken o c of = elim (cut_cases cut p.key.object p.key.chunk) [
    | inr no' ↦ let two : true ≡ false = sym taken ∙ no'.0 in absurd cc
    | inl is ↦ (is.1 ∙ sym (object_is mid o c i p at of), subst (λ n. cut.from ≤ n) (sym (chunk_is mid o c i p at of)) is.2)
  ]

  not_both : (k l : ℕ) → Differs p.key.object p.key.chunk k l → IsPageOf mid k l i → ⊥
  not_both k l (inl ne) of = ne (object_is mid k l i p at of)
  not_both k l (inr ne) of = ne (chunk_is mid k l i p at of)

pub dropping_ends : (cut : Cut) (i : ℕ) (x y : Index) (old new : List FreshPage) → length new ≤ i → Dropping cut i x y old new → DropsCut cut x y old new
dropping_ends cut i x y old new all d = record {
  gone = λ o c k taken of. let lt : k < length new = slice_get_within new k of.page of.there in d.below o c k (omega (arith, lt, all)) of taken;
  others = d.others;
}

-- a key is taken by a cut, or is not
pub taken_cases : (cut : Cut) (o c : ℕ) → IsTaken cut o c ⊎ (IsTaken cut o c → ⊥)
taken_cases cut o c = elim (cut_cases cut o c) [
  | inl is ↦ inl (is.1, is.2)
  | inr no' ↦ inr (λ is. no'.1 is.0 is.1)
]

-- once no page of the buffer is one that is taken, the index is reported of the cut
module _ (cut : Cut) (x y : Index) (pages : List FreshPage) (b : Holding x pages) (gone : (o c i : ℕ) → IsTaken cut o c → IsPageOf pages o c i → ⊥) (cuts : Cuts cut.object cut.from x y) where
  same : (o c : ℕ) → (IsTaken cut o c → ⊥) → present y o c ≡ present x o c
  same o c none = cuts.others o c (elim (cases_eq o cut.object) [
    | inr ne ↦ inl ne
    | inl e ↦ elim (cases_lt c cut.from) [ inl lt ↦ inr lt | inr le ↦ absurd (none (sym e, le)) ]
  ])

  none_is : (o c : ℕ) → IsTaken cut o c → present y o c ≡ presents.Absent
  none_is o c taken = ap (λ k. present y k c) (sym taken.0) ∙ cuts.gone c taken.1

  pub cut_buffers : Holding y pages
  cut_buffers = record {
    there = λ o c i is. elim (taken_cases cut o c) [
      | inl taken ↦ let both : presents.Absent ≡ presents.InBuffer i = sym (none_is o c taken) ∙ is in absurd cc
      | inr none ↦ b.there o c i (sym (same o c none) ∙ is)
    ];
    reported = λ o c i of. same o c (λ taken. gone o c i taken of) ∙ b.reported o c i of;
  }

  pub cut_gone : (flash : Flash) (o c : ℕ) → IsTaken cut o c → present_data y pages flash o c ≡ None
  cut_gone flash o c taken = ap (data_by flash pages) (none_is o c taken)

  pub cut_others : (flash : Flash) (o c : ℕ) → (IsTaken cut o c → ⊥) → present_data y pages flash o c ≡ present_data x pages flash o c
  cut_others flash o c none = ap (data_by flash pages) (same o c none)

  pub cut_room : (ps : List FreshPage) → with_new y pages ps ≡ with_new x pages ps
  cut_room ps = ap (λ n. length pages + n) (new_same x y ps (λ o c i of. elim (taken_cases cut o c) [
    | inr none ↦ ap lacks (same o c none)
    | inl taken ↦ ap lacks (none_is o c taken) ∙ sym (lacks_one (present x o c) (λ k is. gone o c k taken (b.there o c k is)))
  ]))

-- What stands after the first n of the cuts.
pub record CuttingAll (cuts : List Cut) (n : ℕ) (x y : Index) (old new : List FreshPage) : Type 0 where
  pub buffers : Buffers y new
  pub committed : SameCommitted x y
  pub prepared : StaysPrepared x y
  pub shown : (flash : Flash) (o c : ℕ) → present_data y new flash o c ≡ without_cuts (take n cuts) (present_data x old flash) o c
  pub room : (ps : List FreshPage) → AreApart ps → with_new y new ps ≤ with_new x old ps

pub cutting_more : (cuts : List Cut) (n : ℕ) (cut : Cut) (x y z : Index) (old mid new : List FreshPage) → take (n + 1) cuts ≡ take n cuts ++ cut ∷ [] → CuttingAll cuts n x y old mid
    → Buffers z new → SameCommitted y z → StaysPrepared y z → CutsPages cut y z mid new → ((ps : List FreshPage) → AreApart ps → with_new z new ps ≤ with_new y mid ps) → CuttingAll cuts (n + 1) x z old new
cutting_more cuts n cut x y z old mid new next d b committed prepared is room = record {
  buffers = b;
  committed = record { committed = λ o c. committed.committed o c ∙ d.committed.committed o c; counts = λ k. committed.counts k ∙ d.committed.counts k };
  prepared = λ o c was. prepared o c (d.prepared o c was);
  shown = λ flash o c. shown flash o c ∙ sym (ap (λ (xs : List Cut). without_cuts xs (present_data x old flash) o c) next ∙ cuts_append (take n cuts) (cut ∷ []) (present_data x old flash) o c);
  room = λ ps apart. omega (arith, room ps apart, d.room ps apart);
} where
  shown : (flash : Flash) (o c : ℕ) → present_data z new flash o c ≡ without_cuts (take n cuts) (without_cuts (cut ∷ []) (present_data x old flash)) o c
  shown flash o c = elim (cut_cases cut o c) [
    | inl taken ↦ is.gone flash o c (taken.1, taken.2)
        ∙ sym (cuts_nothing (take n cuts) (without_cuts (cut ∷ []) (present_data x old flash)) o c (cond-true (takes cut o c) _ _ taken.0))
    | inr other ↦ is.others flash o c (λ taken. other.1 taken.0 taken.1) ∙ d.shown flash o c
        ∙ cuts_same (take n cuts) (present_data x old flash) (without_cuts (cut ∷ []) (present_data x old flash)) o c (sym (cond-false (takes cut o c) _ _ other.0))
  ]
