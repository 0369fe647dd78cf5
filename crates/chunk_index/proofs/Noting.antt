-- The settling of the keys that are noted.
use Rattle.std.proofs.Common.{◌≡◌, ◌⊎◌, ℕ, ◌+◌, ◌-◌, ◌<◌, ◌≤◌, List, [], ◌∷◌, ◌++◌, length, get_or, Bool, Option, Some, None, Result, Ok, Err, IsOk, is_ok, if◌then◌else◌, true, false, refl, sym, ap, subst, ◌∙◌, arith, inl, inr}
use mathlib.Core.Bool.{false≢true}
use mathlib.Core.Logic.{∥∥₁_elim}
use Rattle.std.proofs.lemmas.Bool.{cases_eq, cases_lt, cases_Bool}
use Rattle.std.proofs.lemmas.List.{length-append, get_or_append_left, get_or-append_right}
use Rattle.flash_tree.specs.declared.place.Key.{Key}
use Rattle.block_state.specs.Table.{Table}
use Rattle.chunk_index.specs.declared.form.WrittenGroup.{WrittenGroup}
use Rattle.chunk_index.specs.declared.form.Present.TheVariants as presents
use Rattle.chunk_index.specs.declared.entry.KeyEntry.{KeyEntry}
use Rattle.chunk_index.specs.declared.entry.State.{State}
use Rattle.chunk_index.specs.declared.entry.State.TheVariants as states
use Rattle.chunk_index.specs.Entries.{settled, settled_by, same_of, present_of, present_by, as_committed, written_page}
use Rattle.chunk_index.specs.Shelves.{ObjectMap, look, SameEntries, IsListed, IsAfterNumber, IsNextObject}
use Rattle.chunk_index.specs.Counts.{Tallies}
use Rattle.chunk_index.specs.Settled.{MaySettle, SettlesWhere, IsKey, IsFrom, IsAny}
use Rattle.chunk_index.specs.Noted.{IsCut, IsNotedBy}
use Rattle.chunk_index.proofs.Counting.{recounts_on, recounts_here}
use Rattle.chunk_index.proofs.Settling.{settled_twice, settled_same}
use Rattle.chunk_index.proofs.Staying.{after_or_not, none_reported, tallies_then_same, counts_then_same}

-- no key
abbrev pub IsNone : ℕ → ℕ → Type 0
IsNone o c = ⊥

-- nothing was settled as yet
pub where_none : (g : WrittenGroup) (Meant : ℕ → ℕ → Type 0) (m : ObjectMap) (t : Table) → ((o c : ℕ) → Meant o c → ⊥) → Tallies t m → SettlesWhere g Meant m m t t
where_none g Meant m t none tallies = record { each = λ o c. inr (refl, none o c); tallies = tallies; counts = recounts_here (λ b. refl) }

-- some keys after others
pub where_then : (g : WrittenGroup) (P Q R : ℕ → ℕ → Type 0) (old mid new : ObjectMap) (t u v : Table) → SettlesWhere g P old mid t u → SettlesWhere g Q mid new u v
    → ((o c : ℕ) → R o c → P o c ⊎ Q o c ⊎ (look mid o c ≡ None)) → SettlesWhere g R old new t v
where_then g P Q R old mid new t u v one two meant = record {
  each = λ o c. elim (one.each o c) [
    | inl done ↦ elim (two.each o c) [
      | inl again ↦ inl (again ∙ ap (settled g) done ∙ settled_twice g (look old o c))
      | inr (same, none) ↦ inl (same ∙ done)
    ]
    | inr (same, none) ↦ elim (two.each o c) [
      | inl done ↦ inl (done ∙ ap (settled g) same)
      | inr (stays, never) ↦ elim (cases_reported (look mid o c)) [
        | inl nothing ↦ inl (stays ∙ nothing ∙ sym (ap (settled g) (sym same ∙ nothing)))
        | inr some ↦ inr (
          stays ∙ same,
          λ is. elim (meant o c is) [
            | inl p ↦ none p
            | inr q ↦ elim q [ inl r ↦ never r | inr n ↦ some n ]
          ],
        )
      ]
    ]
  ];
  tallies = two.tallies;
  counts = recounts_on one.counts two.counts;
} where
  cases_reported : (w : Option KeyEntry) → (w ≡ None) ⊎ (w ≡ None → ⊥)
  cases_reported None = inl refl
  cases_reported (Some e) = inr (λ is. absurd cc)

-- fewer keys that are meant
pub where_fewer : (g : WrittenGroup) (P R : ℕ → ℕ → Type 0) (old new : ObjectMap) (t u : Table) → SettlesWhere g P old new t u → ((o c : ℕ) → R o c → P o c ⊎ (look new o c ≡ None)) → SettlesWhere g R old new t u
where_fewer g P R old new t u was meant = where_then g P IsNone R old new new t u u was (where_none g IsNone new u (λ o c is. is) was.tallies) (λ o c is. elim (meant o c is) [ inl p ↦ inl p | inr n ↦ inr (inr n) ])

-- the same entries after
pub where_same : (g : WrittenGroup) (P : ℕ → ℕ → Type 0) (old mid new : ObjectMap) (t u : Table) → SettlesWhere g P old mid t u → SameEntries mid new → SettlesWhere g P old new t u
where_same g P old mid new t u was same = record {
  each = λ o c. elim (was.each o c) [ inl done ↦ inl (same.looks o c ∙ done) | inr (stays, none) ↦ inr (same.looks o c ∙ stays, none) ];
  tallies = tallies_then_same u mid new was.tallies same;
  counts = counts_then_same t u old mid new was.counts same;
}

-- nothing that is settled is in the buffer
settled_not_buffered : (g : WrittenGroup) (w : Option KeyEntry) (i : ℕ) → present_of (settled g w) ≡ presents.InBuffer i → ⊥
settled_not_buffered g None i is = absurd cc
settled_not_buffered g (Some e) i is = go e.state refl where
  committed_not : (p : _) → as_committed p ≡ presents.InBuffer i → ⊥
  committed_not None both = absurd cc
  committed_not (Some p) both = absurd cc

  go : (s : State) → e.state ≡ s → ⊥
  go states.Same at =
      let one : present_of (settled g (Some e)) ≡ present_by e.committed states.Same = ap (λ s. present_of (settled_by g e s)) at ∙ ap (present_by e.committed) at in
      committed_not e.committed (sym one ∙ is)
  go (states.Buffered j) at =
      let one : present_of (settled g (Some e)) ≡ presents.OnFlash (written_page g j) = ap (λ s. present_of (settled_by g e s)) at in
      committed_not (Some (written_page g j)) (sym one ∙ is)
  go states.Dropped at =
      let one : present_of (settled g (Some e)) ≡ presents.Absent = ap (λ s. present_of (settled_by g e s)) at in
      committed_not None (sym one ∙ is)
  go states.Vacant at =
      let one : present_of (settled g (Some e)) ≡ presents.Absent = ap (λ s. present_of (settled_by g e s)) at in
      committed_not None (sym one ∙ is)

-- and the next keys may be settled
pub may_after : (g : WrittenGroup) (P : ℕ → ℕ → Type 0) (m n : ObjectMap) (t u : Table) → MaySettle g m t → SettlesWhere g P m n t u → MaySettle g n u
may_after g P m n t u may was = record {
  block = subst (λ (x : _). g.block < x.blocks) (sym was.counts.geometry) may.block;
  fits = λ o c i is. elim (was.each o c) [
    | inl done ↦ absurd (settled_not_buffered g (look m o c) i (sym (ap present_of done) ∙ is))
    | inr (same, none) ↦ subst (λ (x : _). g.first + i < x.pages) (sym was.counts.geometry) (may.fits o c i (sym (ap present_of same) ∙ is))
  ];
  tallies = was.tallies;
}

-- ---- the keys of a list, and the objects that were cut

-- the key is among the first n
abbrev pub IsAmong : List Key → ℕ → ℕ → ℕ → Type 0
IsAmong keys n o c = (j : ℕ) × (j < n) × ((d : Key) → IsKey (get_or keys j d) o c)

-- one of the first n cuts has the key
abbrev pub IsCutAmong : List Key → ℕ → ℕ → ℕ → Type 0
IsCutAmong cuts n o c = (j : ℕ) × (j < n) × ((d : Key) → IsFrom (get_or cuts j d) o c)

pub among_none : (keys : List Key) (o c : ℕ) → IsAmong keys 0 o c → ⊥
among_none keys o c at = omega (arith, at.1)

pub cut_none : (cuts : List Key) (o c : ℕ) → IsCutAmong cuts 0 o c → ⊥
cut_none cuts o c at = omega (arith, at.1)

pub cut_more : (cuts : List Key) (n : ℕ) (k : Key) → ((d : Key) → get_or cuts n d ≡ k) → (m : ObjectMap) (o c : ℕ) → IsCutAmong cuts (n + 1) o c → IsCutAmong cuts n o c ⊎ IsFrom k o c ⊎ (look m o c ≡ None)
cut_more cuts n k here m o c at = elim (cases_eq at.0 n) [
  | inl e ↦ inr (inl (subst (λ x. IsFrom x o c) (ap (λ i. get_or cuts i k) e ∙ here k) (at.2 k)))
  | inr ne ↦ inl (at.0, (let lt = at.1 in omega (arith, lt, ne)), at.2)
]

-- ---- one object after another

-- the key is of no object after a number
abbrev pub IsPast : Option ℕ → ℕ → ℕ → Type 0
IsPast done o c = IsAfterNumber o done → ⊥

pub past_none : (o c : ℕ) → IsPast None o c → ⊥
past_none o c is = is tt

pub past_more : (done : Option ℕ) (m : ObjectMap) (k : ℕ) → IsNextObject m done (Some k) → (o c : ℕ) → IsPast (Some k) o c → IsPast done o c ⊎ IsFrom (record { object = k; chunk = 0 }) o c ⊎ (look m o c ≡ None)
past_more done m k next o c is = elim (cases_eq k o) [
  | inl e ↦ inr (inl (e, omega arith))
  | inr ne ↦ elim (after_or_not o done) [
    | inl after ↦ inr (inr (none_reported m o c (next.2 o after (elim (cases_lt k o) [ inl lt ↦ absurd (is lt) | inr ge ↦ omega (arith, ge, ne) ]))))
    | inr before ↦ inl before
  ]
]

pub past_all : (done : Option ℕ) (m : ObjectMap) → IsNextObject m done None → (o c : ℕ) → IsAny o c → IsPast done o c ⊎ (look m o c ≡ None)
past_all done m none o c any = elim (after_or_not o done) [
  | inl after ↦ inr (none_reported m o c (none o after))
  | inr before ↦ inl before
]

-- ---- all that is noted

-- where each changed key was meant, all are settled
pub where_all : (g : WrittenGroup) (P : ℕ → ℕ → Type 0) (old new : ObjectMap) (t u : Table) → SettlesWhere g P old new t u → ((o c : ℕ) → same_of (look old o c) ≡ false → ∥ P o c ∥₁)
    → (o c : ℕ) → look new o c ≡ settled g (look old o c)
where_all g P old new t u was meant o c = elim (was.each o c) [
  | inl done ↦ done
  | inr (same, none) ↦ elim (cases_Bool (same_of (look old o c))) [
    | inl is ↦ same ∙ sym (settled_same g (look old o c) is)
    | inr not ↦ absurd (∥∥₁_elim (meant o c not) (λ x y. absurd x) none)
  ]
]

-- ---- one note more

-- an element of a list is one of a longer list
at_push : (P : Key → Type 0) (keys : List Key) (k : Key) → (i : ℕ) × (i < length keys) × ((d : Key) → P (get_or keys i d)) → (i : ℕ) × (i < length (keys ++ k ∷ [])) × ((d : Key) → P (get_or (keys ++ k ∷ []) i d))
at_push P keys k at = (
  at.0,
  (let longer = length-append keys (k ∷ []) in let lt = at.1 in omega (arith, longer, lt)),
  λ d. subst P (sym (get_or_append_left keys (k ∷ []) d at.0 at.1)) (at.2 d),
)

-- and so is the last one
at_last : (P : Key → Type 0) (keys : List Key) (k : Key) → P k → (i : ℕ) × (i < length (keys ++ k ∷ [])) × ((d : Key) → P (get_or (keys ++ k ∷ []) i d))
at_last P keys k is = (
  length keys,
  (let longer = length-append keys (k ∷ []) in omega (arith, longer)),
  λ d.
      let same : get_or (keys ++ k ∷ []) (length keys) d ≡ k = get_or-append_right keys (k ∷ []) (length keys) (length keys) d refl (omega arith) ∙ ap (λ i. get_or (k ∷ []) i d) (let e : length keys - length keys ≡ 0 = omega arith in e) in
      subst P (sym same) is,
)

-- a push that has room succeeds
pub pushed : {E : Type 0} (r : Result (Unit {0}) E) (old new : List Key) (k : Key) → IsOk r → new ≡ (if is_ok r then old ++ k ∷ [] else old) → new ≡ old ++ k ∷ []
pushed (Ok u) old new k ok is = is
pushed (Err e) old new k ok is = absurd (false≢true ok)

module _ (keys cuts : List Key) (all : Bool) (k : Key) (new : List Key) where
  pub key_keeps : new ≡ keys ++ k ∷ [] → (o c : ℕ) → ∥ IsNotedBy keys cuts all o c ∥₁ → ∥ IsNotedBy new cuts all o c ∥₁
  key_keeps is o c noted = ∥∥₁_elim noted (λ x y. squash₁ x y) (λ (at : IsNotedBy keys cuts all o c). elim at [
    | inl l ↦ ∣ inl (subst (λ ks. IsListed ks o c) (sym is) (at_push (λ x. IsKey x o c) keys k l)) ∣₁
    | inr r ↦ ∣ inr r ∣₁
  ])

  pub key_noted : new ≡ keys ++ k ∷ [] → ∥ IsNotedBy new cuts all k.object k.chunk ∥₁
  key_noted is = ∣ inl (subst (λ ks. IsListed ks k.object k.chunk) (sym is) (at_last (λ x. IsKey x k.object k.chunk) keys k (refl, refl))) ∣₁

  pub cut_keeps : new ≡ cuts ++ k ∷ [] → (o c : ℕ) → ∥ IsNotedBy keys cuts all o c ∥₁ → ∥ IsNotedBy keys new all o c ∥₁
  cut_keeps is o c noted = ∥∥₁_elim noted (λ x y. squash₁ x y) (λ (at : IsNotedBy keys cuts all o c). elim at [
    | inl l ↦ ∣ inl l ∣₁
    | inr r ↦ elim r [
      | inl l ↦ ∣ inr (inl (subst (λ ks. IsCut ks o c) (sym is) (at_push (λ x. IsFrom x o c) cuts k l))) ∣₁
      | inr a ↦ ∣ inr (inr a) ∣₁
    ]
  ])

  pub cut_noted : new ≡ cuts ++ k ∷ [] → (c : ℕ) → k.chunk ≤ c → ∥ IsNotedBy keys new all k.object c ∥₁
  cut_noted is c le = ∣ inr (inl (subst (λ ks. IsCut ks k.object c) (sym is) (at_last (λ x. IsFrom x k.object c) cuts k (refl, le)))) ∣₁

-- the same lists note the same keys
pub notes_same : (keys cuts new gone : List Key) (all : Bool) → new ≡ keys → gone ≡ cuts → (o c : ℕ) → ∥ IsNotedBy keys cuts all o c ∥₁ → ∥ IsNotedBy new gone all o c ∥₁
notes_same keys cuts new gone all one two o c noted = subst (λ ks. ∥ IsNotedBy ks gone all o c ∥₁) (sym one) (subst (λ ks. ∥ IsNotedBy keys ks all o c ∥₁) (sym two) noted)

-- empty lists note none
pub none_noted : (keys cuts : List Key) (all : Bool) → keys ≡ [] → cuts ≡ [] → all ≡ false → (o c : ℕ) → IsNotedBy keys cuts all o c → ⊥
none_noted keys cuts all one two three o c noted = elim noted [
  | inl at ↦ let lt : at.0 < length keys = at.1 in let none : length keys ≡ 0 = ap length one in omega (arith, lt, none)
  | inr r ↦ elim r [
    | inl at ↦ let lt : at.0 < length cuts = at.1 in let none : length cuts ≡ 0 = ap length two in omega (arith, lt, none)
    | inr is ↦ false≢true (sym three ∙ is)
  ]
]

-- once all keys are noted, each is
pub all_noted : (keys cuts : List Key) (o c : ℕ) → ∥ IsNotedBy keys cuts true o c ∥₁
all_noted keys cuts o c = ∣ inr (inr refl) ∣₁

-- where not all are, a key is in one of the lists
pub one_noted : (keys cuts : List Key) (all : Bool) (o c : ℕ) → all ≡ false → ∥ IsNotedBy keys cuts all o c ∥₁ → ∥ IsListed keys o c ⊎ IsCut cuts o c ∥₁
one_noted keys cuts all o c not noted = ∥∥₁_elim noted (λ x y. squash₁ x y) (λ (at : IsNotedBy keys cuts all o c). elim at [
  | inl l ↦ ∣ inl l ∣₁
  | inr r ↦ elim r [ inl l ↦ ∣ inr l ∣₁ | inr a ↦ absurd (false≢true (sym not ∙ a)) ]
])
