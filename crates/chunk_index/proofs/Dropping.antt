-- The dropping of the entries of an object from a chunk on.
use Rattle.std.proofs.Common.{◌≡◌, ◌≢◌, ◌⊎◌, ℕ, zero, suc, ◌+◌, ◌<◌, ◌≤◌, List, [], ◌∷◌, ◌++◌, length, get_or, set, take, drop, false, ltb, Option, Some, None, refl, sym, ap, subst, ◌∙◌, arith, inl, inr}
use Rattle.std.specs.Prelude.{map}
use Rattle.std.specs.Option.{option_map}
use Rattle.std.specs.Ordering.{nat_cmp}
use Rattle.std.specs.BTreeMap.{get, WritesThrough}
use Rattle.std.proofs.lemmas.Bool.{cases_eq, cases_lt}
use Rattle.std.proofs.lemmas.Bool.Decides.{nat_tests}
use Rattle.std.proofs.lemmas.List.{length-map, get_or-map, get_or_default, take_all, drop_all, append-nil}
use Rattle.std.proofs.lemmas.List.Edits.{map_over_more}
use Rattle.std.proofs.lemmas.List.Sums.{sum_by-cons}
use Rattle.volume_terms.specs.laws.Number.{not_at}
use Rattle.chunk_index.specs.declared.entry.KeyEntry.{KeyEntry}
use Rattle.chunk_index.specs.declared.entry.State.{State}
use Rattle.chunk_index.specs.declared.entry.State.TheVariants as states
use Rattle.chunk_index.specs.declared.form.CommittedPage.{CommittedPage}
use Rattle.chunk_index.specs.declared.form.Present.TheVariants as presents
use Rattle.chunk_index.specs.declared.object.ObjectEntries.{ObjectEntries}
use Rattle.chunk_index.specs.Lists.{find_by, Rises, IsEndFor}
use Rattle.chunk_index.specs.Entries.{chunk, committed_at, weigh, present_of, present_by, same_of}
use Rattle.chunk_index.specs.Shelves.{ObjectMap, look, total}
use Rattle.chunk_index.specs.Dropped.{dropped_state, dropped, dropped_from, DropsFrom}
use Rattle.chunk_index.proofs.Altering.{either}
use Rattle.chunk_index.proofs.Finding.{find_absent, find_at}
use Rattle.chunk_index.proofs.Shelving.{look_in, look_other, there, sums, look_chunk}
use Rattle.chunk_index.proofs.Staying.{none_reported}

-- ---- one entry

-- what does not see the state stays
from_same : {X : Type 0} (f : KeyEntry → X) → ((e : KeyEntry) → f (dropped e) ≡ f e) → (n : ℕ) (e : KeyEntry) → f (dropped_from n e) ≡ f e
from_same f same n e = either (λ x. f x ≡ f e) (ltb (chunk e) n) e (dropped e) refl (same e)

from_before : (n : ℕ) (e : KeyEntry) → chunk e < n → dropped_from n e ≡ e
from_before n e lt = grind (arith, nat_tests, lt)

from_behind : (n : ℕ) (e : KeyEntry) → n ≤ chunk e → dropped_from n e ≡ dropped e
from_behind n e le = grind (arith, nat_tests, le)

-- nothing is present of a dropped one
dropped_absent : (e : KeyEntry) → present_of (Some (dropped e)) ≡ presents.Absent
dropped_absent e = go e.state e.committed where
  go : (s : State) (p : Option CommittedPage) → present_by p (dropped_state s p) ≡ presents.Absent
  go states.Same None = refl
  go states.Same (Some p) = refl
  go (states.Buffered i) p = refl
  go states.Dropped p = refl
  go states.Vacant p = refl

-- ---- the entries of an object

module _ (g : KeyEntry → KeyEntry) (keeps : (e : KeyEntry) → chunk (g e) ≡ chunk e) where
  -- an entry that becomes another of its chunk is found where it was
  find_mapped : (es : List KeyEntry) (c : ℕ) → find_by chunk (map g es) c ≡ option_map g (find_by chunk es c)
  find_mapped [] c = refl
  find_mapped (e ∷ es) c = elim (cases_eq (chunk e) c) [
    | inl at ↦
        let same : chunk (g e) ≡ c = keeps e ∙ at in
        let here : find_by chunk (e ∷ es) c ≡ Some e = grind (arith, nat_tests, at) in
        let there : find_by chunk (g e ∷ map g es) c ≡ Some (g e) = grind (arith, nat_tests, same) in
        there ∙ sym (ap (option_map g) here)
    | inr ne ↦
        let apart : chunk (g e) ≢ c = λ same. ne (sym (keeps e) ∙ same) in
        let here : find_by chunk (e ∷ es) c ≡ find_by chunk es c = grind (arith, nat_tests, ne) in
        let there : find_by chunk (g e ∷ map g es) c ≡ find_by chunk (map g es) c = grind (arith, nat_tests, apart) in
        there ∙ find_mapped es c ∙ sym (ap (option_map g) here)
  ]

  rises_mapped : (es : List KeyEntry) → Rises chunk es → Rises chunk (map g es)
  rises_mapped es rises i j d lt within =
      let short : j < length es = omega (arith, within, length-map es g) in
      let low : i < length es = omega (arith, lt, short) in
      let was : chunk (get_or es i d) < chunk (get_or es j d) = rises i j d lt short in
      let one : chunk (get_or (map g es) i d) ≡ chunk (get_or es i d) = ap chunk (get_or-map g es i d d low) ∙ keeps (get_or es i d) in
      let two : chunk (get_or (map g es) j d) ≡ chunk (get_or es j d) = ap chunk (get_or-map g es j d d short) ∙ keeps (get_or es j d) in
      omega (arith, was, one, two)

  weigh_mapped : (f : KeyEntry → ℕ) → ((e : KeyEntry) → f (g e) ≡ f e) → (es : List KeyEntry) → weigh f (map g es) ≡ weigh f es
  weigh_mapped f same [] = refl
  weigh_mapped f same (e ∷ es) =
      let one : weigh f (g e ∷ map g es) ≡ f (g e) + weigh f (map g es) = sum_by-cons f (g e) (map g es) in
      let two : weigh f (e ∷ es) ≡ f e + weigh f es = sum_by-cons f e es in
      let here : f (g e) ≡ f e = same e in
      let rest = weigh_mapped f same es in
      omega (arith, one, two, here, rest)

pub rises_dropped : (n : ℕ) (es : List KeyEntry) → Rises chunk es → Rises chunk (map (dropped_from n) es)
rises_dropped n = rises_mapped (dropped_from n) (from_same chunk (λ e. refl) n)

-- where no entry is from a chunk on, none is found there
pub none_from : (es : List KeyEntry) (n i : ℕ) → IsEndFor chunk es n i → length es ≤ i → (c : ℕ) → n ≤ c → find_by chunk es c ≡ None
none_from es n i end all c le = find_absent chunk es c (λ j d lt same. let less : chunk (get_or es j d) < n = end.lesser j d (omega (arith, lt, all)) in omega (arith, less, same, le))

-- and else there is one
pub all_before : (es : List KeyEntry) → Rises chunk es → (n i : ℕ) → IsEndFor chunk es n i → ((c : ℕ) → n ≤ c → find_by chunk es c ≡ None) → length es ≤ i
all_before es rises n i end none = elim (cases_lt i (length es)) [
  | inl lt ↦
      let d : KeyEntry = committed_at 0 None in
      let c = chunk (get_or es i d) in
      let both : Some (get_or es i d) ≡ None = sym (find_at chunk es rises c i (record { within = lt; number = λ f. ap chunk (get_or_default es i f d lt) }) d) ∙ none c (end.greater i d (omega arith) lt) in
      absurd cc
  | inr ge ↦ ge
]

-- ---- one entry after another

-- an element that was not mapped yet
get_behind : (g : KeyEntry → KeyEntry) (xs : List KeyEntry) (i : ℕ) (d : KeyEntry) → i < length xs → get_or (map g (take i xs) ++ drop i xs) i d ≡ get_or xs i d
get_behind g [] i d lt = absurd (omega (arith, lt))
get_behind g (x ∷ xs) zero d lt = refl
get_behind g (x ∷ xs) (suc i) d lt = get_behind g xs i d (omega (arith, lt))

-- those before the chunk stay
map_before : (n : ℕ) (xs : List KeyEntry) (i : ℕ) → ((j : ℕ) (d : KeyEntry) → j < i → chunk (get_or xs j d) < n) → i ≤ length xs → xs ≡ map (dropped_from n) (take i xs) ++ drop i xs
map_before n [] i less le = go i where
  go : (k : ℕ) → [] ≡ map (dropped_from n) (take k []) ++ drop k []
  go zero = refl
  go (suc k) = refl
map_before n (x ∷ xs) zero less le = refl
map_before n (x ∷ xs) (suc i) less le =
    let same : dropped_from n x ≡ x = from_before n x (less 0 x (omega arith)) in
    let rest = map_before n xs i (λ j d lt. less (suc j) d (omega (arith, lt))) (omega (arith, le)) in
    ap (λ ys. x ∷ ys) rest ∙ ap (λ y. y ∷ (map (dropped_from n) (take i xs) ++ drop i xs)) (sym same)

-- Those before place i are as they become, and those from it on as they were.
pub record Drops (first : ℕ) (xs : List KeyEntry) (i : ℕ) (now : List KeyEntry) : Type 0 where
  pub from : first ≤ i
  pub items : (n : ℕ) → IsEndFor chunk xs n first → now ≡ map (dropped_from n) (take i xs) ++ drop i xs

pub drops_none : (first : ℕ) (xs : List KeyEntry) → Drops first xs first xs
drops_none first xs = record { from = omega arith; items = λ n end. map_before n xs first (λ j d lt. end.lesser j d lt) end.within }

pub drops_more : (first : ℕ) (xs : List KeyEntry) (i : ℕ) (now : List KeyEntry) (x y : KeyEntry) → Drops first xs i now → i < length xs → x ≡ get_or now i x → y ≡ dropped x → Drops first xs (i + 1) (set now i y)
drops_more first xs i now x y was lt here to = record {
  from = omega (arith, was.from);
  items = λ n end.
      let there : x ≡ get_or xs i x = here ∙ ap (λ es. get_or es i x) (was.items n end) ∙ get_behind (dropped_from n) xs i x lt in
      let behind : n ≤ chunk x = subst (λ e. n ≤ chunk e) (sym there) (end.greater i x was.from lt) in
      let same : y ≡ dropped_from n x = to ∙ sym (from_behind n x behind) in
      ap (set now i) same ∙ map_over_more (dropped_from n) xs now i x lt (was.items n end) here;
}

pub drops_all : (first : ℕ) (xs : List KeyEntry) (i : ℕ) (now : List KeyEntry) → Drops first xs i now → length xs ≤ i → (n : ℕ) → IsEndFor chunk xs n first → now ≡ map (dropped_from n) xs
drops_all first xs i now was all n end =
    was.items n end ∙ ap (λ ys. map (dropped_from n) ys ++ drop i xs) (take_all i xs all) ∙ ap (λ ys. map (dropped_from n) xs ++ ys) (drop_all i xs all) ∙ append-nil (map (dropped_from n) xs)

-- ---- among the entries of all objects

module _ (o n : ℕ) (m p : ObjectMap) (x y : ObjectEntries) (found : get nat_cmp m o ≡ Some x) (through : WritesThrough nat_cmp (nat_cmp o) m y p) (is : y.entries.items ≡ map (dropped_from n) x.entries.items) where
  pub drops_written : DropsFrom o n m p
  drops_written = record {
    here = λ c.
        look_in p o c y (through.3 (there o m p x y found through)).1 ∙ ap (λ es. find_by chunk es c) is ∙ find_mapped (dropped_from n) (from_same chunk (λ e. refl) n) x.entries.items c
        ∙ sym (ap (option_map (dropped_from n)) (look_in m o c x found));
    others = λ k l ne. look_other m p k l ((through.3 (there o m p x y found through)).2 k (not_at o k ne));
    weighs = λ f same.
        let all : total f p + weigh f x.entries.items ≡ total f m + weigh f y.entries.items = sums o m p x y found through f in
        let e : weigh f y.entries.items ≡ weigh f x.entries.items = ap (weigh f) is ∙ weigh_mapped (dropped_from n) (from_same chunk (λ e. refl) n) f (from_same f same n) x.entries.items in
        omega (arith, all, e);
  }

-- an object that is not there has none
pub drops_absent : (o n : ℕ) (m : ObjectMap) → get nat_cmp m o ≡ None → DropsFrom o n m m
drops_absent o n m none = record {
  here = λ c. let nothing = none_reported m o c none in nothing ∙ sym (ap (option_map (dropped_from n)) nothing);
  others = λ k l ne. refl;
  weighs = λ f same. refl;
}

-- ---- what an index reports

module _ {o n : ℕ} {m p : ObjectMap} (drops : DropsFrom o n m p) where
  -- a key that is not meant has its entry
  pub drops_other : (k l : ℕ) → (k ≢ o) ⊎ (l < n) → look p k l ≡ look m k l
  drops_other k l (inl ne) = drops.others k l ne
  drops_other k l (inr lt) = elim (cases_eq k o) [
    | inr ne ↦ drops.others k l ne
    | inl e ↦ subst (λ q. look p q l ≡ look m q l) (sym e) (drops.here l ∙ go (look m o l) refl)
  ] where
    go : (v : Option KeyEntry) → look m o l ≡ v → option_map (dropped_from n) v ≡ v
    go None is = refl
    go (Some e) is = let at : chunk e ≡ l = look_chunk m o l e is in ap Some (from_before n e (omega (arith, at, lt)))

  -- of one that is, nothing is present
  pub drops_gone : (l : ℕ) → n ≤ l → present_of (look p o l) ≡ presents.Absent
  drops_gone l le = ap present_of (drops.here l) ∙ go (look m o l) refl where
    go : (v : Option KeyEntry) → look m o l ≡ v → present_of (option_map (dropped_from n) v) ≡ presents.Absent
    go None is = refl
    go (Some e) is = let at : chunk e ≡ l = look_chunk m o l e is in ap (λ x. present_of (Some x)) (from_behind n e (omega (arith, at, le))) ∙ dropped_absent e

  -- the changed keys are noted, where those that are meant are and the others still are
  pub drops_noted : (Old New : ℕ → ℕ → Type 0) → ((k l : ℕ) → same_of (look m k l) ≡ false → Old k l) → ((k l : ℕ) → Old k l → New k l)
      → ((l : ℕ) → n ≤ l → same_of (look p o l) ≡ false → New o l) → (k l : ℕ) → same_of (look p k l) ≡ false → New k l
  drops_noted Old New noted still meant k l is = elim (cases_eq k o) [
    | inr ne ↦ still k l (noted k l (sym (ap same_of (drops.others k l ne)) ∙ is))
    | inl e ↦ elim (cases_lt l n) [
      | inl lt ↦ still k l (noted k l (sym (ap same_of (drops_other k l (inr lt))) ∙ is))
      | inr ge ↦ subst (λ q. New q l) (sym e) (meant l ge (subst (λ q. same_of (look p q l) ≡ false) e is))
    ]
  ]
