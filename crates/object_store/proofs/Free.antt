-- The least number that is free.
use Rattle.std.specs.Prelude.{◌≡◌, ◌<◌, ◌≤◌, ◌+◌, ◌&&◌, ℕ, zero, suc, Bool, true, false, not, List, [], ◌∷◌, length, slice_index_or, map as list_map, Option, Some, None, cond, is_some, nat_eq, nat_le, nat_lt, min, option_and_then}
use Rattle.std.proofs.Common.{refl, sym, ◌∙◌, ap, subst, inl, inr, arith}
use Rattle.std.proofs.lemmas.Bool.{cases_eq, cases_lt, cases_Bool, cond-true, cond-false, true≢false, false≢true, eqb-true, eq-eqb, ne_eqb, lt-ltb, le-leb}
use Rattle.std.proofs.lemmas.Bool.Decides.{nat_tests}
use Rattle.std.proofs.lemmas.List.{length-map}
use Rattle.std.proofs.lemmas.List.Sums.{sum_by-cons}
use Rattle.std.proofs.lemmas.List.Sorted.{length_permutation, sum_by_popped}
use Rattle.std.specs.List.Sorted.{IsPermutation}
use Rattle.std.specs.List.{range_with_len, AllByRecursion}
use Rattle.std.specs.Ordering.{nat_cmp, is_lt}
use Rattle.std.specs.Cmp.{nat_cmp_total}
use Rattle.std.specs.FinMap as map
use Rattle.std.specs.Map.{lookup}
use Rattle.std.specs.BTreeMap.{BTreeMap, is_at, btree_map_len}
use Rattle.std.specs.BinaryHeap.{IsUpperBound, heap_items}
use Rattle.std.specs.declared.cmp.Reverse.{Reverse}
use Rattle.std.proofs.lemmas.List.FromFn.{length-range_with_len}
use Rattle.posix_profile.specs.State.{Objects, Object}
use Rattle.posix_profile.specs.Changes.{new_number}
use Rattle.posix_profile.specs.laws.Link.{AreDistinct}
use Rattle.posix_profile.specs.laws.Map.{Member, same_key}
use Rattle.object_store.specs.TableFacts.{IsStated}
use Rattle.object_store.specs.declared.table_facts.ObjectFacts.{ObjectFacts}
use Rattle.object_store.specs.declared.free_numbers.FreeNumbers.{FreeNumbers}
use Rattle.object_store.specs.Taken.{AllTaken, IsLeastFree, Takes, GivesBack, by_number, taken_in}
use Rattle.object_store.specs.Numbers.{times, was_given_back, KnowsFree, first_or, next_number}
use Rattle.object_store.proofs.Counting.{short}
use Rattle.object_store.proofs.Reporting.{new_unique}

-- one where the test holds, else none
abbrev pub once : Bool → ℕ
once b = cond b 1 0

times_cons : (n : ℕ) (r : Reverse ℕ) (rs : List (Reverse ℕ)) → times n (r ∷ rs) ≡ once (nat_eq n r.0) + times n rs
times_cons n r rs = sum_by-cons (λ (r : Reverse ℕ). once (nat_eq n r.0)) r rs

some_times : (r : Reverse ℕ) (rs : List (Reverse ℕ)) → 1 ≤ times r.0 (r ∷ rs)
some_times r rs = omega (arith, times_cons r.0 r rs, ap once (eq-eqb r.0 r.0 refl))

-- where the test holds
given_is : (taken : ℕ → Bool) (low n : ℕ) → 1 ≤ once (was_given_back taken low n) → (2 ≤ n) × (n < low) × (taken n ≡ false)
given_is taken low n some = go (nat_le 2 n) (nat_lt n low) (taken n) refl refl refl some
  where
    go : (a b c : Bool) → nat_le 2 n ≡ a → nat_lt n low ≡ b → taken n ≡ c → 1 ≤ once (a && b && not c) → (2 ≤ n) × (n < low) × (taken n ≡ false)
    go true true false ea eb ec h = (grind (arith, nat_tests), grind (arith, nat_tests), ec)
    go true true true ea eb ec h = absurd (omega arith)
    go true false c ea eb ec h = absurd (omega arith)
    go false b c ea eb ec h = absurd (omega arith)

is_given : (taken : ℕ → Bool) (low n : ℕ) → 2 ≤ n → n < low → taken n ≡ false → was_given_back taken low n ≡ true
is_given taken low n two lt free = ap (λ a. a && nat_lt n low && not (taken n)) (le-leb 2 n two) ∙ ap (λ b. b && not (taken n)) (lt-ltb n low lt) ∙ ap not free

-- an element that is there as often as once, and what all are
found : (P : Reverse ℕ → Type 0) (n : ℕ) (rs : List (Reverse ℕ)) → AllByRecursion P rs → 1 ≤ times n rs → (r : Reverse ℕ) × P r × (n ≡ r.0)
found P n [] all some = absurd (omega arith)
found P n (r ∷ rs) all some = elim (cases_Bool (nat_eq n r.0)) [
  | inl yes' ↦ (r, all.0, eqb-true n r.0 yes')
  | inr no' ↦ found P n rs all.1 (omega (arith, times_cons n r rs, ap once no', some))
]

not_below : (a b : ℕ) → is_lt (nat_cmp b a) ≡ false → a ≤ b
not_below a b is = elim (cases_lt b a) [
  | inl lt ↦ let yes' : is_lt (nat_cmp b a) ≡ true = grind (arith, nat_tests) in absurd (true≢false (sym yes' ∙ is))
  | inr le ↦ le
]

-- the first of those that were given back is the least that is free
pub least_given : (numbers : FreeNumbers) (taken : ℕ → Bool) (r : Reverse ℕ) (rs : List (Reverse ℕ)) → KnowsFree numbers taken → heap_items numbers.freed ≡ r ∷ rs → IsUpperBound by_number r (heap_items numbers.freed) → IsLeastFree taken r.0
least_given numbers taken r rs knows items top =
    let some : 1 ≤ once (was_given_back taken numbers.low r.0) = omega (arith, some_times r rs, ap (times r.0) items, knows.freed r.0) in
    let is = given_is taken numbers.low r.0 some in
    record { low = is.0; free = is.2; below = λ k two lt. below k two lt is.1 (taken k) refl }
  where
    below : (k : ℕ) → 2 ≤ k → k < r.0 → r.0 < numbers.low → (b : Bool) → taken k ≡ b → taken k ≡ true
    below k two lt far true is = is
    below k two lt far false is =
        let one' : times k (heap_items numbers.freed) ≡ 1 = knows.freed k ∙ cond-true _ _ _ (is_given taken numbers.low k two (omega (arith, lt, far)) is) in
        let f = found (λ y. is_lt (by_number r y) ≡ false) k (heap_items numbers.freed) top (omega (arith, one')) in
        let le : r.0 ≤ f.0.0 = not_below r.0 f.0.0 f.1 in
        absurd (omega (arith, le, f.2, lt))

-- where none was given back each below the mark is taken
pub all_taken : (numbers : FreeNumbers) (taken : ℕ → Bool) → KnowsFree numbers taken → heap_items numbers.freed ≡ [] → AllTaken taken numbers.low
all_taken numbers taken knows items k two lt = go (taken k) refl
  where
    go : (b : Bool) → taken k ≡ b → taken k ≡ true
    go true is = is
    go false is =
        let one' : times k (heap_items numbers.freed) ≡ 1 = knows.freed k ∙ cond-true _ _ _ (is_given taken numbers.low k two lt is) in
        let none : times k (heap_items numbers.freed) ≡ 0 = ap (times k) items in
        absurd (omega (arith, one', none))

-- how often a number is in the count, by what is taken
counted_once : (before after : ℕ → Bool) (low n : ℕ) → after n ≡ before n → once (was_given_back after low n) ≡ once (was_given_back before low n)
counted_once before after low n same = ap (λ b. once (nat_le 2 n && nat_lt n low && not b)) same

pub not_counted : (taken : ℕ → Bool) (low n : ℕ) → taken n ≡ true → once (was_given_back taken low n) ≡ 0
not_counted taken low n is = go (nat_le 2 n) (nat_lt n low) ∙ refl
  where
    go : (a b : Bool) → once (a && b && not (taken n)) ≡ 0
    go true true = ap (λ c. once (not c)) is
    go true false = refl
    go false b = refl

-- the first of those that were given back is taken
pub took_given : (before after : ℕ → Bool) (low : ℕ) (r : Reverse ℕ) (old new : List (Reverse ℕ)) → ((n : ℕ) → times n old ≡ once (was_given_back before low n)) → Takes before after r.0
    → ((n : ℕ) → times n new + once (nat_eq n r.0) ≡ times n old) → (n : ℕ) → times n new ≡ once (was_given_back after low n)
took_given before after low r old new knows takes less n = elim (cases_eq n r.0) [
  | inl is ↦
      let one' : once (nat_eq n r.0) ≡ 1 = ap once (eq-eqb n r.0 is) in
      let within_limit : once (was_given_back before low n) ≤ 1 = at_most_one (was_given_back before low n) in
      let none = not_counted after low n (ap after is ∙ takes.here) in
      omega (arith, less n, knows n, one', within_limit, none)
  | inr ne ↦
      let other : once (nat_eq n r.0) ≡ 0 = ap once (ne_eqb n r.0 ne) in
      let same = counted_once before after low n (takes.others n ne) in
      omega (arith, less n, knows n, other, same)
]
  where
    at_most_one : (b : Bool) → once b ≤ 1
    at_most_one true = omega arith
    at_most_one false = omega arith

-- with none given back, all numbers below a mark are taken
pub none_given : (taken : ℕ → Bool) (low : ℕ) (items : List (Reverse ℕ)) → items ≡ [] → AllTaken taken low → (n : ℕ) → times n items ≡ once (was_given_back taken low n)
none_given taken low items none all n = ap (times n) none ∙ sym (go (nat_le 2 n) (nat_lt n low) refl refl)
  where
    go : (a b : Bool) → nat_le 2 n ≡ a → nat_lt n low ≡ b → once (a && b && not (taken n)) ≡ 0
    go true true ea eb = ap (λ c. once (not c)) (all n (grind (arith, nat_tests)) (grind (arith, nat_tests)))
    go true false ea eb = refl
    go false b ea eb = refl

-- the first of a list that is not empty
pub first_item : (xs : List (Reverse ℕ)) (r : Reverse ℕ) → nat_lt 0 (length xs) ≡ true → r ≡ slice_index_or xs 0 r → (rs : List (Reverse ℕ)) × (xs ≡ r ∷ rs)
first_item [] r some is = absurd (false≢true some)
first_item (x ∷ xs) r some is = (xs, ap (λ y. y ∷ xs) (sym is))

-- the first of those that were given back is taken
pub took_knows : (old new : FreeNumbers) (before after : ℕ → Bool) (x : Reverse ℕ) → KnowsFree old before → x ≡ slice_index_or (heap_items old.freed) 0 x → IsPermutation (heap_items old.freed) (x ∷ heap_items new.freed)
    → new.low ≡ old.low → Takes before after (next_number old) → KnowsFree new after
took_knows old new before after x knows first moves same takes =
    let long : length (x ∷ heap_items new.freed) ≡ length (heap_items old.freed) = length_permutation _ _ moves in
    let rest = first_item (heap_items old.freed) x (lt-ltb 0 (length (heap_items old.freed)) (omega (arith, long))) first in
    let taken : Takes before after x.0 = subst (Takes before after) (ap (λ xs. first_or xs old.low) rest.1) takes in
    let some : 1 ≤ once (was_given_back before old.low x.0) = omega (arith, some_times x rest.0, ap (times x.0) rest.1, knows.freed x.0) in
    let is = given_is before old.low x.0 some in
    record {
      freed = λ n.
          took_given before after old.low x (heap_items old.freed) (heap_items new.freed) knows.freed taken
          (λ n. sum_by_popped (λ (r : Reverse ℕ). once (nat_eq n r.0)) x (heap_items old.freed) (heap_items new.freed) moves) n
          ∙ ap (λ low. once (was_given_back after low n)) (sym same);
      low = omega (arith, knows.low, same);
      mark = ap after same ∙ taken.others old.low (λ e. absurd (omega (arith, e, is.1))) ∙ knows.mark;
    }

-- where none was given back, the mark is taken
pub mark_below : (old : FreeNumbers) (before after : ℕ → Bool) → KnowsFree old before → heap_items old.freed ≡ [] → Takes before after (next_number old) → AllTaken after old.low
mark_below old before after knows none takes k two lt =
    let taken : Takes before after old.low = subst (Takes before after) (ap (λ xs. first_or xs old.low) none) takes in
    taken.others k (λ is. absurd (omega (arith, is, lt))) ∙ all_taken old before knows none k two lt

pub mark_knows : (new : FreeNumbers) (after : ℕ → Bool) → heap_items new.freed ≡ [] → 2 ≤ new.low → after new.low ≡ false → AllTaken after new.low → KnowsFree new after
mark_knows new after none two free below = record { freed = none_given after new.low (heap_items new.freed) none below; low = two; mark = free }

-- a number is given back, and the least that is free then is the mark
pub anew_knows : (new : FreeNumbers) (before after : ℕ → Bool) (number least : ℕ) → heap_items new.freed ≡ [] → IsLeastFree before least → GivesBack before after number → 2 ≤ number
    → new.low ≡ min least number → KnowsFree new after
anew_knows new before after number least none free gives two low =
    mark_knows new after none (omega (arith, low, two, free.low)) (ap after low ∙ mark) (λ k from lt. gives.others k (λ is. absurd (omega (arith, is, lt, low))) ∙ free.below k from (omega (arith, lt, low)))
  where
    mark : after (min least number) ≡ false
    mark = elim (cases_lt least number) [
      | inl lt ↦
          let is : min least number ≡ least = omega (arith, lt) in
          ap after is ∙ gives.others least (λ same. absurd (omega (arith, same, lt))) ∙ free.free
      | inr le ↦
          let is : min least number ≡ number = omega (arith, le) in
          ap after is ∙ gives.here
    ]

-- a number is given back
pub gave_back : (before after : ℕ → Bool) (low m : ℕ) (old new : List (Reverse ℕ)) → ((n : ℕ) → times n old ≡ once (was_given_back before low n)) → GivesBack before after m → 2 ≤ m → m < low
    → ((n : ℕ) → times n new ≡ once (nat_eq n m) + times n old) → (n : ℕ) → times n new ≡ once (was_given_back after low n)
gave_back before after low m old new knows gives two lt more n = elim (cases_eq n m) [
  | inl is ↦
      let one' : once (nat_eq n m) ≡ 1 = ap once (eq-eqb n m is) in
      let none = not_counted before low n (ap before is ∙ gives.was) in
      let now : once (was_given_back after low n) ≡ 1 = cond-true _ _ _ (ap (was_given_back after low) is ∙ is_given after low m two lt gives.here) in
      omega (arith, more n, knows n, one', none, now)
  | inr ne ↦
      let other : once (nat_eq n m) ≡ 0 = ap once (ne_eqb n m ne) in
      let same = counted_once before after low n (gives.others n ne) in
      omega (arith, more n, knows n, other, same)
]

-- no more numbers are taken than there are entries
entry_of : (facts : List (ℕ × Option ObjectFacts)) (n : ℕ) → is_some (option_and_then (λ f. f) (lookup (is_at (nat_cmp n)) facts)) ≡ true → Member (list_map (λ (e : ℕ × Option ObjectFacts). e.0) facts) n
entry_of [] n is = absurd (false≢true is)
entry_of (e ∷ es) n is = elim (cases_Bool (is_at (nat_cmp n) e.0)) [
  | inl yes' ↦ inl (same_key nat_cmp_total map.nat_cmp-IsAntisymmetric n e.0 yes')
  | inr no' ↦ inr (entry_of es n (ap (λ (v : Option (Option ObjectFacts)). is_some (option_and_then (λ f. f) v)) (sym (cond-false _ _ _ no')) ∙ is))
]

far_member : (a n x : ℕ) → Member (range_with_len a n) x → (a ≤ x) × (x < a + n)
far_member a zero x is = absurd is
far_member a (suc n) x (inl is) = (omega (arith, is), omega (arith, is))
far_member a (suc n) x (inr is) = let m = far_member (a + 1) n x is in (omega (arith, m.0), omega (arith, m.1))

range_distinct : (a n : ℕ) → AreDistinct (range_with_len a n)
range_distinct a zero = tt
range_distinct a (suc n) = ((λ is. let m = far_member (a + 1) n a is in absurd (omega (arith, m.0))), range_distinct (a + 1) n)

pub taken_few : (facts : BTreeMap ℕ (Option ObjectFacts)) (n : ℕ) → AllTaken (taken_in facts) (2 + n) → n ≤ btree_map_len facts
taken_few facts n all =
    omega (
      arith,
      short (range_with_len 2 n) (list_map (λ (e : ℕ × Option ObjectFacts). e.0) facts.entries) (range_distinct 2 n)
          (λ x is. let m = far_member 2 n x is in entry_of facts.entries x (all x m.0 (omega (arith, m.1)))),
      length-range_with_len 2 n,
      length-map facts.entries (λ (e : ℕ × Option ObjectFacts). e.0),
    )

-- the least number that is free of facts is the one that a new object gets
pub next_is_new : (objects : Objects) (reported : ℕ → Option ObjectFacts) (n : ℕ) → ((o : ℕ) → IsStated objects o (map.get objects o) (reported o)) → IsLeastFree (λ o. is_some (reported o)) n → n ≡ new_number objects
next_is_new objects reported n each least = new_unique objects n (free (map.get objects n) (reported n) (each n) least.free) least.low (λ k two lt. there k (map.get objects k) (reported k) refl (each k) (least.below k two lt))
  where
    free : (v : Option Object) (g : Option ObjectFacts) → IsStated objects n v g → is_some g ≡ false → v ≡ None
    free None g t is = refl
    free (Some x) None t is = absurd t
    free (Some x) (Some f) t is = absurd (true≢false is)

    there : (k : ℕ) (v : Option Object) (g : Option ObjectFacts) → map.get objects k ≡ v → IsStated objects k v g → is_some g ≡ true → (x : Object) × (map.get objects k ≡ Some x)
    there k None None e t is = absurd (false≢true is)
    there k None (Some f) e t is = absurd t
    there k (Some x) g e t is = (x, e)
