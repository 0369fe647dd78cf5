-- Parts of 32 bytes, one after another.
use Rattle.std.specs.Prelude.{◌≡◌, ◌⊎◌, ◌<◌, ◌≤◌, ℕ, zero, suc, ◌+◌, ◌-◌, ◌*◌, ◌/◌, min, List, [], ◌∷◌, ◌++◌, length, get_or, take, drop, flat_map, replicate, slice_get, Option, Some, All, AllPairs}
use Rattle.std.specs.List.{range_with_len}
use Rattle.std.specs.Option.{option_map_or}
use Rattle.std.proofs.Common.{refl, sym, ◌∙◌, ap, subst, inl, inr, arith, ap₂, length-append, length-drop, drop-drop}
use Rattle.std.proofs.Math.Seq.{take-append_seam, drop-append_seam}
use Rattle.std.proofs.lemmas.Bool.{cases_eq, cases_lt}
use Rattle.std.proofs.lemmas.List.{take-append-drop}
use Rattle.std.proofs.lemmas.List.Elements.{All-append}
use Rattle.std.proofs.lemmas.Option.{slice_get_within, slice_get_past, get_or_from_slice_get, same_Some}
use Rattle.volume_terms.specs.laws.List.{slice_get_there, push_last}
use Rattle.page_tags.specs.laws.Check.{all_at, length-slot}
use Rattle.page_tags.specs.Checks.{IsCheckEntry, IsEntryBefore, check_entry_bytes}
use Rattle.mount_scan.specs.CheckpointParts.{AreEntries, ArePartsFrom, BeginsWith, IsLast, Takes, entry_part}
use Rattle.page_tags.specs.declared.check.CheckEntry.{CheckEntry}

-- behind the last entry there are zeros
pub zeros_past : (es : List CheckEntry) (k : ℕ) → length es ≤ k → entry_part es k ≡ replicate 32 0
zeros_past es k past = ap (λ (m : Option CheckEntry). option_map_or check_entry_bytes m (replicate 32 0)) (slice_get_past es k past)

-- before it, its bytes
pub bytes_at : (es : List CheckEntry) (k : ℕ) (e : CheckEntry) → slice_get es k ≡ Some e → entry_part es k ≡ check_entry_bytes e
bytes_at es k e is = ap (λ (m : Option CheckEntry). option_map_or check_entry_bytes m (replicate 32 0)) is

before_on : (e f g : CheckEntry) → IsEntryBefore e f → IsEntryBefore f g → IsEntryBefore e g
before_on e f g (inl a) (inl b) = inl (omega arith)
before_on e f g (inl a) (inr b) = inl (omega (arith, b.0))
before_on e f g (inr a) (inl b) = inl (omega (arith, a.0))
before_on e f g (inr a) (inr b) = inr (omega (arith, a.0, b.0), omega (arith, a.1, b.1))

-- entries that rise, by their places
pub before_at : (es : List CheckEntry) → AllPairs IsEntryBefore es → (i j : ℕ) (e f : CheckEntry) → i < j → slice_get es i ≡ Some e → slice_get es j ≡ Some f → IsEntryBefore e f
before_at es rise i j e f lt is is' =
    subst (λ x. IsEntryBefore x f) (get_or_from_slice_get es i e e is)
    (subst (IsEntryBefore (get_or es i e)) (get_or_from_slice_get es j f e is') (rise i j e lt (slice_get_within es j f is')))

append_first : (xs ys : List CheckEntry) (i : ℕ) (x : CheckEntry) → slice_get xs i ≡ Some x → slice_get (xs ++ ys) i ≡ Some x
append_first [] ys i x is = absurd cc
append_first (y ∷ xs) ys zero x is = is
append_first (y ∷ xs) ys (suc i) x is = append_first xs ys i x is

-- one more entry, which comes after the last
module _ (es : List CheckEntry) (e : CheckEntry) where
  abbrev pub more : List CheckEntry
  more = es ++ e ∷ []

  len_more : length (es ++ e ∷ []) ≡ length es + 1
  len_more = omega (arith, length-append es (e ∷ []))

  pub first_more : (k : ℕ) (x : CheckEntry) → slice_get es k ≡ Some x → slice_get more k ≡ Some x
  first_more k x is = append_first es (e ∷ []) k x is

  pub last_more : slice_get more (length es) ≡ Some e
  last_more = push_last es e

  -- an entry of the longer list is one of the shorter, or the new one
  more_is : (k : ℕ) (x : CheckEntry) → slice_get more k ≡ Some x → (slice_get es k ≡ Some x) ⊎ ((k ≡ length es) × (x ≡ e))
  more_is k x is = elim (cases_lt k (length es)) [
    | inl lt ↦
        let old = slice_get_there es k lt in
        let same : old.0 ≡ x = same_Some old.0 x (sym (first_more k old.0 old.1) ∙ is) in
        inl (old.1 ∙ ap Some same)
    | inr ge ↦
        let within = slice_get_within more k x is in
        let at : k ≡ length es = omega (arith, within, len_more, ge) in
        inr (at, same_Some x e (sym is ∙ ap (slice_get more) at ∙ last_more))
  ]

  rise_more : AllPairs IsEntryBefore es → ((last : CheckEntry) → IsLast es last → IsEntryBefore last e) → AllPairs IsEntryBefore more
  rise_more rise next i j d lt within =
      let x = slice_get_there more i (omega (arith, lt, within)) in
      let y = slice_get_there more j within in
      let first : get_or more i d ≡ x.0 = get_or_from_slice_get more i x.0 d x.1 in
      let second : get_or more j d ≡ y.0 = get_or_from_slice_get more j y.0 d y.1 in
      subst (λ u. IsEntryBefore u (get_or more j d)) (sym first) (subst (IsEntryBefore x.0) (sym second) (go x.0 y.0 x.1 y.1)) where
        go : (x y : CheckEntry) → slice_get more i ≡ Some x → slice_get more j ≡ Some y → IsEntryBefore x y
        go x y is is' = elim (more_is i x is) [
          | inr (at, same) ↦ let w = slice_get_within more j y is' in absurd (omega (arith, at, lt, w, len_more))
          | inl there ↦ elim (more_is j y is') [
            | inl there' ↦ before_at es rise i j x y lt there there'
            | inr (at, same) ↦
                let some = slice_get_within es i x there in
                let l = slice_get_there es (length es - 1) (omega (arith, some)) in
                subst (IsEntryBefore x) (sym same) (elim (cases_eq i (length es - 1)) [
                  | inl here ↦ let one : x ≡ l.0 = same_Some x l.0 (sym there ∙ ap (slice_get es) here ∙ l.1) in subst (λ u. IsEntryBefore u e) (sym one) (next l.0 l.1)
                  | inr ne ↦ before_on x l.0 e (before_at es rise i (length es - 1) x l.0 (omega (arith, some, ne)) there l.1) (next l.0 l.1)
                ])
          ]
        ]

  pub entries_more : (n : ℕ) → AreEntries n es → IsCheckEntry e → ((last : CheckEntry) → IsLast es last → IsEntryBefore last e) → AreEntries (n + 1) more
  entries_more n are valid next = record {
    count = len_more ∙ ap (λ k. k + 1) are.count;
    each = All-append IsCheckEntry es (e ∷ []) are.each one;
    rise = rise_more are.rise next;
  } where
    one : All IsCheckEntry (e ∷ [])
    one zero d lt = valid
    one (suc k) d lt = absurd (omega arith)

  -- the longer list is a first part of what has the new entry there
  pub first_of_more : (fs : List CheckEntry) → BeginsWith es fs → slice_get fs (length es) ≡ Some e → BeginsWith more fs
  first_of_more fs first at k x is = elim (more_is k x is) [
    | inl there ↦ first k x there
    | inr (here, same) ↦ ap (slice_get fs) here ∙ at ∙ ap Some (sym same)
  ]

-- the entry that a part is, where it is that of a list
pub entry_of_part : (n : ℕ) (fs : List CheckEntry) (k : ℕ) → AreEntries n fs → k < n → (f : CheckEntry) × (slice_get fs k ≡ Some f) × IsCheckEntry f × (entry_part fs k ≡ check_entry_bytes f)
entry_of_part n fs k are lt =
    let f = slice_get_there fs k (omega (arith, lt, are.count)) in
    (f.0, f.1, all_at IsCheckEntry fs k f.0 are.each f.1, bytes_at fs k f.0 f.1)

-- ---- parts in a row

pub length-part : (es : List CheckEntry) (k : ℕ) → length (entry_part es k) ≡ 32
length-part es k = length-slot es (suc k)

-- bytes whose parts are these are these in a row
pub in_a_row : (f : ℕ → List ℕ) (a n : ℕ) (xs : List ℕ) → length xs ≡ 32 * n → ((i : ℕ) → i < n → take 32 (drop (32 * i) xs) ≡ f (a + i)) → xs ≡ flat_map f (range_with_len a n)
in_a_row f a zero [] len each = refl
in_a_row f a zero (x ∷ xs) len each = absurd (omega (arith, len))
in_a_row f a (suc n) xs len each =
    let first : take 32 xs ≡ f a = ap (λ k. take 32 (drop k xs)) (let z : 0 ≡ 32 * 0 = omega arith in z) ∙ each 0 (omega arith) ∙ ap f (let z : a + 0 ≡ a = omega arith in z) in
    let rest : drop 32 xs ≡ flat_map f (range_with_len (a + 1) n) =
    in_a_row f (a + 1) n (drop 32 xs) (omega (arith, len, length-drop 32 xs)) (λ i lt.
    ap (take 32) (drop-drop (32 * i) 32 xs) ∙ ap (λ k. take 32 (drop k xs)) (let z : 32 + 32 * i ≡ 32 * (i + 1) = omega arith in z) ∙ each (i + 1) (omega (arith, lt)) ∙ ap f (let z : a + (i + 1) ≡ a + 1 + i = omega arith in z)) in
    sym (take-append-drop 32 xs) ∙ ap₂ ◌++◌ first rest

-- and each part of what is in a row is its own
pub part_of : (f : ℕ → List ℕ) → ((k : ℕ) → length (f k) ≡ 32) → (a n : ℕ) (xs : List ℕ) → xs ≡ flat_map f (range_with_len a n) → (i : ℕ) → i < n → take 32 (drop (32 * i) xs) ≡ f (a + i)
part_of f len a zero xs is i lt = absurd (omega arith)
part_of f len a (suc n) xs is i lt =
    let rest : List ℕ = flat_map f (range_with_len (a + 1) n) in
    let front : take 32 xs ≡ f a = ap (take 32) is ∙ ap (λ k. take k (f a ++ rest)) (sym (len a)) ∙ take-append_seam (f a) rest in
    let behind : drop 32 xs ≡ rest = ap (drop 32) is ∙ ap (λ k. drop k (f a ++ rest)) (sym (len a)) ∙ drop-append_seam (f a) rest in
    elim (cases_eq i 0) [
      | inl zero' ↦ ap (λ k. take 32 (drop k xs)) (let z : 32 * i ≡ 0 = omega (arith, zero') in z) ∙ front ∙ ap f (let z : a ≡ a + i = omega (arith, zero') in z)
      | inr some ↦
          ap (λ k. take 32 (drop k xs)) (let z : 32 * i ≡ 32 + 32 * (i - 1) = omega (arith, some) in z) ∙ ap (take 32) (sym (drop-drop (32 * (i - 1)) 32 xs))
          ∙ part_of f len (a + 1) n (drop 32 xs) behind (i - 1) (omega (arith, some, lt)) ∙ ap f (let z : a + 1 + (i - 1) ≡ a + i = omega (arith, some) in z)
    ]

-- ---- what one part adds

-- an entry more, at the place that the list has come to
pub takes_more :
    (es : List CheckEntry) (e : CheckEntry) (n place : ℕ) (part : List ℕ) → length es ≡ place → place < n → IsCheckEntry e → part ≡ check_entry_bytes e
    → ((f : CheckEntry) → IsCheckEntry f → part ≡ check_entry_bytes f → e ≡ f) → AreEntries (min n (place + 1)) (more es e)
    → Takes n (place + 1) (λ fs. part ≡ entry_part fs place) es (more es e)
takes_more es e n place part here lt valid said one are = record {
  so_far = are;
  exact = λ fs all. (
    λ begins. (
      λ k x at. begins k x (first_more es e k x at),
      said ∙ sym (bytes_at fs place e (begins place e (ap (slice_get (more es e)) (sym here) ∙ last_more es e))),
    ),
    λ both.
        let f = entry_of_part n fs place all lt in
        let same : e ≡ f.0 = one f.0 f.2 (both.1 ∙ f.3) in
        first_of_more es e fs both.0 (ap (slice_get fs) here ∙ f.1 ∙ ap Some (sym same)),
  );
}

-- and behind the last entry none
pub takes_none : (es : List CheckEntry) (n place : ℕ) (part : List ℕ) → n ≤ place → part ≡ replicate 32 0 → AreEntries (min n place) es → Takes n (place + 1) (λ fs. part ≡ entry_part fs place) es es
takes_none es n place part past zeros are = record {
  so_far = let same : min n place ≡ min n (place + 1) = omega (arith, past) in subst (λ k. AreEntries k es) same are;
  exact = λ fs all. (λ begins. (begins, zeros ∙ sym (zeros_past fs place (omega (arith, past, all.count)))), λ both. both.0);
}

-- ---- what parts in a row add

-- at first nothing was read
pub takes_start :
    (n first : ℕ) (parts : List ℕ) (es : List CheckEntry) → AreEntries (min n first) es
    → Takes n (first + 0) (λ fs. (i : ℕ) → i < 0 → take 32 (drop (32 * i) parts) ≡ entry_part fs (first + i)) es es
takes_start n first parts es are = record {
  so_far = let same : first ≡ first + 0 = omega arith in subst (λ k. AreEntries (min n k) es) same are;
  exact = λ fs all. (λ begins. (begins, λ i lt. absurd (omega (arith, lt))), λ both. both.0);
}

-- then one part more
pub takes_next :
    (n first k : ℕ) (parts part : List ℕ) → part ≡ take 32 (drop (32 * k) parts) → (old mid new : List CheckEntry)
    → Takes n (first + k) (λ fs. (i : ℕ) → i < k → take 32 (drop (32 * i) parts) ≡ entry_part fs (first + i)) old mid
    → Takes n (first + k + 1) (λ fs. part ≡ entry_part fs (first + k)) mid new
    → Takes n (first + (k + 1)) (λ fs. (i : ℕ) → i < k + 1 → take 32 (drop (32 * i) parts) ≡ entry_part fs (first + i)) old new
takes_next n first k parts part cut old mid new were is = record {
  so_far = let same : first + k + 1 ≡ first + (k + 1) = omega arith in subst (λ j. AreEntries (min n j) new) same is.so_far;
  exact = λ fs all. (
    λ begins.
        let last = (is.exact fs all).0 begins in
        let before = (were.exact fs all).0 last.0 in (
          before.0,
          λ i lt. elim (cases_eq i k) [
            | inl here ↦ ap (λ j. take 32 (drop (32 * j) parts)) here ∙ sym cut ∙ last.1 ∙ ap (λ j. entry_part fs (first + j)) (sym here)
            | inr ne ↦ before.1 i (omega (arith, lt, ne))
          ],
        ),
    λ both. (is.exact fs all).1 ((were.exact fs all).1 (both.0, λ i lt. both.1 i (omega (arith, lt))), cut ∙ both.1 k (omega arith)),
  );
}

-- at last all of them
pub takes_row :
    (n first k : ℕ) (parts : List ℕ) → length parts ≡ 32 * (length parts / 32) → k ≡ length parts / 32 → (old new : List CheckEntry)
    → Takes n (first + k) (λ fs. (i : ℕ) → i < k → take 32 (drop (32 * i) parts) ≡ entry_part fs (first + i)) old new
    → Takes n (first + length parts / 32) (ArePartsFrom first parts) old new
takes_row n first k parts size all old new were = record {
  so_far = subst (λ j. AreEntries (min n (first + j)) new) all were.so_far;
  exact = λ fs are. (
    λ begins. let is = (were.exact fs are).0 begins in (is.0, in_a_row (entry_part fs) first (length parts / 32) parts size (λ i lt. is.1 i (omega (arith, lt, all)))),
    λ both. (were.exact fs are).1 (both.0, λ i lt. part_of (entry_part fs) (length-part fs) first (length parts / 32) parts both.1 i (omega (arith, lt, all))),
  );
}
