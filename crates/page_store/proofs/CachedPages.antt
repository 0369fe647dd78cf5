-- What becomes of the keys of a cache.
use Rattle.std.proofs.Common.{◌≡◌, ◌≤◌, ◌<◌, ℕ, zero, suc, ◌+◌, ◌-◌, ◌==◌, Bool, true, false, ◌&&◌, ◌⊎◌, List, [], ◌∷◌, length, cond, Contains, Option, Some, None, IsSome, refl, sym, ◌∙◌, ap, subst, inl, inr, arith, is_some, option_map, slice_get, IfSome, Bor, Result, Ok, Err, OnOk, OnErr}
use Rattle.std.proofs.lemmas.Bool.{cases_Bool, true≢false, cond-true, cond-false, and_parts, eqb-true, eq-eqb}
use Rattle.std.proofs.lemmas.Cmp.{nat_eq_equiv, and_equiv, on_equiv}
use Rattle.std.specs.Cmp.{IsEquivalence}
use Rattle.std.specs.declared.vec.Vec.{Vec}
use Rattle.std.specs.declared.alloc.Global.{Global}
use Rattle.std.specs.List.{IsDistinct}
use Rattle.std.specs.Map.{lookup, remove_entry, set_value, keys_of}
use Rattle.std.proofs.lemmas.Map.{lookup-remove_entry, lookup-set_value}
use Rattle.lru.specs.LruCache.{LruCache, lru_cache, promoted, put_entries, displaced}
use Rattle.lru.proofs.Splits.{Contains-cons, Contains-head, Contains-tail}
use Rattle.lru.proofs.CallerLemmas.{Contains-put_entries, Contains-promoted, Contains-remove_entry, Contains-lookup, lookup-put_entries}
use Rattle.std.specs.Option.{option_copied, option_map_or}
use Rattle.page_store.specs.Slots.{Held, held_in, page_in, is_key, HasSize, AreSized}
use Rattle.page_store.specs.Cached.{held, held_count, capacity_of}
use Rattle.page_store.specs.Changes.{KeepsSizes, KeepsSlots, HasTheSame, IsOther, Changes, Puts}
use Rattle.page_store.specs.declared.slot.Slot.{Slot}
use Rattle.page_store.specs.declared.slot.Slot.TheVariants as slots
use Rattle.page_store.specs.declared.cache.PageCache.{PageCache}
use Rattle.page_store.proofs.Lookups.{length-removed, length-promoted, lookup-removed, lookup-promoted, lookup-promoted_same, put_others, put_room, put_no_fewer, put_one_more}

-- whether two keys are one
abbrev pub key_eq : ℕ × ℕ → ℕ × ℕ → Bool
key_eq a b = (a.0 == b.0) && (a.1 == b.1)

pub key_same : (o c : ℕ) (k : ℕ × ℕ) → is_key o c k ≡ true → (o ≡ k.0) × (c ≡ k.1)
key_same o c k e = let p = and_parts (o == k.0) (c == k.1) e in (eqb-true o k.0 p.0, eqb-true c k.1 p.1)

pub same_key : (o c : ℕ) (k : ℕ × ℕ) → o ≡ k.0 → c ≡ k.1 → is_key o c k ≡ true
same_key o c k a b = rw (eq-eqb o k.0 a, eq-eqb c k.1 b) refl

-- the first entry is found, if it passes the test
pub first_found : (test : ℕ × ℕ → Bool) (es : List ((ℕ × ℕ) × Slot)) (e : (ℕ × ℕ) × Slot) → slice_get es 0 ≡ Some e → test e.0 ≡ true → lookup test es ≡ Some e.1
first_found test [] e first passes = absurd cc
first_found test (y ∷ es) e first passes =
    let same : y ≡ e = cc in
    cond-true (test y.0) (Some y.1) (lookup test es) (ap (λ (x : (ℕ × ℕ) × Slot). test x.0) same ∙ passes) ∙ ap (λ (x : (ℕ × ℕ) × Slot). Some x.1) same

-- a key that passes both tests is of both
keys_apart : (o c p q : ℕ) → IsOther o c p q → (k : ℕ × ℕ) → is_key o c k ≡ true → is_key p q k ≡ false
keys_apart o c p q other k e = elim (cases_Bool (is_key p q k)) [
  | inl both ↦ let a = key_same o c k e in let b = key_same p q k both in absurd (other (b.0 ∙ sym a.0) (b.1 ∙ sym a.1))
  | inr no' ↦ no'
]

-- another key passes no test of this one
not_key : (o c p q : ℕ) → IsOther o c p q → is_key o c (p, q) ≡ false
not_key o c p q other = elim (cases_Bool (is_key o c (p, q))) [
  | inl e ↦ let same = key_same o c (p, q) e in absurd (other (sym same.0) (sym same.1))
  | inr no' ↦ no'
]

got_contains : {X : Type 0} (xs : List X) (i : ℕ) (x : X) → slice_get xs i ≡ Some x → Contains xs x
got_contains [] i x e = absurd cc
got_contains (y ∷ xs) zero x e = let same : y ≡ x = cc in subst (Contains (y ∷ xs)) same (Contains-head y xs)
got_contains (y ∷ xs) (suc i) x e = Contains-tail y xs x (got_contains xs i x e)

-- a value that is set is the one of an entry, and the others were there
Contains-set : (test : ℕ × ℕ → Bool) (es : List ((ℕ × ℕ) × Slot)) (slot : Slot) (e : (ℕ × ℕ) × Slot) → Contains (set_value test es slot) e → Contains es e ⊎ (e.1 ≡ slot)
Contains-set test [] slot e in' = inl in'
Contains-set test (f ∷ es) slot e in' = elim (cases_Bool (test f.0)) [
  | inl y ↦ elim (Contains-cons (f.0, slot) es e (subst (λ (l : List ((ℕ × ℕ) × Slot)). Contains l e) (cond-true _ ((f.0, slot) ∷ es) (f ∷ set_value test es slot) y) in')) [
    | inl here ↦ inr (sym (ap (λ (x : (ℕ × ℕ) × Slot). x.1) here))
    | inr later ↦ inl (Contains-tail f es e later)
  ]
  | inr n ↦ elim (Contains-cons f (set_value test es slot) e (subst (λ (l : List ((ℕ × ℕ) × Slot)). Contains l e) (cond-false _ ((f.0, slot) ∷ es) (f ∷ set_value test es slot) n) in')) [
    | inl here ↦ inl (subst (Contains (f ∷ es)) here (Contains-head f es))
    | inr later ↦ elim (Contains-set test es slot e later) [
      | inl there ↦ inl (Contains-tail f es e there)
      | inr put ↦ inr put
    ]
  ]
]

pub key_laws : IsEquivalence key_eq
key_laws = and_equiv (on_equiv (λ (t : ℕ × ℕ). t.0) nat_eq_equiv) (on_equiv (λ (t : ℕ × ℕ). t.1) nat_eq_equiv)

some_held : (f : Option Slot) → IsSome (option_map held_in f) → IsSome f
some_held None is = is
some_held (Some slot) is = refl

module _ (old new : PageCache) (o c : ℕ) (size : new.page_bytes ≡ old.page_bytes) where
  put_sizes : (slot : Slot) → new.slots ≡ lru_cache (put_entries key_eq old.slots (o, c) slot) old.slots.cap → KeepsSizes old new
  put_sizes slot is = record { page_bytes = size; capacity = ap (λ (s : LruCache (ℕ × ℕ) Slot). s.cap) is }

  put_here : (slot : Slot) → new.slots ≡ lru_cache (put_entries key_eq old.slots (o, c) slot) old.slots.cap → held new o c ≡ Some (held_in slot)
  put_here slot is = ap (λ (s : LruCache (ℕ × ℕ) Slot). option_map held_in (lookup (is_key o c) s.entries)) is ∙ ap (option_map held_in) (lookup-put_entries key_eq old.slots (o, c) slot key_laws)

  put_in_room : (slot : Slot) → new.slots ≡ lru_cache (put_entries key_eq old.slots (o, c) slot) old.slots.cap
      → IsSome (held old o c) ⊎ (held_count old < capacity_of old) → (p q : ℕ) → IsOther o c p q → held new p q ≡ held old p q
  put_in_room slot is room p q other =
      ap (λ (s : LruCache (ℕ × ℕ) Slot). option_map held_in (lookup (is_key p q) s.entries)) is
      ∙ ap (option_map held_in) (put_room key_eq key_laws old.slots (o, c) slot (is_key p q) (keys_apart o c p q other) (entry_room room))
    where
      entry_room : IsSome (held old o c) ⊎ (held_count old < capacity_of old) → IsSome (lookup (key_eq (o, c)) old.slots.entries) ⊎ (length old.slots.entries < old.slots.cap)
      entry_room (inl there) = inl (some_held (lookup (is_key o c) old.slots.entries) there)
      entry_room (inr within_limit) = inr within_limit

  pub puts : (slot : Slot) → held_count old ≤ capacity_of old → new.slots ≡ lru_cache (put_entries key_eq old.slots (o, c) slot) old.slots.cap → Puts o c (held_in slot) old new
  puts slot fits is = record {
    sizes = put_sizes slot is;
    here = put_here slot is;
    others = λ p q other. elim (put_others key_eq key_laws old.slots (o, c) slot (is_key p q) (keys_apart o c p q other)) [
      | inl same ↦ inl (ap (λ (s : LruCache (ℕ × ℕ) Slot). option_map held_in (lookup (is_key p q) s.entries)) is ∙ ap (option_map held_in) same)
      | inr none ↦ inr (ap (λ (s : LruCache (ℕ × ℕ) Slot). option_map held_in (lookup (is_key p q) s.entries)) is ∙ ap (option_map held_in) none)
    ];
    room = put_in_room slot is;
    no_fewer = subst (λ (s : LruCache (ℕ × ℕ) Slot). held_count old ≤ length s.entries) (sym is) (put_no_fewer key_eq old.slots (o, c) slot fits);
    one_more = subst (λ (s : LruCache (ℕ × ℕ) Slot). length s.entries ≤ held_count old + 1) (sym is) (put_one_more key_eq old.slots (o, c) slot);
  }

  pub removes : IsDistinct key_eq (keys_of old.slots.entries) → new.slots ≡ lru_cache (remove_entry (is_key o c) old.slots.entries) old.slots.cap → Changes o c None old new
  removes distinct is = record {
    sizes = record { page_bytes = size; capacity = ap (λ (s : LruCache (ℕ × ℕ) Slot). s.cap) is };
    here =
        ap (λ (s : LruCache (ℕ × ℕ) Slot). option_map held_in (lookup (is_key o c) s.entries)) is
        ∙ ap (option_map held_in) (lookup-remove_entry key_laws (is_key o c) one (o, c) old.slots.entries distinct ∙ cond-true _ None (lookup (is_key o c) old.slots.entries) (key_laws.refl (o, c)));
    others = λ p q other.
        ap (λ (s : LruCache (ℕ × ℕ) Slot). option_map held_in (lookup (is_key p q) s.entries)) is
        ∙ ap (option_map held_in) (lookup-removed (is_key o c) (is_key p q) (keys_apart o c p q other) old.slots.entries);
  }
    where
      one : (x y : ℕ × ℕ) → is_key o c x ≡ true → is_key o c y ≡ key_eq x y
      one x y e = key_laws.congr (o, c) x y e

  -- what a promoted list has of any key
  promoted_lookup : (p q : ℕ) → lookup (is_key p q) (promoted (is_key o c) old.slots.entries) ≡ lookup (is_key p q) old.slots.entries
  promoted_lookup p q = elim (cases_Bool (is_key o c (p, q))) [
    | inl e ↦
        let same = key_same o c (p, q) e in
        subst (λ a. lookup (is_key a q) (promoted (is_key o c) old.slots.entries) ≡ lookup (is_key a q) old.slots.entries) same.0
        (subst (λ b. lookup (is_key o b) (promoted (is_key o c) old.slots.entries) ≡ lookup (is_key o b) old.slots.entries) same.1
        (lookup-promoted_same (is_key o c) old.slots.entries))
    | inr n ↦ lookup-promoted (is_key o c) (is_key p q) (keys_apart o c p q (λ a b. true≢false (sym (same_key o c (p, q) (sym a) (sym b)) ∙ n))) old.slots.entries
  ]

  pub promotes : new.slots ≡ lru_cache (promoted (is_key o c) old.slots.entries) old.slots.cap → HasTheSame old new
  promotes is = record {
    sizes = record { page_bytes = size; capacity = ap (λ (s : LruCache (ℕ × ℕ) Slot). s.cap) is };
    count = ap (λ (s : LruCache (ℕ × ℕ) Slot). length s.entries) is ∙ length-promoted (is_key o c) old.slots.entries;
    each = λ p q. ap (λ (s : LruCache (ℕ × ℕ) Slot). option_map held_in (lookup (is_key p q) s.entries)) is ∙ ap (option_map held_in) (promoted_lookup p q);
  }

  -- a slot was written over the one of the key, in a list that has of each key what the old one has
  module _ (es : List ((ℕ × ℕ) × Slot)) (each : (p q : ℕ) → lookup (is_key p q) es ≡ lookup (is_key p q) old.slots.entries) where
    writes_over : (slot : Slot) (h : Held) → held_in slot ≡ h → IsSome (held old o c) → new.slots ≡ lru_cache (set_value (is_key o c) es slot) old.slots.cap → Changes o c (Some h) old new
    writes_over slot h has there is = record {
      sizes = record { page_bytes = size; capacity = ap (λ (s : LruCache (ℕ × ℕ) Slot). s.cap) is };
      here =
          ap (λ (s : LruCache (ℕ × ℕ) Slot). option_map held_in (lookup (is_key o c) s.entries)) is
          ∙ ap (option_map held_in) (set (o, c) ∙ cond-true _ (Some slot) (lookup (is_key o c) es) (key_laws.refl (o, c))) ∙ ap Some has;
      others = λ p q other.
          ap (λ (s : LruCache (ℕ × ℕ) Slot). option_map held_in (lookup (is_key p q) s.entries)) is
          ∙ ap (option_map held_in) (set (p, q) ∙ cond-false _ (Some slot) (lookup (is_key p q) es) (not_key o c p q other) ∙ each p q);
    }
      where
        one : (x y : ℕ × ℕ) → is_key o c x ≡ true → is_key o c y ≡ key_eq x y
        one x y e = key_laws.congr (o, c) x y e

        found : IsSome (lookup (is_key o c) es)
        found = ap is_some (each o c) ∙ some_held (lookup (is_key o c) old.slots.entries) there

        set : (k : ℕ × ℕ) → lookup (key_eq k) (set_value (is_key o c) es slot) ≡ cond (is_key o c k) (Some slot) (lookup (key_eq k) es)
        set k = lookup-set_value key_laws (is_key o c) one k slot es found

  -- the slot of the key has another value
  pub writes : (slot : Slot) (h : Held) → held_in slot ≡ h → IsSome (held old o c) → new.slots ≡ lru_cache (set_value (is_key o c) old.slots.entries slot) old.slots.cap → Changes o c (Some h) old new
  writes = writes_over old.slots.entries (λ p q. refl)

  -- and the key is used
  pub writes_used : (slot : Slot) (h : Held) → held_in slot ≡ h → IsSome (held old o c)
      → new.slots ≡ lru_cache (set_value (is_key o c) (promoted (is_key o c) old.slots.entries) slot) old.slots.cap → Changes o c (Some h) old new
  writes_used = writes_over (promoted (is_key o c) old.slots.entries) promoted_lookup

pub removed_count : (old new : LruCache (ℕ × ℕ) Slot) (k : ℕ × ℕ) → IsSome (option_map held_in (lookup (key_eq k) old.entries))
    → new ≡ lru_cache (remove_entry (key_eq k) old.entries) old.cap → length new.entries + 1 ≡ length old.entries
removed_count old new k there is = ap (λ (s : LruCache (ℕ × ℕ) Slot). length s.entries + 1) is ∙ length-removed (key_eq k) old.entries (some_held (lookup (key_eq k) old.entries) there)

pub same_slots : (old new : PageCache) → new.page_bytes ≡ old.page_bytes → new.slots ≡ old.slots → HasTheSame old new
same_slots old new size is = record {
  sizes = record { page_bytes = size; capacity = ap (λ (s : LruCache (ℕ × ℕ) Slot). s.cap) is };
  count = ap (λ (s : LruCache (ℕ × ℕ) Slot). length s.entries) is;
  each = λ p q. ap (λ (s : LruCache (ℕ × ℕ) Slot). option_map held_in (lookup (is_key p q) s.entries)) is;
}

pub committed_same : (old new : PageCache) → KeepsSlots old new → HasTheSame old new
committed_same old new keeps = same_slots old new keeps.page_bytes keeps.slots

-- a page in a frame of so many bytes, and a place
pub page_has : (bytes : ℕ) (frame : Vec ℕ Global) → length frame.items ≡ bytes → HasSize bytes (slots.Page frame)
page_has bytes frame size f is = let same : frame ≡ f = cc in subst (λ (v : Vec ℕ Global). length v.items ≡ bytes) same size

pub place_sized : (bytes : ℕ) → HasSize bytes slots.Reserved
place_sized bytes f is = absurd cc

-- the frames after a slot was put, a key was used and one was taken away
module _ (bytes : ℕ) (old : LruCache (ℕ × ℕ) Slot) (new : LruCache (ℕ × ℕ) Slot) (sized : AreSized bytes old.entries) where
  pub put_sized : (k : ℕ × ℕ) (slot : Slot) → HasSize bytes slot → new ≡ lru_cache (put_entries key_eq old k slot) old.cap → AreSized bytes new.entries
  put_sized k slot size is key it in' = elim (Contains-put_entries key_eq old k slot (key, it) (subst (λ (s : LruCache (ℕ × ℕ) Slot). Contains s.entries (key, it)) is in')) [
    | inl was ↦ sized key it was
    | inr put ↦ subst (HasSize bytes) (sym put.0) size
  ]

  pub promoted_sized : (k : ℕ × ℕ) → new ≡ lru_cache (promoted (key_eq k) old.entries) old.cap → AreSized bytes new.entries
  promoted_sized k is key it in' = sized key it (Contains-promoted (key_eq k) old.entries (key, it) (subst (λ (s : LruCache (ℕ × ℕ) Slot). Contains s.entries (key, it)) is in'))

  pub removed_sized : (k : ℕ × ℕ) → new ≡ lru_cache (remove_entry (key_eq k) old.entries) old.cap → AreSized bytes new.entries
  removed_sized k is key it in' = sized key it (Contains-remove_entry (key_eq k) old.entries (key, it) (subst (λ (s : LruCache (ℕ × ℕ) Slot). Contains s.entries (key, it)) is in'))

  pub same_sized : new ≡ old → AreSized bytes new.entries
  same_sized is key it in' = sized key it (subst (λ (s : LruCache (ℕ × ℕ) Slot). Contains s.entries (key, it)) is in')

  -- after a push that was done, or was refused memory
  pub pushed_sized : {A E : Type 0} (k : ℕ × ℕ) (slot : Slot) (r : Result A E) → HasSize bytes slot → OnOk r (new ≡ lru_cache (put_entries key_eq old k slot) old.cap) → OnErr r (new ≡ old)
      → AreSized bytes new.entries
  pushed_sized k slot (Ok x) size done refused = put_sized k slot size done
  pushed_sized k slot (Err e) size done refused = same_sized refused

  pub found_sized : (k : ℕ × ℕ) (f : Option Slot) (it : Slot) → lookup (key_eq k) old.entries ≡ f → f ≡ Some it → HasSize bytes it
  found_sized k f it is found = let c = Contains-lookup (key_eq k) old.entries it (is ∙ found) in sized c.0 it c.1

  -- and where the key of a slot has a place
  pub vacated_sized : (k : ℕ × ℕ) (slot : Slot) → slot ≡ slots.Reserved → new ≡ lru_cache (set_value (key_eq k) old.entries slot) old.cap → AreSized bytes new.entries
  vacated_sized k slot place is key it in' = elim (Contains-set (key_eq k) old.entries slot (key, it) (subst (λ (s : LruCache (ℕ × ℕ) Slot). Contains s.entries (key, it)) is in')) [
    | inl there ↦ sized key it there
    | inr put ↦ subst (HasSize bytes) (sym (put ∙ place)) (place_sized bytes)
  ]

  -- and where a key that is used has another slot
  pub written_sized : (k : ℕ × ℕ) (slot : Slot) → HasSize bytes slot → new ≡ lru_cache (set_value (key_eq k) (promoted (key_eq k) old.entries) slot) old.cap → AreSized bytes new.entries
  written_sized k slot size is key it in' = elim (Contains-set (key_eq k) (promoted (key_eq k) old.entries) slot (key, it) (subst (λ (s : LruCache (ℕ × ℕ) Slot). Contains s.entries (key, it)) is in')) [
    | inl there ↦ sized key it (Contains-promoted (key_eq k) old.entries (key, it) there)
    | inr put ↦ subst (HasSize bytes) (sym put) size
  ]

  -- and the frame of the slot that was over
  pub displaced_sized : (k key : ℕ × ℕ) (slot it : Slot) → displaced key_eq old k slot ≡ Some (key, it) → HasSize bytes it
  displaced_sized k key slot it = go (lookup (key_eq k) old.entries) refl
    where
      go : (f : Option Slot) → lookup (key_eq k) old.entries ≡ f
          → option_map_or (λ (was : Slot). Some (k, was)) f (slice_get old.entries (old.cap - 1)) ≡ Some (key, it) → HasSize bytes it
      go None is e = sized key it (got_contains old.entries (old.cap - 1) (key, it) e)
      go (Some was) is e =
          let two : Some (k, was) ≡ Some (key, it) = e in
          let pair : ◌≡◌ {A = (ℕ × ℕ) × Slot} (k, was) (key, it) = cc in
          let same : was ≡ it = ap (λ (p : (ℕ × ℕ) × Slot). p.1) pair in
          found_sized k (Some was) it is (ap Some same)

  -- the page of a slot that is found
  pub page_sized : (k : ℕ × ℕ) (it : Slot) (page : Option (Bor (List ℕ))) → lookup (key_eq k) old.entries ≡ Some it → option_copied page ≡ page_in (held_in it)
      → IfSome page (λ p. length p.now ≡ bytes)
  page_sized k it None is e = tt
  page_sized k slots.Reserved (Some p) is e = absurd cc
  page_sized k (slots.Page frame) (Some p) is e =
      let same : p.now ≡ frame.items = cc in ap length same ∙ found_sized k (Some (slots.Page frame)) (slots.Page frame) is refl frame refl

-- a key that is passed over is none of those that are looked for
pub passed_over : (o c q : ℕ) (k : ℕ × ℕ) → (k.0 ≡ o → k.1 < c) → c ≤ q → is_key o q k ≡ false
passed_over o c q k below le = elim (cases_Bool (is_key o q k)) [
  | inl both ↦ let a = key_same o q k both in let lt : k.1 < c = below (sym a.0) in absurd (omega (arith, lt, le, a.1))
  | inr no' ↦ no'
]
