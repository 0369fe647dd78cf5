-- What a change of one directory's numbers does to what an index holds.
use Rattle.std.proofs.Common.{◌≡◌, ◌≢◌, ◌⊎◌, ℕ, ◌<◌, ◌≤◌, false, Option, Some, None, Result, Ok, Err, OnOk, OnErr, IsSome, refl, sym, ap, subst, ◌∙◌, arith, inl, inr}
use Rattle.std.specs.Ordering.{nat_cmp}
use Rattle.std.specs.BTreeMap.{BTreeMap, get, is_at, Updates, WritesThrough}
use Rattle.std.specs.Map.{lookup}
use Rattle.std.proofs.lemmas.Bool.{cases_eq}
use Rattle.std.proofs.lemmas.Bool.Decides.{nat_tests}
use Rattle.name_index.specs.Lists.{Adds, Drops, SameNumbers, IsNextFrom}
use Rattle.name_index.specs.Sets.{Has}
use Rattle.name_index.specs.Packing.{packed, hash_of, slot_of, IsSlotUnder}
use Rattle.name_index.specs.Names.{Holds, HoldsSame, AddsName, DropsName, DropsDirectory, IsNextSlot}
use Rattle.name_index.specs.declared.set.NumberSet.{NumberSet}
use Rattle.name_index.specs.declared.index.NameIndex.{NameIndex}

-- ---- a hash and a slot in one number
pub hash_packed : (h s : ℕ) → s < 4294967296 → hash_of (packed h s) ≡ h
hash_packed h s lt = omega (arith, lt)

pub slot_packed : (h s : ℕ) → s < 4294967296 → slot_of (packed h s) ≡ s
slot_packed h s lt = omega (arith, lt)

pub packed_of : (x h s : ℕ) → hash_of x ≡ h → slot_of x ≡ s → x ≡ packed h s
packed_of x h s a b = omega (arith, a, b)

-- ---- the numbers of a directory
abbrev pub Numbers : Type 0
Numbers = BTreeMap ℕ NumberSet

-- a directory has other numbers, or none, and the others have theirs
pub record Changes (d : ℕ) (to : Option NumberSet) (m n : Numbers) : Type 0 where
  pub here : get nat_cmp n d ≡ to
  pub others : (k : ℕ) → k ≢ d → get nat_cmp n k ≡ get nat_cmp m k

not_at : (o k : ℕ) → k ≢ o → is_at (nat_cmp o) k ≡ false
not_at o k ne = grind (arith, nat_tests, ne)

pub updated : (d : ℕ) (to : Option NumberSet) (m n : Numbers) → Updates nat_cmp m n d to → Changes d to m n
updated d to m n updates = record { here = updates.1; others = λ k ne. updates.2 k (not_at d k ne) }

pub written : (d : ℕ) (m n : Numbers) (a b : NumberSet) → get nat_cmp m d ≡ Some a → WritesThrough nat_cmp (nat_cmp d) m b n → Changes d (Some b) m n
written d m n a b found through =
    let some : IsSome (get nat_cmp m d) = rw found refl in
    record { here = (through.3 some).1; others = λ k ne. (through.3 some).2 k (not_at d k ne) }

one_set : (m : Numbers) (k l : ℕ) (a b : NumberSet) → get nat_cmp m k ≡ Some a → k ≡ l → get nat_cmp m l ≡ Some b → a ≡ b
one_set m k l a b is e at = let both : Some a ≡ Some b = sym is ∙ ap (get nat_cmp m) e ∙ at in cc

has_in : (a b : NumberSet) (x : ℕ) → a ≡ b → Has a.runs x → Has b.runs x
has_in a b x e has = subst (λ (t : NumberSet). Has t.runs x) e has

module _ (old new : NameIndex) (d : ℕ) (to : Option NumberSet) (changes : Changes d to old.directories new.directories) where
  -- what is held of another directory
  other_new : (k h s : ℕ) → k ≢ d → Holds old k h s → Holds new k h s
  other_new k h s ne holds = (holds.0, changes.others k ne ∙ holds.1, holds.2, holds.3, holds.4, holds.5)

  other_old : (k h s : ℕ) → k ≢ d → Holds new k h s → Holds old k h s
  other_old k h s ne holds = (holds.0, sym (changes.others k ne) ∙ holds.1, holds.2, holds.3, holds.4, holds.5)

module _ (old new : NameIndex) (d : ℕ) (a b : NumberSet) (found : get nat_cmp old.directories d ≡ Some a) (changes : Changes d (Some b) old.directories new.directories) where
  new_has : (k h s : ℕ) → k ≡ d → (holds : Holds new k h s) → Has b.runs holds.2
  new_has k h s e holds = has_in holds.0 b holds.2 (one_set new.directories k d holds.0 b holds.1 e changes.here) holds.3

  old_has : (k h s : ℕ) → k ≡ d → (holds : Holds old k h s) → Has a.runs holds.2
  old_has k h s e holds = has_in holds.0 a holds.2 (one_set old.directories k d holds.0 a holds.1 e found) holds.3

  to_new : (k h s x : ℕ) → k ≡ d → Has b.runs x → hash_of x ≡ h → slot_of x ≡ s → Holds new k h s
  to_new k h s x e has is_h is_s = (b, ap (get nat_cmp new.directories) e ∙ changes.here, x, has, is_h, is_s)

  to_old : (k h s x : ℕ) → k ≡ d → Has a.runs x → hash_of x ≡ h → slot_of x ≡ s → Holds old k h s
  to_old k h s x e has is_h is_s = (a, ap (get nat_cmp old.directories) e ∙ found, x, has, is_h, is_s)

  pub same_names : SameNumbers (Has a.runs) (Has b.runs) → HoldsSame old new
  same_names same = record {
    stays = λ k h s holds. elim (cases_eq k d) [
      | inl e ↦ to_new k h s holds.2 e (same.stays holds.2 (old_has k h s e holds)) holds.4 holds.5
      | inr ne ↦ other_new old new d (Some b) changes k h s ne holds
    ];
    only = λ k h s holds. elim (cases_eq k d) [
      | inl e ↦ to_old k h s holds.2 e (same.only holds.2 (new_has k h s e holds)) holds.4 holds.5
      | inr ne ↦ other_old old new d (Some b) changes k h s ne holds
    ];
  }

  module _ (hash slot : ℕ) (small : slot < 4294967296) where
    pub adds_name : Adds (packed hash slot) (Has a.runs) (Has b.runs) → AddsName d hash slot old new
    adds_name adds = record {
      there = to_new d hash slot (packed hash slot) refl adds.there (hash_packed hash slot small) (slot_packed hash slot small);
      stays = λ k h s holds. elim (cases_eq k d) [
        | inl e ↦ to_new k h s holds.2 e (adds.stays holds.2 (old_has k h s e holds)) holds.4 holds.5
        | inr ne ↦ other_new old new d (Some b) changes k h s ne holds
      ];
      only = λ k h s holds. elim (cases_eq k d) [
        | inr ne ↦ inr (other_old old new d (Some b) changes k h s ne holds)
        | inl e ↦ elim (adds.only holds.2 (new_has k h s e holds)) [
          | inl is ↦ inl (e, sym holds.4 ∙ ap hash_of is ∙ hash_packed hash slot small, sym holds.5 ∙ ap slot_of is ∙ slot_packed hash slot small)
          | inr had ↦ inr (to_old k h s holds.2 e had holds.4 holds.5)
        ]
      ];
    }

    differ : (k h s : ℕ) → (k ≢ d) ⊎ (h ≢ hash) ⊎ (s ≢ slot) → k ≡ d → h ≡ hash → s ≡ slot → ⊥
    differ k h s apart one two three = elim apart [ inl ne ↦ ne one | inr (inl ne) ↦ ne two | inr (inr ne) ↦ ne three ]

    pub drops_name : Drops (packed hash slot) (Has a.runs) (Has b.runs) → DropsName d hash slot old new
    drops_name drops = record {
      gone = λ holds. drops.gone (subst (Has b.runs) (packed_of holds.2 hash slot holds.4 holds.5) (new_has d hash slot refl holds));
      stays = λ k h s apart holds. elim (cases_eq k d) [
        | inr ne ↦ other_new old new d (Some b) changes k h s ne holds
        | inl e ↦ to_new k h s holds.2 e (drops.stays holds.2 (λ is. differ k h s apart e (sym holds.4 ∙ ap hash_of is ∙ hash_packed hash slot small) (sym holds.5 ∙ ap slot_of is ∙ slot_packed hash slot small)) (old_has k h s e holds)) holds.4 holds.5
      ];
      only = λ k h s holds. elim (cases_eq k d) [
        | inl e ↦ to_old k h s holds.2 e (drops.only holds.2 (new_has k h s e holds)) holds.4 holds.5
        | inr ne ↦ other_old old new d (Some b) changes k h s ne holds
      ];
    }

-- the first number of a directory that is not there
pub first_name : (old new : NameIndex) (d hash slot : ℕ) (small : slot < 4294967296) (a b : NumberSet) → get nat_cmp old.directories d ≡ None → Changes d (Some b) old.directories new.directories
    → ((x : ℕ) → Has a.runs x → ⊥) → Adds (packed hash slot) (Has a.runs) (Has b.runs) → AddsName d hash slot old new
first_name old new d hash slot small a b none changes empty adds = record {
  there = (b, changes.here, packed hash slot, adds.there, hash_packed hash slot small, slot_packed hash slot small);
  stays = λ k h s holds. elim (cases_eq k d) [
    | inl e ↦
        let both : Some holds.0 ≡ None = sym holds.1 ∙ ap (get nat_cmp old.directories) e ∙ none in
        absurd cc
    | inr ne ↦ other_new old new d (Some b) changes k h s ne holds
  ];
  only = λ k h s holds. elim (cases_eq k d) [
    | inr ne ↦ inr (other_old old new d (Some b) changes k h s ne holds)
    | inl e ↦ elim (adds.only holds.2 (has_in holds.0 b holds.2 (one_set new.directories k d holds.0 b holds.1 e changes.here) holds.3)) [
      | inl is ↦ inl (e, sym holds.4 ∙ ap hash_of is ∙ hash_packed hash slot small, sym holds.5 ∙ ap slot_of is ∙ slot_packed hash slot small)
      | inr had ↦ absurd (empty holds.2 had)
    ]
  ];
}

-- a directory that goes
pub drops_directory : (old new : NameIndex) (d : ℕ) → Changes d None old.directories new.directories → DropsDirectory d old new
drops_directory old new d changes = record {
  gone = λ h s holds. let both : Some holds.0 ≡ None = sym holds.1 ∙ changes.here in absurd cc;
  stays = λ k h s ne holds. other_new old new d None changes k h s ne holds;
  only = λ k h s holds. elim (cases_eq k d) [
    | inl e ↦
        let both : Some holds.0 ≡ None = sym holds.1 ∙ ap (get nat_cmp new.directories) e ∙ changes.here in
        absurd cc
    | inr ne ↦ other_old old new d None changes k h s ne holds
  ];
}

-- nothing of a directory that is not there
pub drops_absent : (index : NameIndex) (d hash slot : ℕ) → get nat_cmp index.directories d ≡ None → DropsName d hash slot index index
drops_absent index d hash slot none = record {
  gone = λ holds. let both : Some holds.0 ≡ None = sym holds.1 ∙ none in absurd cc;
  stays = λ k h s apart holds. holds;
  only = λ k h s holds. holds;
}

pub unchanged : (old new : NameIndex) → new.directories.entries ≡ old.directories.entries → HoldsSame old new
unchanged old new e = record {
  stays = λ k h s holds. (holds.0, ap (lookup (is_at (nat_cmp k))) e ∙ holds.1, holds.2, holds.3, holds.4, holds.5);
  only = λ k h s holds. (holds.0, sym (ap (lookup (is_at (nat_cmp k))) e) ∙ holds.1, holds.2, holds.3, holds.4, holds.5);
}

-- what a call adds that may fail
module _ {A E : Type 0} (old new : NameIndex) (d hash slot : ℕ) (small : slot < 4294967296) (a b : NumberSet) (found : get nat_cmp old.directories d ≡ Some a)
    (through : WritesThrough nat_cmp (nat_cmp d) old.directories b new.directories) where
  pub adds_result : (result : Result A E) → OnOk result (Adds (packed hash slot) (Has a.runs) (Has b.runs)) → OnOk result (AddsName d hash slot old new)
  adds_result (Ok v) adds = adds_name old new d a b found (written d old.directories new.directories a b found through) hash slot small adds
  adds_result (Err e) adds = tt

  pub same_result : (result : Result A E) → OnErr result (SameNumbers (Has a.runs) (Has b.runs)) → OnErr result (HoldsSame old new)
  same_result (Ok v) numbers = tt
  same_result (Err e) numbers = same_names old new d a b found (written d old.directories new.directories a b found through) numbers

-- ---- the next slot
module _ (index : NameIndex) (d hash from : ℕ) (small : from < 4294967296) (a : NumberSet) (found : get nat_cmp index.directories d ≡ Some a) where
  held : (s : ℕ) → (holds : Holds index d hash s) → Has a.runs holds.2
  held s holds = has_in holds.0 a holds.2 (one_set index.directories d d holds.0 a holds.1 refl found) holds.3

  beyond : (x s : ℕ) → hash_of x ≡ hash → slot_of x ≡ s → from ≤ s → packed hash from ≤ x
  beyond x s is_h is_s le = let e : x ≡ packed hash s = packed_of x hash s is_h is_s in omega (arith, e, le)

  slot_small : (s y : ℕ) → slot_of y ≡ s → s < 4294967296
  slot_small s y e = omega (arith, e)

  between : (y s : ℕ) → y ≤ packed hash s → packed hash from ≤ y → s < 4294967296 → hash_of y ≡ hash
  between y s up down lt = omega (arith, up, down, lt)

  pub no_slot : IsNextFrom (Has a.runs) (packed hash from) None → IsNextSlot index d hash from None
  no_slot none s le holds = none holds.2 (beyond holds.2 s holds.4 holds.5 le) (held s holds)

  pub slot_found : (x : ℕ) → IsNextFrom (Has a.runs) (packed hash from) (Some x) → (result : Option ℕ) → IsSlotUnder hash x result → IsNextSlot index d hash from result
  slot_found x next None other = λ s le holds.
      let least : x ≤ holds.2 = next.2 holds.2 (beyond holds.2 s holds.4 holds.5 le) (held s holds) in
      let more : packed hash from ≤ x = next.1 in
      let e : holds.2 ≡ packed hash s = packed_of holds.2 hash s holds.4 holds.5 in
      other (between x s (subst (λ y. x ≤ y) e least) more (slot_small s holds.2 holds.5))
  slot_found x next (Some slot) is = (
    (a, found, x, next.0, is.0, is.1),
    (let more : packed hash from ≤ x = next.1 in let e : x ≡ packed hash slot = packed_of x hash slot is.0 is.1 in omega (arith, more, e)),
    λ s le holds.
        let least : x ≤ holds.2 = next.2 holds.2 (beyond holds.2 s holds.4 holds.5 le) (held s holds) in
        let one : x ≡ packed hash slot = packed_of x hash slot is.0 is.1 in
        let two : holds.2 ≡ packed hash s = packed_of holds.2 hash s holds.4 holds.5 in
        omega (arith, least, one, two),
  )
