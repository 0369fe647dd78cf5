-- Slots that an index holds under the hash of a name, and what is looked up of them.
use Rattle.std.specs.Prelude.{◌≡◌, ◌<◌, ◌≤◌, ℕ, ◌+◌, List, [], ◌∷◌, ◌++◌, length, Some, slice_get}
use Rattle.std.proofs.Common.{sym, ◌∙◌, subst, inl, inr, arith}
use Rattle.std.proofs.lemmas.List.{length-append}
use Rattle.std.proofs.lemmas.Option.{slice_get_within}
use Rattle.name_index.specs.Hashes.{fnv1a}
use Rattle.name_index.specs.Names.{Holds}
use Rattle.name_index.specs.declared.index.NameIndex.{NameIndex}
use Rattle.volume_terms.specs.laws.List.{get_push}
use Rattle.directories.specs.Named.{AreHeld, IssuesHeld}

module _ (names : NameIndex) (d : ℕ) (name : List ℕ) where
  pub none_held : AreHeld names d name []
  none_held = record {
    held = λ i s at. absurd (let less = slice_get_within [] i s at in omega (arith, less));
    once = λ i j s at there. absurd (let less = slice_get_within [] i s at in omega (arith, less));
  }

  -- one more than those before it
  pub push_held : (slots : List ℕ) (p : ℕ) → AreHeld names d name slots → ((i s : ℕ) → slice_get slots i ≡ Some s → s < p) → Holds names d (fnv1a name) p → AreHeld names d name (slots ++ p ∷ [])
  push_held slots p are below holds = record {
    held = λ i s at. elim (get_push slots p i s at) [
      | inl x ↦ are.held i s x.1
      | inr x ↦ subst (Holds names d (fnv1a name)) (sym x.1) holds
    ];
    once = λ i j s at there. elim (get_push slots p i s at) [
      | inl x ↦ elim (get_push slots p j s there) [
        | inl y ↦ are.once i j s x.1 y.1
        | inr y ↦ let less : s < p = below i s x.1 in absurd (omega (arith, less, y.1))
      ]
      | inr x ↦ elim (get_push slots p j s there) [
        | inl y ↦ let less : s < p = below j s y.1 in absurd (omega (arith, less, x.1))
        | inr y ↦ x.0 ∙ sym y.0
      ]
    ];
  }

  -- a page more is looked up, and its slot is behind those that were looked at
  pub asked_on : (old mid new from p : ℕ) → ((slots : List ℕ) × AreHeld names d name slots × ((i s : ℕ) → slice_get slots i ≡ Some s → s < from) × (mid ≤ old + length slots))
      → from ≤ p → Holds names d (fnv1a name) p → new ≤ mid + 1
      → (slots : List ℕ) × AreHeld names d name slots × ((i s : ℕ) → slice_get slots i ≡ Some s → s < p + 1) × (new ≤ old + length slots)
  asked_on old mid new from p before le holds more =
      let below : (i s : ℕ) → slice_get before.0 i ≡ Some s → s < p = λ i s at. let less : s < from = before.2 i s at in omega (arith, less, le) in
      let size : length (before.0 ++ p ∷ []) ≡ length before.0 + 1 = length-append before.0 (p ∷ []) in
      let within_limit : mid ≤ old + length before.0 = before.3 in (
        before.0 ++ p ∷ [],
        push_held before.0 p before.1 below holds,
        λ i s at. elim (get_push before.0 p i s at) [
          | inl x ↦ let less : s < p = below i s x.1 in omega (arith, less)
          | inr x ↦ omega (arith, x.1)
        ],
        omega (arith, within_limit, size, more),
      )

  pub asks_none : (old new : ℕ) → new ≤ old → IssuesHeld names d name old new
  asks_none old new le = ([], none_held, omega (arith, le))

  -- some more before the search and some behind it
  pub asks_more : (old new old' new' k : ℕ) → IssuesHeld names d name old new → old + k ≤ old' → new' ≤ new + k → IssuesHeld names d name old' new'
  asks_more old new old' new' k asks low high = let within_limit : new ≤ old + length asks.0 = asks.2 in (asks.0, asks.1, omega (arith, within_limit, low, high))

-- two names are looked for, one after the other, and some pages are looked up besides
pub asks_both : (names : NameIndex) (d e : ℕ) (to from : List ℕ) (old mid next new : ℕ) → IssuesHeld names d to (old + 1) mid → IssuesHeld names e from (mid + 3) next → new ≤ next + 2
    → (k : ℕ) × IssuesHeld names d to (old + 6) k × IssuesHeld names e from k new
asks_both names d e to from old mid next new one two more = (
  mid + 5,
  asks_more names d to (old + 1) mid (old + 6) (mid + 5) 5 one (omega arith) (omega arith),
  asks_more names e from (mid + 3) next (mid + 5) new 2 two (omega arith) more,
)

-- the second is not looked for
pub asks_first : (names : NameIndex) (d e : ℕ) (to from : List ℕ) (old new : ℕ) → IssuesHeld names d to (old + 1) new → (k : ℕ) × IssuesHeld names d to (old + 6) k × IssuesHeld names e from k new
asks_first names d e to from old new one = (new, asks_more names d to (old + 1) new (old + 6) new 0 one (omega arith) (omega arith), asks_none names e from new new (omega arith))

-- the same in one directory, whose header is looked up once
pub asks_two : (names : NameIndex) (d : ℕ) (to from : List ℕ) (old mid next new : ℕ) → IssuesHeld names d to (old + 1) mid → IssuesHeld names d from mid next → new ≤ next + 3
    → (k : ℕ) × IssuesHeld names d to (old + 6) k × IssuesHeld names d from k new
asks_two names d to from old mid next new one two more = asks_both names d d to from old mid (next + 3) new one (asks_more names d from mid next (mid + 3) (next + 3) 3 two (omega arith) (omega arith)) (omega (arith, more))
