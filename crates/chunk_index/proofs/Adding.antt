-- The adding of one page after another.
use Rattle.std.proofs.Common.{◌≡◌, ℕ, zero, suc, ◌+◌, ◌<◌, ◌⊎◌, List, [], ◌∷◌, length, slice_get, Option, Some, None, refl, sym, ap, subst, ◌∙◌, arith, inl, inr}
use Rattle.std.specs.Prelude.{map}
use Rattle.std.specs.Option.{option_map}
use Rattle.std.proofs.lemmas.Bool.{cases_eq}
use Rattle.std.proofs.lemmas.Option.{slice_get-map, slice_get_within}
use Rattle.chunk_index.specs.declared.form.CommittedKey.{CommittedKey}
use Rattle.chunk_index.specs.declared.entry.KeyEntry.{KeyEntry}
use Rattle.chunk_index.specs.declared.index.Index.{Index}
use Rattle.chunk_index.specs.Adding.{IsPageOf, AreOfOtherKeys, AreAbsent, AddsFirst}
use Rattle.chunk_index.specs.Counts.{Recounts}
use Rattle.chunk_index.specs.Entries.{committed_at, weight, counted_at, as_committed, committed_of, present_of}
use Rattle.chunk_index.specs.Committed.{KeyRises, IsListOf}
use Rattle.chunk_index.specs.Maps.{count_committed_in, committed_pages, present, CountsAgree}
use Rattle.chunk_index.specs.Shelves.{ObjectMap, look, total, Differs, AltersKey, SameEntries}
use Rattle.block_state.specs.Table.{Table}
use Rattle.chunk_index.proofs.Counting.{recounts_on, recounts_more}

-- one page stands at a place
pub one_page : (ks : List CommittedKey) (i : ℕ) (k l : CommittedKey) → slice_get ks i ≡ Some k → slice_get ks i ≡ Some l → k ≡ l
one_page ks i k l x y = let two : Some k ≡ Some l = sym x ∙ y in cc

-- what is read of a list that was mapped
pub mapped : {X Y : Type 0} (f : X → Y) (xs : List X) (i : ℕ) (x : X) → slice_get xs i ≡ Some x → slice_get (map f xs) i ≡ Some (f x)
mapped f xs i x at = slice_get-map f xs i ∙ ap (option_map f) at

pub mapped_from : {X Y : Type 0} (f : X → Y) (xs : List X) (i : ℕ) (y : Y) → slice_get (map f xs) i ≡ Some y → (x : X) × (slice_get xs i ≡ Some x) × (f x ≡ y)
mapped_from {X} {Y} f xs i y at = go (slice_get xs i) refl where
  go : (m : Option X) → slice_get xs i ≡ m → (x : X) × (slice_get xs i ≡ Some x) × (f x ≡ y)
  go None is = let two : None ≡ Some y = sym (slice_get-map f xs i ∙ ap (option_map f) is) ∙ at in absurd cc
  go (Some x) is =
      let two : Some (f x) ≡ Some y = sym (slice_get-map f xs i ∙ ap (option_map f) is) ∙ at in
      let same : f x ≡ y = cc in
      (x, is, same)

-- a key differs from another as the other does from it
turned : (o c k l : ℕ) → Differs o c k l → Differs k l o c
turned o c k l (inl ne) = inl (λ is. ne (sym is))
turned o c k l (inr ne) = inr (λ is. ne (sym is))

-- a key that the page is not of is another
other_key : (k : CommittedKey) (o c : ℕ) → (IsPageOf o c k → ⊥) → Differs k.key.object k.key.chunk o c
other_key k o c not = elim (cases_eq o k.key.object) [
  | inl e ↦ inr (λ h. not (sym e, sym h))
  | inr ne ↦ inl ne
]

-- and a page of another key is not of that key
pub not_of : (k : CommittedKey) (o c : ℕ) → Differs k.key.object k.key.chunk o c → IsPageOf o c k → ⊥
not_of k o c (inl ne) of = ne (sym of.0)
not_of k o c (inr ne) of = ne (sym of.1)

-- before the first page nothing is added
pub adds_none : (ks : List CommittedKey) (m : ObjectMap) → AddsFirst ks 0 m m
adds_none ks m = record { done = λ i k lt. absurd (omega (arith, lt)); rest = λ o c none. refl }

-- ---- counts

-- pages that were in the count, and then others
pub counts_on : (t u v : Table) (first old mid new : Index) → SameEntries old.shelf.objects mid.shelf.objects → Recounts (count_committed_in first) (count_committed_in old) t u → Recounts (count_committed_in mid) (count_committed_in new) u v
    → Recounts (count_committed_in first) (count_committed_in new) t v
counts_on t u v first old mid new same before next =
    recounts_on before (recounts_more (λ b. let equal : count_committed_in mid b ≡ count_committed_in old b = same.weighs (counted_at b) in omega (arith, equal)) next)

-- ---- all pages of a list

abbrev HasPageOf : List CommittedKey → ℕ → ℕ → Type 0
HasPageOf ks o c = (i : ℕ) × (k : CommittedKey) × (slice_get ks i ≡ Some k) × IsPageOf o c k

abbrev HasNoPageOf : List CommittedKey → ℕ → ℕ → Type 0
HasNoPageOf ks o c = (i : ℕ) (k : CommittedKey) → slice_get ks i ≡ Some k → IsPageOf o c k → ⊥

none_first : (k : CommittedKey) (ks : List CommittedKey) (o c : ℕ) → (IsPageOf o c k → ⊥) → HasNoPageOf ks o c → HasNoPageOf (k ∷ ks) o c
none_first k ks o c not rest zero l at of =
    let same : k ≡ l = cc in
    not (subst (IsPageOf o c) (sym same) of)
none_first k ks o c not rest (suc i) l at of = rest i l at of

later : (k : CommittedKey) (ks : List CommittedKey) (o c : ℕ) → (IsPageOf o c k → ⊥) → HasPageOf ks o c ⊎ HasNoPageOf ks o c → HasPageOf (k ∷ ks) o c ⊎ HasNoPageOf (k ∷ ks) o c
later k ks o c not (inl one) = inl (suc one.0, one.1, one.2, one.3)
later k ks o c not (inr none) = inr (none_first k ks o c not none)

no_page : (o c : ℕ) → HasNoPageOf [] o c
no_page o c zero k at of = absurd cc
no_page o c (suc i) k at of = absurd cc

-- a page of the key stands in the list, or none does
page_or_none : (ks : List CommittedKey) (o c : ℕ) → HasPageOf ks o c ⊎ HasNoPageOf ks o c
page_or_none [] o c = inr (no_page o c)
page_or_none (k ∷ ks) o c = elim (cases_eq k.key.object o) [
  | inl object ↦ elim (cases_eq k.key.chunk c) [
    | inl chunk ↦ inl (0, k, refl, (object, chunk))
    | inr ne ↦ later k ks o c (λ of. ne of.1) (page_or_none ks o c)
  ]
  | inr ne ↦ later k ks o c (λ of. ne of.0) (page_or_none ks o c)
]

module _ (ks : List CommittedKey) (n : ℕ) (old : ObjectMap) (x : Index) (whole : n ≡ length ks) (empty : (o c : ℕ) → look old o c ≡ None) (adds : AddsFirst ks n old x.shelf.objects) where
  within : (i : ℕ) (k : CommittedKey) → slice_get ks i ≡ Some k → i < n
  within i k at = let lt = slice_get_within ks i k at in omega (arith, lt, whole)

  entry_is : (i : ℕ) (k : CommittedKey) (o c : ℕ) → slice_get ks i ≡ Some k → IsPageOf o c k → look x.shelf.objects o c ≡ Some (committed_at k.key.chunk (Some k.at))
  entry_is i k o c at of = sym (ap (λ p. look x.shelf.objects p k.key.chunk) of.0 ∙ ap (look x.shelf.objects o) of.1) ∙ adds.done i k (within i k at) at

  entry_none : (o c : ℕ) → HasNoPageOf ks o c → look x.shelf.objects o c ≡ None
  entry_none o c none = adds.rest o c (λ i k lt at. none i k at) ∙ empty o c

  -- exactly these are committed
  pub committed_list : KeyRises ks → IsListOf (committed_pages x) ks
  committed_list rise = record {
    each = λ i k at. ap committed_of (entry_is i k k.key.object k.key.chunk at (refl, refl));
    all = λ o c p committed. elim (page_or_none ks o c) [
      | inl (i, k, at, of) ↦
          let two : Some k.at ≡ Some p = sym (ap committed_of (entry_is i k o c at of)) ∙ committed in
          let page : k.at ≡ p = cc in
          let same : k ≡ record { key = record { object = o; chunk = c }; at = p } = λ j. record { key = record { object = of.0 j; chunk = of.1 j }; at = page j } in
          (i, at ∙ ap Some same)
      | inr none ↦
          let two : None ≡ Some p = sym (ap committed_of (entry_none o c none)) ∙ committed in
          absurd cc
    ];
    rise = rise;
  }

  -- and present
  pub committed_shown : (o c : ℕ) → present x o c ≡ as_committed (committed_pages x o c)
  committed_shown o c = elim (page_or_none ks o c) [
    | inl (i, k, at, of) ↦ ap present_of (entry_is i k o c at of) ∙ sym (ap as_committed (ap committed_of (entry_is i k o c at of)))
    | inr none ↦ ap present_of (entry_none o c none) ∙ sym (ap as_committed (ap committed_of (entry_none o c none)))
  ]
