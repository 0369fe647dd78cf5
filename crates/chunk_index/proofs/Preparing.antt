-- What becomes of a key that is prepared.
use Rattle.std.proofs.Common.{◌≡◌, ℕ, ◌+◌, List, length, set, Option, Some, None, refl, sym, ap, subst, ◌∙◌, arith}
use Rattle.std.specs.Option.{option_map}
use Rattle.std.specs.Ordering.{nat_cmp}
use Rattle.std.specs.BTreeMap.{get, WritesThrough}
use Rattle.volume_terms.specs.laws.List.{sum_ones}
use Rattle.chunk_index.specs.declared.entry.KeyEntry.{KeyEntry}
use Rattle.chunk_index.specs.declared.entry.State.{State}
use Rattle.chunk_index.specs.declared.entry.State.TheVariants as states
use Rattle.chunk_index.specs.declared.form.CommittedPage.{CommittedPage}
use Rattle.chunk_index.specs.declared.object.ObjectEntries.{ObjectEntries}
use Rattle.chunk_index.specs.Lists.{find_by, Rises, IsAt, IsGapFor}
use Rattle.chunk_index.specs.Entries.{chunk, committed_at, is_same_state, present_by, present_of, same_of, weight, weigh, Alters}
use Rattle.chunk_index.specs.Shelves.{ObjectMap, total, AltersKey}
use Rattle.chunk_index.specs.Prepared.{kept_state, kept, prepared, PreparesChunk, PreparesKey}
use Rattle.chunk_index.proofs.Finding.{find_in_gap}
use Rattle.chunk_index.proofs.InPlace.{alters_by}
use Rattle.chunk_index.proofs.Shelving.{look_in, sums, written}

-- ---- what is reported stays

kept_present : (p : Option CommittedPage) (s : State) → present_by p (kept_state s) ≡ present_by p s
kept_present p states.Same = refl
kept_present p (states.Buffered i) = refl
kept_present p states.Dropped = refl
kept_present p states.Vacant = refl

kept_same : (s : State) → is_same_state (kept_state s) ≡ is_same_state s
kept_same states.Same = refl
kept_same (states.Buffered i) = refl
kept_same states.Dropped = refl
kept_same states.Vacant = refl

pub prepared_present : (c : ℕ) (v : Option KeyEntry) → present_of (Some (prepared c v)) ≡ present_of v
prepared_present c None = refl
prepared_present c (Some e) = kept_present e.committed e.state

pub prepared_same : (c : ℕ) (v : Option KeyEntry) → same_of (Some (prepared c v)) ≡ same_of v
prepared_same c None = refl
prepared_same c (Some e) = kept_same e.state

-- ---- among the entries of an object

-- an entry that is there stays
pub prepares_kept : (es : List KeyEntry) → Rises chunk es → (c i : ℕ) → IsAt chunk es c i → (e : KeyEntry) → find_by chunk es c ≡ Some e → (new : KeyEntry) → new ≡ kept e → PreparesChunk c es (set es i new)
prepares_kept es rises c i at e is new to =
    subst (λ v. Alters c v es (set es i new)) (ap (option_map kept) is ∙ sym (ap (λ v. Some (prepared c v)) is)) (alters_by es rises c i at e is new (ap chunk to) kept to)

-- and else one is put in the gap for it
module _ (es new : List KeyEntry) (c i : ℕ) (gap : IsGapFor chunk es c i) (e : KeyEntry) (is : e ≡ committed_at c None) (alters : Alters (chunk e) (Some e) es new) where
  pub prepares_bare : PreparesChunk c es new
  prepares_bare = subst (λ v. Alters c (Some (prepared c v)) es new) (sym (find_in_gap chunk es c i gap)) (subst (λ (x : KeyEntry). Alters (chunk x) (Some x) es new) is alters)

  pub one_more : length new ≡ length es + 1
  one_more =
      let one : KeyEntry → ℕ = λ x. 1 in
      let sum : weigh one new + weight one (find_by chunk es c) ≡ weigh one es + 1 = prepares_bare.weighs one in
      let none : weight one (find_by chunk es c) ≡ 0 = ap (weight one) (find_in_gap chunk es c i gap) in
      let before : weigh one es ≡ length es = sum_ones es in
      let after : weigh one new ≡ length new = sum_ones new in
      omega (arith, sum, none, before, after)

-- ---- among the entries of all objects

module _ (o : ℕ) (m n : ObjectMap) (x y : ObjectEntries) (found : get nat_cmp m o ≡ Some x) (through : WritesThrough nat_cmp (nat_cmp o) m y n) where
  pub prepares_written : (c : ℕ) → PreparesChunk c x.entries.items y.entries.items → PreparesKey o c m n
  prepares_written c prepares = subst (λ v. AltersKey o c (Some (prepared c v)) m n) (sym (look_in m o c x found)) (written o m n x y found through c _ prepares)

  -- where so many were put
  pub more_size : (put size : ℕ) → length y.entries.items ≡ length x.entries.items + put → total (λ (e : KeyEntry). 1) m ≡ size → total (λ (e : KeyEntry). 1) n ≡ size + put
  more_size put size more totaled =
      let sum = sums o m n x y found through (λ (e : KeyEntry). 1) in
      let one : weigh (λ (e : KeyEntry). 1) x.entries.items ≡ length x.entries.items = sum_ones x.entries.items in
      let two : weigh (λ (e : KeyEntry). 1) y.entries.items ≡ length y.entries.items = sum_ones y.entries.items in
      omega (arith, sum, one, two, more, totaled)
