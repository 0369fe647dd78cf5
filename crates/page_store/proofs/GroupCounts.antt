-- How many keys are committed in a block once the buffer was written.
use Rattle.std.proofs.Common.{◌≡◌, ◌≢◌, ◌⊎◌, ◌<◌, ◌≤◌, ℕ, ◌+◌, List, length, Some, None, slice_get, refl, sym, ap, subst, ◌∙◌, arith, inl, inr}
use Rattle.std.proofs.lemmas.Option.{slice_get_within}
use Rattle.volume_terms.specs.laws.List.{slice_get_there}
use Rattle.volume_terms.specs.laws.Number.{no_more_than_places}
use Rattle.flash_tree.specs.declared.place.FreshPage.{FreshPage}
use Rattle.flash_tree.specs.declared.place.Key.{Key}
use Rattle.block_state.specs.Table.{Table}
use Rattle.chunk_index.specs.declared.form.CommittedKey.{CommittedKey}
use Rattle.chunk_index.specs.declared.form.CommittedPage.{CommittedPage}
use Rattle.chunk_index.specs.declared.form.Present.{Present}
use Rattle.chunk_index.specs.declared.form.Present.TheVariants as presents
use Rattle.chunk_index.specs.declared.form.WrittenGroup.{WrittenGroup}
use Rattle.chunk_index.specs.declared.index.Index.{Index}
use Rattle.chunk_index.specs.Entries.{written_page}
use Rattle.chunk_index.specs.Listing.{block_keys}
use Rattle.chunk_index.specs.Maps.{committed_pages, count_committed_in, present, once_written, CountsAgree, Settles}
use Rattle.page_store.specs.Buffering.{Buffers, key_at}
use Rattle.page_store.specs.laws.Buffering.{place_within}
use Rattle.flash_log.specs.Consistency.{AreHeld}
use Rattle.page_store.proofs.Following.{on_flash_committed}

-- the lists of the keys that are committed in a block are whole
pub record ListsAreWhole : Type 0 where
  pub committed : (x : Index) (b i : ℕ) (k : CommittedKey) → slice_get (block_keys x b) i ≡ Some k → committed_pages x k.key.object k.key.chunk ≡ Some k.at
  pub here : (x : Index) (b i : ℕ) (k : CommittedKey) → slice_get (block_keys x b) i ≡ Some k → k.at.block ≡ b
  pub count : (x : Index) (b : ℕ) → length (block_keys x b) ≡ count_committed_in x b
  pub all : (x : Index) (b o c : ℕ) (p : CommittedPage) → committed_pages x o c ≡ Some p → p.block ≡ b → (i : ℕ) × (slice_get (block_keys x b) i ≡ Some (record { key = record { object = o; chunk = c }; at = p }))
  pub once : (x : Index) (b i j : ℕ) (k l : CommittedKey) → slice_get (block_keys x b) i ≡ Some k → slice_get (block_keys x b) j ≡ Some l → k.key ≡ l.key → i ≡ j

-- each committed page lies in a block that counts it
pub held_lists : ListsAreWhole → (t : Table) (x : Index) → CountsAgree t x → AreHeld t x
held_lists lists t x agree o c p is =
    let found = lists.all x p.block o c p is refl in
    let lt : found.0 < length (block_keys x p.block) = slice_get_within (block_keys x p.block) found.0 _ found.1 in
    let count = lists.count x p.block in
    let same = agree.counts p.block in
    omega (arith, lt, count, same)

module _ (lists : ListsAreWhole) (g : WrittenGroup) (x y : Index) (pages : List FreshPage) (settles : Settles g x y) (buffers : Buffers x pages) (b : ℕ) where
  -- A number for the key: its place in the list of the keys that were committed in the block, or behind these its place in the
  -- buffer.
  abbrev IsPlaceOf : Key → ℕ → Type 0
  IsPlaceOf k n = ((q : CommittedKey) × (slice_get (block_keys x b) n ≡ Some q) × (q.key ≡ k))
      ⊎ ((s : ℕ) × (n ≡ count_committed_in x b + s) × (key_at pages s ≡ Some k) × (g.block ≡ b))

  one_key : (k l : Key) (n : ℕ) → IsPlaceOf k n → IsPlaceOf l n → k ≡ l
  one_key k l n (inl (q, there, is)) (inl (r, here, same)) = let both : Some q ≡ Some r = sym there ∙ here in let e : q ≡ r = cc in sym is ∙ ap (λ (z : CommittedKey). z.key) e ∙ same
  one_key k l n (inl (q, there, is)) (inr (s, at, key, block)) =
      let lt : n < length (block_keys x b) = slice_get_within (block_keys x b) n q there in
      let count = lists.count x b in
      absurd (omega (arith, lt, count, at))
  one_key k l n (inr (s, at, key, block)) (inl (q, there, is)) =
      let lt : n < length (block_keys x b) = slice_get_within (block_keys x b) n q there in
      let count = lists.count x b in
      absurd (omega (arith, lt, count, at))
  one_key k l n (inr (s, at, key, block)) (inr (r, here, other, same)) =
      let e : s ≡ r = omega (arith, at, here) in
      let both : Some k ≡ Some l = sym key ∙ ap (key_at pages) e ∙ other in
      cc

  place_below : (k : Key) (n : ℕ) → IsPlaceOf k n → n < count_committed_in x b + length pages
  place_below k n (inl (q, there, is)) = let lt : n < length (block_keys x b) = slice_get_within (block_keys x b) n q there in let count = lists.count x b in omega (arith, lt, count)
  place_below k n (inr (s, at, key, block)) = let lt : s < length pages = place_within pages s k key in omega (arith, at, lt)

  place_elsewhere : (k : Key) (n : ℕ) → b ≢ g.block → IsPlaceOf k n → n < count_committed_in x b
  place_elsewhere k n ne (inl (q, there, is)) = let lt : n < length (block_keys x b) = slice_get_within (block_keys x b) n q there in let count = lists.count x b in omega (arith, lt, count)
  place_elsewhere k n ne (inr (s, at, key, block)) = absurd (ne (sym block))

  place_of : (o c : ℕ) (p : CommittedPage) → committed_pages y o c ≡ Some p → p.block ≡ b → (n : ℕ) × IsPlaceOf (record { object = o; chunk = c }) n
  place_of o c p is here = go (present x o c) refl where
    go : (r : Present) → present x o c ≡ r → (n : ℕ) × IsPlaceOf (record { object = o; chunk = c }) n
    go presents.Absent at = let two : None ≡ Some p = sym (settles.committed o c ∙ ap (once_written g) at) ∙ is in absurd cc
    go (presents.OnFlash k) at =
        let both : Some k ≡ Some p = sym (settles.committed o c ∙ ap (once_written g) at) ∙ is in
        let e : k ≡ p = cc in
        let found = lists.all x b o c k (on_flash_committed x o c k at) (ap (λ (z : CommittedPage). z.block) e ∙ here) in
        (found.0, inl (record { key = record { object = o; chunk = c }; at = k }, found.1, refl))
    go (presents.InBuffer s) at =
        let both : Some (written_page g s) ≡ Some p = sym (settles.committed o c ∙ ap (once_written g) at) ∙ is in
        let e : written_page g s ≡ p = cc in
        (count_committed_in x b + s, inr (s, refl, buffers.there o c s at, ap (λ (z : CommittedPage). z.block) e ∙ here))

  at : (i : ℕ) → i < count_committed_in y b → (k : CommittedKey) × (slice_get (block_keys y b) i ≡ Some k)
  at i lt = let count = lists.count y b in slice_get_there (block_keys y b) i (omega (arith, lt, count))

  placed : (i : ℕ) (lt : i < count_committed_in y b) → (n : ℕ) × IsPlaceOf (at i lt).0.key n
  placed i lt = let k = at i lt in place_of k.0.key.object k.0.key.chunk k.0.at (lists.committed y b i k.0 k.1) (lists.here y b i k.0 k.1)

  once : (i j : ℕ) (k : i < count_committed_in y b) (l : j < count_committed_in y b) → (placed i k).0 ≡ (placed j l).0 → i ≡ j
  once i j k l same =
      let one = placed i k in
      let two = placed j l in
      lists.once y b i j (at i k).0 (at j l).0 (at i k).1 (at j l).1 (one_key (at i k).0.key (at j l).0.key two.0 (subst (IsPlaceOf (at i k).0.key) same one.1) two.1)

  -- no more keys are committed in it than were and the pages of the buffer
  pub settled_most : count_committed_in y b ≤ count_committed_in x b + length pages
  settled_most = no_more_than_places (count_committed_in y b) (count_committed_in x b + length pages) (λ i l. (placed i l).0) (λ i l. place_below (at i l).0.key (placed i l).0 (placed i l).1) once

  -- and in another than the group's no more than were
  pub settled_elsewhere : b ≢ g.block → count_committed_in y b ≤ count_committed_in x b
  settled_elsewhere ne = no_more_than_places (count_committed_in y b) (count_committed_in x b) (λ i l. (placed i l).0) (λ i l. place_elsewhere (at i l).0.key (placed i l).0 ne (placed i l).1) once
