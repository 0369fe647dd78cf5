-- Committed pages that were moved, and their data.
use Rattle.std.proofs.Common.{◌≡◌, ℕ, List, Option, Some, None, refl, sym, ap, subst, ◌∙◌}
use Rattle.std.specs.Option.{option_and_then}
use Rattle.nand_model.specs.Flash.{Flash}
use Rattle.flash_tree.specs.Newest.{Spot, HasNewest}
use Rattle.flash_tree.specs.laws.Newest.{one_spot}
use Rattle.flash_tree.specs.declared.place.FreshPage.{FreshPage}
use Rattle.chunk_index.specs.declared.form.CommittedPage.{CommittedPage}
use Rattle.chunk_index.specs.declared.form.Present.{Present}
use Rattle.chunk_index.specs.declared.form.Present.TheVariants as presents
use Rattle.chunk_index.specs.declared.entry.KeyEntry.{KeyEntry}
use Rattle.chunk_index.specs.declared.entry.State.{State}
use Rattle.chunk_index.specs.declared.entry.State.TheVariants as states
use Rattle.chunk_index.specs.declared.index.Index.{Index}
use Rattle.chunk_index.specs.Entries.{as_committed, committed_of, present_of, present_by}
use Rattle.chunk_index.specs.Maps.{committed_pages, present, moved_to}
use Rattle.chunk_index.specs.Shelves.{look}
use Rattle.page_store.specs.Buffering.{Buffers}
use Rattle.page_store.specs.Shown.{data_of, data_at, data_by, committed_data, present_data}
use Rattle.flash_log.specs.Consistency.{AreCommitted, HasVersion, IsCommittedAt, SameData}
use Rattle.pages.specs.Stores.{Carries}
use Rattle.flash_log.specs.Steps.{MovesCommitted}

-- what is present on the flash is the committed page
pub on_flash_committed : (x : Index) (o c : ℕ) (k : CommittedPage) → present x o c ≡ presents.OnFlash k → committed_pages x o c ≡ Some k
on_flash_committed x o c k = go (look x.shelf.objects o c) where
  committed : (m : Option CommittedPage) → as_committed m ≡ presents.OnFlash k → m ≡ Some k
  committed None is = absurd cc
  committed (Some p) is = let same : p ≡ k = cc in ap Some same

  at : (m : Option CommittedPage) (s : State) → present_by m s ≡ presents.OnFlash k → m ≡ Some k
  at m states.Same is = committed m is
  at m (states.Buffered i) is = absurd cc
  at m states.Dropped is = absurd cc
  at m states.Vacant is = absurd cc

  go : (m : Option KeyEntry) → present_of m ≡ presents.OnFlash k → committed_of m ≡ Some k
  go None is = absurd cc
  go (Some e) is = at e.committed e.state is

-- ---- moves

moved_slot : (p : CommittedPage) (r : Present) (i : ℕ) → moved_to p r ≡ presents.InBuffer i → r ≡ presents.InBuffer i
moved_slot p presents.Absent i is = absurd cc
moved_slot p (presents.OnFlash k) i is = absurd cc
moved_slot p (presents.InBuffer j) i is = is

module _ (x y : Index) (moves : MovesCommitted x y) where
  -- the buffer's keys are the same
  pub slot_stays : (o c i : ℕ) → present x o c ≡ presents.InBuffer i → present y o c ≡ presents.InBuffer i
  slot_stays o c i is = go (committed_pages x o c) refl where
    go : (m : Option CommittedPage) → committed_pages x o c ≡ m → present y o c ≡ presents.InBuffer i
    go None none = moves.present o c none ∙ is
    go (Some p) some = let f = moves.moved o c p some in f.present ∙ ap (moved_to f.at) is

  pub slot_was : (o c i : ℕ) → present y o c ≡ presents.InBuffer i → present x o c ≡ presents.InBuffer i
  slot_was o c i is = go (committed_pages x o c) refl where
    go : (m : Option CommittedPage) → committed_pages x o c ≡ m → present x o c ≡ presents.InBuffer i
    go None none = sym (moves.present o c none) ∙ is
    go (Some p) some = let f = moves.moved o c p some in moved_slot f.at (present x o c) i (sym f.present ∙ is)

  pub buffers_moved : (pages : List FreshPage) → Buffers x pages → Buffers y pages
  buffers_moved pages b = record {
    there = λ o c i is. b.there o c i (slot_was o c i is);
    reported = λ o c i is. slot_stays o c i (b.reported o c i is);
  }

  -- where nothing is present but what is committed, it is so still
  pub presents_moved : ((o c : ℕ) → present x o c ≡ as_committed (committed_pages x o c)) → (o c : ℕ) → present y o c ≡ as_committed (committed_pages y o c)
  presents_moved same o c = go (committed_pages x o c) refl where
    go : (m : Option CommittedPage) → committed_pages x o c ≡ m → present y o c ≡ as_committed (committed_pages y o c)
    go None none = moves.present o c none ∙ same o c ∙ ap as_committed none ∙ sym (ap as_committed (moves.committed o c none))
    go (Some p) some = let f = moves.moved o c p some in f.present ∙ ap (moved_to f.at) (same o c ∙ ap as_committed some) ∙ sym (ap as_committed f.is)

-- ---- data

-- a committed page reads, and it is the newest of its version
pub committed_reads : (f : Flash) (o c : ℕ) (p : CommittedPage) → IsCommittedAt f o c p → (xs : List ℕ) × (data_at f p ≡ Some xs) × HasVersion f o c p.version xs
committed_reads f o c p k =
    let has = k.newest.holds.has in
    (has.bytes, ap data_of has.page, record { spot = record { block = p.block; page = p.page; tag = k.tag }; newest = k.newest; version_is = k.version; stored = has.page })

-- and so the newest page of its key is it
reads_newest : (f : Flash) (o c n : ℕ) (p : CommittedPage) (xs : List ℕ) → IsCommittedAt f o c p → HasVersion f o c n xs → data_at f p ≡ Some xs
reads_newest f o c n p xs k v =
    let s : Spot = record { block = p.block; page = p.page; tag = k.tag } in
    let same : s ≡ v.spot = one_spot f o c s v.spot k.newest v.newest in
    ap (λ (z : Spot). data_of (f.page z.block z.page)) same ∙ ap data_of v.stored

newest_of : (f : Flash) (o c n : ℕ) (xs : List ℕ) → HasVersion f o c n xs → HasNewest f o c xs
newest_of f o c n xs v = record { spot = v.spot; newest = v.newest; stored = v.stored }

-- committed pages of which the data stay are carried
pub carries_committed : (x : Index) (f g : Flash) → AreCommitted f (committed_pages x) → SameData (committed_pages x) f g → Carries g (committed_data x f)
carries_committed x f g committed same o c xs is = go (committed_pages x o c) refl where
  go : (m : Option CommittedPage) → committed_pages x o c ≡ m → HasNewest g o c xs
  go None none = let two : None ≡ Some xs = sym (ap (option_and_then (data_at f)) none) ∙ is in absurd cc
  go (Some p) some =
      let reads = committed_reads f o c p (committed o c p some) in
      let both : Some reads.0 ≡ Some xs = sym reads.1 ∙ sym (ap (option_and_then (data_at f)) some) ∙ is in
      let e : reads.0 ≡ xs = cc in
      newest_of g o c p.version xs (same o c p xs some (subst (HasVersion f o c p.version) e reads.2))

module _ (x y : Index) (f g : Flash) (moves : MovesCommitted x y) (was : AreCommitted f (committed_pages x)) (now : AreCommitted g (committed_pages y)) (same : SameData (committed_pages x) f g) where
  -- the page of a key has its data, where it lies now
  same_at : (o c : ℕ) (p : CommittedPage) (is : committed_pages x o c ≡ Some p) → data_at g (moves.moved o c p is).at ≡ data_at f p
  same_at o c p is =
      let m = moves.moved o c p is in
      let reads = committed_reads f o c p (was o c p is) in
      reads_newest g o c p.version m.at reads.0 (now o c m.at m.is) (same o c p reads.0 is reads.2) ∙ sym reads.1

  pub same_committed : (o c : ℕ) → committed_data y g o c ≡ committed_data x f o c
  same_committed o c = go (committed_pages x o c) refl where
    go : (m : Option CommittedPage) → committed_pages x o c ≡ m → committed_data y g o c ≡ committed_data x f o c
    go None none = ap (option_and_then (data_at g)) (moves.committed o c none) ∙ sym (ap (option_and_then (data_at f)) none)
    go (Some p) some = ap (option_and_then (data_at g)) (moves.moved o c p some).is ∙ same_at o c p some ∙ sym (ap (option_and_then (data_at f)) some)

  pub same_present : (pages : List FreshPage) (o c : ℕ) → present_data y pages g o c ≡ present_data x pages f o c
  same_present pages o c = go (committed_pages x o c) refl where
    uncommitted : (r : Present) → present x o c ≡ r → committed_pages x o c ≡ None → data_by g pages r ≡ data_by f pages r
    uncommitted presents.Absent is none = refl
    uncommitted (presents.OnFlash k) is none = let two : None ≡ Some k = sym none ∙ on_flash_committed x o c k is in absurd cc
    uncommitted (presents.InBuffer i) is none = refl

    moved : (p : CommittedPage) (some : committed_pages x o c ≡ Some p) (r : Present) → present x o c ≡ r → data_by g pages (moved_to (moves.moved o c p some).at r) ≡ data_by f pages r
    moved p some presents.Absent is = refl
    moved p some (presents.OnFlash k) is =
        let both : Some p ≡ Some k = sym some ∙ on_flash_committed x o c k is in
        let e : p ≡ k = cc in
        same_at o c p some ∙ ap (data_at f) e
    moved p some (presents.InBuffer i) is = refl

    go : (m : Option CommittedPage) → committed_pages x o c ≡ m → present_data y pages g o c ≡ present_data x pages f o c
    go None none = ap (data_by g pages) (moves.present o c none) ∙ uncommitted (present x o c) refl none
    go (Some p) some = ap (data_by g pages) (moves.moved o c p some).present ∙ moved p some (present x o c) refl
