-- What reads of the device leave of a store.
use Rattle.std.specs.Prelude.{◌≡◌, ◌<◌, ℕ, Bool, true, false, not, ◌&&◌, ◌||◌, ◌↔◌, zero, suc, List, [], ◌∷◌, length, Option, Some, None, IsSome, IsTrue, Result, Ok, Err, IfOk, IfErr}
use Rattle.std.proofs.Common.{refl, sym, ◌∙◌, ap, subst, inl, inr, arith}
use Rattle.std.proofs.lemmas.Bool.{cases_Bool, or_left, or_right}
use Rattle.page_store.specs.Buffering.{lacks}
use Rattle.chunk_index.specs.declared.form.Present.{Present}
use Rattle.nand_model.specs.Flash.{Flash}
use Rattle.nand_model.specs.Calls.{Device, Lasts}
use Rattle.flash_tree.specs.laws.Place.{same_flash, had_power}
use Rattle.block_state.specs.Table.{Table}
use Rattle.transactions.specs.Ready.{IsReady}
use Rattle.flash_log.specs.Snapshots.{Snapshot, remembered_flash}
use Rattle.flash_log.specs.Consistency.{IsCommittedAt, AreCommitted, MayLie, IsConsistentLog}
use Rattle.nand_model.specs.Changes.{OnlyReads}
use Rattle.nand_model.specs.declared.geometry.Geometry.{Geometry}
use Rattle.flash_tree.specs.declared.place.FreshPage.{FreshPage}
use Rattle.flash_tree.specs.declared.place.Key.{Key}
use Rattle.chunk_index.specs.declared.entry.KeyEntry.{KeyEntry}
use Rattle.chunk_index.specs.declared.entry.State.{State}
use Rattle.chunk_index.specs.declared.entry.State.TheVariants as states
use Rattle.chunk_index.specs.declared.form.CommittedPage.{CommittedPage}
use Rattle.chunk_index.specs.declared.form.Present.TheVariants as presents
use Rattle.chunk_index.specs.declared.index.Index.{Index}
use Rattle.chunk_index.specs.Entries.{as_committed, present_by, present_of, committed_of}
use Rattle.chunk_index.specs.Shelves.{look}
use Rattle.chunk_index.specs.Maps.{committed_pages, present}
use Rattle.page_store.specs.Shown.{data_of, data_at, data_by, data_in, committed_data, present_data}
use Rattle.page_store.specs.declared.cache.PageCache.{PageCache}
use Rattle.pages.specs.Maps.{PageMap, known_pages}
use Rattle.pages.specs.laws.Known.{known_same}
use Rattle.pages.specs.State.{OnlyFinds, FindsPage, FailsBy}
use Rattle.pages.specs.declared.store.Presence.{Presence}
use Rattle.pages.specs.declared.store.Presence.TheVariants as presences
use Rattle.volume_terms.specs.declared.fault.StoreFault.{StoreFault}
use Rattle.volume_terms.specs.declared.fault.StoreFault.TheVariants as faults
use Rattle.page_store.specs.BufferOf.{contents, most_pages}
use Rattle.page_store.specs.declared.buffer.Buffer.{Buffer}
use Rattle.page_store.specs.Found.{bytes_or}
use Rattle.page_store.specs.Caching.{Shows}
use Rattle.page_store.specs.Counts.{IsRefused}
use Rattle.page_store.specs.Reading.{Caches, IsLoadFault, IsFindFault, Lends, Looks}
use Rattle.page_store.specs.StoreOf.{next_numbers, is_near}
use Rattle.page_store.specs.StoreState.{StoreState, current_in, seen_of}
use Rattle.page_store.specs.laws.Sound.{sound_whole}

-- a page that is present on the flash is the committed one
on_flash : (p : Option CommittedPage) (k : CommittedPage) → as_committed p ≡ presents.OnFlash k → p ≡ Some k
on_flash None k is = absurd cc
on_flash (Some q) k is = cc

by_state : (p : Option CommittedPage) (s : State) (k : CommittedPage) → present_by p s ≡ presents.OnFlash k → p ≡ Some k
by_state p states.Same k is = on_flash p k is
by_state p (states.Buffered i) k is = absurd cc
by_state p states.Dropped k is = absurd cc
by_state p states.Vacant k is = absurd cc

of_entry : (m : Option KeyEntry) (k : CommittedPage) → present_of m ≡ presents.OnFlash k → committed_of m ≡ Some k
of_entry None k is = absurd cc
of_entry (Some e) k is = by_state e.committed e.state k is

pub committed_there : (x : Index) (o c : ℕ) (k : CommittedPage) → present x o c ≡ presents.OnFlash k → committed_pages x o c ≡ Some k
committed_there x o c k is = of_entry (look x.shelf.objects o c) k is

-- a page that is present on the flash lies on the device
pub lies : (spare : ℕ) (d : Device) (t : Table) (x : Index) (o c : ℕ) (k : CommittedPage) → IsReady d t → IsConsistentLog spare d t x → present x o c ≡ presents.OnFlash k
    → (k.block < d.geometry.blocks) × (k.page < d.geometry.pages)
lies spare d t x o c k can_write consistent is =
    let at : MayLie t o c k = consistent.tables.within o c k (committed_there x o c k is) in
    (subst (λ (g : Geometry). k.block < g.blocks) can_write.geometry at.block, subst (λ (g : Geometry). k.page < g.pages) can_write.geometry at.page)

-- what stands still does
pub consistent_read : (spare : ℕ) (a b : Device) (t : Table) (x : Index) → OnlyReads a b → IsConsistentLog spare a t x → IsConsistentLog spare b t x
consistent_read spare a b t x reads consistent = record {
  tables = consistent.tables;
  newest = λ honest power.
      let before : a.honest ≡ true = sym reads.lasts.honest ∙ honest in
      subst (λ (f : Flash). AreCommitted f (committed_pages x)) (sym (same_flash a b reads before)) (consistent.newest before (had_power a b reads.lasts power));
  ordinary = λ honest. consistent.ordinary (sym reads.lasts.honest ∙ honest);
  limits = consistent.limits;
}

-- committed pages are still the newest of their keys
pub newest_read : (a b : Device) (x : Index) → OnlyReads a b → (a.honest ≡ true → AreCommitted a.flash (committed_pages x)) → b.honest ≡ true → AreCommitted b.flash (committed_pages x)
newest_read a b x reads committed honest =
    let before : a.honest ≡ true = sym reads.lasts.honest ∙ honest in
    subst (λ (f : Flash). AreCommitted f (committed_pages x)) (sym (same_flash a b reads before)) (committed before)

-- what is cached is still what is present
pub still_shown : (a b : Device) (x : Index) (pages : List FreshPage) (cache : PageCache) → OnlyReads a b → (a.honest ≡ true → Shows cache (present_data x pages a.flash)) → b.honest ≡ true → Shows cache (present_data x pages b.flash)
still_shown a b x pages cache reads same honest =
    let before : a.honest ≡ true = sym reads.lasts.honest ∙ honest in
    subst (λ (f : Flash). Shows cache (present_data x pages f)) (sym (same_flash a b reads before)) (same before)

-- and with a page that was read and put there
pub shown_read : (a b : Device) (x : Index) (pages : List FreshPage) (key : Key) (at : CommittedPage) (old new : PageCache) → OnlyReads a b → present x key.object key.chunk ≡ presents.OnFlash at
    → Caches a key at old new → (a.honest ≡ true → Shows old (present_data x pages a.flash)) → b.honest ≡ true → Shows new (present_data x pages b.flash)
shown_read a b x pages key at old new reads there caches same honest o c xs is =
    let before : a.honest ≡ true = sym reads.lasts.honest ∙ honest in
    subst (λ (f : Flash). present_data x pages f o c ≡ Some xs) (sym (same_flash a b reads before)) (elim (caches o c xs is) [
      | inl was ↦ same before o c xs was
      | inr put ↦ ap (λ n. present_data x pages a.flash n c) put.0.0 ∙ ap (λ n. present_data x pages a.flash key.object n) put.0.1 ∙ ap (data_by a.flash pages) there ∙ put.1 before
    ])

-- a committed page of an honest device that has power is written
pub committed_written : (f : Flash) (x : Index) (o c : ℕ) (k : CommittedPage) → AreCommitted f (committed_pages x) → committed_pages x o c ≡ Some k → data_at f k ≡ None → ⊥
committed_written f x o c k committed is none =
    let at : IsCommittedAt f o c k = committed o c k is in
    let two : None ≡ Some at.newest.holds.has.bytes = sym none ∙ ap data_of at.newest.holds.has.page in
    absurd cc

-- each fault of a load has its cause
pub load_fails : (a b : StoreState) (o c : ℕ) (at : CommittedPage) (fault : StoreFault) → OnlyReads a.log.device b.log.device → IsConsistentLog a.spare a.log.device a.log.table a.index
    → present a.index o c ≡ presents.OnFlash at → IsLoadFault a.log.device b.log.device at fault → (fault ≡ faults.NoMemory → IsRefused a.counts b.counts) → IsFindFault a b fault
load_fails a b o c at faults.NoMemory reads consistent there why is = is refl
load_fails a b o c at faults.Worn reads consistent there why is = why
load_fails a b o c at faults.Device reads consistent there why is = elim why [
  | inl gone ↦ inl gone
  | inr none ↦ elim (cases_Bool a.log.device.honest) [
    | inr lies' ↦ inr (inl (reads.lasts.honest ∙ lies'))
    | inl honest ↦ elim (cases_Bool a.log.device.gone) [
      | inl gone ↦ inl (ap (λ (d : Device). d.gone) (reads.lasts.gone gone) ∙ gone)
      | inr power ↦ absurd (committed_written a.log.device.flash a.index o c at (consistent.newest honest power) (committed_there a.index o c at there) (none honest))
    ]
  ]
]

-- a look-up only finds
pub finds_seen : (a b : StoreState) (lent lent' : List ℕ) → Looks a b → OnlyFinds (seen_of a lent) (seen_of b lent')
finds_seen a b lent lent' looks = record {
  page_bytes = ap (λ (g : Geometry). g.bytes) lasts.geometry;
  most = ap most_pages looks.buffer;
  present = ap (λ i. known_pages e.honest (present_data i (contents b.buffer) e.flash)) looks.index
      ∙ ap (λ i. known_pages e.honest (present_data a.index (contents i) e.flash)) looks.buffer
      ∙ known_same d e (present_data a.index (contents a.buffer)) looks.reads;
  committed = ap (λ i. known_pages e.honest (committed_data i e.flash)) looks.index ∙ known_same d e (committed_data a.index) looks.reads;
  in_buffer = ap (λ (i : Buffer). length (contents i)) looks.buffer;
  sound = ap (λ h. h && not b.broken) lasts.honest ∙ ap (λ w. d.honest && not w) looks.broken;
  failed = failed;
  refused = looks.counts.refused;
  commits = looks.commits;
  issued = lasts.reads;
  device = looks.reads;
  next = ap next_numbers looks.table;
  spare = looks.spare;
  worn = refl;
  checkpoint = ap (λ (t : Table). t.checkpoint) looks.table;
  first = ap (λ (f : Option Snapshot). remembered_flash f) looks.first;
} where
  d : Device
  d = a.log.device

  e : Device
  e = b.log.device

  lasts : Lasts d e
  lasts = looks.reads.lasts

  failed : (d.gone || (not d.honest || a.broken)) ≡ true → (e.gone || (not e.honest || b.broken)) ≡ true
  failed is = elim (cases_Bool d.gone) [
    | inl gone ↦
        let same : e ≡ d = lasts.gone gone in
        ap (λ (k : Device). k.gone || (not k.honest || b.broken)) same ∙ ap (λ w. d.gone || (not d.honest || w)) looks.broken ∙ is
    | inr powered ↦
        let rest : (not d.honest || a.broken) ≡ true = sym (ap (λ w. w || (not d.honest || a.broken)) powered) ∙ is in
        let new : (not e.honest || b.broken) ≡ true = ap (λ h. not h || b.broken) lasts.honest ∙ ap (λ w. not d.honest || w) looks.broken ∙ rest in
        or_right e.gone (not e.honest || b.broken) new
  ]

-- a store that is sound is on an honest device, and is not broken
pub sound_honest : (h w : Bool) → (h && not w) ≡ true → h ≡ true
sound_honest true w is = refl
sound_honest false w is = absurd cc

-- a page that is there is what is lent
some_bytes : (m : Option (List ℕ)) (xs scratch : List ℕ) → m ≡ Some xs → m ≡ Some (bytes_or m scratch)
some_bytes m xs scratch is = is ∙ ap (λ ys. Some ys) (sym (ap (λ o. bytes_or o scratch) is))

data_there : (pages : List FreshPage) (i : ℕ) → i < length pages → (xs : List ℕ) × (data_in pages i ≡ Some xs)
data_there [] i lt = absurd (omega (arith, lt))
data_there (p ∷ ps) zero lt = (p.bytes.items, refl)
data_there (p ∷ ps) (suc i) lt = data_there ps i (omega (arith, lt))

-- a key that is present in the buffer has the page that is lent
pub buffered_lent : (a : Device) (x : Index) (pages : List FreshPage) (scratch : List ℕ) (o c i : ℕ) (broken : Bool) → present x o c ≡ presents.InBuffer i → i < length pages
    → (a.honest && not broken) ≡ true → known_pages a.honest (present_data x pages a.flash) o c ≡ Some (bytes_or (data_in pages i) scratch)
buffered_lent a x pages scratch o c i broken is within sound =
    let there = data_there pages i within in
    ap (λ h. known_pages h (present_data x pages a.flash) o c) (sound_honest a.honest broken sound)
    ∙ ap (data_by a.flash pages) is ∙ some_bytes (data_in pages i) there.0 scratch there.1

-- a key that is present on the flash has the page that is lent
pub committed_lent : (a : StoreState) (lent : List ℕ) (o c : ℕ) (at : CommittedPage) (result : Result Presence StoreFault) → present a.index o c ≡ presents.OnFlash at
    → (a.log.device.honest && not a.broken) ≡ true → IfOk result (λ presence. presence ≡ presences.Present) → Lends a at lent result → IfOk result (FindsPage (current_in a) o c lent)
committed_lent a lent o c at (Err fault) is sound there page = tt
committed_lent a lent o c at (Ok reported) is sound there page =
    let d : Device = a.log.device in
    let honest = sound_honest d.honest a.broken sound in
    subst (FindsPage (current_in a) o c lent) (sym there)
    (ap (λ h. known_pages h (present_data a.index (contents a.buffer) d.flash) o c) honest ∙ ap (data_by d.flash (contents a.buffer)) is ∙ page (sound_whole d.honest a.broken sound) honest)

-- and so it has one
pub not_absent : (a : Device) (x : Index) (pages : List FreshPage) (o c : ℕ) (at : CommittedPage) (broken : Bool) → present x o c ≡ presents.OnFlash at
    → (broken ≡ false → a.honest ≡ true → AreCommitted a.flash (committed_pages x)) → (a.honest && not broken) ≡ true → known_pages a.honest (present_data x pages a.flash) o c ≡ None → ⊥
not_absent a x pages o c at broken is committed sound none =
    let honest : a.honest ≡ true = sound_honest a.honest broken sound in
    let here : known_pages a.honest (present_data x pages a.flash) o c ≡ data_at a.flash at =
    ap (λ h. known_pages h (present_data x pages a.flash) o c) honest ∙ ap (data_by a.flash pages) is in
    committed_written a.flash x o c at (committed (sound_whole a.honest broken sound) honest) (committed_there x o c at is) (sym here ∙ none)

-- a key that is absent has none
pub absent_has_none : (a : Device) (x : Index) (pages : List FreshPage) (o c : ℕ) → present x o c ≡ presents.Absent → IsTrue false ↔ IsSome (known_pages a.honest (present_data x pages a.flash) o c)
absent_has_none a x pages o c is = (
  λ yes. absurd cc,
  λ some.
      let none = none_known a.honest (present_data x pages a.flash) (ap (data_by a.flash pages) is) in
      let no' : IsSome {T = List ℕ} None = subst (λ (n : Option (List ℕ)). IsSome n) none some in
      absurd cc,
)
  where
    none_known : (h : Bool) (m : PageMap) → m o c ≡ None → known_pages h m o c ≡ None
    none_known true m none = none
    none_known false m none = refl

-- a page that is there
pub there_has_one : (m : Option (List ℕ)) → (m ≡ None → ⊥) → IsTrue true ↔ IsSome m
there_has_one None some = absurd (some refl)
there_has_one (Some xs) some = (λ yes. refl, λ here. refl)

-- each fault has its cause
pub fault_seen : (a b : StoreState) (lent lent' : List ℕ) (result : Result Presence StoreFault) → IfErr result (IsFindFault a b) → IfErr result (FailsBy (seen_of a lent) (seen_of b lent'))
fault_seen a b lent lent' (Ok reported) why = tt
fault_seen a b lent lent' (Err faults.NoMemory) why = why
fault_seen a b lent lent' (Err faults.Worn) why = why
fault_seen a b lent lent' (Err faults.Device) why = elim why [
  | inl gone ↦ or_left b.log.device.gone (not b.log.device.honest || b.broken) gone
  | inr rest ↦ or_right b.log.device.gone (not b.log.device.honest || b.broken) (elim rest [
    | inl lies ↦ or_left (not b.log.device.honest) b.broken (ap not lies)
    | inr breaks ↦ or_right (not b.log.device.honest) b.broken breaks
  ])
]

-- a page on the flash that is near is in the cache
pub near_cached : (p : Present) (at : CommittedPage) (held : Option (List ℕ)) → p ≡ presents.OnFlash at → is_near p held ≡ true → IsSome held
near_cached p at held is near = sym (ap (λ (q : Present). is_near q held) is) ∙ near

-- a page of the buffer is near
pub near_buffered : (p : Present) (held : Option (List ℕ)) → lacks p ≡ 0 → is_near p held ≡ true
near_buffered presents.Absent held is = absurd (let two : 1 ≡ 0 = is in omega (arith, two))
near_buffered (presents.OnFlash at) held is = absurd (let two : 1 ≡ 0 = is in omega (arith, two))
near_buffered (presents.InBuffer i) held is = refl
