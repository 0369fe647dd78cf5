-- What a change and a commit leave of a store.
use Rattle.std.specs.Prelude.{◌≡◌, ◌≢◌, ◌<◌, ◌≤◌, ℕ, Bool, true, false, List, [], ◌∷◌, length, Option, Some, None, IsSome, IsTrue, slice_get}
use Rattle.std.specs.Option.{option_map, option_and_then}
use Rattle.std.proofs.Common.{refl, sym, ◌∙◌, ap, subst, inl, inr, arith}
use Rattle.std.proofs.lemmas.Bool.{false≢true}
use Rattle.nand_model.specs.Flash.{Flash}
use Rattle.nand_model.specs.Calls.{Device, Lasts}
use Rattle.flash_tree.specs.laws.Place.{had_power}
use Rattle.flash_tree.specs.declared.place.FreshPage.{FreshPage}
use Rattle.flash_tree.specs.declared.place.Key.{Key}
use Rattle.block_state.specs.Table.{Table}
use Rattle.chunk_index.specs.declared.entry.KeyEntry.{KeyEntry}
use Rattle.chunk_index.specs.declared.form.Present.{Present}
use Rattle.chunk_index.specs.declared.form.Present.TheVariants as presents
use Rattle.chunk_index.specs.declared.index.Index.{Index}
use Rattle.chunk_index.specs.Entries.{stays_of}
use Rattle.chunk_index.specs.Shelves.{look}
use Rattle.chunk_index.specs.Maps.{committed_pages, present, IsPrepared, IsReadyKey, SameCommitted, SamePresent}
use Rattle.chunk_index.specs.laws.Maps.{agree_same}
use Rattle.transactions.specs.Handing.{HandsOut}
use Rattle.transactions.specs.laws.Handing.{hands_nothing}
use Rattle.flash_tree.specs.Slots.{check_object}
use Rattle.chunk_index.specs.declared.form.CommittedPage.{CommittedPage}
use Rattle.flash_log.specs.Consistency.{MayLie, IsConsistentLog}
use Rattle.pages.specs.Maps.{PageMap, known_pages, without_cuts, after_change}
use Rattle.pages.specs.laws.Maps.{page_elsewhere, cut_elsewhere, elsewhere}
use Rattle.pages.specs.laws.Changes.{cuts_nothing}
use Rattle.pages.specs.declared.change.Change.{Change}
use Rattle.pages.specs.declared.change.Cut.{Cut}
use Rattle.page_store.specs.BufferOf.{contents, most_pages, bytes_of_page}
use Rattle.page_store.specs.declared.buffer.Buffer.{Buffer}
use Rattle.page_store.specs.Shown.{data_at, data_by, committed_data, present_data}
use Rattle.page_store.specs.Buffering.{Buffers, lacks, new_keys, with_new}
use Rattle.page_store.specs.declared.cache.PageCache.{PageCache}
use Rattle.page_store.specs.Caching.{Shows, HasNoMore, LacksCuts, LacksPages, AreIn}
use Rattle.page_store.specs.Carrying.{AreNumbered, AreWritable}
use Rattle.page_store.specs.Changing.{IsCommitFault, fault_of}
use Rattle.pages.specs.Changes.{AreOfTrees}
use Rattle.pages.specs.Stores.{SamePages}
use Rattle.flash_log.specs.RoomMaking.{WhyNoRoom}
use Rattle.flash_log.specs.declared.room_fault.RoomFault.{RoomFault}
use Rattle.flash_log.specs.declared.room_fault.RoomFault.TheVariants as causes
use Rattle.page_store.specs.StoreOf.{committed_data_map, present_map}
use Rattle.page_store.specs.StoreState.{StoreState, waiting}
use Rattle.page_store.proofs.ReadOnly.{committed_there}

-- maps that have the same pages, where they are known
pub known_alike : (h : Bool) (m n : PageMap) → (h ≡ true → SamePages n m) → SamePages (known_pages h n) (known_pages h m)
known_alike true m n same = same refl
known_alike false m n same = λ o c. refl

-- on a device that is as honest
pub known_on : (h k : Bool) (m n : PageMap) → k ≡ h → (h ≡ true → SamePages n m) → SamePages (known_pages k n) (known_pages h m)
known_on h k m n is same = subst (λ (j : Bool). SamePages (known_pages j n) (known_pages h m)) (sym is) (known_alike h m n same)

pub known_changed : (h : Bool) (change : Change) (m n : PageMap) → h ≡ true → SamePages n (after_change change m) → SamePages (known_pages h n) (after_change change (known_pages h m))
known_changed true change m n is same = same
known_changed false change m n is same = absurd (false≢true is)

-- where no key's committed page changes
module _ (x y : Index) (same : SameCommitted x y) where
  pub committed_same : (f : Flash) → SamePages (committed_data y f) (committed_data x f)
  committed_same f o c = ap (option_and_then (data_at f)) (same.committed o c)

  pub consistent_committed : (spare : ℕ) (d : Device) (t : Table) → IsConsistentLog spare d t x → IsConsistentLog spare d t y
  consistent_committed spare d t consistent = record {
    tables = record {
      counts = agree_same t x y same consistent.tables.counts;
      within = λ o c p is. consistent.tables.within o c p (sym (same.committed o c) ∙ is);
      fits = consistent.tables.fits;
      written = consistent.tables.written;
      uncommitted = consistent.tables.uncommitted;
      apart = consistent.tables.apart;
    };
    newest = λ honest power o c p is. consistent.newest honest power o c p (sym (same.committed o c) ∙ is);
    ordinary = λ honest o c p is. consistent.ordinary honest o c p (sym (same.committed o c) ∙ is);
    limits = consistent.limits;
  }

-- where no key's present page changes
pub present_same : (x y : Index) (pages : List FreshPage) (f : Flash) → SamePresent x y → SamePages (present_data y pages f) (present_data x pages f)
present_same x y pages f same o c = ap (data_by f pages) (same o c)

pub shown_same : (x y : Index) (pages : List FreshPage) (f : Flash) (old new : PageCache) → SamePresent x y → HasNoMore old new → Shows old (present_data x pages f) → Shows new (present_data y pages f)
shown_same x y pages f old new same fewer shows o c xs is = present_same x y pages f same o c ∙ shows o c xs (fewer o c xs is)

-- a page of the buffer is the present one of its key
pub buffered_shown : (x : Index) (pages : List FreshPage) (f : Flash) → Buffers x pages → AreIn pages (present_data x pages f)
buffered_shown x pages f buffers i p is =
    ap (data_by f pages) (buffers.reported p.key.object p.key.chunk i (ap (option_map (λ (q : FreshPage). q.key)) is)) ∙ ap (option_map (λ (q : FreshPage). q.bytes.items)) is

-- no page is of this object
abbrev pub LacksObject : ℕ → List FreshPage → Type 0
LacksObject n pages = (i : ℕ) (p : FreshPage) → slice_get pages i ≡ Some p → p.key.object ≢ n

-- Of an object of which no page is committed and none is buffered none is present, before a change and after it.
none_of : (n : ℕ) (x : Index) (pages : List FreshPage) (f : Flash) (c : ℕ) → ((l : ℕ) (k : CommittedPage) → committed_pages x n l ≡ Some k → ⊥) → Buffers x pages → LacksObject n pages
    → present_data x pages f n c ≡ None
none_of n x pages f c uncommitted buffers lacks = go (present x n c) refl
  where
    go : (p : Present) → present x n c ≡ p → data_by f pages p ≡ None
    go presents.Absent is = refl
    go (presents.OnFlash k) is = absurd (uncommitted c k (committed_there x n c k is))
    go (presents.InBuffer i) is = page (slice_get pages i) refl
      where
        page : (m : Option FreshPage) → slice_get pages i ≡ m → option_map (λ (q : FreshPage). q.bytes.items) m ≡ None
        page None none = refl
        page (Some p) some =
            let two : Some p.key ≡ Some (record { object = n; chunk = c }) = sym (ap (option_map (λ (q : FreshPage). q.key)) some) ∙ buffers.there n c i is in
            let one : p.key ≡ record { object = n; chunk = c } = cc in
            absurd (lacks i p some (ap (λ (k : Key). k.object) one))

-- so no page of the buffer is of it
lacks_from : (n : ℕ) (y : Index) (new : List FreshPage) (f : Flash) → Buffers y new → ((c : ℕ) → present_data y new f n c ≡ None) → LacksObject n new
lacks_from n y new f buffers none i p there same =
    let here : present_data y new f p.key.object p.key.chunk ≡ Some p.bytes.items = buffered_shown y new f buffers i p there in
    let two : None ≡ Some p.bytes.items = sym (none p.key.chunk) ∙ ap (λ m. present_data y new f m p.key.chunk) (sym same) ∙ here in
    cc

lacks_changed : (n : ℕ) (x y : Index) (old new : List FreshPage) (change : Change) (f : Flash) → ((l : ℕ) (k : CommittedPage) → committed_pages x n l ≡ Some k → ⊥) → Buffers x old → LacksObject n old
    → LacksObject n change.pages.items → Buffers y new → SamePages (present_data y new f) (after_change change (present_data x old f)) → LacksObject n new
lacks_changed n x y old new change f uncommitted before lacks writes after is = lacks_from n y new f after (λ c.
    let m : PageMap = present_data x old f in
    is n c
    ∙ page_elsewhere change.pages.items (without_cuts change.cuts.items m) n c (λ k of. writes k of.page of.there of.object)
    ∙ cuts_nothing change.cuts.items m n c (none_of n x old f c uncommitted before lacks))

lacks_cut : (n : ℕ) (x y : Index) (old new : List FreshPage) (cuts : List Cut) (f : Flash) → ((l : ℕ) (k : CommittedPage) → committed_pages x n l ≡ Some k → ⊥) → Buffers x old → LacksObject n old
    → Buffers y new → SamePages (present_data y new f) (without_cuts cuts (present_data x old f)) → LacksObject n new
lacks_cut n x y old new cuts f uncommitted before lacks after is =
    lacks_from n y new f after (λ c. is n c ∙ cuts_nothing cuts (present_data x old f) n c (none_of n x old f c uncommitted before lacks))

-- no page of object 0 is committed
committed_zero : (spare : ℕ) (d : Device) (t : Table) (x : Index) → IsConsistentLog spare d t x → (l : ℕ) (k : CommittedPage) → committed_pages x 0 l ≡ Some k → ⊥
committed_zero spare d t x consistent l k is = let at : MayLie t 0 l k = consistent.tables.within 0 l k is in omega (arith, at.name.object.0)

zero_lacked : (d : Device) (pages : List FreshPage) → AreNumbered d pages → LacksObject 0 pages
zero_lacked d pages numbered i p is same = let some' : 1 ≤ p.key.object = (numbered i p is).0 in omega (arith, some', same)

-- so each page of the buffer is of a number that an object may have
pub objects_changed : (spare : ℕ) (d : Device) (t : Table) (x y : Index) (old new : List FreshPage) (change : Change) (f : Flash) → IsConsistentLog spare d t x → Buffers x old → AreNumbered d old → AreOfTrees change.pages.items
    → Buffers y new → SamePages (present_data y new f) (after_change change (present_data x old f)) → AreNumbered d new
objects_changed spare d t x y old new change f consistent before objects writes after is i p there = (some_left, ordinary_left) where
  some_left : 1 ≤ p.key.object
  some_left =
      let ne = lacks_changed 0 x y old new change f (committed_zero spare d t x consistent) before (zero_lacked d old objects)
      (λ j q at same. let some' : 1 ≤ q.key.object = (writes j q at).object.0 in omega (arith, some', same)) after is i p there in
      omega (arith, ne)

  ordinary_left : d.honest ≡ true → p.key.object ≢ check_object
  ordinary_left honest =
      lacks_changed check_object x y old new change f (λ l k at. consistent.ordinary honest check_object l k at refl) before (λ j q at. (objects j q at).1 honest)
      (λ j q at same. let less : q.key.object < check_object = (writes j q at).object.1 in omega (arith, less, same)) after is i p there

pub objects_cut : (spare : ℕ) (d : Device) (t : Table) (x y : Index) (old new : List FreshPage) (cuts : List Cut) (f : Flash) → IsConsistentLog spare d t x → Buffers x old → AreNumbered d old
    → Buffers y new → SamePages (present_data y new f) (without_cuts cuts (present_data x old f)) → AreNumbered d new
objects_cut spare d t x y old new cuts f consistent before objects after is i p there = (some_left, ordinary_left) where
  some_left : 1 ≤ p.key.object
  some_left = let ne = lacks_cut 0 x y old new cuts f (committed_zero spare d t x consistent) before (zero_lacked d old objects) after is i p there in omega (arith, ne)

  ordinary_left : d.honest ≡ true → p.key.object ≢ check_object
  ordinary_left honest = lacks_cut check_object x y old new cuts f (λ l k at. consistent.ordinary honest check_object l k at refl) before (λ j q at. (objects j q at).1 honest) after is i p there

-- on a device that is as honest the pages are so still
pub numbered_on : (a b : Device) (pages : List FreshPage) → Lasts a b → AreNumbered a pages → AreNumbered b pages
numbered_on a b pages lasts numbered i p is = ((numbered i p is).0, λ honest. (numbered i p is).1 (sym lasts.honest ∙ honest))

-- what the cache has left is present after a change
pub shown_changed : (change : Change) (m : PageMap) (a b c : PageCache) → Shows a m → HasNoMore a b → HasNoMore b c → LacksCuts change.cuts.items b → LacksPages change.pages.items c → Shows c (after_change change m)
shown_changed change m a b c shows first then cuts pages o k xs is =
    elsewhere change m o k
    (λ i of. absurd (let two : None ≡ Some xs = sym (pages o k i of) ∙ is in cc))
    (λ i cut. absurd (let two : None ≡ Some xs = sym (cuts o k i cut) ∙ then o k xs is in cc))
    ∙ shows o k xs (first o k xs (then o k xs is))

-- and after a cut
pub shown_cut : (cuts : List Cut) (m : PageMap) (a b : PageCache) → Shows a m → HasNoMore a b → LacksCuts cuts b → Shows b (without_cuts cuts m)
shown_cut cuts m a b shows fewer lacks' o k xs is =
    cut_elsewhere cuts m o k (λ i cut. absurd (let two : None ≡ Some xs = sym (lacks' o k i cut) ∙ is in cc)) ∙ shows o k xs (fewer o k xs is)

pub known_cut : (h : Bool) (cuts : List Cut) (m n : PageMap) → h ≡ true → SamePages n (without_cuts cuts m) → SamePages (known_pages h n) (without_cuts cuts (known_pages h m))
known_cut true cuts m n is same = same
known_cut false cuts m n is same = absurd (false≢true is)

-- an empty buffer has room for as many pages as it holds
pub few_new : (x : Index) (pages : List FreshPage) → new_keys x pages ≤ length pages
few_new x [] = omega arith
few_new x (p ∷ ps) = omega (arith, one (present x p.key.object p.key.chunk), few_new x ps)
  where
    one : (q : Present) → lacks q ≤ 1
    one presents.Absent = omega arith
    one (presents.OnFlash k) = omega arith
    one (presents.InBuffer i) = omega arith

pub room_after : (x : Index) (buffer pages : List FreshPage) (most : ℕ) → buffer ≡ [] → length pages ≤ most → with_new x buffer pages ≤ most
room_after x buffer pages most empty within_limit = let none : length buffer ≡ 0 = ap length empty in omega (arith, none, few_new x pages, within_limit)

-- a key that is ready is prepared
pub ready_prepared : (x : Index) (o c : ℕ) → IsReadyKey x o c → IsPrepared x o c
ready_prepared x o c = go (look x.shelf.objects o c)
  where
    go : (m : Option KeyEntry) → IsTrue (stays_of m) → IsSome m
    go None is = absurd (false≢true is)
    go (Some e) is = refl

-- maps of a store that is as it was but for its index's room
pub same_back : (m n : PageMap) → SamePages m n → SamePages n m
same_back m n same o c = sym (same o c)

pub same_on : (m n k : PageMap) → SamePages m n → SamePages n k → SamePages m k
same_on m n k first then o c = first o c ∙ then o c

pub committed_map_same : (d e : Device) (x y : Index) → e ≡ d → SameCommitted x y → SamePages (committed_data_map e y) (committed_data_map d x)
committed_map_same d e x y is same = subst (λ (k : Device). SamePages (committed_data_map k y) (committed_data_map d x)) (sym is) (known_alike d.honest (committed_data x d.flash) (committed_data y d.flash) (λ _. committed_same x y same d.flash))

pub present_map_same : (d e : Device) (x y : Index) (b b' : Buffer) → e ≡ d → SamePresent x y → b' ≡ b → SamePages (present_map e y b') (present_map d x b)
present_map_same d e x y b b' is same buffers =
    subst (λ (k : Device). SamePages (present_map k y b') (present_map d x b)) (sym is)
    (subst (λ (k : Buffer). SamePages (present_map d y k) (present_map d x b)) (sym buffers)
    (known_alike d.honest (present_data x (contents b) d.flash) (present_data y (contents b) d.flash) (λ _. present_same x y (contents b) d.flash same)))

-- each fault of a commit has its cause
pub commit_fails : (a b : StoreState) (fault : RoomFault) → WhyNoRoom (waiting a) a.spare b.log.device a.log.table b.log.table fault → IsCommitFault a b (fault_of fault)
commit_fails a b causes.Full why = inr why
commit_fails a b causes.Worn why = inl why
commit_fails a b causes.Lost why = inr (inl why)
commit_fails a b causes.Gone why = inl why

-- the pages of a buffer can be written
pub writable : (d : Device) (b : Buffer) → AreNumbered d (contents b) → bytes_of_page b ≡ d.geometry.bytes → AreWritable d (contents b)
writable d b objects size = record {
  within_limit = let within_limit : length (contents b) ≤ b.most = b.within_limit in let small : b.most ≤ 64 = b.small in omega (arith, within_limit, small);
  numbered = objects;
  size = λ i p is. b.sized i p is ∙ size;
}

-- as many pages are new where what is present is the same
pub new_same : (x y : Index) (pages : List FreshPage) → SamePresent x y → new_keys y pages ≡ new_keys x pages
new_same x y [] same = refl
new_same x y (p ∷ ps) same = omega (arith, ap lacks (same p.key.object p.key.chunk), new_same x y ps same)

-- and so they have room as before
pub fits_on : (x y : Index) (b b' : Buffer) (ps qs : List FreshPage) → SamePresent x y → b' ≡ b → qs ≡ ps → with_new x (contents b) ps ≤ most_pages b → with_new y (contents b') qs ≤ most_pages b'
fits_on x y b b' ps qs same buffers pages fits =
    subst (λ (k : Buffer). with_new y (contents k) qs ≤ most_pages k) (sym buffers)
    (subst (λ (l : List FreshPage). with_new y (contents b) l ≤ most_pages b) (sym pages) (omega (arith, fits, new_same x y ps same)))

-- ---- the numbers that are handed out

-- where neither the device nor the table is other
pub hands_still : (d e : Device) (t u : Table) → e ≡ d → u ≡ t → HandsOut d e t u
hands_still d e t u still tables = subst (λ (k : Device). HandsOut d k t u) (sym still) (subst (λ (x : Table). HandsOut d d t x) (sym tables) (hands_nothing d t))

-- a list that is not empty has a page
pub some_buffered : (pages : List FreshPage) → (pages ≡ [] → ⊥) → 1 ≤ length pages
some_buffered [] none = absurd (none refl)
some_buffered (p ∷ ps) none = omega arith

-- a commit that is done has not lost the power
pub committed_power : (old new : Device) (pages : List FreshPage) → Lasts old new → (pages ≡ [] → new ≡ old) → (1 ≤ length pages → new.gone ≡ false) → new.gone ≡ old.gone
committed_power old new [] lasts none some = ap (λ (d : Device). d.gone) (none refl)
committed_power old new (page ∷ pages) lasts none some = let is = some (omega arith) in is ∙ sym (had_power old new lasts is)
