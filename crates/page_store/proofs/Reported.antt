-- What the calls of a store are to those above it.
use Rattle.std.specs.Prelude.{◌≡◌, ◌⊎◌, ◌<◌, ◌≤◌, ℕ, ◌+◌, ◌-◌, ◌*◌, Bool, true, false, not, ◌&&◌, ◌||◌, List, length, map as list_map, Option, Some, None, [], ◌∷◌, slice_get, Result, Ok, Err, IfErr, OnOk, OnErr, IsErrOf}
use Rattle.std.specs.Option.{option_map}
use Rattle.std.proofs.Common.{refl, sym, ◌∙◌, ap, subst, inl, inr, arith}
use Rattle.std.proofs.lemmas.Bool.{cases_Bool, cases_lt, cases_order, or_left, or_right}
use mathlib.Core.Logic.{∥∥₁_elim}
use Rattle.std.proofs.lemmas.Option.{slice_get-map}
use Rattle.flash_tree.specs.declared.place.FreshPage.{FreshPage}
use Rattle.nand_model.specs.Calls.{Device, Lasts}
use Rattle.nand_model.specs.declared.geometry.Geometry.{Geometry}
use Rattle.flash_tree.specs.declared.place.Key.{Key}
use Rattle.block_state.specs.Committed.{bad_count, committed_count}
use Rattle.block_state.specs.Table.{Table}
use Rattle.chunk_index.specs.Committed.{HasCommitted, KeyRises}
use Rattle.chunk_index.specs.Maps.{committed_pages}
use Rattle.chunk_index.specs.declared.form.CommittedKey.{CommittedKey}
use Rattle.chunk_index.specs.declared.form.CommittedPage.{CommittedPage}
use Rattle.chunk_index.specs.declared.index.Index.{Index}
use Rattle.transactions.specs.Handing.{HandsOut}
use Rattle.transactions.specs.Ready.{IsReady}
use Rattle.flash_log.specs.Mountable.{IsMountable, IsMountableSince}
use Rattle.flash_log.specs.Moving.{MarksFailures}
use Rattle.flash_log.specs.Snapshots.{Snapshot, remembered_flash}
use Rattle.flash_log.specs.Consistency.{IsWithinLimits}
use Rattle.flash_log.specs.laws.FreeBlocks.{same_bad_blocks}
use Rattle.pages.specs.Maps.{PageMap}
use Rattle.pages.specs.State.{PagesState}
use Rattle.pages.specs.Stores as stores
use Rattle.pages.specs.Stores.{HandsOutNumbers, BeganMountably, HasNumbersLeft, HasPage, FindsSince, IsCarried, IsOrdered, IsCrowded, CommittedAs, SamePages, StaysMountable, ChangeFailsBy, CommitFailsBy, bad_on, MakesDurable}
use Rattle.pages.specs.laws.Mountable.{begun_before, begun_on, finds_as}
use Rattle.volume_terms.specs.declared.fault.StoreFault.{StoreFault}
use Rattle.volume_terms.specs.declared.fault.StoreFault.TheVariants as faults
use Rattle.page_store.specs.Carrying.{CarriesFound}
use Rattle.page_store.specs.Changing.{ChangeEnds, HasNothingLeft, IsChanged, IsCommitted, IsUnchanged, StaysWhole, StoreLasts, WriteOutEnds}
use Rattle.page_store.specs.Shown.{committed_data}
use Rattle.page_store.specs.StoreState.{committed_in, seen_of, StoreState, waiting}
use Rattle.page_store.specs.BufferOf.{most_pages}
use Rattle.pages.specs.declared.change.Change.{Change}
use Rattle.page_store.specs.StoreOf.{next_numbers}
use Rattle.page_store.proofs.Carried.{carried_same, known_there}
use Rattle.page_store.proofs.Findable.{finds_committed}
use Rattle.page_store.proofs.Steps.{same_back, hands_still}

-- ---- what every call keeps

pub hands_reported : (d e : Device) (t u : Table) → HandsOut d e t u → HandsOutNumbers d e (next_numbers t) (next_numbers u)
hands_reported d e t u hands = record {
  groups_rise = hands.numbers.groups_rise;
  seqs_rise = hands.numbers.seqs_rise;
  seqs = hands.numbers.seqs;
  groups = hands.numbers.groups;
  below = hands.numbers.below;
  written = hands.numbers.written;
}

pub marks_reported : (d e : Device) (t u : Table) → IsReady d t → IsReady e u → MarksFailures 0 0 d e t u → bad_on e + d.failures ≤ bad_on d + e.failures
marks_reported d e t u before after marks =
    let was = same_bad_blocks d t before in
    let is = same_bad_blocks e u after in
    omega (arith, was, is, marks)

-- no number of 2^62 was written
pub limits_reported : (e : Device) (u : Table) → IsReady e u → IsWithinLimits u → e.honest ≡ true → HasNumbersLeft e.flash
limits_reported e u can_write limits honest b p tag good has =
    let below = can_write.below honest b p tag good has in
    (omega (arith, below.0, limits.0), omega (arith, below.1, limits.0), omega (arith, below.2, limits.1))

-- a store that failed has failed
pub failed_stays : (d e : Device) (a b : Bool) → Lasts d e → (a ≡ true → b ≡ true) → (d.gone || (not d.honest || a)) ≡ true → (e.gone || (not e.honest || b)) ≡ true
failed_stays d e a b lasts breaks is = elim (cases_Bool d.gone) [
  | inl gone ↦ or_left e.gone _ (ap (λ (k : Device). k.gone) (lasts.gone gone) ∙ gone)
  | inr power ↦
      let rest : (not d.honest || a) ≡ true = sym (ap (λ w. w || (not d.honest || a)) power) ∙ is in
      or_right e.gone _ (elim (cases_Bool d.honest) [
        | inr lies ↦ or_left (not e.honest) b (ap not (lasts.honest ∙ lies))
        | inl honest ↦ or_right (not e.honest) b (breaks (sym (ap (λ w. not w || a) honest) ∙ rest))
      ])
]

-- ---- what lets the next mount go by summaries

-- the blocks that begin erased are ordered, as the log has them
pub ordered_now : (b : StoreState) (lent : List ℕ) → IsMountableSince b.first b.log b.index → BeganMountably (seen_of b lent) → ∥ IsOrdered (seen_of b lent) ∥₁
ordered_now b lent since begun =
    ∥∥₁_elim (since begun.1 begun.0) (λ s t. squash₁ s t) (λ (is : IsMountable b.log b.index). ∣ record { first = is.erased.first; noted = is.erased.leads.noted } ∣₁)

-- and the committed pages are found
pub finds_now : (b : StoreState) (lent : List ℕ) → IsMountableSince b.first b.log b.index → FindsSince (seen_of b lent) (committed_in b)
finds_now b lent since begun =
    let d : Device = b.log.device in
    ∥∥₁_elim (since begun.1 begun.0) (λ s t. squash₁ s t) (λ (is : IsMountable b.log b.index).
    ∣ (λ o c (xs, has). finds_committed d b.index d.flash is.found o c (xs, known_there d.honest (committed_data b.index d.flash) o c xs has)) ∣₁)

-- what is found where those were found that were committed before a call
pub finds_since : (a b : StoreState) (lent lent' : List ℕ) (spare : ℕ) (m : PageMap) → StoreLasts a b → IsMountableSince a.first a.log a.index → CarriesFound a.log a.index b.log.device spare m
    → FindsSince (seen_of b lent') m
finds_since a b lent lent' spare m lasts since carries begun =
    let before = begun_before (seen_of a lent) (seen_of b lent') lasts.device (ap (λ (f : Option Snapshot). remembered_flash f) lasts.first) begun in
    ∥∥₁_elim (since before.1 before.0) (λ s t. squash₁ s t) (λ (is : IsMountable a.log a.index). ∣ carries.found is ∣₁)

-- so a call keeps what lets a mount do so
pub stays_mountable : (a b : StoreState) (lent lent' : List ℕ) → Lasts a.log.device b.log.device → b.first ≡ a.first → IsMountableSince b.first b.log b.index → StaysMountable (seen_of a lent) (seen_of b lent')
stays_mountable a b lent lent' lasts first since =
    let same = ap (λ (f : Option Snapshot). remembered_flash f) first in
    record {
      first = same;
      ordered = λ begun _. ordered_now b lent' since (begun_on (seen_of a lent) (seen_of b lent') lasts same begun);
      reads = λ worn. let two : false ≡ true = worn in absurd cc;
    }

-- ---- what is sound

pub is_sound : (h w : Bool) → h ≡ true → w ≡ false → (h && not w) ≡ true
is_sound true false honest whole = refl
is_sound true true honest whole = absurd cc
is_sound false w honest whole = absurd cc

pub not_sound : (h w : Bool) → w ≡ true → (h && not w) ≡ false
not_sound true true is = refl
not_sound false true is = refl
not_sound true false is = absurd cc
not_sound false false is = absurd cc

pub sound_on : (result : Result (Unit {0}) StoreFault) (d e : Device) (a b : Bool) → Lasts d e → OnOk result ((a ≡ false) × (b ≡ false)) → d.honest ≡ true → OnOk result ((e.honest && not b) ≡ true)
sound_on (Ok done) d e a b lasts whole honest = is_sound e.honest b (lasts.honest ∙ honest) whole.1
sound_on (Err fault) d e a b lasts whole honest = tt

pub sound_stays : (result : Result (Unit {0}) StoreFault) (d e : Device) (a b : Bool) → Lasts d e → OnOk result ((a ≡ false) × (b ≡ false)) → OnOk result ((d.honest && not a) ≡ true → (e.honest && not b) ≡ true)
sound_stays (Ok done) d e a b lasts whole = λ was. elim (cases_Bool d.honest) [
  | inl honest ↦ is_sound e.honest b (lasts.honest ∙ honest) whole.1
  | inr lies ↦ absurd (let two : false ≡ true = sym (ap (λ h. h && not a) lies) ∙ was in cc)
]
sound_stays (Err fault) d e a b lasts whole = tt

pub stops_reported : (result : Result (Unit {0}) StoreFault) (h b : Bool) → IfErr result (λ fault. (fault ≡ faults.NoMemory) ⊎ (b ≡ true)) → IfErr result (λ fault. (fault ≡ faults.NoMemory) ⊎ ((h && not b) ≡ false))
stops_reported (Ok done) h b stops = tt
stops_reported (Err fault) h b stops = elim stops [
  | inl none ↦ inl none
  | inr broken ↦ inr (not_sound h b broken)
]

-- ---- what is committed

-- The device carries the pages of the map; and a mount by summaries finds them, if one could go by the flash with which the store began.
pub record CarriesSince (q : PagesState) (m : PageMap) : Type 0 where
  pub carried : IsCarried q.device q.spare m
  pub found : FindsSince q m

-- what a call leaves of pages that were committed or current
pub carries_since : (a b : StoreState) (lent lent' : List ℕ) (m : PageMap) → StoreLasts a b → IsMountableSince a.first a.log a.index → CarriesFound a.log a.index b.log.device a.spare m → CarriesSince (seen_of b lent') m
carries_since a b lent lent' m lasts since carries = record {
  carried = subst (λ n. IsCarried b.log.device n m) (sym lasts.spare) carries.carried;
  found = finds_since a b lent lent' a.spare m lasts since carries;
}

pub either_since : (a b : StoreState) (lent lent' : List ℕ) (m n : PageMap) → StoreLasts a b → IsMountableSince a.first a.log a.index
    → CarriesFound a.log a.index b.log.device a.spare m ⊎ CarriesFound a.log a.index b.log.device a.spare n → CarriesSince (seen_of b lent') m ⊎ CarriesSince (seen_of b lent') n
either_since a b lent lent' m n lasts since is = elim is [
  | inl committed ↦ inl (carries_since a b lent lent' m lasts since committed)
  | inr present ↦ inr (carries_since a b lent lent' n lasts since present)
]

-- the store is sound, and has the pages of a map as its committed ones, which its device carries
pub committed_as : (q : PagesState) (m : PageMap) → SamePages q.committed m → CarriesSince q q.committed → CommittedAs q m
committed_as q m same carries = record {
  carried = λ _. carried_same q.device q.spare q.committed m (same_back q.committed m same) carries.carried;
  committed = λ _. same;
  found = finds_as q q.committed m same carries.found;
}

-- it is not, and its device carries the pages of the map
pub committed_still : (q : PagesState) (m : PageMap) → q.sound ≡ false → CarriesSince q m → CommittedAs q m
committed_still q m stopped carries = record {
  carried = λ _. carries.carried;
  committed = λ sound. absurd (let two : true ≡ false = sym sound ∙ stopped in cc);
  found = carries.found;
}

-- the pages that were committed or all that were present, as they are committed now where the store is sound
pub keeps_either : (q : PagesState) (m n : PageMap) → (q.sound ≡ false) ⊎ ((q.sound ≡ true) × (SamePages q.committed m ⊎ SamePages q.committed n)) → (q.sound ≡ true → CarriesSince q q.committed)
    → CarriesSince q m ⊎ CarriesSince q n → CommittedAs q m ⊎ CommittedAs q n
keeps_either q m n ways now carried = elim ways [
  | inr sound ↦ elim sound.1 [
    | inl same ↦ inl (committed_as q m same (now sound.0))
    | inr same ↦ inr (committed_as q n same (now sound.0))
  ]
  | inl stopped ↦ elim carried [
    | inl committed ↦ inl (committed_still q m stopped committed)
    | inr present ↦ inr (committed_still q n stopped present)
  ]
]

-- how a change or a commit ends
pub ways : (result : Result (Unit {0}) StoreFault) (q : PagesState) (m n : PageMap) → OnOk result (q.sound ≡ true) → OnOk result (SamePages q.committed m ⊎ SamePages q.committed n)
    → IfErr result (λ fault. (fault ≡ faults.NoMemory) ⊎ (q.sound ≡ false)) → (IsErrOf result faults.NoMemory → (q.sound ≡ true) × SamePages q.committed m)
    → (q.sound ≡ false) ⊎ ((q.sound ≡ true) × (SamePages q.committed m ⊎ SamePages q.committed n))
ways (Ok done) q m n sound same stops refused = inr (sound, same)
ways (Err fault) q m n sound same stops refused = elim stops [
  | inl none ↦ let is = refused (ap Err none) in inr (is.0, inl is.1)
  | inr stopped ↦ inl stopped
]

-- ---- what is worn

none_before : (k : Key) → (k.object < k.object) ⊎ ((k.object ≡ k.object) × (k.chunk < k.chunk)) → ⊥
none_before k (inl less) = omega (arith, less)
none_before k (inr less) = let lt = less.1 in omega (arith, lt)

-- the committed key of a key on the list
committed_key : (ks : List CommittedKey) (i : ℕ) (k : Key) → slice_get (list_map (λ (x : CommittedKey). x.key) ks) i ≡ Some k → (x : CommittedKey) × (slice_get ks i ≡ Some x) × (x.key ≡ k)
committed_key ks i k is = go (slice_get ks i) refl
  where
    go : (m : Option CommittedKey) → slice_get ks i ≡ m → (x : CommittedKey) × (slice_get ks i ≡ Some x) × (x.key ≡ k)
    go None none = absurd (let two : None ≡ Some k = sym (slice_get-map (λ (x : CommittedKey). x.key) ks i ∙ ap (option_map (λ (x : CommittedKey). x.key)) none) ∙ is in cc)
    go (Some x) there =
        let two : Some x.key ≡ Some k = sym (slice_get-map (λ (x : CommittedKey). x.key) ks i ∙ ap (option_map (λ (x : CommittedKey). x.key)) there) ∙ is in
        (x, there, cc)

rises_once : (ks : List CommittedKey) → KeyRises ks → (i j : ℕ) (x y : CommittedKey) (k : Key) → slice_get ks i ≡ Some x → slice_get ks j ≡ Some y → x.key ≡ k → y.key ≡ k → i ≡ j
rises_once ks rise i j x y k at there first then = elim (cases_order i j) [
  | inl same ↦ same
  | inr (inl less) ↦ absurd (none_before k (subst (λ (a : Key). (a.object < k.object) ⊎ ((a.object ≡ k.object) × (a.chunk < k.chunk))) first (subst (λ (b : Key). (x.key.object < b.object) ⊎ ((x.key.object ≡ b.object) × (x.key.chunk < b.chunk))) then (rise i j x y less at there))))
  | inr (inr more) ↦ absurd (none_before k (subst (λ (a : Key). (a.object < k.object) ⊎ ((a.object ≡ k.object) × (a.chunk < k.chunk))) then (subst (λ (b : Key). (y.key.object < b.object) ⊎ ((y.key.object ≡ b.object) × (y.key.chunk < b.chunk))) first (rise j i y x more there at))))
]

length_keys : (ks : List CommittedKey) → length (list_map (λ (x : CommittedKey). x.key) ks) ≡ length ks
length_keys [] = refl
length_keys (x ∷ xs) = omega (arith, length_keys xs)

pub is_crowded : (p : PagesState) (x : Index) (count : ℕ) → HasCommitted (committed_pages x) count → ((o c : ℕ) (k : CommittedPage) → committed_pages x o c ≡ Some k → HasPage p.committed o c)
    → (p.device.geometry.blocks - p.spare - 1) * (p.device.geometry.pages - p.most) < count → IsCrowded p
is_crowded p x count (ks, list, long) pages many = record {
  keys = list_map (λ (y : CommittedKey). y.key) ks;
  once = λ i j k at there.
      let a = committed_key ks i k at in
      let b = committed_key ks j k there in
      rises_once ks list.rise i j a.0 b.0 k a.1 b.1 a.2 b.2;
  each = λ i k at.
      let a = committed_key ks i k at in
      subst (λ (l : Key). HasPage p.committed l.object l.chunk) a.2 (pages a.0.key.object a.0.key.chunk a.0.at (list.each i a.0 a.1));
  many = subst (λ n. (p.device.geometry.blocks - p.spare - 1) * (p.device.geometry.pages - p.most) < n) (sym (length_keys ks ∙ long)) many;
}

-- ---- how calls end

pub both_whole : (a b : StoreState) → StaysWhole a b → (a.broken ≡ false) × (b.broken ≡ false)
both_whole a b whole = (whole.was, whole.is)

pub when_written : {A : Type 0} (result : Result (Unit {0}) StoreFault) (a b : StoreState) → WriteOutEnds a b result → (IsCommitted a b → A) → OnOk result A
when_written (Ok done) a b ends then = then ends
when_written (Err fault) a b ends then = tt

pub when_changed : {A : Type 0} (change : Change) (result : Result (Unit {0}) StoreFault) (a b : StoreState) → ChangeEnds change a b result → (IsChanged change a b → A) → OnOk result A
when_changed change (Ok done) a b ends then = then ends
when_changed change (Err fault) a b ends then = tt

-- a commit that failed leaves a broken store
pub stops_written : (result : Result (Unit {0}) StoreFault) (a b : StoreState) → WriteOutEnds a b result → OnErr result (b.broken ≡ true)
stops_written (Ok done) a b ends = tt
stops_written (Err fault) a b ends = ends.is

-- and takes no memory
pub takes_none : (result : Result (Unit {0}) StoreFault) (a b : StoreState) → WriteOutEnds a b result → IsErrOf result faults.NoMemory → ⊥
takes_none (Ok done) a b ends is = absurd cc
takes_none (Err faults.NoMemory) a b ends is = ends.cause
takes_none (Err faults.Device) a b ends is = absurd cc
takes_none (Err faults.Worn) a b ends is = absurd cc

-- a broken store stays so
pub stays_broken : (result : Result (Unit {0}) StoreFault) (a b : StoreState) → WriteOutEnds a b result → a.broken ≡ true → b.broken ≡ true
stays_broken (Ok done) a b ends is = absurd (let two : true ≡ false = sym is ∙ ends.whole.was in cc)
stays_broken (Err fault) a b ends is = ends.is

pub stays_broken_changed : (change : Change) (result : Result (Unit {0}) StoreFault) (a b : StoreState) → ChangeEnds change a b result → a.broken ≡ true → b.broken ≡ true
stays_broken_changed change (Ok done) a b ends is = absurd (let two : true ≡ false = sym is ∙ ends.whole.was in cc)
stays_broken_changed change (Err faults.NoMemory) a b ends is = ends.broken ∙ is
stays_broken_changed change (Err faults.Device) a b ends is = ends.is
stays_broken_changed change (Err faults.Worn) a b ends is = ends.is

-- a change that failed leaves one too, but for want of memory
pub stops_changed : (change : Change) (result : Result (Unit {0}) StoreFault) (a b : StoreState) → ChangeEnds change a b result → IfErr result (λ fault. (fault ≡ faults.NoMemory) ⊎ (b.broken ≡ true))
stops_changed change (Ok done) a b ends = tt
stops_changed change (Err faults.NoMemory) a b ends = inl refl
stops_changed change (Err faults.Device) a b ends = inr ends.is
stops_changed change (Err faults.Worn) a b ends = inr ends.is

pub unchanged : (change : Change) (result : Result (Unit {0}) StoreFault) (a b : StoreState) → ChangeEnds change a b result → IsErrOf result faults.NoMemory → IsUnchanged a b
unchanged change (Ok done) a b ends is = absurd cc
unchanged change (Err faults.NoMemory) a b ends is = ends
unchanged change (Err faults.Device) a b ends is = absurd cc
unchanged change (Err faults.Worn) a b ends is = absurd cc

-- Of a sound store, before a call and after it.
module _ (a b : StoreState) (lent lent' : List ℕ) (table_is : a.log.table.geometry ≡ a.log.device.geometry) (sizes : b.log.device.geometry ≡ a.log.device.geometry) (spare : b.spare ≡ a.spare)
    (can_write : IsReady b.log.device b.log.table) (fits : most_pages a.buffer ≤ a.log.device.geometry.pages) (few_pages : waiting a ≤ most_pages a.buffer) (within_limit : bad_count a.log.table ≤ a.spare)
    (listed : HasCommitted (committed_pages a.index) (committed_count a.log.table)) (pages : (o c : ℕ) (k : CommittedPage) → committed_pages a.index o c ≡ Some k → HasPage (committed_in a) o c) where
  worn_reported : HasNothingLeft a.spare (waiting a) b.log.device a.log.table b.log.table → stores.HasNothingLeft (seen_of a lent) (seen_of b lent')
  worn_reported (inl (inl seq)) = inr (inl seq)
  worn_reported (inl (inr (inl group))) = inl group
  worn_reported (inl (inr (inr more))) =
      let bad = same_bad_blocks b.log.device b.log.table can_write in
      let over = more.0 in
      inr (inr (inl (omega (arith, spare, bad, over))))
  worn_reported (inr full) = elim (cases_lt b.log.device.geometry.blocks (b.spare + 2)) [
    | inl small ↦ inr (inr (inr (inl small)))
    | inr large ↦ elim (cases_lt ((a.log.device.geometry.blocks - a.spare - 1) * (a.log.device.geometry.pages - most_pages a.buffer)) (committed_count a.log.table)) [
      | inl many ↦ inr (inr (inr (inr (is_crowded (seen_of a lent) a.index (committed_count a.log.table) listed pages many))))
      | inr room ↦
          let blocks : a.log.table.geometry.blocks ≡ a.log.device.geometry.blocks = ap (λ (g : Geometry). g.blocks) table_is in
          let later : b.log.device.geometry.blocks ≡ a.log.device.geometry.blocks = ap (λ (g : Geometry). g.blocks) sizes in
          let each : a.log.table.geometry.pages ≡ a.log.device.geometry.pages = ap (λ (g : Geometry). g.pages) table_is in
          let most : ℕ = a.log.device.geometry.pages - most_pages a.buffer in
          absurd (full (
            most,
            omega (arith, fits, few_pages, each),
            record {
              blocks = omega (arith, large, spare, blocks, later);
              bad = within_limit;
              committed = subst (λ n. committed_count a.log.table ≤ (n - a.spare - 1) * most) (sym blocks) room;
            },
          ))
    ]
  ]

  device_reported : a.broken ≡ false → (b.log.device.gone ≡ true) ⊎ (b.log.device.honest ≡ false) ⊎ (a.broken ≡ true) → stores.HasFailed b.log.device
  device_reported whole (inl gone) = inl gone
  device_reported whole (inr (inl lies)) = inr lies
  device_reported whole (inr (inr is)) = absurd (let two : true ≡ false = sym is ∙ whole in cc)

  pub change_reported : (change : Change) (result : Result (Unit {0}) StoreFault) → a.broken ≡ false → ChangeEnds change a b result → IfErr result (ChangeFailsBy (seen_of a lent) (seen_of b lent'))
  change_reported change (Ok done) whole ends = tt
  change_reported change (Err faults.NoMemory) whole ends = ends.refused
  change_reported change (Err faults.Worn) whole ends = (inr (ends.begins whole), worn_reported ends.cause)
  change_reported change (Err faults.Device) whole ends = device_reported whole ends.cause

  pub commit_reported : (result : Result (Unit {0}) StoreFault) → a.broken ≡ false → WriteOutEnds a b result → IfErr result (CommitFailsBy (seen_of a lent) (seen_of b lent'))
  commit_reported (Ok done) whole ends = tt
  commit_reported (Err faults.NoMemory) whole ends = ends.cause
  commit_reported (Err faults.Worn) whole ends = (inr (ends.begins whole), worn_reported ends.cause)
  commit_reported (Err faults.Device) whole ends = device_reported whole ends.cause

-- ---- how a commit and a cut end

pub stops_either : (result : Result (Unit {0}) StoreFault) (b : Bool) → OnErr result (b ≡ true) → IfErr result (λ fault. (fault ≡ faults.NoMemory) ⊎ (b ≡ true))
stops_either (Ok done) b stops = tt
stops_either (Err fault) b stops = inr stops

pub stopped : (result : Result (Unit {0}) StoreFault) (h b : Bool) → OnErr result (b ≡ true) → IfErr result (λ fault. (h && not b) ≡ false)
stopped (Ok done) h b stops = tt
stopped (Err fault) h b stops = not_sound h b stops

-- after a commit that is done what was present is committed
pub committed_map : (result : Result (Unit {0}) StoreFault) (q : PagesState) (n : PageMap) → OnOk result (q.sound ≡ true) → OnOk result (SamePages q.committed n) → (q.sound ≡ true → CarriesSince q q.committed) → OnOk result (CommittedAs q n)
committed_map (Ok done) q n sound same now = committed_as q n same (now sound)
committed_map (Err fault) q n sound same now = tt

-- what each part of a done commit says, of all of them
pub made_durable : (result : Result (Unit {0}) StoreFault) (p q : PagesState) → OnOk result (q.sound ≡ true) → OnOk result (SamePages q.present p.present) → OnOk result (CommittedAs q p.present)
    → OnOk result (MakesDurable p q)
made_durable (Ok done) p q sound present committed = record { sound = sound; present = present; committed = committed }
made_durable (Err fault) p q sound present committed = tt

-- a cut only fails on a store that is broken
pub cut_reported : (result : Result (Unit {0}) StoreFault) (p q : PagesState) (broken : Bool) → broken ≡ false → IfErr result (λ fault. (fault ≡ faults.Device) × (broken ≡ true)) → IfErr result (CommitFailsBy p q)
cut_reported (Ok done) p q broken whole why = tt
cut_reported (Err fault) p q broken whole why = absurd (let two : true ≡ false = sym why.1 ∙ whole in cc)

-- nor does it take memory
pub cut_takes_none : (result : Result (Unit {0}) StoreFault) (broken : Bool) → IfErr result (λ fault. (fault ≡ faults.Device) × (broken ≡ true)) → IsErrOf result faults.NoMemory → ⊥
cut_takes_none (Ok done) broken why is = absurd cc
cut_takes_none (Err fault) broken why is = let two : faults.Device ≡ faults.NoMemory = sym why.0 ∙ (let same : fault ≡ faults.NoMemory = cc in same) in absurd cc

pub cut_stopped : (result : Result (Unit {0}) StoreFault) (h a b : Bool) → b ≡ a → IfErr result (λ fault. (fault ≡ faults.Device) × (a ≡ true)) → IfErr result (λ fault. (h && not b) ≡ false)
cut_stopped (Ok done) h a b same why = tt
cut_stopped (Err fault) h a b same why = not_sound h b (same ∙ why.1)

-- where neither the device nor the table changes
module _ (d e : Device) (t u : Table) (still : e ≡ d) (tables : u ≡ t) where
  pub hands_none : HandsOutNumbers d e (next_numbers t) (next_numbers u)
  hands_none = hands_reported d e t u (hands_still d e t u still tables)

  pub marks_none : bad_on e + d.failures ≤ bad_on d + e.failures
  marks_none =
      let bad : bad_on e ≡ bad_on d = ap bad_on still in
      let failures : e.failures ≡ d.failures = ap (λ (x : Device). x.failures) still in
      omega (arith, bad, failures)

-- where no page is buffered there is none
pub none_buffered : (pages : List FreshPage) → length pages ≡ 0 → pages ≡ []
none_buffered [] is = refl
none_buffered (p ∷ ps) is = absurd (omega (arith, is))
