-- The pages of a device that is mounted.
use Rattle.std.specs.Prelude.{◌≡◌, ◌<◌, ◌≤◌, ◌/◌, ℕ, ◌+◌, Bool, true, false, not, ◌&&◌, List, [], Option, Some, None, count_by}
use Rattle.std.specs.List.{range_with_len}
use Rattle.std.specs.Option.{option_and_then}
use Rattle.std.proofs.Common.{refl, sym, ◌∙◌, ap, subst, arith}
use Rattle.nand_model.specs.Flash.{Flash}
use Rattle.nand_model.specs.Calls.{Device}
use Rattle.volume_terms.specs.Sizes.{number_limit}
use Rattle.flash_tree.specs.Newest.{Numbers}
use Rattle.flash_tree.specs.FreeBlocks.{LeavesFree}
use Rattle.block_state.specs.Committed.{bad_count, free_count, uncommitted_count, SameCounts}
use Rattle.block_state.specs.Table.{Table}
use Rattle.block_state.specs.laws.Committed.{free_where_closed, same_uncommitted_count}
use Rattle.chunk_index.specs.Entries.{as_committed}
use Rattle.chunk_index.specs.Committed.{HoldsNone}
use Rattle.chunk_index.specs.Maps.{committed_pages, count_committed_in}
use Rattle.chunk_index.specs.declared.form.CommittedPage.{CommittedPage}
use Rattle.chunk_index.specs.declared.index.Index.{Index}
use Rattle.transactions.specs.Ready.{IsReady}
use Rattle.flash_log.specs.Consistency.{AreHeld, IsCommittedKey, IsConsistentLog, HasFreeBlocks, KeepsOrdinary, TablesAgree}
use Rattle.flash_log.specs.laws.FreeBlocks.{leaves_fewer, leaves_uncommitted, same_bad_blocks}
use Rattle.flash_log.specs.laws.Moves.{are_held}
use Rattle.page_store.specs.BufferOf.{contents, most_pages}
use Rattle.page_store.specs.Shown.{data_at, data_by, committed_data, present_data}
use Rattle.pages.specs.Maps.{PageMap, known_pages}
use Rattle.pages.specs.State.{PagesState}
use Rattle.pages.specs.Stores.{bad_on, Carries, FindsSince, HasPage, HasNumbersLeft, IsCarried}
use Rattle.page_store.specs.StoreOf.{committed_data_map, next_numbers}
use Rattle.page_store.specs.StoreState.{StoreState, committed_in, seen_of}
use Rattle.page_store.specs.Newest.{seen_pages}
use Rattle.page_store.specs.ReadOnly.{IsWorn, only_read, next_after}
use Rattle.mounting.specs.Made.{ArePagesOn, CanBeWritten, Remembers}
use Rattle.mounting.specs.Marked.{marked, AreFitting}
use Rattle.mounting.specs.Mounted.{HasRoomOn}
use Rattle.mounting.specs.Tables.{IsPruned}
use Rattle.mounting.proofs.Shown.{committed_newest}
use Rattle.mounting.proofs.Consistency.{consistent_pruned, tables_pruned}

-- a key with data is committed
pub committed_of_data : (flash : Flash) (xs : List ℕ) (m : Option CommittedPage) → option_and_then (data_at flash) m ≡ Some xs → (p : CommittedPage) × (m ≡ Some p)
committed_of_data flash xs None is = absurd cc
committed_of_data flash xs (Some p) is = (p, refl)

-- what is committed is present
data_committed : (flash : Flash) (m : Option CommittedPage) → data_by flash [] (as_committed m) ≡ option_and_then (data_at flash) m
data_committed flash None = refl
data_committed flash (Some p) = refl

-- as much carried where the names of a device and of the spare blocks are others
pub carried_as : (p : PagesState) (d : Device) (spare : ℕ) (m : PageMap) → p.device ≡ d → p.spare ≡ spare → IsCarried d spare m → IsCarried p.device p.spare m
carried_as p d spare m device spares carried =
    subst (λ s. IsCarried p.device s m) (sym spares) (subst (λ (e : Device). IsCarried e spare m) (sym device) carried)

module _ (keeps : ℕ → ℕ → Bool) (d : Device) (t : Table) (x : Index) (n : Numbers) (spare : ℕ) (pruned : IsPruned keeps d t x n) where
  -- what is present without a buffer is what is committed
  present_committed : (o c : ℕ) → present_data x [] d.flash o c ≡ committed_data x d.flash o c
  present_committed o c = ap (data_by d.flash []) (pruned.tables.shown o c) ∙ data_committed d.flash (committed_pages x o c)

  module _ (fits : AreFitting t) (room : HasRoomOn d t spare) (can : CanBeWritten d n spare) where
    pub can_write : IsReady d t
    can_write = pruned.tables.can_write can.0

    pub within_limit : bad_count t ≤ spare
    within_limit = let same : bad_on d ≡ bad_count t = same_bad_blocks d t can_write in let le = can.1 in omega (arith, same, le)

    counts : SameCounts t (marked d.flash t)
    counts = record { bad = λ b. sym (can_write.marks b); committed = λ b. refl; geometry = refl }

    pub free : HasFreeBlocks t spare
    free =
        let same : bad_on d ≡ bad_count t = same_bad_blocks d t can_write in
        let sufficient : 1 + spare ≤ uncommitted_count (marked d.flash t) + bad_on d = room can.1 in
        let uncommitted : uncommitted_count (marked d.flash t) ≡ uncommitted_count t = same_uncommitted_count t (marked d.flash t) counts in
        let closed : free_count t ≡ uncommitted_count t = free_where_closed t pruned.tables.closed in
        omega (arith, same, sufficient, uncommitted, closed)

    tables : TablesAgree spare t x
    tables = tables_pruned keeps spare d t x n pruned can.0 fits free

    pub consistent : (d.honest ≡ true → KeepsOrdinary x) → IsConsistentLog spare d t x
    consistent = consistent_pruned keeps spare d t x n pruned can.0 fits free

    module _ (none : (b : ℕ) → count_committed_in x b ≡ 0 → HoldsNone (committed_pages x) b) where
      held : AreHeld t x
      held = are_held t x none pruned.tables.counts

      carried : d.honest ≡ true → IsCarried d spare (committed_data x d.flash)
      carried honest = record {
        newest = committed_newest d.flash x (pruned.tables.newest honest);
        free = λ left. leaves_fewer d.geometry d.flash spare (IsCommittedKey (committed_pages x)) (HasPage (committed_data x d.flash)) (λ o c (xs, is). committed_of_data d.flash xs (committed_pages x o c) is)
            (leaves_uncommitted spare d t x can_write tables held (pruned.tables.newest honest));
      }

      next_is : next_numbers t ≡ next_after n
      next_is =
          ap (λ g. record { group = g; seq = t.next_seq }) (pruned.tables.group can.0) ∙ ap (λ s. record { group = n.group + 1; seq = s }) (pruned.tables.seq can.0)

      -- the pages of a new store
      pub store_pages : (a : StoreState) (lent : List ℕ) → a.log.device ≡ d → (a.log.table ≡ t) × (a.spare ≡ spare) → a.broken ≡ false → most_pages a.buffer ≡ d.geometry.pages / 4
          → ((o c : ℕ) → committed_in a o c ≡ committed_data_map d x o c) → ((o c : ℕ) → present_data a.index (contents a.buffer) d.flash o c ≡ present_data x [] d.flash o c)
          → FindsSince (seen_of a lent) (committed_data x d.flash) → Remembers d (seen_of a lent) → ArePagesOn d x n spare (seen_of a lent)
      store_pages a lent device same whole most committed pages lookups remembers = record {
        device_is = device;
        spare_is = same.1;
        page_bytes = ap (λ (k : Device). k.geometry.bytes) device;
        most = most;
        next = ap next_numbers same.0 ∙ next_is;
        sound = λ honest. ap (λ (k : Device). k.honest && not a.broken) device ∙ ap (λ h. h && not a.broken) honest ∙ ap (λ b. true && not b) whole;
        present = λ honest o c.
            subst (λ (k : Device). known_pages k.honest (present_data a.index (contents a.buffer) k.flash) o c ≡ committed_data x d.flash o c) (sym device)
            (ap (λ h. known_pages h (present_data a.index (contents a.buffer) d.flash) o c) honest ∙ pages o c ∙ present_committed o c);
        committed = λ honest. record {
          carried = λ is. carried_as (seen_of a lent) d spare (committed_data x d.flash) device same.1 (carried honest);
          committed = λ sound o c. committed o c ∙ ap (λ h. known_pages h (committed_data x d.flash) o c) honest;
          found = lookups;
        };
        remembers = remembers;
      }

  module _ (worn : IsWorn d n spare) where
    -- where more blocks are bad than there are to spare, none has to be free
    none_free : (keys : ℕ → ℕ → Type 0) → spare < bad_on d → LeavesFree d.geometry d.flash spare keys
    none_free keys bad = record {
      free = λ b. false;
      sufficient = let none = count_by (λ (b : ℕ). false) (range_with_len 0 d.geometry.blocks) in omega (arith, bad);
      each = λ b within is. absurd cc;
    }

    -- where numbers are left on a worn device, too many blocks are bad
    too_many_bad : d.honest ≡ true → HasNumbersLeft d.flash → spare < bad_on d
    too_many_bad honest left =
        let least = (pruned.tables.numbers honest).least (record { version = number_limit; group = number_limit; seq = number_limit }) left in
        worn (omega (arith, least.1)) (omega (arith, least.2))

    worn_carried : d.honest ≡ true → IsCarried d spare (committed_data x d.flash)
    worn_carried honest = record {
      newest = committed_newest d.flash x (pruned.tables.newest honest);
      free = λ left. none_free (HasPage (committed_data x d.flash)) (too_many_bad honest left);
    }

    -- the pages of a device that is only read
    pub worn_pages : (e : Device) (y : Index) (page : List ℕ) (at : Option ℕ) → e ≡ d → y ≡ x
        → ArePagesOn d x n spare (only_read (record (seen_pages e y page) { checkpoint = at }) n spare (d.geometry.pages / 4) false)
    worn_pages e y page at device index = record {
      device_is = device;
      spare_is = refl;
      page_bytes = ap (λ (k : Device). k.geometry.bytes) device;
      most = refl;
      next = refl;
      sound = λ honest. ap (λ (k : Device). k.honest && true) device ∙ ap (λ h. h && true) honest;
      present = λ honest o c. there honest o c;
      committed = λ honest. record {
        carried = λ is. carried_as (only_read (record (seen_pages e y page) { checkpoint = at }) n spare (d.geometry.pages / 4) false) d spare (committed_data x d.flash) device refl (worn_carried honest);
        committed = λ sound o c. there honest o c;
        found = λ begun. absurd begun.1;
      };
      remembers = record {
        first = λ written. let two : true ≡ false = written in absurd cc;
        ordered = λ written. let two : true ≡ false = written in absurd cc;
      };
    } where
      there : d.honest ≡ true → (o c : ℕ) → known_pages e.honest (committed_data y e.flash) o c ≡ committed_data x d.flash o c
      there honest o c =
          subst (λ (k : Device). known_pages k.honest (committed_data y k.flash) o c ≡ committed_data x d.flash o c) (sym device)
          (ap (λ h. known_pages h (committed_data y d.flash) o c) honest ∙ ap (λ i. committed_data i d.flash o c) index)

    -- what is read is carried
    pub worn_carries : (e : Device) (y : Index) → e ≡ d → y ≡ x → e.honest ≡ true → Carries e.flash (known_pages e.honest (committed_data y e.flash))
    worn_carries e y device index honest =
        subst (λ (k : Device). k.honest ≡ true → Carries k.flash (known_pages k.honest (committed_data y k.flash))) (sym device)
        (λ is. subst (λ h. Carries d.flash (known_pages h (committed_data y d.flash))) (sym is)
        (subst (λ i. Carries d.flash (committed_data i d.flash)) (sym index) (committed_newest d.flash x (pruned.tables.newest is)))) honest
