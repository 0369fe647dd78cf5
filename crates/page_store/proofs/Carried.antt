-- What a store's device carries: its committed pages, with blocks enough that hold none of them.
use Rattle.std.specs.Prelude.{◌≡◌, ◌⊎◌, ◌≤◌, ℕ, Bool, true, false, List, [], ◌∷◌, length, Option, Some, None}
use Rattle.std.specs.Option.{option_and_then}
use Rattle.std.proofs.Common.{refl, sym, ◌∙◌, ap, subst, inl, inr, arith}
use Rattle.nand_model.specs.Flash.{Flash}
use Rattle.nand_model.specs.Calls.{Device}
use Rattle.flash_tree.specs.declared.place.FreshPage.{FreshPage}
use Rattle.block_state.specs.Table.{Table}
use Rattle.chunk_index.specs.declared.form.CommittedPage.{CommittedPage}
use Rattle.chunk_index.specs.declared.index.Index.{Index}
use Rattle.chunk_index.specs.Committed.{HoldsNone}
use Rattle.chunk_index.specs.Maps.{committed_pages, count_committed_in, SameCommitted}
use Rattle.transactions.specs.Checking.{LogState, log_of}
use Rattle.transactions.specs.Ready.{IsReady}
use Rattle.flash_log.specs.Mountable.{IsMountable}
use Rattle.flash_log.specs.Consistency.{IsCommittedKey, IsCommittedAt, AreCommitted, TablesAgree}
use Rattle.flash_log.specs.laws.FreeBlocks.{leaves_fewer, leaves_uncommitted}
use Rattle.flash_log.specs.laws.Moves.{are_held}
use Rattle.page_store.specs.Carrying.{CarriesFound}
use Rattle.page_store.specs.Shown.{data_of, data_at, committed_data}
use Rattle.pages.specs.Maps.{PageMap, known_pages}
use Rattle.pages.specs.Stores.{HasPage, IsCarried, SamePages}
use Rattle.page_store.specs.StoreOf.{committed_data_map}
use Rattle.page_store.proofs.Committed.{committed_carried}

-- fewer pages are carried too
pub carried_fewer : (d : Device) (spare : ℕ) (m n : PageMap) → ((o c : ℕ) (xs : List ℕ) → n o c ≡ Some xs → m o c ≡ Some xs) → IsCarried d spare m → IsCarried d spare n
carried_fewer d spare m n fewer is = record {
  newest = λ o c xs has. is.newest o c xs (fewer o c xs has);
  free = λ left. leaves_fewer d.geometry d.flash spare (HasPage m) (HasPage n) (λ o c has. (has.0, fewer o c has.0 has.1)) (is.free left);
}

pub carried_same : (d : Device) (spare : ℕ) (m n : PageMap) → SamePages n m → IsCarried d spare m → IsCarried d spare n
carried_same d spare m n same = carried_fewer d spare m n (λ o c xs is. sym (same o c) ∙ is)

-- what is known is there
pub known_there : (h : Bool) (m : PageMap) (o c : ℕ) (xs : List ℕ) → known_pages h m o c ≡ Some xs → m o c ≡ Some xs
known_there true m o c xs is = is
known_there false m o c xs is = absurd (let two : None ≡ Some xs = is in cc)

pub carried_known : (h : Bool) (d : Device) (spare : ℕ) (m : PageMap) → IsCarried d spare m → IsCarried d spare (known_pages h m)
carried_known h d spare m = carried_fewer d spare m (known_pages h m) (known_there h m)

-- and of fewer pages the keys are found too
pub found_fewer : (log : LogState) (x : Index) (d : Device) (spare : ℕ) (m n : PageMap) → ((o c : ℕ) (xs : List ℕ) → n o c ≡ Some xs → m o c ≡ Some xs) → CarriesFound log x d spare m → CarriesFound log x d spare n
found_fewer log x d spare m n fewer is = record {
  carried = carried_fewer d spare m n fewer is.carried;
  found = λ was o c (xs, has). is.found was o c (xs, fewer o c xs has);
}

pub found_known : (log : LogState) (x : Index) (h : Bool) (d : Device) (spare : ℕ) (m : PageMap) → CarriesFound log x d spare m → CarriesFound log x d spare (known_pages h m)
found_known log x h d spare m = found_fewer log x d spare m (known_pages h m) (known_there h m)

pub found_same : (log other : LogState) (x y : Index) (d : Device) (spare : ℕ) (m n : PageMap) → (IsMountable other y → IsMountable log x) → SamePages n m → CarriesFound log x d spare m → CarriesFound other y d spare n
found_same log other x y d spare m n mounts same is = record {
  carried = carried_same d spare m n same is.carried;
  found = λ was o c (xs, has). is.found (mounts was) o c (xs, sym (same o c) ∙ has);
}

pub either_known : (log : LogState) (x : Index) (h : Bool) (d : Device) (spare : ℕ) (m n : PageMap) → CarriesFound log x d spare m ⊎ CarriesFound log x d spare n
    → CarriesFound log x d spare (known_pages h m) ⊎ CarriesFound log x d spare (known_pages h n)
either_known log x h d spare m n is = elim is [
  | inl committed ↦ inl (found_known log x h d spare m committed)
  | inr present ↦ inr (found_known log x h d spare n present)
]

pub either_same : (log other : LogState) (x y : Index) (d : Device) (spare : ℕ) (m n m' n' : PageMap) → (IsMountable other y → IsMountable log x) → SamePages m' m → SamePages n' n
    → CarriesFound log x d spare m ⊎ CarriesFound log x d spare n → CarriesFound other y d spare m' ⊎ CarriesFound other y d spare n'
either_same log other x y d spare m n m' n' mounts first then is = elim is [
  | inl committed ↦ inl (found_same log other x y d spare m m' mounts first committed)
  | inr present ↦ inr (found_same log other x y d spare n n' mounts then present)
]

-- a committed key is one that has a page
pub committed_of_data : (f : Flash) (m : Option CommittedPage) (xs : List ℕ) → option_and_then (data_at f) m ≡ Some xs → (p : CommittedPage) × (m ≡ Some p)
committed_of_data f None xs is = absurd (let two : None ≡ Some xs = is in cc)
committed_of_data f (Some p) xs is = (p, refl)

-- the device carries the committed pages, where they are the newest of their keys
module _ (spare : ℕ) (d : Device) (t : Table) (x : Index) (none : (y : Index) (b : ℕ) → count_committed_in y b ≡ 0 → HoldsNone (committed_pages y) b) (can_write : IsReady d t) (tables : TablesAgree spare t x) (committed : AreCommitted d.flash (committed_pages x)) where
  pub committed_is_carried : IsCarried d spare (committed_data x d.flash)
  committed_is_carried = record {
    newest = committed_carried d.flash x committed;
    free = λ _. leaves_fewer d.geometry d.flash spare (IsCommittedKey (committed_pages x)) (HasPage (committed_data x d.flash)) (λ o c has. committed_of_data d.flash (committed_pages x o c) has.0 has.1)
        (leaves_uncommitted spare d t x can_write tables (are_held t x (none x) tables.counts) committed);
  }

  -- and a mount by summaries finds them, if it finds them
  pub store_finds : CarriesFound (log_of d t) x d spare (committed_data_map d x)
  store_finds = found_known (log_of d t) x d.honest d spare (committed_data x d.flash) (record {
    carried = committed_is_carried;
    found = λ was o c (xs, has). was.found o c (committed_of_data d.flash (committed_pages x o c) xs has);
  })

  pub store_carries : IsCarried d spare (committed_data_map d x)
  store_carries = store_finds.carried

-- committed pages are the newest of their keys still, where none of them moves
pub newest_committed_page : (f : Flash) (x y : Index) → SameCommitted x y → AreCommitted f (committed_pages x) → AreCommitted f (committed_pages y)
newest_committed_page f x y same committed o c p is = committed o c p (sym (same.committed o c) ∙ is)

-- and after a commit: with nothing buffered there was no call of the device and no page moved, and else the device has power
pub newest_committed : (pages : List FreshPage) (d e : Device) (x y : Index) → (pages ≡ [] → e ≡ d) → (pages ≡ [] → (o c : ℕ) (p : CommittedPage) → committed_pages y o c ≡ Some p → committed_pages x o c ≡ Some p)
    → AreCommitted d.flash (committed_pages x) → (1 ≤ length pages → e.gone ≡ false) → (e.gone ≡ false → AreCommitted e.flash (committed_pages y)) → AreCommitted e.flash (committed_pages y)
newest_committed [] d e x y still same committed power consistent = λ o c p is. subst (λ (k : Device). IsCommittedAt k.flash o c p) (sym (still refl)) (committed o c p (same refl o c p is))
newest_committed (q ∷ qs) d e x y still same committed power consistent = consistent (power (omega arith))

-- a committed key has a page
pub has_page : (d : Device) (x : Index) (o c : ℕ) (k : CommittedPage) → d.honest ≡ true → AreCommitted d.flash (committed_pages x) → committed_pages x o c ≡ Some k → HasPage (committed_data_map d x) o c
has_page d x o c k honest committed is =
    let has = (committed o c k is).newest.holds.has in
    (has.bytes, ap (λ h. known_pages h (committed_data x d.flash) o c) honest ∙ ap (option_and_then (data_at d.flash)) is ∙ ap data_of has.page)
