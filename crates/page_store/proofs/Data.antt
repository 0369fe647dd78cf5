-- The data of pages that are newest.
use Rattle.std.specs.Prelude.{◌≡◌, ◌↔◌, ◌<◌, ◌^◌, ℕ, true, List, Option, Some, None, IsSome}
use Rattle.std.specs.Option.{option_and_then}
use Rattle.std.proofs.Common.{refl, sym, ◌∙◌, ap, subst}
use Rattle.nand_model.specs.Flash.{Flash, Written}
use Rattle.nand_model.specs.Calls.{Device}
use Rattle.page_tags.specs.Tags.{tag_bytes}
use Rattle.flash_tree.specs.Newest.{HasNewest, Numbers}
use Rattle.block_state.specs.Table.{Table}
use Rattle.chunk_index.specs.declared.form.CommittedPage.{CommittedPage}
use Rattle.chunk_index.specs.declared.index.Index.{Index}
use Rattle.chunk_index.specs.Maps.{committed_pages}
use Rattle.page_store.specs.Shown.{data_of, data_at, committed_data}
use Rattle.flash_log.specs.Consistency.{AreCommitted, IsCommittedAt}
use Rattle.page_store.specs.Opened.{IsOpened}

-- the data of a page that is the newest of its key
data_is : (flash : Flash) (o c : ℕ) (k : CommittedPage) (at : IsCommittedAt flash o c k) → data_at flash k ≡ Some at.newest.holds.has.bytes
data_is flash o c k at = ap data_of at.newest.holds.has.page

pub has_data : (flash : Flash) (x : Index) → AreCommitted flash (committed_pages x) → (o c : ℕ) (k : CommittedPage) → committed_pages x o c ≡ Some k → IsSome (data_at flash k)
has_data flash x committed o c k is = subst (λ (m : Option (List ℕ)). IsSome m) (sym (data_is flash o c k (committed o c k is))) refl

newest_of : (flash : Flash) (o c : ℕ) (xs : List ℕ) (k : CommittedPage) → IsCommittedAt flash o c k → data_at flash k ≡ Some xs → HasNewest flash o c xs
newest_of flash o c xs k at is =
    let two : Some at.newest.holds.has.bytes ≡ Some xs = sym (data_is flash o c k at) ∙ is in
    let same : at.newest.holds.has.bytes ≡ xs = cc in
    record {
      spot = record { block = k.block; page = k.page; tag = at.tag };
      newest = at.newest;
      stored = at.newest.holds.has.page ∙ ap (λ ys. Written ys (tag_bytes at.tag)) same;
    }

from_committed : (flash : Flash) (o c : ℕ) (xs : List ℕ) (m : Option CommittedPage) → ((k : CommittedPage) → m ≡ Some k → IsCommittedAt flash o c k) → option_and_then (data_at flash) m ≡ Some xs → HasNewest flash o c xs
from_committed flash o c xs None committed is = absurd cc
from_committed flash o c xs (Some k) committed is = newest_of flash o c xs k (committed k refl) is

-- what is committed is of a chunk that a tree may look up
low_committed : (flash : Flash) (o c : ℕ) (xs : List ℕ) (m : Option CommittedPage) → ((k : CommittedPage) → m ≡ Some k → c < 2 ^ 32) → option_and_then (data_at flash) m ≡ Some xs → c < 2 ^ 32
low_committed flash o c xs None low is = absurd cc
low_committed flash o c xs (Some k) low is = low k refl

pub are_newest : (d : Device) (t : Table) (x : Index) (n : Numbers) → IsOpened d t x n → d.honest ≡ true
    → (o c : ℕ) (xs : List ℕ) → (committed_data x d.flash o c ≡ Some xs) ↔ (HasNewest d.flash o c xs × (c < 2 ^ 32))
are_newest d t x n opened honest o c xs = (
  λ is. (from_committed d.flash o c xs (committed_pages x o c) (opened.tables.newest honest o c) is, low_committed d.flash o c xs (committed_pages x o c) (opened.tables.low o c) is),
  λ (has, low).
      ap (option_and_then (data_at d.flash)) (opened.all honest o c has.spot low has.newest) ∙ ap data_of has.stored,
)
