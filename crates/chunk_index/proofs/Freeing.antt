-- The blocks without a committed page are free.
use Rattle.std.proofs.Common.{◌≡◌, ℕ, ◌<◌, ◌≤◌, Bool, true, false, not, nat_eq, refl, sym, ◌∙◌, inl, inr}
use mathlib.Core.Bool.{false≢true}
use Rattle.std.proofs.lemmas.Bool.{cases_eq, ne_eqb, and_parts}
use Rattle.nand_model.specs.Flash.{Flash}
use Rattle.volume_terms.specs.Sizes.{Sizes}
use Rattle.posix_profile.specs.State.{Objects}
use Rattle.flash_tree.specs.Mount.{bad_blocks, IsFree, HasFree}
use Rattle.flash_tree.specs.laws.Free.{free_of_picked}
use Rattle.block_state.specs.Table.{Table, is_bad}
use Rattle.block_state.specs.Committed.{is_uncommitted, uncommitted_count, bad_count}
use Rattle.block_state.specs.laws.Counting.{counts_same}
use Rattle.chunk_index.specs.declared.index.Index.{Index}
use Rattle.chunk_index.specs.Free.{KeepsTree, HasMarks}
use Rattle.chunk_index.specs.Maps.{committed_pages, count_committed_in, CountsAgree}
use Rattle.chunk_index.proofs.Keys.{none_where_zero}

is_good : (x : Bool) → not x ≡ true → x ≡ false
is_good true is = absurd (false≢true is)
is_good false is = refl

is_zero : (n : ℕ) → nat_eq n 0 ≡ true → n ≡ 0
is_zero n is = elim (cases_eq n 0) [ inl e ↦ e | inr ne ↦ absurd (false≢true (sym (ne_eqb n 0 ne) ∙ is)) ]

-- a good block without a committed page is free
uncommitted_free : (x : Index) (t : Table) (flash : Flash) (z : Sizes) (objects : Objects) → CountsAgree t x → HasMarks flash t → KeepsTree flash z objects (committed_pages x)
    → (b : ℕ) → b < t.geometry.blocks → is_uncommitted t b ≡ true → IsFree t.geometry flash z objects b
uncommitted_free x t flash z objects agree marks keeps b lt is =
    let parts = and_parts (not (t.entry b).bad) (nat_eq (t.entry b).committed 0) is in
    let none : count_committed_in x b ≡ 0 = sym (agree.counts b) ∙ is_zero (t.entry b).committed parts.1 in
    record {
      within = lt;
      good = sym (marks b lt) ∙ is_good (t.entry b).bad parts.0;
      apart = λ o c s looked newest here.
          let committed = keeps o c s looked newest in
          none_where_zero x b none o c committed.0 committed.1 (committed.2 ∙ here);
    }

pub enough_free : (x : Index) (t : Table) (flash : Flash) (z : Sizes) (objects : Objects) (count : ℕ) → CountsAgree t x → HasMarks flash t → KeepsTree flash z objects (committed_pages x)
    → count ≤ uncommitted_count t → HasFree t.geometry flash z objects count
enough_free x t flash z objects count agree marks keeps le = free_of_picked t.geometry flash z objects (is_uncommitted t) count (uncommitted_free x t flash z objects agree marks keeps) le

pub as_many_bad : (t : Table) (flash : Flash) → HasMarks flash t → bad_count t ≡ bad_blocks t.geometry flash
as_many_bad t flash marks = counts_same (is_bad t) flash.bad t.geometry.blocks (λ b lt. marks b lt)
