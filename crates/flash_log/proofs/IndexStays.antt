-- What stands of a log where the index and the newest pages of trees stay.
use Rattle.std.proofs.Common.{◌≡◌, ◌⊎◌, ◌≤◌, ℕ, ◌+◌, true, false, Some, refl, sym, subst, ◌∙◌, arith, inl, inr}
use Rattle.std.proofs.lemmas.Bool.{cases_Bool}
use Rattle.nand_model.specs.Calls.{Device, Lasts}
use Rattle.nand_model.specs.declared.geometry.Geometry.{Geometry}
use Rattle.flash_tree.specs.FreeBlocks.{LeavesFree}
use Rattle.flash_tree.specs.Keeping.{StaysNewest}
use Rattle.flash_tree.specs.laws.Place.{had_power}
use Rattle.block_state.specs.Committed.{bad_count, uncommitted_count}
use Rattle.block_state.specs.Table.{Table}
use Rattle.chunk_index.specs.declared.form.CommittedPage.{CommittedPage}
use Rattle.chunk_index.specs.declared.index.Index.{Index}
use Rattle.chunk_index.specs.Maps.{committed_pages}
use Rattle.transactions.specs.Ready.{IsReady}
use Rattle.flash_log.specs.CheckpointKeeping.{KeepsObjects}
use Rattle.flash_log.specs.Consistency.{AreHeld, AreCommitted, HasVersion, IsCommittedKey, IsWithinLimits, KeepsFree, SameData, IsConsistentLog, TablesAgree}
use Rattle.flash_log.specs.SummaryMaking.{KeepsHeld}
use Rattle.flash_log.specs.Taking.{LiesApart}
use Rattle.flash_log.specs.laws.FreeBlocks.{leaves_uncommitted}
use Rattle.flash_log.specs.laws.CommittedPages.{committed_stays, data_stays, spot_of}
use Rattle.flash_log.specs.laws.Moves.{may_lie_later}

-- Counts of committed pages stay, and the newest pages of trees in blocks that have some.
pub record LeavesIndex (d e : Device) (t u : Table) : Type 0 where
  pub lasts : Lasts d e
  pub can_write : IsReady e u
  pub geometry : u.geometry ≡ t.geometry
  pub committed : (b : ℕ) → (u.entry b).committed ≡ (t.entry b).committed
  pub rises : t.next_group ≤ u.next_group
  pub uncommitted : uncommitted_count u + bad_count u ≡ uncommitted_count t + bad_count t
  pub limits : IsWithinLimits t → IsWithinLimits u
  pub newest : d.honest ≡ true → KeepsObjects t d.flash e.flash
  pub written : (o : ℕ) → u.open_block ≡ Some o → (u.entry o).committed ≤ (u.entry o).next
  pub apart : LiesApart t → LiesApart u

module _ (spare : ℕ) (x : Index) (d e : Device) (t u : Table) (held : AreHeld t x) (consistent : IsConsistentLog spare d t x) (leaves : LeavesIndex d e t u) where
  tables : TablesAgree spare u x
  tables = record {
    counts = record {
      counts = λ b. leaves.committed b ∙ consistent.tables.counts.counts b;
      within = λ b le. consistent.tables.counts.within b (subst (λ (g : Geometry). g.blocks ≤ b) leaves.geometry le);
    };
    within = λ o c p is. may_lie_later t u o c p leaves.geometry leaves.rises (consistent.tables.within o c p is);
    fits = λ b. let same = leaves.committed b in let was = consistent.tables.fits b in
        subst (λ (g : Geometry). (u.entry b).committed ≤ g.pages) (sym leaves.geometry) (omega (arith, same, was));
    written = leaves.written;
    uncommitted = let same = leaves.uncommitted in let was = consistent.tables.uncommitted in omega (arith, same, was);
    apart = leaves.apart consistent.tables.apart;
  }

  -- the newest page of a committed key stays in its place
  page_stays : (honest : d.honest ≡ true) (power : d.gone ≡ false) (o c : ℕ) (p : CommittedPage) (is : committed_pages x o c ≡ Some p) → StaysNewest d.flash e.flash o c (spot_of p (consistent.newest honest power o c p is).tag)
  page_stays honest power o c p is = leaves.newest honest o c (spot_of p (consistent.newest honest power o c p is).tag) (consistent.ordinary honest o c p is) (consistent.newest honest power o c p is).newest (held o c p is)

  are_committed : d.honest ≡ true → d.gone ≡ false → AreCommitted e.flash (committed_pages x)
  are_committed honest power o c p is = committed_stays d.flash e.flash o c p (consistent.newest honest power o c p is) (page_stays honest power o c p is)

  pub is_in_left : IsConsistentLog spare e u x
  is_in_left = record {
    tables = tables;
    newest = λ honest power. are_committed (sym leaves.lasts.honest ∙ honest) (had_power d e leaves.lasts power);
    ordinary = λ honest. consistent.ordinary (sym leaves.lasts.honest ∙ honest);
    limits = leaves.limits consistent.limits;
  }

  pub data_left : d.honest ≡ true → SameData (committed_pages x) d.flash e.flash
  data_left honest o c p bytes is has = elim (cases_Bool d.gone) [
    | inl gone ↦ subst (λ (f : Device). HasVersion f.flash o c p.version bytes) (sym (leaves.lasts.gone gone)) has
    | inr power ↦ data_stays d.flash e.flash o c p bytes (consistent.newest honest power o c p is) has (page_stays honest power o c p is)
  ]

  held_after : AreHeld u x
  held_after o c p is = let some = held o c p is in let same = leaves.committed p.block in omega (arith, some, same)

  pub free_left : KeepsFree spare d e x x
  free_left honest free = elim (cases_Bool d.gone) [
    | inl gone ↦ subst (λ (f : Device). LeavesFree f.geometry f.flash spare (IsCommittedKey (committed_pages x))) (sym (leaves.lasts.gone gone)) free
    | inr power ↦ leaves_uncommitted spare e u x leaves.can_write tables held_after (are_committed honest power)
  ]

-- marks come to no block with committed pages
pub holds_counts : (t u : Table) → ((b : ℕ) → (u.entry b).committed ≡ (t.entry b).committed) → ((b : ℕ) → (u.entry b).bad ≡ true → ((t.entry b).bad ≡ true) ⊎ ((t.entry b).committed ≡ 0))
    → uncommitted_count u + bad_count u ≡ uncommitted_count t + bad_count t → KeepsHeld t u
holds_counts t u committed marked uncommitted = record { committed = committed; good = good; uncommitted = uncommitted } where
  good : (b : ℕ) → 1 ≤ (t.entry b).committed → (t.entry b).bad ≡ false → (u.entry b).bad ≡ false
  good b some was = elim (cases_Bool (u.entry b).bad) [
    | inr is ↦ is
    | inl bad ↦ elim (marked b bad) [
      | inl before ↦ let two : true ≡ false = sym before ∙ was in absurd cc
      | inr none ↦ absurd (omega (arith, none, some))
    ]
  ]

pub holds_here : (t : Table) → KeepsHeld t t
holds_here t = record { committed = λ b. refl; good = λ b some was. was; uncommitted = refl }

pub holds_on : (t u v : Table) → KeepsHeld t u → KeepsHeld u v → KeepsHeld t v
holds_on t u v first then = record {
  committed = λ b. then.committed b ∙ first.committed b;
  good = λ b some was. then.good b (let same = first.committed b in omega (arith, same, some)) (first.good b some was);
  uncommitted = then.uncommitted ∙ first.uncommitted;
}
