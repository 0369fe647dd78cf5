-- What holds of blocks that are free of committed pages.
use Rattle.std.proofs.Common.{◌≡◌, ◌≢◌, ◌⊎◌, ◌<◌, ◌≤◌, ℕ, Bool, true, false, not, ◌&&◌, nat_eq, cond, List, Some, slice_get, refl, sym, ap, subst, ◌∙◌, arith, inl, inr}
use Rattle.std.proofs.lemmas.Bool.{eqb-true, eq-eqb, ne_eqb, cases_Bool, cases_eq}
use Rattle.nand_model.specs.Flash.{Flash}
use Rattle.nand_model.specs.Calls.{Device}
use Rattle.nand_model.specs.declared.geometry.Geometry.{Geometry}
use Rattle.flash_tree.specs.FreeBlocks.{LeavesFree}
use Rattle.flash_tree.specs.Mount.{bad_blocks}
use Rattle.flash_tree.specs.Newest.{Spot, IsNewest}
use Rattle.flash_tree.specs.laws.Newest.{one_spot}
use Rattle.block_state.specs.Counting.{how_many}
use Rattle.block_state.specs.Committed.{bad_count, uncommitted_count, is_uncommitted}
use Rattle.block_state.specs.Table.{Table, is_bad}
use Rattle.block_state.specs.laws.Counting.{counts_same, counts_swap}
use Rattle.block_state.specs.laws.Committed.{uncommitted_if, committed_if}
use Rattle.chunk_index.specs.declared.form.CommittedPage.{CommittedPage}
use Rattle.chunk_index.specs.declared.index.Index.{Index}
use Rattle.chunk_index.specs.Maps.{committed_pages}
use Rattle.transactions.specs.Ready.{IsReady}
use Rattle.chunk_index.specs.declared.form.CommittedKey.{CommittedKey}
use Rattle.flash_log.specs.Copying.{KeepsCounts, KeepsCommittedAt, IsCopyOf, LieApart, StayOrLieApart, copy_in}
use Rattle.flash_log.specs.Lists.{ListsCommitted, IsListed}
use Rattle.flash_log.specs.Consistency.{IsCommittedKey, IsCommittedAt, AreCommitted, AreHeld, TablesAgree, IsConsistentLog, KeepsFree}
use Rattle.flash_log.specs.laws.CommittedPages.{spot_of}

-- ---- any keys

-- blocks that are free of some keys are free of fewer
pub leaves_fewer : (g : Geometry) (flash : Flash) (spare : ℕ) (keys fewer : ℕ → ℕ → Type 0) → ((o c : ℕ) → fewer o c → keys o c) → LeavesFree g flash spare keys → LeavesFree g flash spare fewer
leaves_fewer g flash spare keys fewer are leaves = record {
  free = leaves.free;
  sufficient = leaves.sufficient;
  each = λ b lt is. let f = leaves.each b lt is in record { good = f.good; apart = λ o c s key newest. f.apart o c s (are o c key) newest };
}

-- ---- one block

-- what a block without a committed page is
pub uncommitted_is : (t : Table) (b : ℕ) → is_uncommitted t b ≡ true → ((t.entry b).bad ≡ false) × ((t.entry b).committed ≡ 0)
uncommitted_is t b is = let parts = both (t.entry b).bad (nat_eq (t.entry b).committed 0) is in (parts.0, eqb-true (t.entry b).committed 0 parts.1) where
  both : (x y : Bool) → (not x && y) ≡ true → (x ≡ false) × (y ≡ true)
  both false true is = (refl, refl)
  both false false is = absurd cc
  both true y is = absurd cc

-- the newest page of a key lies where it is committed
pub newest_where_committed : (flash : Flash) (o c : ℕ) (p : CommittedPage) (s : Spot) → IsCommittedAt flash o c p → IsNewest flash o c s → s.block ≡ p.block
newest_where_committed flash o c p s at newest = ap (λ (x : Spot). x.block) (one_spot flash o c s (spot_of p at.tag) newest at.newest)

-- ---- the blocks of a table

-- as many are bad on the device
pub same_bad_blocks : (d : Device) (t : Table) → IsReady d t → bad_blocks d.geometry d.flash ≡ bad_count t
same_bad_blocks d t can_write =
    ap (λ (g : Geometry). how_many d.flash.bad g.blocks) (sym can_write.geometry)
    ∙ counts_same d.flash.bad (is_bad t) t.geometry.blocks (λ b lt. sym (can_write.marks b))

module _ (spare : ℕ) (d : Device) (t : Table) (x : Index) (can_write : IsReady d t) (tables : TablesAgree spare t x) (held : AreHeld t x) where
  -- where each committed page is the newest of its key, the good blocks without a committed page are free
  pub leaves_uncommitted : AreCommitted d.flash (committed_pages x) → LeavesFree d.geometry d.flash spare (IsCommittedKey (committed_pages x))
  leaves_uncommitted committed = record {
    free = is_uncommitted t;
    sufficient =
        let bads = same_bad_blocks d t can_write in
        let size : how_many (is_uncommitted t) d.geometry.blocks ≡ uncommitted_count t = ap (λ (g : Geometry). how_many (is_uncommitted t) g.blocks) (sym can_write.geometry) in
        let uncommitted = tables.uncommitted in
        omega (arith, bads, size, uncommitted);
    each = λ b lt is.
        let u = uncommitted_is t b is in
        record {
          good = sym (can_write.marks b) ∙ u.0;
          apart = λ o c s (p, at) newest here.
              let there : s.block ≡ p.block = newest_where_committed d.flash o c p s (committed o c p at) newest in
              let some = held o c p at in
              let same : (t.entry p.block).committed ≡ (t.entry b).committed = ap (λ k. (t.entry k).committed) (sym there ∙ here) in
              omega (arith, same, some, u.1);
        };
  }

  -- Where copies of all that is committed in block v are the newest of their keys, in a block that had none, this block is not
  -- free, and block v is.
  module _ (v : ℕ) (copies : List CommittedKey) (old : Flash) (lists : ListsCommitted v (committed_pages x) copies) (within : v < t.geometry.blocks) (good : (t.entry v).bad ≡ false) (some : 1 ≤ (t.entry v).committed)
      (lie : LieApart copies t old d) (was : AreCommitted old (committed_pages x)) where
    apart : v ≢ lie.at.block
    apart e = let same : (t.entry v).committed ≡ (t.entry lie.at.block).committed = ap (λ b. (t.entry b).committed) e in let none : (t.entry lie.at.block).committed ≡ 0 = lie.uncommitted in omega (arith, same, some, none)

    abbrev pick : ℕ → Bool
    pick b = cond {A = Bool} (nat_eq b lie.at.block) false (cond {A = Bool} (nat_eq b v) true (is_uncommitted t b))

    none_there : (b : ℕ) → b ≡ lie.at.block → pick b ≡ false
    none_there b e = ap (λ z. cond {A = Bool} z false (cond {A = Bool} (nat_eq b v) true (is_uncommitted t b))) (eq-eqb b lie.at.block e)

    pick_apart : (b : ℕ) → b ≢ lie.at.block → pick b ≡ cond {A = Bool} (nat_eq b v) true (is_uncommitted t b)
    pick_apart b ne = ap (λ z. cond {A = Bool} z false (cond {A = Bool} (nat_eq b v) true (is_uncommitted t b))) (ne_eqb b lie.at.block ne)

    pick_v : pick v ≡ true
    pick_v = pick_apart v apart ∙ ap (λ z. cond {A = Bool} z true (is_uncommitted t v)) (eq-eqb v v refl)

    pick_else : (b : ℕ) → b ≢ v → b ≢ lie.at.block → pick b ≡ is_uncommitted t b
    pick_else b nv nw = pick_apart b nw ∙ ap (λ z. cond {A = Bool} z true (is_uncommitted t b)) (ne_eqb b v nv)

    good_there : (t.entry lie.at.block).bad ≡ false
    good_there = can_write.marks lie.at.block ∙ lie.good

    as_many : how_many (is_uncommitted t) t.geometry.blocks ≡ how_many pick t.geometry.blocks
    as_many = counts_swap (is_uncommitted t) pick v lie.at.block t.geometry.blocks within lie.within (uncommitted_if t lie.at.block good_there lie.uncommitted) (none_there lie.at.block refl) (committed_if t v some) pick_v pick_else

    -- the newest page of a committed key lies in the block of the copies, or where it is committed, which is not v
    lies : (o c : ℕ) (p : CommittedPage) (s : Spot) → committed_pages x o c ≡ Some p → IsNewest d.flash o c s → (s.block ≡ lie.at.block) ⊎ ((s.block ≡ p.block) × (p.block ≢ v))
    lies o c p s at newest = elim (cases_eq p.block v) [
      | inl here ↦
          let z : CommittedKey = record { key = record { object = o; chunk = c }; at = p } in
          let there = lists.all o c p at here in
          inl (newest_where_committed d.flash o c (copy_in lie.at there.0 z) s (lie.copied.copied there.0 z there.1) newest)
      | inr ne ↦
          let none : (i : ℕ) (z : CommittedKey) → slice_get copies i ≡ Some z → IsCopyOf z o c → ⊥ = λ i z there of.
          let committed : committed_pages x o c ≡ Some z.at = sym (ap (λ q. committed_pages x q c) of.0) ∙ ap (committed_pages x z.key.object) (sym of.1) ∙ lists.committed i z there in
          let both : Some p ≡ Some z.at = sym at ∙ committed in
          let same : p ≡ z.at = cc in
          ne (ap (λ (k : CommittedPage). k.block) same ∙ lists.here i z there) in
          inr (newest_where_committed d.flash o c p s (lie.copied.others o c p (held o c p at) none (was o c p at)) newest, ne)
    ]

    pub leaves_apart : LeavesFree d.geometry d.flash spare (IsCommittedKey (committed_pages x))
    leaves_apart = record {
      free = pick;
      sufficient =
          let bads = same_bad_blocks d t can_write in
          let size : how_many pick d.geometry.blocks ≡ how_many pick t.geometry.blocks = ap (λ (g : Geometry). how_many pick g.blocks) (sym can_write.geometry) in
          let many = as_many in
          let uncommitted = tables.uncommitted in
          omega (arith, bads, size, many, uncommitted);
      each = λ b lt is. record {
        good = elim (cases_eq b v) [
          | inl e ↦ ap d.flash.bad e ∙ sym (can_write.marks v) ∙ good
          | inr nv ↦ sym (can_write.marks b) ∙ (uncommitted_is t b (sym (pick_else b nv (not_w b is)) ∙ is)).0
        ];
        apart = λ o c s (p, at) newest here. elim (lies o c p s at newest) [
          | inl there ↦ not_w b is (sym here ∙ there)
          | inr (there, ne) ↦
              let nv : b ≢ v = λ e. ne (sym there ∙ here ∙ e) in
              let none = (uncommitted_is t b (sym (pick_else b nv (not_w b is)) ∙ is)).1 in
              let some_there = held o c p at in
              let same : (t.entry p.block).committed ≡ (t.entry b).committed = ap (λ k. (t.entry k).committed) (sym there ∙ here) in
              omega (arith, same, some_there, none)
        ];
      };
    } where
      not_w : (b : ℕ) → pick b ≡ true → b ≢ lie.at.block
      not_w b is e = let two : false ≡ true = sym (none_there b e) ∙ is in cc

-- ---- steps

-- an honest device that has power leaves blocks free
pub free_where_consistent : (spare : ℕ) (d : Device) (t : Table) (x : Index) → IsReady d t → AreHeld t x → IsConsistentLog spare d t x → d.honest ≡ true → d.gone ≡ false
    → LeavesFree d.geometry d.flash spare (IsCommittedKey (committed_pages x))
free_where_consistent spare d t x can_write held consistent honest power = leaves_uncommitted spare d t x can_write consistent.tables held (consistent.newest honest power)

-- nothing is done
pub free_here : (spare : ℕ) (d : Device) (x : Index) → KeepsFree spare d d x x
free_here spare d x honest free = free

-- one step after another
pub free_on : (spare : ℕ) (a b c : Device) (x y z : Index) → b.honest ≡ a.honest → KeepsFree spare a b x y → KeepsFree spare b c y z → KeepsFree spare a c x z
free_on spare a b c x y z same first then honest free = then (same ∙ honest) (first honest free)

-- a step that leaves the index
module _ (spare : ℕ) (d0 d1 : Device) (t0 t1 : Table) (x : Index) (held : AreHeld t0 x) (keeps : KeepsCounts d0 d1 t0 t1) (consistent : IsConsistentLog spare d0 t0 x) (tables : TablesAgree spare t1 x) where
  held_later : AreHeld t1 x
  held_later o c p is = let some = held o c p is in let same = keeps.committed p.block in omega (arith, some, same)

  -- a device that was gone stays as it was
  free_where_power : (d0.honest ≡ true → d0.gone ≡ false → LeavesFree d1.geometry d1.flash spare (IsCommittedKey (committed_pages x))) → KeepsFree spare d0 d1 x x
  free_where_power leaves honest free = elim (cases_Bool d0.gone) [
    | inl gone ↦ subst (λ (d : Device). LeavesFree d.geometry d.flash spare (IsCommittedKey (committed_pages x))) (sym (keeps.lasts.gone gone)) free
    | inr power ↦ leaves honest power
  ]

  free_stays : KeepsCommittedAt t0 d0.flash d1.flash → d0.honest ≡ true → d0.gone ≡ false → LeavesFree d1.geometry d1.flash spare (IsCommittedKey (committed_pages x))
  free_stays stays honest power = leaves_uncommitted spare d1 t1 x keeps.can_write tables held_later (λ o c p is. stays o c p (held o c p is) (consistent.newest honest power o c p is))

  -- and keeps newest pages in their places
  pub free_still : (d0.honest ≡ true → KeepsCommittedAt t0 d0.flash d1.flash) → KeepsFree spare d0 d1 x x
  free_still stays = free_where_power (λ honest. free_stays (stays honest) honest)

  -- or writes copies
  pub free_copied : (v : ℕ) (copies : List CommittedKey) → IsListed v t0 x copies → (d0.honest ≡ true → StayOrLieApart copies t0 d0.flash d1) → KeepsFree spare d0 d1 x x
  free_copied v copies listed either = free_where_power (λ honest power. elim (either honest) [
    | inl stays ↦ free_stays stays honest power
    | inr lie ↦ leaves_apart spare d1 t1 x keeps.can_write tables held_later v copies d0.flash listed.lists
        (subst (λ (g : Geometry). v < g.blocks) (sym keeps.geometry) listed.within) still_good (let same = keeps.committed v in omega (arith, same, listed.some))
        (lie_later lie) (consistent.newest honest power)
  ]) where
    still_good : (t1.entry v).bad ≡ false
    still_good = elim (cases_Bool (t1.entry v).bad) [
      | inr good ↦ good
      | inl bad ↦ elim (keeps.marked v bad) [
        | inl was ↦ let two : true ≡ false = sym was ∙ listed.good in absurd cc
        | inr none ↦ absurd (omega (arith, none, listed.some))
      ]
    ]

    lie_later : LieApart copies t0 d0.flash d1 → LieApart copies t1 d0.flash d1
    lie_later lie = record {
      at = lie.at;
      within = subst (λ (g : Geometry). lie.at.block < g.blocks) (sym keeps.geometry) lie.within;
      uncommitted = keeps.committed lie.at.block ∙ lie.uncommitted;
      good = lie.good;
      copied = record {
        copied = lie.copied.copied;
        others = λ o c p some none at. lie.copied.others o c p (let same = keeps.committed p.block in omega (arith, same, some)) none at;
      };
    }
