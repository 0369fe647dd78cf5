-- What is committed in a block after moves was written since.
use Rattle.std.proofs.Common.{◌≡◌, ◌≢◌, ◌≤◌, ℕ, true, false, None, sym, ap, subst, ◌∙◌, arith, inl, inr}
use Rattle.std.proofs.lemmas.Bool.{cases_eq}
use Rattle.nand_model.specs.Calls.{Device, Lasts}
use Rattle.flash_tree.specs.Keeping.{KeepsElsewhere}
use Rattle.flash_tree.specs.Newest.{Spot}
use Rattle.flash_tree.specs.laws.Newest.{one_spot}
use Rattle.flash_tree.specs.laws.Place.{had_power}
use Rattle.block_state.specs.Table.{Table}
use Rattle.chunk_index.specs.declared.index.Index.{Index}
use Rattle.transactions.specs.Checking.{LogState, log_of}
use Rattle.transactions.specs.Ready.{IsReady}
use Rattle.flash_log.specs.Moving.{LiesIn}
use Rattle.flash_log.specs.Refreshing.{FillsAnew, IsWrittenAnew, MovesNothing}
use Rattle.flash_log.specs.Consistency.{AreHeld, IsConsistentLog}
use Rattle.flash_log.specs.Steps.{Step}
use Rattle.flash_log.specs.laws.CommittedPages.{spot_of}

-- nothing is committed in the block
pub anew_none : (v : ℕ) (a b : LogState) (y : Index) → AreHeld b.table y → (b.table.entry v).committed ≡ 0 → IsWrittenAnew v a b y
anew_none v a b y held none honest power o c p s at here last =
    let some = held o c p at in
    let same : (b.table.entry p.block).committed ≡ (b.table.entry v).committed = ap (λ k. (b.table.entry k).committed) here in
    absurd (omega (arith, some, same, none))

-- nothing was done
pub fills_none : (a : LogState) (x : Index) → AreHeld a.table x → FillsAnew a a x
fills_none a x held v none = anew_none v a a x held none

-- a step left nothing in the block, and others followed
pub anew_after : (spare v : ℕ) (a b c : LogState) (x y z : Index) → Step spare a b x y → (b.table.entry v).committed ≡ 0 → FillsAnew b c z → IsWrittenAnew v a c z
anew_after spare v a b c x y z step none fills honest power o k p s at here last =
    let above = fills v none (step.lasts.honest ∙ honest) power o k p s at here last in
    omega (arith, above, step.numbers.numbers.groups_rise)

-- no block was open
pub fills_closed : (d e : Device) (t u s : Table) (y : Index) → u ≡ record t { open_block = None } → FillsAnew (log_of d u) (log_of e s) y → FillsAnew (log_of d t) (log_of e s) y
fills_closed d e t u s y is fills = subst (λ (k : Table). FillsAnew (log_of d k) (log_of e s) y) is fills

-- a block in which nothing is committed was marked
pub fills_marked : (spare v : ℕ) (d1 d2 d3 : Device) (t1 t2 t3 : Table) (y : Index) → Lasts d1 d2 → Lasts d2 d3 → IsConsistentLog spare d2 t2 y → AreHeld t2 y → (t2.entry v).committed ≡ 0
    → (d2.honest ≡ true → KeepsElsewhere v d2.flash d3.flash) → FillsAnew (log_of d1 t1) (log_of d2 t2) y → FillsAnew (log_of d1 t1) (log_of d3 t3) y
fills_marked spare v d1 d2 d3 t1 t2 t3 y first then consistent held empty keeps fills b none honest power o c p s at here last =
    let was : d2.honest ≡ true = first.honest ∙ honest in
    let on = had_power d2 d3 then power in
    let k = consistent.newest was on o c p at in
    let stays = keeps was o c (spot_of p k.tag) k.newest apart in
    let same : spot_of p k.tag ≡ s = one_spot d3.flash o c (spot_of p k.tag) s stays.newest last in
    subst (λ (z : Spot). t1.next_group ≤ z.tag.group) same (fills b none honest on o c p (spot_of p k.tag) at here k.newest) where
      apart : p.block ≢ v
      apart e = let some = held o c p at in let same : (t2.entry p.block).committed ≡ (t2.entry v).committed = ap (λ n. (t2.entry n).committed) e in omega (arith, some, same, empty)

-- the pages of a block were moved into another, and this was emptied then
pub fills_next : (spare v w : ℕ) (a b c : LogState) (x y z : Index) → Step spare a b x y → 1 ≤ (a.table.entry v).committed → LiesIn v w a.table b.table → AreHeld c.table z → (c.table.entry w).committed ≡ 0
    → FillsAnew b c z → FillsAnew a c z
fills_next spare v w a b c x y z step some lies held empty fills k none = elim (cases_eq k v) [
  | inl e ↦ let same : (a.table.entry k).committed ≡ (a.table.entry v).committed = ap (λ n. (a.table.entry n).committed) e in absurd (omega (arith, same, some, none))
  | inr nv ↦ elim (cases_eq k w) [
    | inl e ↦ anew_none k a c z held (ap (λ n. (c.table.entry n).committed) e ∙ empty)
    | inr nw ↦ anew_after spare k a b c x y z step (lies.elsewhere k nv nw ∙ none) fills
  ]
]

-- nothing is to be moved out of a block
pub anew_idle : (spare v : ℕ) (d : Device) (t : Table) (x : Index) → IsReady d t → IsConsistentLog spare d t x → AreHeld t x → MovesNothing v t → IsWrittenAnew v (log_of d t) (log_of d t) x
anew_idle spare v d t x can_write consistent held (inl none) = anew_none v (log_of d t) (log_of d t) x held none
anew_idle spare v d t x can_write consistent held (inr bad) = λ honest power o c p s at here last.
    let k = consistent.newest honest power o c p at in
    let there = sym k.newest.holds.block ∙ here in
    let two : true ≡ false = sym bad ∙ can_write.marks v ∙ ap d.flash.bad (sym there) ∙ k.newest.holds.whole.good in
    absurd cc
