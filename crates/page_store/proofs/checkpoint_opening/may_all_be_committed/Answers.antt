use Rattle.std.proofs.Common.{◌≡◌, ◌∙◌, ap, refl, sym, subst, arith, Some, inl, inr, slice_get, length}
use Rattle.std.proofs.lemmas.Bool.{cases_eq}
use Rattle.std.proofs.lemmas.Option.{slice_get_within, slice_get-get_or, get_or_from_slice_get}
use Rattle.mount_scan.specs.FoundCheckpoint.{checkpoint_of}
use Rattle.page_store.specs.Checked.{MayBeCommitted}
use Rattle.page_store.proofs.Buckets.{not_true}
use Rattle.page_store.proofs.checkpoint_opening.may_all_be_committed.Goals as goal

pub loop-entry-preserved : goal.loop-entry-preserved
loop-entry-preserved g c = λ i e lt at. elim (cases_eq i c.loop-entry.entry-index) [
  | inl here ↦
      let there : slice_get c.deref-entry-items.result.now c.loop-entry.entry-index ≡ Some e =
      ap (λ es. slice_get es c.loop-entry.entry-index) c.deref-entry-items.ensures.value ∙ subst (λ k. slice_get c.args.found.now.entries.items k ≡ Some e) here at in
      subst (MayBeCommitted (g.N.Nand.state c.args.device.now) (checkpoint_of c.args.found.now)) (get_or_from_slice_get c.deref-entry-items.result.now c.loop-entry.entry-index e _ there)
      (c.may_be_committed.ensures.0 c.if-not-may_be_committed.false)
  | inr ne ↦ c.loop-entry.invariant i e (omega (arith, lt, ne)) at
]

pub returns-then-not-may_be_committed : goal.returns-then-not-may_be_committed
returns-then-not-may_be_committed g c = (
  λ holds. absurd cc,
  λ all. absurd (not_true c.may_be_committed.result c.if-not-may_be_committed.true
      (c.may_be_committed.ensures.1 (all c.loop-entry.entry-index _
      (ap (λ es. slice_get es c.loop-entry.entry-index) (sym c.deref-entry-items.ensures.value) ∙ slice_get-get_or c.deref-entry-items.result.now c.loop-entry.entry-index _ c.loop-entry-test.true)))),
)

pub returns : goal.returns
returns g c =
    let same : length c.deref-entry-items.result.now ≡ length c.args.found.now.entries.items = ap length c.deref-entry-items.ensures.value in
    (λ holds i e at. let lt = slice_get_within c.args.found.now.entries.items i e at in c.loop-entry.invariant i e (omega (arith, lt, same, c.loop-entry-test.false)) at, λ all. refl)
