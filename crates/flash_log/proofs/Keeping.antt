-- What steps keep that leave the index: pages, and copies that may be made.
use Rattle.std.proofs.Common.{◌≡◌, ◌<◌, ◌≤◌, ℕ, true, false, List, length, Result, Ok, Err, sym, subst, ◌∙◌, arith, inl, inr}
use Rattle.std.proofs.lemmas.Bool.{cases_Bool}
use Rattle.nand_model.specs.Flash.{Flash}
use Rattle.nand_model.specs.Calls.{Device, Lasts}
use Rattle.nand_model.specs.declared.geometry.Geometry.{Geometry}
use Rattle.block_state.specs.Table.{Table}
use Rattle.chunk_index.specs.declared.form.CommittedKey.{CommittedKey}
use Rattle.transactions.specs.Checking.{LogState}
use Rattle.flash_log.specs.Copying.{KeepsCounts, KeepsCommittedAt, KeepsDataAt, MayBeCopied, NewestAfterCopies, CopiesPages, StayOrLieApart}
use Rattle.flash_log.specs.Passing.{KeepsFound}
use Rattle.flash_log.specs.laws.Found.{found_on, places_at}
use Rattle.flash_log.specs.laws.Keeping.{keeps_on}
use Rattle.flash_log.specs.Consistency.{HasVersion}
use Rattle.flash_log.specs.declared.copying.Copied.{Copied}
use Rattle.flash_log.specs.declared.copying.Copied.TheVariants as ends
use Rattle.flash_log.specs.declared.fault.MoveFault.{MoveFault}
use Rattle.flash_tree.specs.laws.Place.{had_power}

module _ (t u : Table) (committed : (b : ℕ) → (u.entry b).committed ≡ (t.entry b).committed) where
  still : (b : ℕ) → 1 ≤ (t.entry b).committed → 1 ≤ (u.entry b).committed
  still b some = let same = committed b in omega (arith, same, some)

  pub committed_on : (f g h : Flash) → KeepsCommittedAt t f g → KeepsCommittedAt u g h → KeepsCommittedAt t f h
  committed_on f g h first then o c p some at = then o c p (still p.block some) (first o c p some at)

  pub data_on : (a b c : Device) → Lasts b c → (b.gone ≡ false → KeepsCommittedAt t a.flash b.flash) → KeepsDataAt t a.flash b.flash → KeepsDataAt u b.flash c.flash → KeepsDataAt t a.flash c.flash
  data_on a b c lasts stays first then o d p bytes some at has = elim (cases_Bool b.gone) [
    | inl gone ↦ subst (λ (x : Device). HasVersion x.flash o d p.version bytes) (sym (lasts.gone gone)) (first o d p bytes some at has)
    | inr power ↦ then o d p bytes (still p.block some) (stays power o d p some at) (first o d p bytes some at has)
  ]

  pub newest_on : t.next_group ≤ u.next_group → (copies : List CommittedKey) (f g h : Flash) (r : Result Copied MoveFault) → KeepsCommittedAt t f g → NewestAfterCopies copies u g h r → NewestAfterCopies copies t f h r
  newest_on rises copies f g h (Ok (ends.Into target)) first then = record {
    made = record {
      copied = then.made.copied;
      others = λ o c p some apart at. then.made.others o c p (still p.block some) apart (first o c p some at);
    };
    numbered = λ i x s at newest. let above = then.numbered i x s at newest in omega (arith, rises, above);
  }
  newest_on rises copies f g h (Ok ends.Marked) first then = committed_on f g h first then
  newest_on rises copies f g h (Err fault) first then = committed_on f g h first then

  pub apart_on : u.geometry ≡ t.geometry → (copies : List CommittedKey) (f g : Flash) (d : Device) → KeepsCommittedAt t f g → StayOrLieApart copies u g d → StayOrLieApart copies t f d
  apart_on geometry copies f g d first (inl stays) = inl (committed_on f g d.flash first stays)
  apart_on geometry copies f g d first (inr lie) = inr (record {
    at = lie.at;
    within = subst (λ (x : Geometry). lie.at.block < x.blocks) geometry lie.within;
    uncommitted = sym (committed lie.at.block) ∙ lie.uncommitted;
    good = lie.good;
    copied = record {
      copied = lie.copied.copied;
      others = λ o c p some apart at. lie.copied.others o c p (still p.block some) apart (first o c p some at);
    };
  })

-- pages that may be copied still may after a step that left the index
pub may_later : (a b : Device) (t u : Table) (copies : List CommittedKey) → Lasts a b → t.next_group ≤ u.next_group → ((k : ℕ) → (u.entry k).committed ≡ (t.entry k).committed)
    → (a.honest ≡ true → b.gone ≡ false → KeepsCommittedAt t a.flash b.flash) → MayBeCopied a t copies → MayBeCopied b u copies
may_later a b t u copies lasts rises committed stays may = record {
  can = record {
    some = may.can.some;
    within_limit = may.can.within_limit;
    within = λ i x at. let is = may.can.within i x at in (
      subst (λ (g : Geometry). x.at.block < g.blocks) (sym lasts.geometry) is.0,
      subst (λ (g : Geometry). x.at.page < g.pages) (sym lasts.geometry) is.1,
    );
    named = λ i lt. let is = may.can.named i lt in record { object = is.object; chunk = is.chunk; version = (is.version.0, omega (arith, is.version.1, rises)) };
  };
  within_limit = subst (λ (g : Geometry). length copies ≤ g.pages) (sym lasts.geometry) may.within_limit;
  held = λ i x at. let some = may.held i x at in let same = committed x.at.block in omega (arith, some, same);
  once = may.once;
  newest = λ honest power i x at.
      let was : a.honest ≡ true = sym lasts.honest ∙ honest in
      stays was power x.key.object x.key.chunk _ (may.held i x at) (may.newest was (had_power a b lasts power) i x at);
  ordinary = λ honest. may.ordinary (sym lasts.honest ∙ honest);
}

module _ (copies : List CommittedKey) (a b : LogState) (keeps : KeepsCounts a.device b.device a.table b.table) (committed : a.device.honest ≡ true → KeepsCommittedAt a.table a.device.flash b.device.flash)
    (stored : a.device.honest ≡ true → KeepsDataAt a.table a.device.flash b.device.flash) (found : a.device.honest ≡ true → KeepsFound a.table a.device b.device) where
  -- a fault after a step that keeps what is newest where it is
  pub pages_committed : (fault : MoveFault) → CopiesPages copies a b (Err fault)
  pages_committed fault = record { keeps = keeps; stored = stored; newest = λ honest power. committed honest; apart = λ honest. inl (committed honest); found = found }

  -- what becomes of pages that are copied after such a step
  pub pages_on : (c : LogState) (r : Result Copied MoveFault) → CopiesPages copies b c r → CopiesPages copies a c r
  pages_on c r then = record {
    keeps = keeps_on a.device b.device c.device a.table b.table c.table keeps then.keeps;
    stored = λ honest. data_on a.table b.table keeps.committed a.device b.device c.device then.keeps.lasts (λ _. committed honest) (stored honest) (then.stored (keeps.lasts.honest ∙ honest));
    newest = λ honest power. newest_on a.table b.table keeps.committed keeps.numbers.numbers.groups_rise copies a.device.flash b.device.flash c.device.flash r (committed honest) (then.newest (keeps.lasts.honest ∙ honest) power);
    apart = λ honest. apart_on a.table b.table keeps.committed keeps.geometry copies a.device.flash b.device.flash c.device (committed honest) (then.apart (keeps.lasts.honest ∙ honest));
    found = λ honest. found_on a.device b.device c.device a.table b.table keeps.committed (places_at a.table a.device.flash b.device.flash (committed honest)) (found honest) (then.found (keeps.lasts.honest ∙ honest));
  }
