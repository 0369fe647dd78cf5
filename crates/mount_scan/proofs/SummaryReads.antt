-- How many pages were read, and what stays as they are.
use Rattle.std.specs.Prelude.{◌≡◌, ◌<◌, ℕ, ◌+◌, ◌≤◌, List, true, false, Ok, Err}
use Rattle.std.proofs.Common.{sym, ◌∙◌, subst, inl, inr, arith}
use Rattle.std.proofs.lemmas.Bool.{cases_eq}
use Rattle.nand_model.specs.Flash.{Flash}
use Rattle.nand_model.specs.Calls.{Device}
use Rattle.nand_model.specs.declared.geometry.Geometry.{Geometry}
use Rattle.nand_model.specs.Changes.{OnlyReads}
use Rattle.nand_model.specs.laws.Changes.{only_reads_on, only_reads_here}
use Rattle.flash_tree.specs.laws.Place.{same_flash}
use Rattle.page_tags.specs.declared.tag.Tag.{Tag}
use Rattle.mount_scan.specs.SummaryGroups.{IsTagged, IsUntagged, HasPage, HasPages, KeepsPages, LacksPage, page_in}
use Rattle.mount_scan.specs.FoundSummary.{ReadsAtMost, ReportsGone}
use Rattle.mount_scan.specs.declared.block_summary.fault.SummaryFault.{SummaryFault}
use Rattle.mount_scan.specs.declared.block_summary.fault.SummaryFault.TheVariants as faults

-- so many pages were read at most, and the power did not go
pub record HasRead (pages : ℕ) (old new : Device) : Type 0 where
  pub only : OnlyReads old new
  pub most : new.reads ≤ old.reads + pages
  pub power : old.gone ≡ false → new.gone ≡ false

-- at first none
pub read_none : (a : Device) → HasRead 0 a a
read_none a = record { only = only_reads_here a; most = omega arith; power = λ is. is }

-- some and then others, of a call that is done
pub read_on : {T : Type 0} (p q n : ℕ) (a b c : Device) (done : T) → HasRead p a b → ReadsAtMost q b c (Ok done) → p + q ≤ n → HasRead n a c
read_on p q n a b c done first next le = record {
  only = only_reads_on a b c first.only next.only;
  most = omega (arith, first.most, next.most, le);
  power = λ is. next.gone (first.power is);
}

gone_on : (T U : Type 0) (a b c : Device) (e : SummaryFault) → (a.gone ≡ false → b.gone ≡ false) → ReportsGone {T = T} b c (Err e) → ReportsGone {T = U} a c (Err e)
gone_on T U a b c faults.NoMemory power reports = λ was. reports (power was)
gone_on T U a b c faults.Gone power reports = reports

-- some were, and the next call ended so
pub ends_so : (T U : Type 0) (p q n : ℕ) (a b c : Device) (e : SummaryFault) → HasRead p a b → p + q ≤ n → ReadsAtMost {T = T} q b c (Err e) → ReadsAtMost {T = U} n a c (Err e)
ends_so T U p q n a b c e read le next = record {
  only = only_reads_on a b c read.only next.only;
  most = omega (arith, read.most, le, next.most);
  gone = gone_on T U a b c e read.power next.gone;
}

-- all were
pub ends_well : {T : Type 0} (p n : ℕ) (a b : Device) (done : T) → HasRead p a b → p ≤ n → ReadsAtMost n a b (Ok done)
ends_well p n a b done read le = record { only = read.only; most = omega (arith, read.most, le); gone = read.power }

-- ---- what holds of an honest device stays

pub back_honest : (P : Geometry → Flash → Type 0) (a b : Device) → OnlyReads a b → (b.honest ≡ true → P b.geometry b.flash) → a.honest ≡ true → P a.geometry a.flash
back_honest P a b reads is was =
    subst (λ f. P a.geometry f) (same_flash a b reads was) (subst (λ x. P x b.flash) reads.lasts.geometry (is (reads.lasts.honest ∙ was)))

-- a page that is tagged
pub page_back : (a b : Device) (block : ℕ) (first : Tag) (i : ℕ) (bytes : List ℕ) → OnlyReads a b → HasPage b block first i bytes → HasPage a block first i bytes
page_back a b block first i bytes reads is = back_honest (λ g flash. IsTagged flash block first i (page_in g.bytes bytes i)) a b reads is

-- the pages that were read, and one more
pub pages_more :
    (d : Device) (block : ℕ) (first : Tag) (n : ℕ) (old new : List ℕ) → KeepsPages d.geometry.bytes n old new → HasPages d block first n old → HasPage d block first n new → HasPages d block first (n + 1) new
pages_more d block first n old new committed before next i lt honest = elim (cases_eq i n) [
  | inl here ↦ subst (λ k. IsTagged d.flash block first k (page_in d.geometry.bytes new k)) (sym here) (next honest)
  | inr ne ↦ let less : i < n = omega (arith, lt, ne) in subst (IsTagged d.flash block first i) (sym (committed i less)) (before i less honest)
]

-- and one that isn't
pub lacks_back : (a b : Device) (block : ℕ) (first : Tag) → OnlyReads a b → LacksPage b block first → LacksPage a block first
lacks_back a b block first reads is = back_honest (λ g flash. (i : ℕ) × (i < first.count) × IsUntagged flash block first i) a b reads is
