-- How many pages were read, and what stays as they are.
use Rattle.std.specs.Prelude.{◌≡◌, ℕ, ◌+◌, ◌*◌, ◌<◌, ◌≤◌, true, false, Ok, Err}
use Rattle.std.proofs.Common.{sym, ◌∙◌, ap, subst, arith}
use Rattle.std.proofs.Math.Nat.{mul-le-mul_left}
use Rattle.nand_model.specs.Flash.{Flash, IsWithin}
use Rattle.nand_model.specs.Calls.{Device}
use Rattle.nand_model.specs.declared.geometry.Geometry.{Geometry}
use Rattle.nand_model.specs.Changes.{OnlyReads}
use Rattle.nand_model.specs.laws.Changes.{only_reads_on, only_reads_here}
use Rattle.flash_tree.specs.laws.Place.{same_flash}
use Rattle.mount_scan.specs.Scanned.{ScanReportsGone}
use Rattle.mount_scan.specs.declared.fault.ScanFault.{ScanFault}
use Rattle.mount_scan.specs.declared.fault.ScanFault.TheVariants as faults
use Rattle.mount_scan.specs.FoundCheckpoint.{ReadsAtMost}

-- so many pages were read at most, and the power did not go
pub record HasRead (pages : ℕ) (old new : Device) : Type 0 where
  pub only : OnlyReads old new
  pub most : new.reads ≤ old.reads + pages
  pub power : old.gone ≡ false → new.gone ≡ false

-- at first none
pub read_none : (a : Device) → HasRead 0 a a
read_none a = record { only = only_reads_here a; most = omega arith; power = λ is. is }

-- some and then others, of a call that is done
pub read_on : {T : Type 0} (p q n : ℕ) (a b c : Device) (done : T) → HasRead p a b → ReadsAtMost q b c (Ok done) → p + q ≤ n → HasRead n a c
read_on p q n a b c done first next le = record {
  only = only_reads_on a b c first.only next.only;
  most = omega (arith, first.most, next.most, le);
  power = λ is. next.gone (first.power is);
}

-- of one call that is done
pub has_read : {T : Type 0} (n : ℕ) (a b : Device) (done : T) → ReadsAtMost n a b (Ok done) → HasRead n a b
has_read n a b done read = record { only = read.only; most = read.most; power = read.gone }

gone_on : (T U : Type 0) (a b c : Device) (e : ScanFault) → (a.gone ≡ false → b.gone ≡ false) → ScanReportsGone {T = T} b c (Err e) → ScanReportsGone {T = U} a c (Err e)
gone_on T U a b c faults.NoMemory power reports = λ was. reports (power was)
gone_on T U a b c faults.Gone power reports = reports

-- some were, and the next call ended so
pub ends_so : (T U : Type 0) (p q n : ℕ) (a b c : Device) (e : ScanFault) → HasRead p a b → p + q ≤ n → ReadsAtMost {T = T} q b c (Err e) → ReadsAtMost {T = U} n a c (Err e)
ends_so T U p q n a b c e read le next = record {
  only = only_reads_on a b c read.only next.only;
  most = omega (arith, read.most, le, next.most);
  gone = gone_on T U a b c e read.power next.gone;
}

-- all were
pub ends_well : {T : Type 0} (p n : ℕ) (a b : Device) (done : T) → HasRead p a b → p ≤ n → ReadsAtMost n a b (Ok done)
ends_well p n a b done read le = record { only = read.only; most = omega (arith, read.most, le); gone = read.power }

-- ---- the pages of a block for each of some blocks

pub read_zero : (pages : ℕ) (a : Device) → HasRead (pages * 0) a a
read_zero pages a = record { only = only_reads_here a; most = omega arith; power = λ is. is }

same_pages : (a b : Device) → OnlyReads a b → b.geometry.pages ≡ a.geometry.pages
same_pages a b only = ap (λ (g : Geometry). g.pages) only.lasts.geometry

pub read_pages : {T : Type 0} (k : ℕ) (a b c : Device) (done : T) → HasRead (a.geometry.pages * k) a b → ReadsAtMost b.geometry.pages b c (Ok done) → HasRead (a.geometry.pages * (k + 1)) a c
read_pages k a b c done read next =
    let pages = same_pages a b read.only in
    let more : a.geometry.pages * k + a.geometry.pages ≡ a.geometry.pages * (k + 1) = grind arith in
    read_on (a.geometry.pages * k) b.geometry.pages (a.geometry.pages * (k + 1)) a b c done read next (omega (arith, pages, more))

pub ends_pages : (T U : Type 0) (k n : ℕ) (a b c : Device) (e : ScanFault) → k < n → HasRead (a.geometry.pages * k) a b → ReadsAtMost {T = T} b.geometry.pages b c (Err e)
    → ReadsAtMost {T = U} (a.geometry.pages * n) a c (Err e)
ends_pages T U k n a b c e lt read next =
    let pages = same_pages a b read.only in
    let more : a.geometry.pages * k + a.geometry.pages ≡ a.geometry.pages * (k + 1) = grind arith in
    let le : a.geometry.pages * (k + 1) ≤ a.geometry.pages * n = mul-le-mul_left a.geometry.pages (omega (arith, lt)) in
    ends_so T U (a.geometry.pages * k) b.geometry.pages (a.geometry.pages * n) a b c e read (omega (arith, pages, more, le)) next

-- ---- what holds of an honest device stays

pub on_honest : (P : Geometry → Flash → Type 0) (a b : Device) → OnlyReads a b → (a.honest ≡ true → P a.geometry a.flash) → b.honest ≡ true → P b.geometry b.flash
on_honest P a b reads is honest =
    let was : a.honest ≡ true = sym reads.lasts.honest ∙ honest in
    subst (λ f. P b.geometry f) (sym (same_flash a b reads was)) (subst (λ x. P x a.flash) (sym reads.lasts.geometry) (is was))

pub back_honest : (P : Geometry → Flash → Type 0) (a b : Device) → OnlyReads a b → (b.honest ≡ true → P b.geometry b.flash) → a.honest ≡ true → P a.geometry a.flash
back_honest P a b reads is was =
    subst (λ f. P a.geometry f) (same_flash a b reads was) (subst (λ x. P x b.flash) reads.lasts.geometry (is (reads.lasts.honest ∙ was)))

-- what lies outside of a device after reads is what lay there
pub within_back : (a b : Device) → OnlyReads a b → IsWithin b.geometry.pages b.geometry.blocks b.flash → a.honest ≡ true → IsWithin a.geometry.pages a.geometry.blocks a.flash
within_back a b reads is honest = back_honest (λ g f. IsWithin g.pages g.blocks f) a b reads (λ same. is) honest
