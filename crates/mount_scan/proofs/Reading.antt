-- How many pages a scan has read.
use Rattle.std.specs.Prelude.{◌≡◌, ℕ, zero, suc, ◌+◌, ◌-◌, ◌<◌, ◌≤◌, Bool, false, Ok, Err, if◌then◌else◌}
use Rattle.std.proofs.Common.{sym, ◌∙◌, ap, subst, arith, inl, inr}
use Rattle.std.proofs.lemmas.Bool.{cases_Bool}
use Rattle.std.proofs.lemmas.List.FromFn.{sum_by-map-range_with_len_more}
use Rattle.nand_model.specs.Flash.{Flash}
use Rattle.nand_model.specs.Calls.{Device}
use Rattle.nand_model.specs.declared.geometry.Geometry.{Geometry}
use Rattle.nand_model.specs.Changes.{OnlyReads}
use Rattle.nand_model.specs.laws.Changes.{only_reads_on, only_reads_here}
use Rattle.mount_scan.specs.Scanned.{good_pages, ScanReportsGone, ReadsEach}
use Rattle.mount_scan.specs.declared.fault.ScanFault.{ScanFault}
use Rattle.mount_scan.specs.declared.fault.ScanFault.TheVariants as faults

-- so many pages were read, and the power did not go
pub record HasRead (pages : ℕ) (old new : Device) : Type 0 where
  pub only : OnlyReads old new
  pub each : new.reads ≡ old.reads + pages
  pub power : old.gone ≡ false → new.gone ≡ false

-- at first none
pub read_none : (a : Device) → HasRead 0 a a
read_none a = record { only = only_reads_here a; each = omega arith; power = λ is. is }

-- some and then others
pub read_on : (p q : ℕ) (a b c : Device) → HasRead p a b → HasRead q b c → HasRead (p + q) a c
read_on p q a b c first next = record {
  only = only_reads_on a b c first.only next.only;
  each = omega (arith, first.each, next.each);
  power = λ is. next.power (first.power is);
}

at_most_one : (a b : Device) → OnlyReads a b → (a.gone ≡ false → b.reads ≡ a.reads + 1) → b.reads ≤ a.reads + 1
at_most_one a b only issued = elim (cases_Bool a.gone) [
  | inr was ↦ let one : b.reads ≡ a.reads + 1 = issued was in omega (arith, one)
  | inl gone ↦ let same : b.reads ≡ a.reads = ap (λ (d : Device). d.reads) (only.lasts.gone gone) in omega (arith, same)
]

-- some were, and memory was refused
pub ends_refused : {T : Type 0} (p n : ℕ) (a b : Device) → HasRead p a b → p ≤ n → ReadsEach {T = T} n a b (Err faults.NoMemory)
ends_refused p n a b read le = record { only = read.only; most = omega (arith, read.each, le); each = tt; gone = read.power }

gone_on : (T U : Type 0) (a b c : Device) (e : ScanFault) → (a.gone ≡ false → b.gone ≡ false) → ScanReportsGone {T = T} b c (Err e) → ScanReportsGone {T = U} a c (Err e)
gone_on T U a b c faults.NoMemory power reports = λ was. reports (power was)
gone_on T U a b c faults.Gone power reports = reports

-- some were, and the call that reads the next ends so
pub ends_so : {T U : Type 0} (p q n : ℕ) (a b c : Device) (e : ScanFault) → HasRead p a b → p + q ≤ n → ReadsEach {T = T} q b c (Err e) → ReadsEach {T = U} n a c (Err e)
ends_so {T} {U} p q n a b c e read le next = record {
  only = only_reads_on a b c read.only next.only;
  most = omega (arith, read.each, le, next.most);
  each = tt;
  gone = gone_on T U a b c e read.power next.gone;
}

-- a call that is done has read all
pub has_read : {T : Type 0} (n : ℕ) (a b : Device) (done : T) → ReadsEach n a b (Ok done) → HasRead n a b
has_read n a b done read = record { only = read.only; each = read.each; power = read.gone }

-- those of one block more
pub pages_more : (flash : Flash) (pages b : ℕ) → good_pages flash pages (b + 1) ≡ good_pages flash pages b + (if flash.bad b then 0 else pages)
pages_more flash pages b = sum_by-map-range_with_len_more (λ n. n) (λ k. if flash.bad k then 0 else pages) 0 b b (omega arith)

-- those of fewer blocks are no more
pub pages_rise : (flash : Flash) (pages b n : ℕ) → good_pages flash pages b ≤ good_pages flash pages (b + n)
pages_rise flash pages b zero = let same : b + 0 ≡ b = omega arith in omega (arith, ap (good_pages flash pages) same)
pages_rise flash pages b (suc n) =
    let next : b + suc n ≡ b + n + 1 = omega arith in
    omega (arith, pages_rise flash pages b n, pages_more flash pages (b + n), ap (good_pages flash pages) next)

-- the pages of a block stay as many
block_pages : (a b : Device) (k : ℕ) → OnlyReads a b → (if b.flash.bad k then 0 else b.geometry.pages) ≡ (if a.flash.bad k then 0 else a.geometry.pages)
block_pages a b k only =
    ap (λ (bad : ℕ → Bool). if bad k then 0 else b.geometry.pages) only.bad ∙ ap (λ (g : Geometry). if a.flash.bad k then 0 else g.pages) only.lasts.geometry

-- one block more was read
pub block_read : {T : Type 0} (a b c : Device) (k : ℕ) (done : T) → HasRead (good_pages a.flash a.geometry.pages k) a b → ReadsEach (if b.flash.bad k then 0 else b.geometry.pages) b c (Ok done)
    → HasRead (good_pages a.flash a.geometry.pages (k + 1)) a c
block_read a b c k done read next =
    let more : HasRead (good_pages a.flash a.geometry.pages k + (if b.flash.bad k then 0 else b.geometry.pages)) a c =
    read_on (good_pages a.flash a.geometry.pages k) (if b.flash.bad k then 0 else b.geometry.pages) a b c read (has_read (if b.flash.bad k then 0 else b.geometry.pages) b c done next) in
    subst (λ n. HasRead n a c) (ap (λ n. good_pages a.flash a.geometry.pages k + n) (block_pages a b k read.only) ∙ sym (pages_more a.flash a.geometry.pages k)) more

-- the next block's reads ended so
pub block_ends : (T U : Type 0) (a b c : Device) (k n : ℕ) (e : ScanFault) → k < n → HasRead (good_pages a.flash a.geometry.pages k) a b
    → ReadsEach {T = T} (if b.flash.bad k then 0 else b.geometry.pages) b c (Err e) → ReadsEach {T = U} (good_pages a.flash a.geometry.pages n) a c (Err e)
block_ends T U a b c k n e lt read next =
    let within : k + 1 + (n - (k + 1)) ≡ n = omega (arith, lt) in
    ends_so {T = T} {U = U} (good_pages a.flash a.geometry.pages k) (if b.flash.bad k then 0 else b.geometry.pages) (good_pages a.flash a.geometry.pages n) a b c e read
    (omega (arith, block_pages a b k read.only, pages_more a.flash a.geometry.pages k, pages_rise a.flash a.geometry.pages (k + 1) (n - (k + 1)), ap (good_pages a.flash a.geometry.pages) within)) next
