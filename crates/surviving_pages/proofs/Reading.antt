-- How many pages were read.
use Rattle.std.specs.Prelude.{◌≡◌, ℕ, zero, suc, ◌+◌, ◌-◌, ◌<◌, ◌≤◌, Bool, false, Ok, Err, if◌then◌else◌}
use Rattle.std.proofs.Common.{◌∙◌, ap, arith}
use Rattle.std.proofs.lemmas.List.FromFn.{sum_by-map-range_with_len_more}
use Rattle.nand_model.specs.Flash.{Flash}
use Rattle.nand_model.specs.Calls.{Device}
use Rattle.nand_model.specs.declared.geometry.Geometry.{Geometry}
use Rattle.nand_model.specs.Changes.{OnlyReads}
use Rattle.nand_model.specs.laws.Changes.{only_reads_on, only_reads_here}
use Rattle.mount_scan.specs.Scanned.{good_pages, ScanReportsGone, ReadsEach}
use Rattle.mount_scan.specs.declared.fault.ScanFault.{ScanFault}
use Rattle.mount_scan.specs.declared.fault.ScanFault.TheVariants as faults

-- so many pages were read, and the power did not go
pub record HasRead (pages : ℕ) (old new : Device) : Type 0 where
  pub only : OnlyReads old new
  pub each : new.reads ≡ old.reads + pages
  pub power : old.gone ≡ false → new.gone ≡ false

-- at first none
pub read_none : (a : Device) → HasRead 0 a a
read_none a = record { only = only_reads_here a; each = omega arith; power = λ is. is }

-- the pages of the first k blocks are no more than those of more blocks
pages_more : (flash : Flash) (pages b : ℕ) → good_pages flash pages (b + 1) ≡ good_pages flash pages b + (if flash.bad b then 0 else pages)
pages_more flash pages b = sum_by-map-range_with_len_more (λ n. n) (λ k. if flash.bad k then 0 else pages) 0 b b (omega arith)

pages_rise : (flash : Flash) (pages b n : ℕ) → good_pages flash pages b ≤ good_pages flash pages (b + n)
pages_rise flash pages b zero = let same : b + 0 ≡ b = omega arith in omega (arith, ap (good_pages flash pages) same)
pages_rise flash pages b (suc n) =
    let next : b + suc n ≡ b + n + 1 = omega arith in
    omega (arith, pages_rise flash pages b n, pages_more flash pages (b + n), ap (good_pages flash pages) next)

-- so many pages of the first k blocks were read, and then those of the next block
module _ (a b c : Device) (k : ℕ) (read : HasRead (good_pages a.flash a.geometry.pages k) a b) where
  -- the pages of a block stay as many
  block_pages : (if b.flash.bad k then 0 else b.geometry.pages) ≡ (if a.flash.bad k then 0 else a.geometry.pages)
  block_pages =
      ap (λ (bad : ℕ → Bool). if bad k then 0 else b.geometry.pages) read.only.bad ∙ ap (λ (g : Geometry). if a.flash.bad k then 0 else g.pages) read.only.lasts.geometry

  pub block_read : {T : Type 0} (done : T) → ReadsEach (if b.flash.bad k then 0 else b.geometry.pages) b c (Ok done) → HasRead (good_pages a.flash a.geometry.pages (k + 1)) a c
  block_read done next =
      let each : c.reads ≡ b.reads + (if b.flash.bad k then 0 else b.geometry.pages) = next.each in
      record {
        only = only_reads_on a b c read.only next.only;
        each = omega (arith, read.each, each, block_pages, pages_more a.flash a.geometry.pages k);
        power = λ is. next.gone (read.power is);
      }

  gone_on : (T U : Type 0) (e : ScanFault) → ScanReportsGone {T = T} b c (Err e) → ScanReportsGone {T = U} a c (Err e)
  gone_on T U faults.NoMemory reports = λ was. reports (read.power was)
  gone_on T U faults.Gone reports = reports

  pub block_ends : (T U : Type 0) (n : ℕ) (e : ScanFault) → k < n → ReadsEach {T = T} (if b.flash.bad k then 0 else b.geometry.pages) b c (Err e)
      → ReadsEach {T = U} (good_pages a.flash a.geometry.pages n) a c (Err e)
  block_ends T U n e lt next =
      let within : k + 1 + (n - (k + 1)) ≡ n = omega (arith, lt) in
      record {
        only = only_reads_on a b c read.only next.only;
        most = omega (
          arith,
          read.each,
          next.most,
          block_pages,
          pages_more a.flash a.geometry.pages k,
          pages_rise a.flash a.geometry.pages (k + 1) (n - (k + 1)),
          ap (good_pages a.flash a.geometry.pages) within,
        );
        each = tt;
        gone = gone_on T U e next.gone;
      }
