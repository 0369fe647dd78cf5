-- What the read of a summary finds.
use Rattle.std.specs.Prelude.{◌≡◌, ◌≤◌, ℕ, ◌+◌, true, false, Option, None, Result, Ok, Err}
use Rattle.nand_model.specs.Calls.{Device}
use Rattle.nand_model.specs.Changes.{OnlyReads}
use Rattle.page_tags.specs.declared.tag.Tag.{Tag}
use Rattle.flash_tree.specs.Groups.{HasTag}
use Rattle.flash_tree.specs.Summaries.{Summary, HasSummaryForm, IsWholeSummary}
use Rattle.mount_scan.specs.declared.block_summary.fault.SummaryFault.{SummaryFault}
use Rattle.mount_scan.specs.declared.block_summary.fault.SummaryFault.TheVariants as faults
use Rattle.mount_scan.specs.declared.block_summary.found_summary.FoundSummary.{FoundSummary}

-- a summary as programs have it
abbrev pub summary_of : FoundSummary → Summary
summary_of f = record { block = f.block; size = f.size; number = f.number; seq = f.seq; head = f.head; entries = f.entries.items }

-- the summary lies in this block, and has the numbers of the tag of its page 0
pub record IsOf (b : ℕ) (first : Tag) (f : FoundSummary) : Type 0 where
  pub block : f.block ≡ b
  pub size : f.size ≡ first.count
  pub number : f.number ≡ first.group
  pub seq : f.seq ≡ first.seq

-- Gone is reported of a device that is gone, and no other result of one that went in the call.
abbrev pub ReportsGone : {T : Type 0} → Device → Device → Result T SummaryFault → Type 0
ReportsGone old new (Ok done) = old.gone ≡ false → new.gone ≡ false
ReportsGone old new (Err faults.NoMemory) = old.gone ≡ false → new.gone ≡ false
ReportsGone old new (Err faults.Gone) = new.gone ≡ true

-- The device was only read, no more pages than so many were, and Gone is reported of a gone device alone.
pub record ReadsAtMost {T : Type 0} (pages : ℕ) (old new : Device) (result : Result T SummaryFault) : Type 0 where
  pub only : OnlyReads old new
  pub most : new.reads ≤ old.reads + pages
  pub gone : ReportsGone old new result

-- Nothing is found, and nothing was read.
pub record FindsNone (old new : Device) (result : Result (Option FoundSummary) SummaryFault) : Type 0 where
  pub none : result ≡ Ok None
  pub same : new ≡ old

-- what is read on any device is of the form
abbrev pub HasForm : Device → FoundSummary → Type 0
HasForm device f = HasSummaryForm device.geometry (summary_of f)

-- of an honest device: it is a whole summary
abbrev pub IsWholeOn : Device → FoundSummary → Type 0
IsWholeOn device f = device.honest ≡ true → IsWholeSummary device.geometry device.flash (summary_of f)

-- of an honest device whose page 0 of this block has this tag: the block begins with no whole summary
abbrev pub HasNoSummary : Device → ℕ → Tag → Type 0
HasNoSummary d block first =
    d.honest ≡ true → HasTag d.flash block 0 first → (s : Summary) → IsWholeSummary d.geometry d.flash s → s.block ≡ block → ⊥
