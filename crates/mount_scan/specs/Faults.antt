-- Why a scan ends.
use Rattle.mount_scan.specs.declared.block_summary.fault.SummaryFault.{SummaryFault}
use Rattle.mount_scan.specs.declared.block_summary.fault.SummaryFault.TheVariants as summaries
use Rattle.mount_scan.specs.declared.fault.ScanFault.{ScanFault}
use Rattle.mount_scan.specs.declared.fault.ScanFault.TheVariants as faults

-- what a fault of a summary is to a scan
abbrev pub of_summary : SummaryFault → ScanFault
of_summary summaries.NoMemory = faults.NoMemory
of_summary summaries.Gone = faults.Gone
