-- Why committed pages were not moved, where no block was taken.
use Rattle.flash_log.specs.declared.take.TakeFault.{TakeFault}
use Rattle.flash_log.specs.declared.take.TakeFault.TheVariants as takes
use Rattle.flash_log.specs.declared.fault.MoveFault.{MoveFault}
use Rattle.flash_log.specs.declared.fault.MoveFault.TheVariants as moves

-- the same reason
abbrev pub move_fault : TakeFault → MoveFault
move_fault takes.Worn = moves.Worn
move_fault takes.Gone = moves.Gone
