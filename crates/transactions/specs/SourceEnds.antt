-- How a source of pages ends.
use Rattle.std.specs.Prelude.{◌≡◌, true, Result, Ok, Err}
use Rattle.nand_model.specs.Calls.{Device}
use Rattle.transactions.specs.declared.source.PageName.{PageName}
use Rattle.transactions.specs.declared.source.SourceFault.{SourceFault}
use Rattle.transactions.specs.declared.source.SourceFault.TheVariants as faults

-- Lost is answered only where the page is not there, or the device is not honest.
abbrev pub SourceEnds : Device → Device → Type 0 → Result PageName SourceFault → Type 0
SourceEnds old new is_there (Ok name) = Unit {0}
SourceEnds old new is_there (Err faults.Lost) = old.honest ≡ true → is_there → ⊥
SourceEnds old new is_there (Err faults.Gone) = new.gone ≡ true
