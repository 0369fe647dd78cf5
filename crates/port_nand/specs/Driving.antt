-- A driver keeps what its calls say.
use Rattle.std.specs.Prelude.{List}
use Rattle.port_nand.specs.Calls.{Call, session}
use Rattle.port_nand.specs.Knowing.{Knows}
use Rattle.port_nand.specs.declared.driver.Driver.{Driver}

-- what is held is what the calls since the device was opened say
abbrev pub IsCommittedKey : {P : Type 0} → (P → List Call) → Driver P → Type 0
IsCommittedKey calls d = Knows d.geometry d.blocks.items d.gone (session (calls d.port))
