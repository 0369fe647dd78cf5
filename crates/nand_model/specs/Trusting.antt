-- A device that counts as honest only where it is trusted.
-- From: this project.
use Rattle.std.specs.Prelude.{Bool, ◌&&◌}
use Rattle.nand_model.specs.Calls.{Device}

-- the device as it is, but honest only where it is trusted besides
abbrev pub trusted_as : Bool → Device → Device
trusted_as trusted d = record d { honest = d.honest && trusted }
