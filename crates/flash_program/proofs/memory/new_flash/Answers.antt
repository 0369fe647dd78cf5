use Rattle.std.proofs.Common.{rules, refl}
use Rattle.nand_model.specs.MemoryState.{device}
use Rattle.posix_calls.specs.laws.Formatted.{starts_consistent}
use Rattle.posix_profile.specs.laws.Fresh.{fresh}
use Rattle.flash_program.proofs.memory.new_flash.Goals as goal

pub returns-in-Ok-format-clause-fresh : goal.returns-in-Ok-format-clause-fresh
returns-in-Ok-format-clause-fresh c =
    let made = c.in-Ok-format.ensures in
    let sound = (made.formatted refl).sound in
    record {
      bytes_are = search rules;
      pages_are = search rules;
      blocks_are = search rules;
      honest = refl;
      has_power = made.has_power;
      sound = record { sound = sound; truth = starts_consistent (device c.in-Ok-format.nand) 1 fresh.objects (made.formatted refl).starts sound };
    }
