use Rattle.std.proofs.Common.{◌∙◌, ◌+◌, refl, inl, inr, w32}
use Rattle.std.proofs.lemmas.Int.{to_z-of_z}
use Rattle.posix_calls.specs.laws.Formatted.{starts_consistent}
use Rattle.flash_c.proofs.Formats.{reason, sufficient}
use Rattle.flash_c.proofs.devices.format_device.Goals as goal

pub returns-in-Ok : goal.returns-in-Ok
returns-in-Ok g c = let ensured = c.in-Ok.ensures in record {
  lasts = ensured.keeps.lasts;
  ends = inl (
    refl,
    record {
      room = sufficient _ (c.args.spare + 4) ensured.spare.1;
      power = ensured.has_power;
      few_bad = ensured.few_bad;
      sound = λ honest. (ensured.formatted honest).sound;
      true_flash = λ honest. starts_consistent (g.N.Nand.state c.in-Ok.device) _ _ (ensured.formatted honest).starts (ensured.formatted honest).sound;
    },
  );
}

pub returns-in-Err : goal.returns-in-Err
returns-in-Err g c = let ensured = c.in-Err.ensures in record {
  lasts = ensured.keeps.lasts;
  ends = inr (record {
    fault = c.in-Err.fault;
    number_is = to_z-of_z w32 c.format_number.result (search (c.format_number.type_inv)) ∙ c.format_number.ensures.number;
    why = reason c.args.spare _ _ c.in-Err.fault ensured.unchanged ensured.gone ensured.worn;
    spare_is = ensured.spare;
  });
}
