use Rattle.std.proofs.Common.{inr}
use Rattle.posix_calls.specs.laws.Formatted.{starts_consistent}
use Rattle.flash_program.proofs.creating.format_device.Goals as goal

pub returns-in-Ok : goal.returns-in-Ok
returns-in-Ok g c = inr (
  g.N.Nand.state c.in-Ok.device,
  record { keeps = record { lasts = c.in-Ok.ensures.keeps.lasts; marks = c.in-Ok.ensures.keeps.new_bad }; honest = c.in-Ok.ensures.keeps.lasts.honest; has_power = c.in-Ok.ensures.has_power; sound = λ honest. record { sound = (c.in-Ok.ensures.formatted honest).sound; truth = starts_consistent (g.N.Nand.state c.in-Ok.device) _ _ (c.in-Ok.ensures.formatted honest).starts (c.in-Ok.ensures.formatted honest).sound } },
  c.show_device.ensures,
)
