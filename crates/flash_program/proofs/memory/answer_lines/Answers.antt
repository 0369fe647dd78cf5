use Rattle.std.proofs.Common.{inr}
use Rattle.flash_program.proofs.memory.answer_lines.Goals as goal

pub returns : goal.returns
returns g c = inr (record {
  first = _;
  last = _;
  shell = _;
  reply = _;
  mounted = c.in-Ok.ensures.mounted;
  answered = c.shell-ended.ensures;
  unmounted = c.unmount-device.ensures.ends;
  result_is = c.reported.ensures;
})
