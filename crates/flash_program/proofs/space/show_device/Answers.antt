use Rattle.std.proofs.Common.{inr}
use Rattle.line_shell.specs.Replies.{reply_text}
use Rattle.flash_program.proofs.Stating.{reported_alone}
use Rattle.flash_program.proofs.space.show_device.Goals as goal

pub returns : goal.returns
returns g c = inr (record {
  first = c.in-Ok.volume;
  last = c.ask_space-reply.new.volume;
  reply = c.ask_space-reply.result;
  spoken = c.report_space-reported.result;
  answer = _;
  mounted = c.in-Ok.ensures.mounted;
  issued = c.ask_space-reply.ensures;
  reported = reported_alone _ (reply_text c.ask_space-reply.result) c.report_space-reported.result c.report_space-reported.ensures;
  unmounted = c.unmount-device.ensures.ends;
  result_is = c.shown.ensures;
})
