use Rattle.std.proofs.Common.{◌∙◌, sym}
use Rattle.std.proofs.lemmas.Bool.{true≢false}
use Rattle.page_store.specs.FlashSealing.{IsDueOf, check_pages_of}
use Rattle.posix_calls.proofs.Unmounting.{left_alone, ends_with, leaves_one}
use Rattle.posix_calls.proofs.volume.Volume.unmount.Goals as goal

pub returns-then-read_only-clause-ends : goal.returns-then-read_only-clause-ends
returns-then-read_only-clause-ends g c =
    let e = c.finish-pages.ensures in
    left_alone _ c.args.self.volume _ c.finish-pages.result.1
    (record { goes_on = e.goes_on; stopped = e.stopped; read_only = e.read_only; replies_are = e.replies; power = e.power; read_only_done = e.read_only_done; done = e.done; tree = e.tree; cause = e.cause; exact = e.exact }) _
    (c.into_inner.ensures.state.0, sym c.into_device.ensures.state ∙ c.into_inner.ensures.state.1)

pub returns-then-read_only-clause-leaves : goal.returns-then-read_only-clause-leaves
returns-then-read_only-clause-leaves g c = λ written done. absurd (true≢false (sym c.if-read_only.true ∙ c.read_only-read_only.ensures ∙ written))

pub returns-clause-ends : goal.returns-clause-ends
returns-clause-ends g c =
    let e = c.finish-pages.ensures in
    ends_with _ IsDueOf check_pages_of c.args.self.volume _ c.finish-pages.result.1
    (record { goes_on = e.goes_on; stopped = e.stopped; read_only = e.read_only; replies_are = e.replies; power = e.power; read_only_done = e.read_only_done; done = e.done; tree = e.tree; cause = e.cause; exact = e.exact })
    (sym c.read_only-read_only.ensures ∙ c.if-read_only.false) _ _ _ c.end_with-device.ensures.ends c.end_with-device.ensures.costs c.into_inner-2.ensures.state

pub returns-clause-leaves : goal.returns-clause-leaves
returns-clause-leaves g c = λ written done.
    let e = c.finish-pages.ensures in
    leaves_one _ IsDueOf check_pages_of c.args.self.volume _ c.finish-pages.result.1
    (record { goes_on = e.goes_on; stopped = e.stopped; read_only = e.read_only; replies_are = e.replies; power = e.power; read_only_done = e.read_only_done; done = e.done; tree = e.tree; cause = e.cause; exact = e.exact })
    (sym c.read_only-read_only.ensures ∙ c.if-read_only.false) _ _ _ c.end_with-device.ensures.ends c.end_with-device.ensures.costs c.into_inner-2.ensures.state done
