use Rattle.std.specs.Prelude.{◌≡◌}
use Rattle.std.proofs.Common.{arith, subst}
use Rattle.posix_calls.specs.Closing.{Closes}
use Rattle.posix_calls.proofs.Closed.{closes_next, closes_none}
use Rattle.posix_calls.proofs.page_volume.PageVolume.close_all.Goals as goal

pub loop-fd-init : goal.loop-fd-init
loop-fd-init g c = closes_none g.P.Pages.state c.args.self.now c.requires.goes_on

pub loop-fd-preserved : goal.loop-fd-preserved
loop-fd-preserved g c = closes_next g.P.Pages.state c.loop-fd.fd c.args.self.now c.close.new.self (c.close.ensures c.args.self.now c.loop-fd.invariant)

pub returns-clause-closes : goal.returns-clause-closes
returns-clause-closes g c =
    let end : c.loop-fd.fd ≡ 64 = omega (arith, c.loop-fd-test.false, c.loop-fd.auto.fd-end) in
    subst (λ n. Closes g.P.Pages.state n c.args.self.now c.loop-fd.self) end c.loop-fd.invariant
