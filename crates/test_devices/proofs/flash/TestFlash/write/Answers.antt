use Rattle.std.proofs.Common.{ℕ, Bool, sym, ap, ◌∙◌}
use Rattle.std.proofs.lemmas.Result.{MatchResult-weaker}
use Rattle.test_devices.specs.Shown.{device_of}
use Rattle.test_devices.proofs.Followed.{explained_before}
use Rattle.test_devices.proofs.flash.TestFlash.write.Goals as goal

pub program-requires-clause-good : goal.program-requires-clause-good
program-requires-clause-good c = ap (λ (bad : ℕ → Bool). bad c.args.block) c.in_ok-page.ensures.bad ∙ sym c.if-is_bad.ensures

pub returns-clause-fault : goal.returns-clause-fault
returns-clause-fault c = MatchResult-weaker c.program.result c.program.ensures.fault (λ x is. is)
    (λ fault is. explained_before c.args.block (device_of c.args.self.now) (device_of c.next_page.new.self) (device_of c.program.new.self) fault c.in_ok-page.ensures.geometry c.in_ok-page.ensures.bad c.in_ok-page.ensures.failures is)
