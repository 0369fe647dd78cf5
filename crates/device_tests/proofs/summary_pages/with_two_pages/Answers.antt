use Rattle.std.proofs.Common.{ℕ, Bool, ap, ◌∙◌}
use Rattle.device_tests.proofs.summary_pages.with_two_pages.Goals as goal

pub returns-clause-good : goal.returns-clause-good
returns-clause-good c = ap (λ (bad : ℕ → Bool). bad 1) c.in_ok-program.ensures.programs.bad ∙ c.in_ok-nand.ensures.good
