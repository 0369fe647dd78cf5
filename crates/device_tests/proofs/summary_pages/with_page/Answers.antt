use Rattle.std.proofs.Common.{ℕ, Bool, ap, ◌∙◌}
use Rattle.device_tests.proofs.summary_pages.with_page.Goals as goal

pub program-requires-clause-good : goal.program-requires-clause-good
program-requires-clause-good c = ap (λ (bad : ℕ → Bool). bad 1) c.in_ok-erase.ensures.erases.bad ∙ c.in_ok-nand.ensures.blank.good 1

pub returns-clause-good : goal.returns-clause-good
returns-clause-good c = ap (λ (bad : ℕ → Bool). bad 1) c.in_ok-program.ensures.programs.bad ∙ ap (λ (bad : ℕ → Bool). bad 1) c.in_ok-erase.ensures.erases.bad ∙ c.in_ok-nand.ensures.blank.good 1
