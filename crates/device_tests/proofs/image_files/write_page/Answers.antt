use Rattle.std.proofs.Common.{◌≡◌, ℕ, Bool, false, ap, sym, ◌∙◌, rules}
use Rattle.device_tests.proofs.image_files.write_page.Goals as goal

pub program-requires-clause-good : goal.program-requires-clause-good
program-requires-clause-good g c =
    let not_bad : c.is_bad.result ≡ false = search rules in
    ap (λ (f : ℕ → Bool). f 1) c.erase.ensures.erases.bad ∙ sym c.is_bad.ensures ∙ not_bad
