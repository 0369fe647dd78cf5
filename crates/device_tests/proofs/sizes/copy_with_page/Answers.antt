use Rattle.std.proofs.Common.{◌∙◌, ap}
use Rattle.std.proofs.lemmas.Result.{IfOk-at_ok}
use Rattle.device_tests.proofs.sizes.copy_with_page.Goals as goal

pub program-requires-clause-good : goal.program-requires-clause-good
program-requires-clause-good g c =
    let blank = IfOk-at_ok _ c.expect-nand.ensures c.new-2.ensures.blank in
    ap (λ f. f 4) c.erase.ensures.erases.bad ∙ blank.good 4
