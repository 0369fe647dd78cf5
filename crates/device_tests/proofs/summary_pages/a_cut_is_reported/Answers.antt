use Rattle.std.proofs.Common.{ap, ◌∙◌}
use Rattle.nand_model.specs.Calls.{Device}
use Rattle.device_tests.proofs.summary_pages.a_cut_is_reported.Goals as goal

pub read_summary-read-requires-clause-good : goal.read_summary-read-requires-clause-good
read_summary-read-requires-clause-good g c = ap (λ (d : Device). d.flash.bad 1) c.with_fuse-nand.ensures.device ∙ c.in_ok-nand.ensures.good
