use Rattle.std.proofs.Common.{◌∙◌, ap}
use Rattle.nand_model.specs.Calls.{Device}
use Rattle.powercut.proofs.power.power_on.Goals as goal

pub returns-in-None-clause-nexts : goal.returns-in-None-clause-nexts
returns-in-None-clause-nexts c = λ b. ap (λ (d : Device). d.flash.next b) c.with_failures-nand.ensures.device ∙ c.power_up.ensures.power.nexts b

pub returns-in-Some-clause-nexts : goal.returns-in-Some-clause-nexts
returns-in-Some-clause-nexts c = λ b.
    ap (λ (d : Device). d.flash.next b) c.with_fuse.ensures.device ∙ ap (λ (d : Device). d.flash.next b) c.with_failures-nand.ensures.device ∙ c.power_up.ensures.power.nexts b
