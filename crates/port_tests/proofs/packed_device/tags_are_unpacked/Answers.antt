use Rattle.std.proofs.Common.{◌≡◌, ℕ, Bool, Option, Some, false, ap, ◌∙◌}
use Rattle.nand_model.specs.Calls.{Device}
use Rattle.port_tests.proofs.packed_device.tags_are_unpacked.Goals as goal

pub program-requires-clause-good : goal.program-requires-clause-good
program-requires-clause-good g c =
    ap (λ (bad : ℕ → Bool). bad 1) (c.read_tag.ensures.reads.bad ∙ c.erase.ensures.erases.bad)
    ∙ ap (λ (d : Device). d.flash.bad 1) c.new-device.ensures.state ∙ c.in_ok-inner.ensures.blank.good 1

pub program-requires-clause-next : goal.program-requires-clause-next
program-requires-clause-next g c = ap (λ (next : ℕ → Option ℕ). next 1) c.read_tag.ensures.reads.next ∙ c.in_ok-erase.ensures.erases.next

pub program-requires-2-clause-good : goal.program-requires-2-clause-good
program-requires-2-clause-good g c =
    ap (λ (bad : ℕ → Bool). bad 1) (c.read_page.ensures.reads.bad ∙ c.program.ensures.programs.bad ∙ c.read_tag.ensures.reads.bad ∙ c.erase.ensures.erases.bad)
    ∙ ap (λ (d : Device). d.flash.bad 1) c.new-device.ensures.state ∙ c.in_ok-inner.ensures.blank.good 1

pub program-requires-2-clause-next : goal.program-requires-2-clause-next
program-requires-2-clause-next g c = ap (λ (next : ℕ → Option ℕ). next 1) c.read_page.ensures.reads.next ∙ c.in_ok-program.ensures.programs.next

pub program-requires-3-clause-good : goal.program-requires-3-clause-good
program-requires-3-clause-good g c =
    ap (λ (bad : ℕ → Bool). bad 1) (
    c.erase-2.ensures.erases.bad ∙ c.read_tag-2.ensures.reads.bad ∙ c.program-2.ensures.programs.bad ∙ c.read_page.ensures.reads.bad
    ∙ c.program.ensures.programs.bad ∙ c.read_tag.ensures.reads.bad ∙ c.erase.ensures.erases.bad
    )
    ∙ ap (λ (d : Device). d.flash.bad 1) c.new-device.ensures.state ∙ c.in_ok-inner.ensures.blank.good 1
