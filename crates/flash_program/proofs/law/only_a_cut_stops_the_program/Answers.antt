use Rattle.flash_program.proofs.Stopping.{only_a_cut_stops}
use Rattle.flash_program.proofs.law.only_a_cut_stops_the_program.Goals as goal

pub returns : goal.returns
returns g c = only_a_cut_stops _ c.a_flash_has_one_answer_at_most.ensures
