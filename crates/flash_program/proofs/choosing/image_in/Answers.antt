use Rattle.std.proofs.Common.{◌∙◌, codes, Some, option_map, sym, ap}
use Rattle.clap.proofs.WalkLemmas.{first_value-rows}
use Rattle.clap.specs.Words.{found_of}
use Rattle.flash_program.proofs.choosing.image_in.Goals as goal

pub returns-in-Ok : goal.returns-in-Ok
returns-in-Ok c =
    sym (first_value-rows (found_of c.args.matches.now) (codes "IMAGE")) ∙ sym c.get_str.ensures
    ∙ ap (option_map (λ s. s.now)) c.in_ok-get_str.was ∙ ap Some (sym c.in-Ok.ensures.ok)
