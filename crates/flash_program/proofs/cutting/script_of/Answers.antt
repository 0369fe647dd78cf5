use Rattle.std.proofs.Common.{refl}
use Rattle.std.proofs.lemmas.Result.{err_from_is_err_and}
use Rattle.flash_program.proofs.cutting.script_of.Goals as goal

pub returns-in_err-read_script : goal.returns-in_err-read_script
returns-in_err-read_script g c =
    let p = err_from_is_err_and c.from_residual.result c.from_residual.ensures.1 in
    rw (p.1, p.2) (c.in_err-read_script.field-0.0, c.in_err-read_script.ensures, refl)
