use Rattle.std.proofs.Common.{inl, inr, refl}
use Rattle.std.proofs.lemmas.Result.{err_from_is_err_and}
use Rattle.flash_program.proofs.checking.check_image.Goals as goal

pub returns-in_err-device : goal.returns-in_err-device
returns-in_err-device g c =
    let p = err_from_is_err_and c.from_residual.result c.from_residual.ensures.1 in
    rw (p.1, p.2) (inl (c.in_err-device.ensures.fault, refl))

pub returns : goal.returns
returns g c = inr (_, _, c.in_ok-device.ensures.opens, c.check_device-device.ensures)
