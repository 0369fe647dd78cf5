use Rattle.std.proofs.Common.{refl}
use Rattle.flash_program.proofs.acting.act.Goals as goal

pub returns-in-Format : goal.returns-in-Format
returns-in-Format g c = rw c.in-Format.is (c.make_image.ensures, refl)

pub returns-in-Cut : goal.returns-in-Cut
returns-in-Cut g c = rw c.in-Cut.is c.cut_image.ensures
