use Rattle.std.proofs.Common.{refl}
use Rattle.std.specs.Str.Parse.{ParsesUnsigned, ExplainsUnsignedError, HasUnsignedDigitsIfOk}
use Rattle.clap.specs.Words.{found_of, one_text}
use Rattle.flash_program.proofs.Reading.{number_read}
use Rattle.flash_program.proofs.choosing.number_in.Goals as goal

pub returns : goal.returns
returns c =
    number_read 32 (λ bs r. ParsesUnsigned 32 10 bs r × ExplainsUnsignedError 10 bs r × HasUnsignedDigitsIfOk bs r) (found_of c.args.matches.now) c.args.name.now
    (one_text (found_of c.args.matches.now) c.args.name.now) c.get_one.result (λ text r h. h.0) refl c.get_one.ensures.none c.get_one.ensures.value
