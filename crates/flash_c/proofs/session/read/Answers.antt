use Rattle.std.proofs.Common.{◌∙◌, w32, w64}
use Rattle.std.proofs.lemmas.Int.{to_z-of_z}
use Rattle.object_commands.specs.Reads.{read_reply}
use Rattle.flash_c.proofs.DataBytes.{number_read, data_read}
use Rattle.flash_c.proofs.session.read.Goals as goal

pub returns-in-Ok : goal.returns-in-Ok
returns-in-Ok c =
    let e = rw c.in-Ok.is at c.read_into.ensures in (
      read_reply c.read_into.new.buffer (Rattle.std.specs.Prelude.Ok c.in-Ok.count),
      e.served,
      to_z-of_z w64 c.signed.result (search (c.signed.type_inv)) ∙ c.signed.ensures ∙ number_read c.args.buffer.now c.read_into.new.buffer c.in-Ok.count e.rest.0 e.size,
      data_read c.args.buffer.now c.read_into.new.buffer c.in-Ok.count e.rest.0 e.size e.rest.1,
    )

pub returns-in-Err : goal.returns-in-Err
returns-in-Err c =
    let e = rw c.in-Err.is at c.read_into.ensures in (
      read_reply c.read_into.new.buffer (Rattle.std.specs.Prelude.Err c.in-Err.error),
      e.served,
      to_z-of_z w64 c.from.result (search (c.from.type_inv)) ∙ c.from.ensures ∙ to_z-of_z w32 c.error_number.result (search (c.error_number.type_inv)) ∙ c.error_number.ensures.number,
      (e.size, e.rest),
    )
