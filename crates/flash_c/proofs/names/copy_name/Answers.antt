use Rattle.flash_c.proofs.NameBytes.{with_name}
use Rattle.flash_c.proofs.names.copy_name.Goals as goal

pub returns : goal.returns
returns c = with_name c.args.buffer.now c.args.name.now c.copy_from_slice.new.self c.args.at c.copy_from_slice.ensures.after c.requires
