use Rattle.nand_model.specs.Calls.{Device}
use Rattle.formatting.proofs.Keeping.{all_bad}
use Rattle.formatting.proofs.formatting.lay_out.Goals as goal

pub returns-in-Failed-clause-fault : goal.returns-in-Failed-clause-fault
returns-in-Failed-clause-fault g c =
    let old : Device = g.N.Nand.state c.args.device.now in
    let mid : Device = g.N.Nand.state c.clear_all.new.device in
    let new : Device = g.N.Nand.state c.write_first.new.device in
    all_bad old mid new c.args.spare c.requires.room c.clear_all.ensures.keeps c.write_first.ensures.keeps (c.in_ok-write_first.ensures.worn c.in-Failed.is)
