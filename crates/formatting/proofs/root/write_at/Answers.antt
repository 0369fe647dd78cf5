use Rattle.std.proofs.Common.{Err, subst}
use Rattle.nand_model.specs.Calls.{Device, ProgramEnds}
use Rattle.formatting.proofs.Marking.{marks_one}
use Rattle.formatting.proofs.root.write_at.Goals as goal

pub returns-in_ok-mark_bad-in-Err-Failed-clause-each_failure_marks : goal.returns-in_ok-mark_bad-in-Err-Failed-clause-each_failure_marks
returns-in_ok-mark_bad-in-Err-Failed-clause-each_failure_marks g c =
    let old : Device = g.N.Nand.state c.args.device.now in
    let mid : Device = g.N.Nand.state c.program.new.self in
    let fails = subst (λ fault. ProgramEnds old mid (Err fault)) c.in-Err-Failed.field-0-is c.in-Err-Failed.ensures.programs.ends in
    marks_one c.args.block old mid (g.N.Nand.state c.mark_bad.new.self) _ c.requires.block c.requires.good c.in-Err-Failed.ensures.programs.bad fails.failures
    c.in_ok-mark_bad-in-Err-Failed.ensures.marks
