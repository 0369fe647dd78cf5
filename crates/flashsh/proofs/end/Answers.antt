use Rattle.flashsh.proofs.end.Goals as goal

pub returns : goal.returns
returns c = (c.perform_between_streams-ended.result, c.report.ensures.status, c.perform_between_streams-ended.ensures)
