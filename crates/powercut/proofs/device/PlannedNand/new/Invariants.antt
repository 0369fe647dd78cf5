use Rattle.powercut.proofs.device.PlannedNand.new.Given as goal

abbrev pub ghost-as_reported : goal.ghost-as_reported
ghost-as_reported g a = g.reported
