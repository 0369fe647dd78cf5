use Rattle.mounting.proofs.reading.go_through.Given as goal

abbrev pub ghost-new : goal.ghost-new
ghost-new g a = g.reported
