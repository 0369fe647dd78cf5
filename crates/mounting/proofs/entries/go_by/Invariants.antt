use Rattle.mounting.proofs.entries.go_by.Given as goal

abbrev pub ghost-go_through : goal.ghost-go_through
ghost-go_through g a = g.reported

abbrev pub ghost-new : goal.ghost-new
ghost-new g a = g.reported
