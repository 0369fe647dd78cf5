use Rattle.flash_log.proofs.log.Log.new.Given as goal

abbrev pub ghost-as_chosen : goal.ghost-as_chosen
ghost-as_chosen g a = g.first
