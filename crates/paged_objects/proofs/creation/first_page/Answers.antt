use Rattle.paged_objects.proofs.Results.{on_ok}
use Rattle.paged_objects.proofs.creation.first_page.Goals as goal

pub returns-in-File-clause-holds : goal.returns-in-File-clause-holds
returns-in-File-clause-holds g c = λ z m size other none.
    rw c.in-File.is (on_ok _ _ c.create.result (λ page reads there. record { reads = reads there; only = λ k some absent. none k some }) (c.create.ensures.reads z m size))
