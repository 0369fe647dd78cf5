use Rattle.std.proofs.Common.{◌∙◌, ap}
use Rattle.std.proofs.lemmas.Result.{err_from_is_err_and}
use Rattle.std.specs.FinMap as map
use Rattle.posix_profile.specs.State.{Entries}
use Rattle.directories.proofs.listing.names.Goals as goal

pub returns-in_err-entries-clause-fault : goal.returns-in_err-entries-clause-fault
returns-in_err-entries-clause-fault g c = λ z moment entries d.
    let p = err_from_is_err_and c.from_residual.result c.from_residual.ensures.1 in
    rw (p.1, p.2) (c.in_err-entries.ensures.fault z moment entries d)

pub returns-clause-found : goal.returns-clause-found
returns-clause-found g c = λ z moment entries d. c.in_ok-names.ensures ∙ ap (λ (m : Entries). map.keys m) (c.in_ok-entries.ensures.found z moment entries d)

pub returns-clause-reported : goal.returns-clause-reported
returns-clause-reported g c = λ sound z size.
    let t = c.in_ok-entries.ensures.reported sound z size in
    (t.0, c.in_ok-entries.entries, t.1, c.in_ok-names.ensures)
