use Rattle.std.proofs.Common.{◌∙◌, sym, subst}
use Rattle.std.proofs.lemmas.Result.{err_from_is_err_and}
use Rattle.name_index.specs.Hashes.{fnv1a}
use Rattle.name_index.specs.Names.{Holds}
use Rattle.pages.specs.Maps.{PageMap}
use Rattle.pages.specs.State.{PagesState}
use Rattle.pages.specs.laws.Faults.{lacks_on, says_on}
use Rattle.directories.specs.Directories.{SlotOf}
use Rattle.directories.specs.Named.{FindsHeld}
use Rattle.directories.proofs.Sought.{sought_in}
use Rattle.directories.proofs.Reported.{sound_on, size_on, are_on}
use Rattle.directories.proofs.seeking.seek.Goals as goal

pub returns-in_err-found-clause-fault : goal.returns-in_err-found-clause-fault
returns-in_err-found-clause-fault g c = λ z moment entries d.
    let old : PagesState = g.P.Pages.state c.args.pages.now in
    let mid : PagesState = g.P.Pages.state c.read_head.new.pages in
    let lookups = c.read_head.ensures.lookups in
    let s = c.in_ok-head.ensures.reported d.sound in
    let sized = g.met.P.Pages.sized c.args.pages.now in
    let r = err_from_is_err_and c.from_residual-in_err-found.result c.from_residual-in_err-found.ensures.1 in
    rw (r.1, r.2) (lacks_on old mid (g.P.Pages.state c.search_held.new.pages) _ lookups.refused (c.in_err-found.ensures.fault (sound_on old mid lookups z c.args.directory moment entries d sized c.in_ok-head.head s) z (size_on old mid lookups z c.args.directory moment entries d sized c.in_ok-head.head s)
    (are_on old mid lookups z c.args.directory moment entries d sized c.in_ok-head.head s)))

pub returns-in_err-found-clause-why : goal.returns-in_err-found-clause-why
returns-in_err-found-clause-why g c =
    let r = err_from_is_err_and c.from_residual-in_err-found.result c.from_residual-in_err-found.ensures.1 in
    rw (r.1, r.2) (says_on (g.P.Pages.state c.args.pages.now) (g.P.Pages.state c.read_head.new.pages) (g.P.Pages.state c.search_held.new.pages) _ c.read_head.ensures.lookups.refused c.in_err-found.ensures.why)

pub returns-clause-reported : goal.returns-clause-reported
returns-clause-reported g c = λ sound z size.
    let lookups = c.read_head.ensures.lookups in (
      c.in_ok-head.ensures.reported sound,
      subst (λ (m : PageMap). FindsHeld (Holds c.args.names.now c.args.directory (fnv1a c.args.name.now)) (SlotOf z m c.args.directory) c.in_ok-head.head.length c.args.name.now c.in_ok-found.found) lookups.present
          (c.in_ok-found.ensures.reported (lookups.sound ∙ sound) z (size ∙ sym lookups.page_bytes)),
    )

pub returns-clause-sought : goal.returns-clause-sought
returns-clause-sought g c = λ z moment entries d.
    let old : PagesState = g.P.Pages.state c.args.pages.now in
    let sized = g.met.P.Pages.sized c.args.pages.now in
    let t = returns-clause-reported g c d.sound z d.size in
    sought_in c.args.names.now old z c.args.directory moment entries d sized c.in_ok-head.head t.0 c.args.name.now c.in_ok-found.found t.1
