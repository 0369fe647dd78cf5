use Rattle.std.proofs.Common.{◌≡◌, ◌≤◌, ◌+◌, ◌∙◌, ℕ, Some, slice_get, refl, sym, ap, subst, arith}
use Rattle.std.proofs.lemmas.Option.{slice_get-get_or}
use Rattle.std.proofs.lemmas.Result.{err_from_is_err_and}
use Rattle.flash_tree.specs.Mount.{Stops, Finds}
use Rattle.pages.specs.Maps.{has}
use Rattle.pages.specs.State.{PagesState}
use Rattle.tree_walk.specs.Hashes.{CoversHeads}
use Rattle.tree_walk.specs.Broken.{StopsAt, wrong_of}
use Rattle.tree_walk.specs.Walks.{Visits, Knows, IsGoing, StopsOn, pages_before}
use Rattle.tree_walk.proofs.Counting.{pages_more}
use Rattle.tree_walk.proofs.Going.{goes_on}
use Rattle.tree_walk.proofs.Hashing.{covers_visited}
use Rattle.tree_walk.proofs.Seeing.{page_size, single}
use Rattle.tree_walk.proofs.Reporting.{reports_as, result_lacks_memory, when_done}
use Rattle.tree_walk.proofs.walking.WalkState.step.Goals as goal

pub returns-in_err-visited-clause-stops : goal.returns-in_err-visited-clause-stops
returns-in_err-visited-clause-stops g c = λ z seen.
    let old : PagesState = g.P.Pages.state c.args.pages.now in
    let list = c.args.self.now.objects.items in
    let object : ℕ = c.index-object.result.now in
    let at : slice_get list c.args.place ≡ Some object = slice_get-get_or list c.args.place object c.requires.within ∙ ap Some (sym c.index-object.ensures) in
    let p = err_from_is_err_and c.from_residual.result c.from_residual.ensures.1 in
    rw (p.1, p.2) (reports_as (StopsAt z (has old.present) object) (StopsOn z (has old.present) c.args.self.now c.args.place)
    (λ b stops. (at ∙ ap Some (sym stops.0), (refl, stops.1, subst (λ o. Finds z (has old.present) o (Stops (wrong_of b.rule))) (sym stops.0) stops.2))) (g.P.Pages.state c.visit.new.pages) _ (c.in_err-visited.ensures.stops z seen))

pub returns-clause-knows : goal.returns-clause-knows
returns-clause-knows g c = when_done (Visits c.index-object.result.now c.in_ok-visited.visited c.args.self.now c.take.new.self) (Knows c.take.new.self) c.take.result (λ t. t.knows) c.take.ensures.takes

pub returns-clause-goes : goal.returns-clause-goes
returns-clause-goes g c = λ z seen going.
    let old : PagesState = g.P.Pages.state c.args.pages.now in
    let list = c.args.self.now.objects.items in
    let object : ℕ = c.index-object.result.now in
    let at : slice_get list c.args.place ≡ Some object = slice_get-get_or list c.args.place object c.requires.within ∙ ap Some (sym c.index-object.ensures) in
    let sized = g.met.P.Pages.sized c.args.pages.now in
    let size = page_size z old sized.0 sized.1 seen in
    when_done (Visits object c.in_ok-visited.visited c.args.self.now c.take.new.self) (IsGoing z (has old.present) (c.args.place + 1) c.take.new.self) c.take.result
    (λ t. goes_on z size (has old.present) (single old.present) c.args.place object c.args.self.now c.in_ok-visited.visited c.take.new.self going at (c.in_ok-visited.ensures.leads z seen) t) c.take.ensures.takes

pub returns-clause-issued : goal.returns-clause-issued
returns-clause-issued g c = λ z seen going.
    let old : PagesState = g.P.Pages.state c.args.pages.now in
    let new : PagesState = g.P.Pages.state c.visit.new.pages in
    let was = c.args.self.now in
    let list = was.objects.items in
    let object : ℕ = c.index-object.result.now in
    let visited = c.in_ok-visited.visited in
    let at : slice_get list c.args.place ≡ Some object = slice_get-get_or list c.args.place object c.requires.within ∙ ap Some (sym c.index-object.ensures) in
    let within_limit = c.in_ok-visited.ensures.issued z seen.size in
    when_done (Visits object visited was c.take.new.self) (new.issued + pages_before z was c.args.place ≤ old.issued + pages_before z c.take.new.self (c.args.place + 1)) c.take.result
    (λ t. let more = pages_more z c.args.place object was visited c.take.new.self going.once at t in omega (arith, more, within_limit)) c.take.ensures.takes

pub returns-clause-stops : goal.returns-clause-stops
returns-clause-stops g c = λ z seen. result_lacks_memory (StopsOn z (has (g.P.Pages.state c.args.pages.now).present) c.args.self.now c.args.place) (g.P.Pages.state c.visit.new.pages) c.take.result c.take.ensures.why

pub returns-clause-why : goal.returns-clause-why
returns-clause-why g c = result_lacks_memory (λ broken. Unit {0}) (g.P.Pages.state c.visit.new.pages) c.take.result c.take.ensures.why

pub returns-clause-hashes : goal.returns-clause-hashes
returns-clause-hashes g c = λ z seen covered.
    let old : PagesState = g.P.Pages.state c.args.pages.now in
    let object : ℕ = c.index-object.result.now in
    when_done (Visits object c.in_ok-visited.visited c.args.self.now c.take.new.self) (CoversHeads c.visit.new.names z old.present c.take.new.self.heads) c.take.result
    (λ t. covers_visited z old.present object c.in_ok-visited.visited c.args.self.now c.take.new.self c.args.names.now c.visit.new.names c.in_ok-visited.ensures.keeps (c.in_ok-visited.ensures.hashes z seen) covered t) c.take.ensures.takes
