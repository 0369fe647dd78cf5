use Rattle.std.proofs.Common.{◌∙◌, List, ℕ, IsSome, IsNone, sym, ap, subst}
use Rattle.std.proofs.lemmas.Result.{err_from_is_err_and}
use Rattle.page_tags.specs.Headers.{is_present}
use Rattle.flash_tree.specs.Mount.{Leads, Finds}
use Rattle.name_index.specs.Covering.{HasHashes}
use Rattle.pages.specs.Maps.{PageMap, has}
use Rattle.pages.specs.State.{PagesState}
use Rattle.tree_walk.specs.Broken.{IsBrokenIn, StopsAt}
use Rattle.tree_walk.specs.SlotLists.{NamesFrom}
use Rattle.tree_walk.proofs.Reporting.{reports_as}
use Rattle.tree_walk.proofs.Visiting.{file_there, file_lacks, directory_there, directory_lacks}
use Rattle.tree_walk.proofs.object.visit.Goals as goal

pub returns-in_err-head-clause-stops : goal.returns-in_err-head-clause-stops
returns-in_err-head-clause-stops g c = λ z seen.
    let p = err_from_is_err_and c.from_residual.result c.from_residual.ensures.1 in
    rw (p.1, p.2) (c.in_err-head.ensures.stops seen.sound z seen.size)

pub returns-in-Some-clause-stops : goal.returns-in-Some-clause-stops
returns-in-Some-clause-stops g c = λ z seen.
    let old : PagesState = g.P.Pages.state c.args.pages.now in
    let lookups = c.read_head.ensures.lookups in
    let lacks = c.in-Some.ensures.lacks (lookups.sound ∙ seen.sound) in
    file_lacks z old c.args.object c.in_ok-head.head (c.in_ok-head.ensures.reported seen.sound z seen.size) c.in-File.is c.in-Some.chunk lacks.0
    (ap (λ (bs : List ℕ). is_present bs c.in-Some.chunk) (sym c.deref.ensures.value) ∙ lacks.1) (subst (λ (m : PageMap). IsNone (m c.args.object c.in-Some.chunk)) lookups.present lacks.2)

pub returns-in_err-named-in-Directory-clause-stops : goal.returns-in_err-named-in-Directory-clause-stops
returns-in_err-named-in-Directory-clause-stops g c = λ z seen.
    let old : PagesState = g.P.Pages.state c.args.pages.now in
    let mid : PagesState = g.P.Pages.state c.read_head.new.pages in
    let lookups = c.read_head.ensures.lookups in
    let says = c.in_ok-head.ensures.reported seen.sound z seen.size in
    let p = err_from_is_err_and c.from_residual-in_err-named-in-Directory.result c.from_residual-in_err-named-in-Directory.ensures.1 in
    rw (p.1, p.2) (reports_as (IsBrokenIn z mid.present c.args.object c.in_ok-head.head.length) (StopsAt z (has old.present) c.args.object)
    (λ broken lacks. directory_lacks z old c.args.object c.in_ok-head.head says c.in-Directory.is broken
    (subst (λ (m : PageMap). IsBrokenIn z m c.args.object c.in_ok-head.head.length broken) lookups.present lacks))
    (g.P.Pages.state c.read_slots.new.pages) _ (c.in_err-named-in-Directory.ensures.fault (lookups.sound ∙ seen.sound) z (seen.size ∙ sym lookups.page_bytes)))

pub returns-in_default-clause-leads : goal.returns-in_default-clause-leads
returns-in_default-clause-leads g c = λ z seen.
    let old : PagesState = g.P.Pages.state c.args.pages.now in
    let lookups = c.read_head.ensures.lookups in
    let says = c.in_ok-head.ensures.reported seen.sound z seen.size in
    let leads = file_there z old c.args.object c.in_ok-head.head says c.in-File.is
    (λ n from present. subst (λ (m : PageMap). IsSome (m c.args.object n)) lookups.present
    (c.in_default.ensures.all (lookups.sound ∙ seen.sound) n from (ap (λ (bs : List ℕ). is_present bs n) c.deref.ensures.value ∙ present))) in
    record { head = says; leads = subst (λ (xs : List ℕ). Finds z (has old.present) c.args.object (Leads xs)) (sym c.new.ensures.items) leads }

pub returns-in_ok-named-in-Directory-clause-leads : goal.returns-in_ok-named-in-Directory-clause-leads
returns-in_ok-named-in-Directory-clause-leads g c = λ z seen.
    let old : PagesState = g.P.Pages.state c.args.pages.now in
    let lookups = c.read_head.ensures.lookups in
    let says = c.in_ok-head.ensures.reported seen.sound z seen.size in
    let named : List ℕ = c.in_ok-named-in-Directory.named.items in
    let reported = c.in_ok-named-in-Directory.ensures.reported (lookups.sound ∙ seen.sound) z (seen.size ∙ sym lookups.page_bytes) in
    let from = subst (λ (m : PageMap). NamesFrom z m c.args.object c.in_ok-head.head.length named) lookups.present reported in
    record { head = says; leads = directory_there z old c.args.object c.in_ok-head.head says c.in-Directory.is named from }

pub returns-in_ok-named-in-Directory-clause-hashes : goal.returns-in_ok-named-in-Directory-clause-hashes
returns-in_ok-named-in-Directory-clause-hashes g c = λ z seen kind.
    let lookups = c.read_head.ensures.lookups in
    subst (λ (m : PageMap). HasHashes c.read_slots.new.names z m c.args.object c.in_ok-head.head.length) lookups.present
    (c.in_ok-named-in-Directory.ensures.hashes (lookups.sound ∙ seen.sound) z (seen.size ∙ sym lookups.page_bytes))
