use Rattle.std.proofs.Common.{◌≡◌, ◌∙◌, Option, Some, None, ap, subst, sym}
use Rattle.std.proofs.lemmas.Result.{err_from_is_err_and}
use Rattle.std.specs.FinMap as map
use Rattle.name_index.specs.Hashes.{fnv1a}
use Rattle.name_index.specs.Names.{Holds}
use Rattle.pages.specs.State.{PagesState}
use Rattle.pages.specs.laws.State.{finds_none}
use Rattle.directories.specs.Directories.{SlotOf}
use Rattle.directories.specs.Named.{FindsHeld}
use Rattle.directories.specs.declared.lookup.Located.{Located}
use Rattle.directories.proofs.Lists.{leads}
use Rattle.directories.proofs.Sought.{dir, sought_in}
use Rattle.directories.proofs.Reported.{are_on, head_of, head_reported, few_counted}
use Rattle.directories.proofs.finding.find.Goals as goal

pub returns-in_err-found-clause-fault : goal.returns-in_err-found-clause-fault
returns-in_err-found-clause-fault g c = λ z moment entries d is.
    let p : PagesState = g.P.Pages.state c.args.pages.now in
    let sized = g.met.P.Pages.sized c.args.pages.now in
    let slots : c.slots_of.result ≡ c.args.count = c.slots_of.ensures (few_counted p z c.args.directory moment entries d c.args.count is) in
    let there = are_on p p (finds_none p) z c.args.directory moment entries d sized (head_of p z c.args.directory moment entries d c.args.count is) (head_reported p z c.args.directory moment entries d c.args.count is) in
    let r = err_from_is_err_and c.from_residual.result c.from_residual.ensures.1 in
    rw (r.1, r.2) (c.in_err-found.ensures.fault d.sound z d.size (rw slots there))

pub returns-in-Some-clause-found : goal.returns-in-Some-clause-found
returns-in-Some-clause-found g c = λ z moment entries d is.
    let p : PagesState = g.P.Pages.state c.args.pages.now in
    let o = c.args.directory in
    let sized = g.met.P.Pages.sized c.args.pages.now in
    let within_limit = few_counted p z o moment entries (dir c.args.names.now p z o moment entries d) c.args.count is in
    let head = head_of p z o moment entries (dir c.args.names.now p z o moment entries d) c.args.count is in
    let says = head_reported p z o moment entries (dir c.args.names.now p z o moment entries d) c.args.count is in
    let reported : FindsHeld (Holds c.args.names.now o (fnv1a c.args.name.now)) (SlotOf z p.present o) c.args.count c.args.name.now (Some c.in-Some.found) =
    subst (λ (x : Option Located). FindsHeld (Holds c.args.names.now o (fnv1a c.args.name.now)) (SlotOf z p.present o) c.args.count c.args.name.now x) c.in-Some.is
    (subst (λ n. FindsHeld (Holds c.args.names.now o (fnv1a c.args.name.now)) (SlotOf z p.present o) n c.args.name.now c.in_ok-found.found) (c.slots_of.ensures within_limit) (c.in_ok-found.ensures.reported d.sound z d.size)) in
    let f = (sought_in c.args.names.now p z o moment entries d sized head says c.args.name.now (Some c.in-Some.found) reported).found in
    ap Some f.3 ∙ sym (leads d.reads.slots d.reads.once entries d.reads.entries_are c.in-Some.found.place f.0 f.1) ∙ ap (map.get entries) f.2

pub returns-in-None-clause-found : goal.returns-in-None-clause-found
returns-in-None-clause-found g c = λ z moment entries d is.
    let p : PagesState = g.P.Pages.state c.args.pages.now in
    let o = c.args.directory in
    let sized = g.met.P.Pages.sized c.args.pages.now in
    let within_limit = few_counted p z o moment entries (dir c.args.names.now p z o moment entries d) c.args.count is in
    let head = head_of p z o moment entries (dir c.args.names.now p z o moment entries d) c.args.count is in
    let says = head_reported p z o moment entries (dir c.args.names.now p z o moment entries d) c.args.count is in
    let reported : FindsHeld (Holds c.args.names.now o (fnv1a c.args.name.now)) (SlotOf z p.present o) c.args.count c.args.name.now None =
    subst (λ (x : Option Located). FindsHeld (Holds c.args.names.now o (fnv1a c.args.name.now)) (SlotOf z p.present o) c.args.count c.args.name.now x) c.in-None.is
    (subst (λ n. FindsHeld (Holds c.args.names.now o (fnv1a c.args.name.now)) (SlotOf z p.present o) n c.args.name.now c.in_ok-found.found) (c.slots_of.ensures within_limit) (c.in_ok-found.ensures.reported d.sound z d.size)) in
    sym (sought_in c.args.names.now p z o moment entries d sized head says c.args.name.now None reported).found

pub returns-in-Some-clause-reported : goal.returns-in-Some-clause-reported
returns-in-Some-clause-reported g c = λ within_limit sound z size.
    let p : PagesState = g.P.Pages.state c.args.pages.now in
    let o = c.args.directory in
    let is : FindsHeld (Holds c.args.names.now o (fnv1a c.args.name.now)) (SlotOf z p.present o) c.args.count c.args.name.now (Some c.in-Some.found) =
    subst (λ (x : Option Located). FindsHeld (Holds c.args.names.now o (fnv1a c.args.name.now)) (SlotOf z p.present o) c.args.count c.args.name.now x) c.in-Some.is
    (subst (λ n. FindsHeld (Holds c.args.names.now o (fnv1a c.args.name.now)) (SlotOf z p.present o) n c.args.name.now c.in_ok-found.found) (c.slots_of.ensures within_limit) (c.in_ok-found.ensures.reported sound z size)) in
    (c.in-Some.found.place, is.most, (is.entry, is.there, is.name_is, is.object_is))

pub returns-in-None-clause-reported : goal.returns-in-None-clause-reported
returns-in-None-clause-reported g c = λ within_limit sound z size.
    let p : PagesState = g.P.Pages.state c.args.pages.now in
    let o = c.args.directory in
    subst (λ (x : Option Located). FindsHeld (Holds c.args.names.now o (fnv1a c.args.name.now)) (SlotOf z p.present o) c.args.count c.args.name.now x) c.in-None.is
    (subst (λ n. FindsHeld (Holds c.args.names.now o (fnv1a c.args.name.now)) (SlotOf z p.present o) n c.args.name.now c.in_ok-found.found) (c.slots_of.ensures within_limit) (c.in_ok-found.ensures.reported sound z size))
