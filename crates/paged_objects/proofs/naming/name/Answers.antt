use Rattle.std.proofs.Common.{◌≡◌, ◌∙◌, ℕ, None, ap, arith}
use Rattle.std.specs.FinMap as map
use Rattle.posix_profile.specs.State.{Name, Entries, IsDirectory}
use Rattle.posix_profile.specs.Changes.{with_name}
use Rattle.pages.specs.Changes.{IsOnlyOf}
use Rattle.pages.specs.Maps.{after_change}
use Rattle.pages.specs.State.{PagesState}
use Rattle.paged_objects.specs.Holding.{HoldsObjects}
use Rattle.paged_objects.specs.laws.Holding.{held_directory, directory_in}
use Rattle.paged_objects.proofs.Entries.{few_entries}
use Rattle.paged_objects.proofs.Growing.{count, named_more}
use Rattle.paged_objects.proofs.Holdings.{entries_are, holds_directory, holds_name}
use Rattle.paged_objects.proofs.Results.{on_ok, on_both, on_err, lacks_memory_only}
use Rattle.paged_objects.proofs.naming.name.Goals as goal

pub returns-in_err-slot-clause-fault : goal.returns-in_err-slot-clause-fault
returns-in_err-slot-clause-fault g c = λ z objects h can absent some. absurd (c.in_err-slot.ensures.fault absent.name some)

pub returns-clause-names : goal.returns-clause-names
returns-clause-names g c = λ z objects h absent.
    let p : PagesState = g.P.Pages.state c.args.pages.now in
    let d : ℕ = c.args.at.directory in
    let dir : IsDirectory objects d = absent.directory in
    let here = directory_in p z objects h d dir in
    let put : Name = c.in_ok-slot.slot.name.now in
    let got : ℕ = c.in_ok-slot.slot.object in
    let name : Name = c.args.at.name.now in
    let none : map.get dir.1 put ≡ None = ap (map.get dir.1) c.in_ok-slot.ensures.name ∙ ap (λ (es : Entries). map.get es name) (entries_are p z objects h d dir) ∙ absent.absent in
    let entries : Entries = map.insert dir.1 put got in
    on_both (λ change. IsOnlyOf change d) _ (λ change. HoldsObjects z (after_change change p.present) (with_name objects c.args.moment d name c.args.number)) c.add.result
    (λ change only adds. holds_name p z objects h d dir (after_change change p.present) c.args.moment put name got c.args.number c.in_ok-slot.ensures.name c.in_ok-slot.ensures.object
    (holds_directory p z objects h d dir change c.args.moment entries only adds.becomes (adds.ends (held_directory p z objects h d dir).only)))
    c.add.ensures.only (c.add.ensures.adds z dir.0 dir.1 here none)

pub returns-clause-fault : goal.returns-clause-fault
returns-clause-fault g c = λ z objects h can absent some.
    let p : PagesState = g.P.Pages.state c.args.pages.now in
    let q : PagesState = g.P.Pages.state c.add.new.pages in
    let dir : IsDirectory objects c.args.at.directory = absent.directory in
    let within_limit = few_entries z objects can c.args.at.directory dir in
    on_err _ _ c.add.result (λ fault is. lacks_memory_only (map.len dir.1) q fault (omega (arith, within_limit)) is)
    (c.add.ensures.fault z dir.0 dir.1 (directory_in p z objects h c.args.at.directory dir))

pub returns-clause-slots : goal.returns-clause-slots
returns-clause-slots g c = λ z objects h absent.
    let p : PagesState = g.P.Pages.state c.args.pages.now in
    let d : ℕ = c.args.at.directory in
    let dir : IsDirectory objects d = absent.directory in
    let reported : map.len dir.1 ≡ count objects d = ap map.len (entries_are p z objects h d dir) in
    on_ok _ _ c.add.result
    (λ change slot. named_more z change objects objects c.args.moment d c.args.at.name.now c.args.number (λ k. omega arith) (λ s low high. slot.more s (omega (arith, reported, low)) (omega (arith, reported, high))))
    (c.add.ensures.slot z dir.0 dir.1 (directory_in p z objects h d dir))

pub returns-clause-keeps : goal.returns-clause-keeps
returns-clause-keeps g c = λ z objects h absent.
    let p : PagesState = g.P.Pages.state c.args.pages.now in
    let d : ℕ = c.args.at.directory in
    let dir : IsDirectory objects d = absent.directory in
    let reported : map.len dir.1 ≡ count objects d = ap map.len (entries_are p z objects h d dir) in
    on_ok _ _ c.add.result (λ change slot s e less at. slot.stays s e (omega (arith, reported, less)) at) (c.add.ensures.slot z dir.0 dir.1 (directory_in p z objects h d dir))
