use Rattle.std.proofs.Common.{◌≡◌, ◌≢◌, ◌<◌, ℕ, IfOk, IfSome, sym, subst, arith}
use Rattle.std.specs.FinMap as map
use Rattle.posix_profile.specs.State.{Name, Entries, IsDirectory, entries_of}
use Rattle.posix_profile.specs.Changes.{with_name, without_name}
use Rattle.pages.specs.Maps.{after_change}
use Rattle.pages.specs.State.{PagesState}
use Rattle.pages.specs.declared.change.Change.{Change}
use Rattle.directories.specs.Directories.{IsNamed}
use Rattle.paged_objects.specs.Holding.{HoldsObjects}
use Rattle.paged_objects.specs.laws.Holding.{held_directory}
use Rattle.paged_objects.proofs.NamedHere.{named_in}
use Rattle.paged_objects.specs.Naming.{WritesNames}
use Rattle.paged_objects.proofs.Growing.{renamed_names, moved_names}
use Rattle.paged_objects.proofs.Entries.{few_entries, few_left}
use Rattle.paged_objects.proofs.Holdings.{entries_are, now_directory, holds_renamed, holds_moved}
use Rattle.paged_objects.proofs.Results.{on_made_one, on_made_two, on_made_three, each_within, on_err, lacks_memory_only}
use Rattle.paged_objects.proofs.moving.rename.Goals as goal

pub returns-then-from-directory-clause-named : goal.returns-then-from-directory-clause-named
returns-then-from-directory-clause-named g c = λ z objects n source.
    let p : PagesState = g.P.Pages.state c.args.pages.now in
    let d : ℕ = c.args.directory in
    let dir : IsDirectory objects d = subst (IsDirectory objects) c.if-from-directory.true source in
    let from : Name = c.args.from.name.now in
    subst (λ k. IfOk c.rename_within.result (λ made. IsNamed (entries_of (map.get objects k)) from made)) (sym c.if-from-directory.true)
    (subst (λ (es : Entries). IfOk c.rename_within.result (λ made. IsNamed es from made)) (entries_are p z objects n.holds d dir)
    (c.rename_within.ensures.named z dir.0 dir.1 (named_in c.args.names.now p z objects n d dir)))

pub returns-then-from-directory-clause-moves : goal.returns-then-from-directory-clause-moves
returns-then-from-directory-clause-moves g c = λ z objects n source dir.
    let p : PagesState = g.P.Pages.state c.args.pages.now in
    let d : ℕ = c.args.directory in
    let from : Name = c.args.from.name.now in
    let to : Name = c.args.slot.now.name.now in
    let o : ℕ = c.args.slot.now.object in
    let here = named_in c.args.names.now p z objects n d dir in
    let entries : Entries = map.insert (map.remove dir.1 from) to o in
    subst (λ k. IfOk c.rename_within.result (λ made. IfSome made (λ change. HoldsObjects z (after_change change p.present) (with_name (without_name objects c.args.moment k from) c.args.moment d to o)))) (sym c.if-from-directory.true)
    (on_made_two (λ (change : Change). (q k : ℕ) → q ≢ d → after_change change p.present q k ≡ p.present q k) _
    (λ change. HoldsObjects z (after_change change p.present) (with_name (without_name objects c.args.moment d from) c.args.moment d to o)) c.rename_within.result
    (λ change others moves. holds_renamed p z objects n.holds d dir change c.args.moment from to o others moves.makes.becomes
    (moves.makes.ends (held_directory p z objects n.holds d dir).only))
    (each_within c.rename_within.result p.present d c.rename_within.ensures.others)
    (c.rename_within.ensures.moves z dir.0 dir.1 here))

pub returns-then-from-directory-clause-fault : goal.returns-then-from-directory-clause-fault
returns-then-from-directory-clause-fault g c = λ z objects n can source dir.
    let p : PagesState = g.P.Pages.state c.args.pages.now in
    let q : PagesState = g.P.Pages.state c.rename_within.new.pages in
    let left : Entries = map.remove dir.1 c.args.from.name.now in
    let within_limit : map.len left < 4294967295 = few_left z objects can c.args.directory dir c.args.from.name.now in
    on_err _ _ c.rename_within.result (λ fault is. lacks_memory_only (map.len left) q fault (omega (arith, within_limit)) is)
    (c.rename_within.ensures.fault z dir.0 dir.1 (named_in c.args.names.now p z objects n c.args.directory dir))

pub returns-clause-named : goal.returns-clause-named
returns-clause-named g c = λ z objects n source.
    let p : PagesState = g.P.Pages.state c.args.pages.now in
    let d : ℕ = c.args.from.directory in
    subst (λ (es : Entries). IfOk c.rename_between.result (λ made. IsNamed es c.args.from.name.now made)) (entries_are p z objects n.holds d source)
    (c.rename_between.ensures.named z source.0 source.1 (named_in c.args.names.now p z objects n d source))

pub returns-clause-moves : goal.returns-clause-moves
returns-clause-moves g c = λ z objects n source target.
    let p : PagesState = g.P.Pages.state c.args.pages.now in
    let d : ℕ = c.args.from.directory in
    let t : ℕ = c.args.directory in
    let from : Name = c.args.from.name.now in
    let to : Name = c.args.slot.now.name.now in
    let o : ℕ = c.args.slot.now.object in
    let one = named_in c.args.names.now p z objects n d source in
    let two = named_in c.args.names.now p z objects n t target in
    let left : Entries = map.remove source.1 from in
    let got : Entries = map.insert target.1 to o in
    on_made_three _ _ _
    (λ change. HoldsObjects z (after_change change p.present) (with_name (without_name objects c.args.moment d from) c.args.moment t to o)) c.rename_between.result
    (λ change both takes gives. holds_moved p z objects n.holds d source t target c.if-from-directory.false change c.args.moment from to o both.others
    (now_directory p z objects n.holds d source (after_change change p.present) c.args.moment left takes.makes.becomes (takes.makes.ends (held_directory p z objects n.holds d source).only))
    (now_directory p z objects n.holds t target (after_change change p.present) c.args.moment got gives.makes.becomes (gives.makes.ends (held_directory p z objects n.holds t target).only)))
    c.rename_between.ensures.change
    (c.rename_between.ensures.takes z source.0 source.1 one)
    (c.rename_between.ensures.gives z target.0 target.1 two)

pub returns-clause-fault : goal.returns-clause-fault
returns-clause-fault g c = λ z objects n can source target.
    let p : PagesState = g.P.Pages.state c.args.pages.now in
    let q : PagesState = g.P.Pages.state c.rename_between.new.pages in
    let within_limit = few_entries z objects can c.args.directory target in
    on_err _ _ c.rename_between.result (λ fault is. lacks_memory_only (map.len target.1) q fault (omega (arith, within_limit)) is)
    (c.rename_between.ensures.fault z source.0 target.0 source.1 target.1 (named_in c.args.names.now p z objects n c.args.from.directory source) (named_in c.args.names.now p z objects n c.args.directory target))

pub returns-then-from-directory-clause-slots : goal.returns-then-from-directory-clause-slots
returns-then-from-directory-clause-slots g c = λ z objects n source dir.
    let p : PagesState = g.P.Pages.state c.args.pages.now in
    let d : ℕ = c.args.directory in
    let from : Name = c.args.from.name.now in
    let to : Name = c.args.slot.now.name.now in
    let o : ℕ = c.args.slot.now.object in
    let here = named_in c.args.names.now p z objects n d dir in
    subst (λ k. IfOk c.rename_within.result (λ made. IfSome made (λ change. WritesNames z change objects (with_name (without_name objects c.args.moment k from) c.args.moment d to o)))) (sym c.if-from-directory.true)
    (on_made_one _
    (λ change. WritesNames z change objects (with_name (without_name objects c.args.moment d from) c.args.moment d to o)) c.rename_within.result
    (λ change moves. renamed_names z change objects c.args.moment d dir from to o moves.more)
    (c.rename_within.ensures.moves z dir.0 dir.1 here))

pub returns-clause-slots : goal.returns-clause-slots
returns-clause-slots g c = λ z objects n source target.
    let p : PagesState = g.P.Pages.state c.args.pages.now in
    let d : ℕ = c.args.from.directory in
    let t : ℕ = c.args.directory in
    let from : Name = c.args.from.name.now in
    let to : Name = c.args.slot.now.name.now in
    let o : ℕ = c.args.slot.now.object in
    on_made_one _
    (λ change. WritesNames z change objects (with_name (without_name objects c.args.moment d from) c.args.moment t to o)) c.rename_between.result
    (λ change gives. moved_names z change objects c.args.moment d t target (λ same. c.if-from-directory.false (sym same)) from to o gives.more)
    (c.rename_between.ensures.gives z target.0 target.1 (named_in c.args.names.now p z objects n t target))
