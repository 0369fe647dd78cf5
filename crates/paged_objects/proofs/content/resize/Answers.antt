use Rattle.std.proofs.Common.{ℕ, List, IfOk, subst}
use Rattle.posix_profile.specs.Changes.{with_bytes, resized}
use Rattle.pages.specs.Changes.{IsOnlyOf}
use Rattle.pages.specs.Maps.{after_change}
use Rattle.pages.specs.State.{PagesState}
use Rattle.file_io.specs.Files.{Becomes}
use Rattle.paged_objects.specs.Holding.{HoldsObjects}
use Rattle.paged_objects.specs.laws.Holding.{file_in}
use Rattle.paged_objects.proofs.Contents.{holds_file, bytes_are}
use Rattle.paged_objects.proofs.Results.{on_both}
use Rattle.paged_objects.proofs.content.resize.Goals as goal

pub returns-clause-resizes : goal.returns-clause-resizes
returns-clause-resizes g c = λ z objects h file.
    let p : PagesState = g.P.Pages.state c.args.pages.now in
    let o : ℕ = c.args.number in
    subst (λ (all : List ℕ). IfOk c.set_length.result (λ change. HoldsObjects z (after_change change p.present) (with_bytes objects c.args.moment o (resized all c.args.length)))) (bytes_are p z objects h o file)
    (on_both (λ change. Becomes z p.present (after_change change p.present) o (file_in p z objects h o file).reads.fields 0 0 c.args.moment (resized file.1 c.args.length)) (λ change. IsOnlyOf change o)
    (λ change. HoldsObjects z (after_change change p.present) (with_bytes objects c.args.moment o (resized file.1 c.args.length))) c.set_length.result
    (λ change becomes only. holds_file p z objects h o file change 0 0 c.args.moment (resized file.1 c.args.length) only becomes)
    (c.set_length.ensures.sets z file.0 file.1 (file_in p z objects h o file)) c.set_length.ensures.only)

pub returns-clause-fault : goal.returns-clause-fault
returns-clause-fault g c = λ z objects h file fits.
    c.set_length.ensures.fault z file.0 file.1 (file_in (g.P.Pages.state c.args.pages.now) z objects h c.args.number file)
