use Rattle.std.proofs.Common.{ℕ, List, IfOk, length, ◌+◌, ◌-◌, ◌/◌, subst, arith}
use Rattle.posix_profile.specs.Changes.{with_bytes, written}
use Rattle.pages.specs.Changes.{IsOnlyOf}
use Rattle.pages.specs.Maps.{after_change}
use Rattle.pages.specs.State.{PagesState}
use Rattle.file_io.specs.Files.{Becomes}
use Rattle.paged_objects.specs.Holding.{HoldsObjects}
use Rattle.paged_objects.specs.laws.Holding.{file_in}
use Rattle.paged_objects.proofs.Contents.{holds_file, bytes_are}
use Rattle.paged_objects.proofs.Results.{on_both}
use Rattle.paged_objects.proofs.content.write.Goals as goal

pub returns-clause-writes : goal.returns-clause-writes
returns-clause-writes g c = λ z objects h file.
    let p : PagesState = g.P.Pages.state c.args.pages.now in
    let o : ℕ = c.args.number in
    let first : ℕ = c.args.offset / z.page_bytes in
    let end : ℕ = (c.args.offset + length c.args.bytes.now - 1) / z.page_bytes + 1 in
    subst (λ (all : List ℕ). IfOk c.write_at.result (λ change. HoldsObjects z (after_change change p.present) (with_bytes objects c.args.moment o (written all c.args.offset c.args.bytes.now)))) (bytes_are p z objects h o file)
    (on_both (λ change. Becomes z p.present (after_change change p.present) o (file_in p z objects h o file).reads.fields first end c.args.moment (written file.1 c.args.offset c.args.bytes.now)) (λ change. IsOnlyOf change o)
    (λ change. HoldsObjects z (after_change change p.present) (with_bytes objects c.args.moment o (written file.1 c.args.offset c.args.bytes.now))) c.write_at.result
    (λ change becomes only. holds_file p z objects h o file change first end c.args.moment (written file.1 c.args.offset c.args.bytes.now) only becomes)
    (c.write_at.ensures.writes z file.0 file.1 (file_in p z objects h o file) (grind (arith, c.is_empty.ensures, c.if-is_empty.false))) c.write_at.ensures.only)

pub returns-clause-fault : goal.returns-clause-fault
returns-clause-fault g c = λ z objects h file fits.
    c.write_at.ensures.fault z file.0 file.1 (file_in (g.P.Pages.state c.args.pages.now) z objects h c.args.number file)
