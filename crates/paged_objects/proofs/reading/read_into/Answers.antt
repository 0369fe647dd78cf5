use Rattle.std.proofs.Common.{◌≡◌, ◌∙◌, ℕ, length, take, drop, sym, ap, arith}
use Rattle.std.proofs.lemmas.Result.{IfOk-weaker}
use Rattle.object_store.specs.Facts.{bytes_of}
use Rattle.paged_objects.specs.laws.Holding.{file_in, held_file}
use Rattle.paged_objects.proofs.reading.read_into.Goals as goal

pub returns-clause-count : goal.returns-clause-count
returns-clause-count g c = IfOk-weaker c.read_at.result _ _ (λ count is. omega (arith, is)) c.read_at.ensures.count

pub returns-clause-found : goal.returns-clause-found
returns-clause-found g c = λ z objects h file same.
    let n : ℕ = length c.args.buffer.now in
    let size : c.args.len ≡ length file.1 = same ∙ ap (λ x. length (bytes_of x)) file.2 in
    IfOk-weaker c.read_at.result _ _ (λ count is. is ∙ ap (λ x. take n (drop c.args.offset (bytes_of x))) (sym file.2))
    (c.read_at.ensures.read z file.0 file.1 (file_in (g.P.Pages.state c.args.pages.now) z objects h c.args.file file)
    (held_file (g.P.Pages.state c.args.pages.now) z objects h c.args.file file).only size)
