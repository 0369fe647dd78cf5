use Rattle.std.proofs.Common.{◌≡◌, ◌≤◌, ◌∙◌, ◌++◌, ℕ, List, length, take, drop, ap, sym, arith}
use Rattle.std.proofs.lemmas.List.{length-take-le, take-append-drop, take-append-le, drop-append-le}
use Rattle.object_store.specs.Facts.{bytes_from}
use Rattle.command_plans.specs.Tables.{handle_of}
use Rattle.object_commands.specs.Reads.{asked_of}
use Rattle.object_commands.proofs.Reading.{read_plan}
use Rattle.object_commands.proofs.reporting.read_into.Goals as goal

pub returns-clause-rest : goal.returns-clause-rest
returns-clause-rest g c =
    let most : ℕ = c.min-most.result in
    let whole : List ℕ = c.args.buffer.now in
    let part : length (take most whole) ≡ most = length-take-le most whole (omega (arith, c.min-most.ensures)) in
    let within_limit = c.in_ok-count.ensures.count in (
      omega (arith, within_limit, part, c.min-most.ensures),
      drop-append-le c.in_ok-count.count c.read_into.new.buffer (drop most whole) (omega (arith, within_limit, c.in_ok-count.ensures.size))
          ∙ ap (λ xs. xs ++ drop most whole) c.in_ok-count.ensures.rest
          ∙ sym (drop-append-le c.in_ok-count.count (take most whole) (drop most whole) within_limit)
          ∙ ap (drop c.in_ok-count.count) (take-append-drop most whole),
    )

pub returns-clause-plans : goal.returns-clause-plans
returns-clause-plans g c z s holds same =
    let d = c.in_ok-description.description in
    let is = c.in_ok-description.ensures z s holds same in
    let most : ℕ = c.min-most.result in
    let whole : List ℕ = c.args.buffer.now in
    let part : length (take most whole) ≡ asked_of whole = length-take-le most whole (omega (arith, c.min-most.ensures)) ∙ c.min-most.ensures in
    let within_limit : c.in_ok-count.count ≤ length c.read_into.new.buffer = omega (arith, c.in_ok-count.ensures.count, c.in_ok-count.ensures.size) in
    let reported : take c.in_ok-count.count c.read_into.new.buffer ≡ bytes_from s.objects d.object d.offset (asked_of whole) =
    c.in_ok-count.ensures.lookups z s.objects holds.has is.file ∙ ap (bytes_from s.objects d.object d.offset) part in
    let bytes : take c.in_ok-count.count (c.read_into.new.buffer ++ drop most whole) ≡ bytes_from s.objects d.object d.offset (asked_of whole) =
    take-append-le c.in_ok-count.count c.read_into.new.buffer (drop most whole) within_limit ∙ reported in
    let count : c.in_ok-count.count ≡ length (bytes_from s.objects d.object d.offset (asked_of whole)) = sym (length-take-le c.in_ok-count.count c.read_into.new.buffer within_limit) ∙ ap length reported in
    read_plan z s c.args.fd (asked_of whole) d c.in_ok-count.count _ c.moved.result (holds.sound.well_formed.handles c.args.fd (handle_of d) is.represents) is (omega arith) count bytes c.moved.ensures
