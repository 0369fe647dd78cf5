use Rattle.std.proofs.Common.{◌≡◌, ◌+◌, ◌*◌, ℕ, List, length, replicate, ap, subst, ◌∙◌, arith, rules}
use Rattle.std.proofs.lemmas.Grind.{common_steps}
use Rattle.std.specs.Io.KnownBytes.{Appends}
use Rattle.nand_image.proofs.Created.{image_made}
use Rattle.nand_image.proofs.creation.create_image.Goals as goal

pub returns-clause-bytes : goal.returns-clause-bytes
returns-clause-bytes g c =
    let first = g.F.Write.contents c.args.file in
    let headed = g.F.Write.contents c.write_bytes.new.file in
    let marked = g.F.Write.contents c.write_bytes-2.new.file in
    let whole = g.F.Write.contents c.write_slots.new.file in
    let marks : List ℕ = c.deref.result.now in
    let slot : List ℕ = c.deref-2.result.now in
    let marks_are : marks ≡ replicate c.args.geometry.blocks 0 = first_of (search rules, grind (arith, common_steps)) in
    let wide : length slot ≡ 49 + c.args.geometry.bytes = first_of (search rules, grind (arith, common_steps)) in
    let count : c.blocks-3.result * c.pages.result ≡ c.args.geometry.blocks * c.args.geometry.pages =
    ap (λ n. n * c.pages.result) c.blocks-3.ensures ∙ ap (λ n. c.args.geometry.blocks * n) c.pages.ensures in
    let zeros = subst (λ n. Appends marked whole (replicate (n * length slot) 0)) count c.in_ok-write_slots.ensures.bytes in
    image_made c.args.geometry c.head_of.result marks slot first headed marked whole c.head_of.ensures marks_are wide c.in_ok-write_bytes.ensures.bytes c.in_ok-write_bytes-2.ensures.bytes zeros
