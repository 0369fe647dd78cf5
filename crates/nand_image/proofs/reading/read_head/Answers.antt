use Rattle.std.proofs.Common.{◌≡◌, ℕ, length, take, arith, rules}
use Rattle.nand_image.specs.Images.{magic}
use Rattle.nand_image.proofs.Front.{whole_of, head_of}
use Rattle.nand_image.proofs.reading.read_head.Goals as goal

pub returns-clause-head : goal.returns-clause-head
returns-clause-head g c =
    let old = g.F.Read.remaining c.args.file.now in
    let now = g.F.Read.remaining c.fill.new.file in
    let head = c.fill.new.buffer in
    let size : length head ≡ 32 = c.fill.auto.buffer in
    let count : ℕ = c.in_ok-count.count in
    let is : take 8 head ≡ magic = search rules in
    head_of old now head size (whole_of old now head count c.in_ok-count.ensures.within (omega (arith, size, c.if-count-lt32.false)) c.in_ok-count.ensures.front) is
