use Rattle.std.proofs.Common.{◌∙◌, ◌≤ℤ◌, pos, w64, arith}
use Rattle.std.proofs.lemmas.Int.{to_z-of_z}
use Rattle.flash_c.specs.Placed.{there, not_asked, not_set}
use Rattle.flash_c.proofs.placed.go_to.Goals as goal

pub returns-then-was-lt0 : goal.returns-then-was-lt0
returns-then-was-lt0 c =
    let is = to_z-of_z w64 c.seek-was.result (search (c.seek-was.type_inv)) in
    let issued = c.seek-was.ensures in
    not_asked (issued.0, issued.1, is ∙ issued.2) (search (arith, c.if-was-lt0.true))

pub returns-then-now-lt0 : goal.returns-then-now-lt0
returns-then-now-lt0 c =
    let was = to_z-of_z w64 c.seek-was.result (search (c.seek-was.type_inv)) in
    let some : pos 0 ≤ℤ c.seek-was.result = search (arith, rw was at c.if-was-lt0.false) in
    let is = to_z-of_z w64 c.seek-now.result (search (c.seek-now.type_inv)) in
    let set = rw (to_z-of_z w64 c.args.offset c.ranges.offset) at c.seek-now.ensures in
    not_set c.seek-was.ensures some (set.0, set.1, is ∙ set.2) (search (arith, c.if-now-lt0.true))

pub returns : goal.returns
returns c =
    let was = to_z-of_z w64 c.seek-was.result (search (c.seek-was.type_inv)) in
    let now = to_z-of_z w64 c.seek-now.result (search (c.seek-now.type_inv)) in
    let issued = c.seek-was.ensures in
    let some : pos 0 ≤ℤ c.seek-now.result = search (arith, rw now at c.if-now-lt0.false) in
    there (issued.0, issued.1, was ∙ issued.2) (search (arith, c.if-was-lt0.false)) (rw (to_z-of_z w64 c.args.offset c.ranges.offset) at c.seek-now.ensures) some
