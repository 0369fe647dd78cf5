use Rattle.std.proofs.Common.{sym, w64, rules}
use Rattle.std.proofs.lemmas.Int.{to_z-of_z}
use mir.Val.{SFits}
use Rattle.flash_c.specs.Placed.{not_there, done}
use Rattle.flash_c.specs.Serving.{serves}
use Rattle.flash_c.proofs.Places.{at_least_zero, back_as}
use Rattle.flash_c.proofs.placed.write_at.Goals as goal

pub returns-in-Ok : goal.returns-in-Ok
returns-in-Ok c =
    let none = to_z-of_z w64 c.write-none.result (search (c.write-none.type_inv)) in
    let some = at_least_zero c.write-none.result (rw none at c.if-none-lt0.false) in
    let number = to_z-of_z w64 c.write-number.result (search (c.write-number.type_inv)) in
    let result = to_z-of_z w64 c.go_back.result (search (c.go_back.type_inv)) in
    let fits : SFits w64 c.in-Ok.was = search (rules, c.go_to.type_inv, c.in-Ok.is) in
    let was = to_z-of_z w64 c.in-Ok.was fits in
    done c.write-none.ensures some (rw (to_z-of_z w64 c.args.offset c.ranges.offset) at c.in-Ok.ensures) c.write-number.ensures
    (back_as serves _ _ _ _ _ (sym result) (rw (was, number) at c.go_back.ensures))

pub returns-in-Err : goal.returns-in-Err
returns-in-Err c =
    let none = to_z-of_z w64 c.write-none.result (search (c.write-none.type_inv)) in
    let some = at_least_zero c.write-none.result (rw none at c.if-none-lt0.false) in
    let fits : SFits w64 c.in-Err.number = search (rules, c.go_to.type_inv, c.in-Err.is) in
    let is = to_z-of_z w64 c.in-Err.number fits in
    rw (is) (not_there c.write-none.ensures some (rw (to_z-of_z w64 c.args.offset c.ranges.offset) at c.in-Err.ensures))
