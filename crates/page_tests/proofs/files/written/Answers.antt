use Rattle.std.proofs.Common.{◌≤◌, ◌*◌, ℕ, sym, subst, length, arith}
use Rattle.std.proofs.Math.Nat.{mul-le-mul_left}
use Rattle.std.proofs.lemmas.Result.{IfOk-at_ok}
use Rattle.pages.specs.Changes.{AreSized}
use Rattle.page_tests.proofs.files.written.Goals as goal

-- so many bytes lie over at most so many chunks
pub apply-requires : goal.apply-requires
apply-requires g c =
    let n : ℕ = length c.args.bytes.now in
    let some : 1 ≤ c.args.pages.page_bytes = omega (arith, c.args.pages.least) in
    let within_limit : n ≤ n * c.args.pages.page_bytes = omega (arith, mul-le-mul_left n some) in
    let change = IfOk-at_ok _ c.expect-change.ensures (c.write_at.ensures.change n within_limit) in
    subst (AreSized c.expect-change.result.pages.items) (sym c.write_at.ensures.looks.lookups.page_bytes) change.size
