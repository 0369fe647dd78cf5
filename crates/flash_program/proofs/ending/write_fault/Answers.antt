use Rattle.std.proofs.Common.{[], ◌∷◌, ◌++◌, codes}
use Rattle.line_shell.specs.Replies.{newline}
use Rattle.line_shell.specs.laws.Writing.{stops_first, goes_on}
use Rattle.flash_program.proofs.ending.write_fault.Goals as goal

pub returns-in_err-write_bytes : goal.returns-in_err-write_bytes
returns-in_err-write_bytes g c =
    stops_first _ _ (codes "fault ") (c.args.name.now ++ (newline ∷ [])) c.from_residual.result c.from_residual.ensures.0 c.in_err-write_bytes.ensures

pub returns-in_err-write_bytes-2 : goal.returns-in_err-write_bytes-2
returns-in_err-write_bytes-2 g c =
    let r = c.from_residual-in_err-write_bytes-2 in
    goes_on _ _ _ (codes "fault ") (c.args.name.now ++ (newline ∷ [])) r.result c.in_ok-write_bytes.ensures
    (stops_first _ _ c.args.name.now (newline ∷ []) r.result r.ensures.0 c.in_err-write_bytes-2.ensures)

pub returns : goal.returns
returns g c =
    let r = c.write_bytes-3 in
    goes_on _ _ _ (codes "fault ") (c.args.name.now ++ (newline ∷ [])) r.result c.in_ok-write_bytes.ensures
    (goes_on _ _ _ c.args.name.now (newline ∷ []) r.result c.in_ok-write_bytes-2.ensures r.ensures)
