use Rattle.std.proofs.Common.{[], ◌∷◌, ◌++◌, sym, subst, codes}
use Rattle.line_shell.specs.Replies.{numbers_text}
use Rattle.line_shell.specs.Written.{Writes}
use Rattle.exerciser.specs.Lines.{mount_name, finding_text}
use Rattle.line_shell.specs.laws.Writing.{stops_first, goes_on, text_is}
use Rattle.exerciser.proofs.reporting.write_finding.Goals as goal

pub returns-in_err-write_tagged_numbers-in-Committed : goal.returns-in_err-write_tagged_numbers-in-Committed
returns-in_err-write_tagged_numbers-in-Committed g c =
    subst (λ f. Writes (g.W.Write.contents c.args.writer.now) (g.W.Write.contents c.write_tagged_numbers.new.writer) (finding_text f c.args.commands) c.from_residual.result) (sym c.in-Committed.is)
    (stops_first _ _ (codes " kept" ++ numbers_text (c.in-Committed.count ∷ [])) (codes " of" ++ numbers_text (c.args.commands ∷ [])) c.from_residual.result c.from_residual.ensures.0
    c.in_err-write_tagged_numbers-in-Committed.ensures)

pub returns-in_err-write_bytes-in-Mount : goal.returns-in_err-write_bytes-in-Mount
returns-in_err-write_bytes-in-Mount g c =
    let r = c.from_residual-in_err-write_bytes-in-Mount in
    subst (λ f. Writes (g.W.Write.contents c.args.writer.now) (g.W.Write.contents c.write_bytes-in-Mount.new.writer) (finding_text f c.args.commands) r.result) (sym c.in-Mount.is)
    (stops_first _ _ (codes " mount ") (mount_name c.in-Mount.fault) r.result r.ensures.0 c.in_err-write_bytes-in-Mount.ensures)

pub returns-in_ok-write_tagged_numbers-in-Committed : goal.returns-in_ok-write_tagged_numbers-in-Committed
returns-in_ok-write_tagged_numbers-in-Committed g c =
    let r = c.write_tagged_numbers-in-Committed in
    subst (λ f. Writes (g.W.Write.contents c.args.writer.now) (g.W.Write.contents r.new.writer) (finding_text f c.args.commands) r.result) (sym c.in-Committed.is)
    (goes_on _ _ _ (codes " kept" ++ numbers_text (c.in-Committed.count ∷ [])) (codes " of" ++ numbers_text (c.args.commands ∷ [])) r.result c.in_ok-write_tagged_numbers-in-Committed.ensures r.ensures)

pub returns-in_ok-write_bytes-in-Mount : goal.returns-in_ok-write_bytes-in-Mount
returns-in_ok-write_bytes-in-Mount g c =
    let r = c.write_bytes-in-Mount-2 in
    subst (λ f. Writes (g.W.Write.contents c.args.writer.now) (g.W.Write.contents r.new.writer) (finding_text f c.args.commands) r.result) (sym c.in-Mount.is)
    (goes_on _ _ _ (codes " mount ") (mount_name c.in-Mount.fault) r.result c.in_ok-write_bytes-in-Mount.ensures
    (text_is _ _ _ (mount_name c.in-Mount.fault) r.result c.mount_fault_name.ensures r.ensures))
