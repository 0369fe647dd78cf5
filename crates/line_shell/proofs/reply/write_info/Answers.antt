use Rattle.std.proofs.Common.{ℕ, List, [], ◌∷◌, ◌++◌, ◌∙◌, ap, codes}
use Rattle.posix_profile.specs.declared.reply.Info.{Info}
use Rattle.line_shell.specs.Replies.{numbers_text, kind_name}
use Rattle.posix_profile.specs.NameSteps.{reported_size}
use Rattle.line_shell.specs.laws.Writing.{stops_first, goes_on, text_is}
use Rattle.line_shell.proofs.reply.write_info.Goals as goal

-- what stands behind the first word
abbrev rest : Info → List ℕ
rest info = kind_name info.kind ++ numbers_text (info.object ∷ info.links ∷ reported_size info.kind info.size ∷ info.moment ∷ [])

pub returns-in_err-write_bytes : goal.returns-in_err-write_bytes
returns-in_err-write_bytes g c = stops_first _ _ (codes "info ") (rest c.args.info) c.from_residual.result c.from_residual.ensures.0 c.in_err-write_bytes.ensures

pub returns : goal.returns
returns g c =
    let info = c.args.info in
    goes_on _ _ _ (codes "info ") (rest info) c.write_tagged_numbers.result c.in_ok-write_bytes.ensures
    (text_is _ _ _ (rest info) c.write_tagged_numbers.result
    (ap (λ k. k ++ numbers_text (info.object ∷ info.links ∷ c.reported_size.result ∷ info.moment ∷ [])) c.kind_name.ensures
    ∙ ap (λ n. kind_name info.kind ++ numbers_text (info.object ∷ info.links ∷ n ∷ info.moment ∷ [])) c.reported_size.ensures)
    c.write_tagged_numbers.ensures)
