use Rattle.std.specs.Prelude.{◌≡◌, ◌⊎◌, ℕ, List, [], ◌∷◌, ◌++◌, Err, codes}
use Rattle.std.specs.Io.KnownBytes.{Appends}
use Rattle.std.proofs.Common.{inl, sym, ◌∙◌, ap, subst, rules}
use Rattle.line_shell.specs.Replies.{newline}
use Rattle.line_shell.specs.Written.{AppendsPart, Writes}
use Rattle.flash_program.specs.Statuses.{error_line}
use Rattle.flash_program.specs.declared.fault.ProgramFault.TheVariants as faults
use Rattle.flash_program.proofs.Reporting.{line_is, written_part}
use Rattle.flash_program.proofs.ending.report.Goals.{then-ne, else-ne}
use Rattle.flash_program.proofs.ending.report.Goals as goal

pub returns-after-ne-clause-reported : goal.returns-after-ne-clause-reported
returns-after-ne-clause-reported g c =
    let old = g.E.Write.contents c.args.err.now in
    let new = g.E.Write.contents c.if-ne.err in
    elim c.if-ne.branch [
      | then-ne w ↦
          let other : c.in-Err.fault ≡ faults.Torn → ⊥ = search rules in
          let wrote : Writes old new (codes "fault " ++ (w.name.result.now ++ (newline ∷ []))) w.write_fault.result = search rules in
          subst (λ text. Appends old new text ⊎ AppendsPart old new text) (sym (ap error_line c.in-Err.is ∙ line_is c.in-Err.fault other))
          (written_part old new _ w.write_fault.result (subst (λ (name : List ℕ). Writes old new (codes "fault " ++ (name ++ (newline ∷ []))) w.write_fault.result) w.name.ensures wrote))
      | else-ne w ↦
          let torn : c.in-Err.fault ≡ faults.Torn = search rules in
          let same : Appends old new [] = search rules in
          inl (subst (Appends old new) (sym (ap error_line (c.in-Err.is ∙ ap Err torn))) same)
    ]
