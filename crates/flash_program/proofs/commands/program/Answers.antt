use Rattle.std.proofs.lemmas.Result.{IfOk-weaker}
use Rattle.flash_program.specs.Program.{bare_program, check_words, cut_words, format_words, run_words}
use Rattle.flash_program.proofs.Adding.{with_command}
use Rattle.flash_program.proofs.commands.program.Goals as goal

pub returns : goal.returns
returns c =
    let first = with_command bare_program format_words c.bare_program.result c.in_ok-format_command.field-0 c.in_ok-subcommand.field-0
    c.bare_program.ensures c.in_ok-format_command.ensures c.in_ok-subcommand.ensures in
    let second = with_command _ run_words c.in_ok-subcommand.field-0 c.in_ok-run.run' c.in_ok-subcommand-2.field-0
    first c.in_ok-run.ensures c.in_ok-subcommand-2.ensures in
    let third = with_command _ check_words c.in_ok-subcommand-2.field-0 c.in_ok-check.check c.in_ok-subcommand-3.field-0
    second c.in_ok-check.ensures c.in_ok-subcommand-3.ensures in
    IfOk-weaker c.subcommand-4.result _ _ (λ new adds. with_command _ cut_words c.in_ok-subcommand-3.field-0 c.in_ok-cut_command.field-0 new
    third c.in_ok-cut_command.ensures adds) c.subcommand-4.ensures
