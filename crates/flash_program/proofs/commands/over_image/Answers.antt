use Rattle.std.proofs.Common.{◌∙◌, ap}
use Rattle.std.proofs.lemmas.Result.{IfOk-weaker}
use Rattle.clap.specs.Simple.{app_of_fields}
use Rattle.clap.specs.Words.{new_app}
use Rattle.flash_program.specs.Program.{image_rule}
use Rattle.flash_program.proofs.Adding.{with_argument}
use Rattle.flash_program.proofs.commands.over_image.Goals as goal

pub returns : goal.returns
returns c = IfOk-weaker c.arg.result _ _ (λ new adds. with_argument (new_app c.args.name.now) image_rule c.after_help.result new c.image.result (record {
  words = ap app_of_fields c.after_help.ensures ∙ ap app_of_fields c.about.ensures ∙ c.new.ensures.app;
  local = ap (λ f. f.has_globals) c.after_help.ensures ∙ ap (λ f. f.has_globals) c.about.ensures ∙ c.new.ensures.local;
}) c.image.ensures adds) c.arg.ensures
