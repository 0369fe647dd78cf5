use Rattle.std.proofs.Common.{[], ◌∷◌, ◌++◌, length, codes}
use Rattle.line_shell.specs.Replies.{numbers_text, names_text}
use Rattle.line_shell.specs.laws.Writing.{stops_first, goes_on}
use Rattle.line_shell.proofs.reply.write_name_list.Goals as goal

pub returns-in_err-write_tagged_numbers : goal.returns-in_err-write_tagged_numbers
returns-in_err-write_tagged_numbers g c = stops_first _ _ (codes "names" ++ numbers_text (length c.args.names.now ∷ [])) (names_text c.args.names.now) c.from_residual.result c.from_residual.ensures.0 c.in_err-write_tagged_numbers.ensures

pub returns : goal.returns
returns g c = goes_on _ _ _ (codes "names" ++ numbers_text (length c.args.names.now ∷ [])) (names_text c.args.names.now) c.write_names.result c.in_ok-write_tagged_numbers.ensures c.write_names.ensures
