use Rattle.std.proofs.Common.{drop, ap, ◌∙◌}
use Rattle.std.proofs.lemmas.List.{take_rest}
use Rattle.file_io.proofs.file_head.FileHead.bits.Goals as goal

pub returns : goal.returns
returns c = take_rest c.deref.result.now 32 ∙ ap (drop 32) c.deref.ensures.value
