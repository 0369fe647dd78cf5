use Rattle.std.proofs.Common.{◌∙◌}
use Rattle.std.proofs.lemmas.Iterator.Consumers.{map_from_collect, YieldsList-from_first}
use Rattle.byte_pieces.proofs.Matches.{pieces_between}
use Rattle.byte_pieces.proofs.pieces_of.Goals as goal

pub returns : goal.returns
returns c = map_from_collect _ c.collect.ensures.ran (YieldsList-from_first (λ piece. piece.now) (λ rest. rest) _ (c.split_str.ensures.value ∙ pieces_between c.args.byte c.args.bytes.now))
