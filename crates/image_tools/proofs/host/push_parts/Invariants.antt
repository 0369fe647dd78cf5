use Rattle.std.proofs.Common.{drop, map as list_map}
use Rattle.std.specs.String.{string_bytes}
use Rattle.image_tools.proofs.Hosts.{AddedSoFar}
use Rattle.image_tools.proofs.host.push_parts.Given as goal

abbrev pub invariant-loop-piece : goal.invariant-loop-piece
invariant-loop-piece l =
    AddedSoFar (string_bytes l.initial.text) (string_bytes l.text) (list_map (λ piece. piece.now) l.fn.pieces) (list_map (λ piece. piece.now) (drop l.piece-index l.pieces))
