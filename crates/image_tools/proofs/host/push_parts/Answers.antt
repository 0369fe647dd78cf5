use Rattle.std.proofs.Common.{◌+◌, [], length, drop, get_or, sym, subst, lt-ltb}
use Rattle.std.proofs.Common.{map as list_map}
use Rattle.std.specs.String.{string_bytes}
use Rattle.image_tools.proofs.Hosts.{AddedSoFar, none_there, added_none, added_skip, added_one, added_all}
use Rattle.image_tools.proofs.Lists.{left_more, none_left}
use Rattle.image_tools.proofs.host.push_parts.Goals as goal
use Rattle.image_tools.proofs.host.push_parts.Goals.{then-piece-gt0+in_ok-push_part, else-piece-gt0}

pub loop-piece-init : goal.loop-piece-init
loop-piece-init c = added_none (string_bytes c.args.text.now) (list_map (λ piece. piece.now) c.args.pieces.now)

pub loop-piece-preserved : goal.loop-piece-preserved
loop-piece-preserved c =
    let first = string_bytes c.args.text.now in
    let all = list_map (λ piece. piece.now) c.args.pieces.now in
    let piece = get_or c.args.pieces.now c.loop-piece.piece-index (record { ref_ptr = (0, 0); now = [] }) in
    let more = left_more (λ piece. piece.now) c.args.pieces.now c.loop-piece.piece-index (record { ref_ptr = (0, 0); now = [] }) c.loop-piece-test.true in
    let rest = list_map (λ piece. piece.now) (drop c.loop-piece.piece-index c.args.pieces.now) in
    let after = list_map (λ piece. piece.now) (drop (c.loop-piece.piece-index + 1) c.args.pieces.now) in
    elim c.if-piece-gt0.branch [
      | then-piece-gt0+in_ok-push_part w ↦ subst (λ t. AddedSoFar first (string_bytes t) all after) (sym w.text-is)
          (added_one first (string_bytes c.loop-piece.text) all rest after piece.now more c.loop-piece.invariant (string_bytes w.in_ok-push_part.field-0) (string_bytes w.push_part.new.text)
          (lt-ltb 0 (length piece.now) w.if-piece-gt0.true) w.in_ok-push_part.ensures.host w.in_ok-push_part.ensures.reads_back w.in_ok-push_part.ensures.added)
      | else-piece-gt0 w ↦ subst (λ t. AddedSoFar first (string_bytes t) all after) (sym w.text-is)
          (added_skip first (string_bytes c.loop-piece.text) all rest after piece.now more c.loop-piece.invariant (none_there piece.now w.if-piece-gt0.false))
    ]

pub returns : goal.returns
returns c = added_all (string_bytes c.args.text.now) (string_bytes c.loop-piece.text) (list_map (λ piece. piece.now) c.args.pieces.now) _ (none_left (λ piece. piece.now) c.args.pieces.now c.loop-piece.piece-index c.loop-piece-test.false) c.loop-piece.invariant
