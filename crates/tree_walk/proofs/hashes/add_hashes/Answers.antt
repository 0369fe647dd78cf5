use Rattle.std.proofs.Common.{◌≡◌, ◌<◌, ℕ, List, Some, length, min, slice_get, slice_index, arith, rules}
use Rattle.std.proofs.lemmas.Option.{slice_get-get_or, slice_get_within}
use Rattle.tree_walk.proofs.Hashing.{holds_next}
use Rattle.tree_walk.proofs.hashes.add_hashes.Goals as goal

pub returns-in_err-add-clause-keeps : goal.returns-in_err-add-clause-keeps
returns-in_err-add-clause-keeps c = λ d h s held. c.in_err-add.ensures.err.stays d h s (c.loop-place.invariant.keeps d h s held)

pub loop-place-preserved : goal.loop-place-preserved
loop-place-preserved c =
    let hashes : List ℕ = c.args.hashes.now in
    let place : ℕ = c.loop-place.place in
    let hash : ℕ = slice_index hashes place in
    let within_limit : c.min-place-end.result ≡ min (length hashes) c.args.count = search rules in
    let within : place < length hashes = grind (arith, within_limit, c.loop-place-test.true) in
    let at : slice_get hashes place ≡ Some hash = slice_get-get_or hashes place 0 within in
    let adds = c.in_ok-add.ensures.ok in
    record {
      keeps = λ d h s held. adds.stays d h s (c.loop-place.invariant.keeps d h s held);
      there = holds_next c.loop-place.names c.add.new.self c.args.directory place hash hashes at adds c.loop-place.invariant.there;
    }

pub returns-clause-there : goal.returns-clause-there
returns-clause-there c = λ s h lt is.
    let hashes : List ℕ = c.args.hashes.now in
    let within_limit : c.min-place-end.result ≡ min (length hashes) c.args.count = search rules in
    let within : s < length hashes = slice_get_within hashes s h is in
    c.loop-place.invariant.there s h (grind (arith, within_limit, within, lt, c.loop-place-test.false)) is
