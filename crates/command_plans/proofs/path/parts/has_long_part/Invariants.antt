use Rattle.std.proofs.Common.{◌≡◌, length, nat_lt, map as list_map, drop}
use Rattle.std.specs.List.{list_any}
use Rattle.volume_terms.specs.Sizes.{name_limit}
use Rattle.command_plans.proofs.path.parts.has_long_part.Given as goal

-- no part so far is too long
abbrev pub invariant-loop-part : goal.invariant-loop-part
invariant-loop-part l =
    list_any (λ part. nat_lt name_limit (length part)) (list_map (λ part. part.now) (drop l.part-index l.pieces))
    ≡ list_any (λ part. nat_lt name_limit (length part)) (list_map (λ part. part.now) l.fn.pieces)
