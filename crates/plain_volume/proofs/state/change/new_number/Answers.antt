use Rattle.std.proofs.Common.{◌≡◌, ◌∙◌, ◌-◌, ◌+◌, sym, ap, arith, not, unwrap_or}
use Rattle.std.specs.List.{find, range_with_len}
use Rattle.std.specs.FinMap as map
use Rattle.volume_terms.specs.laws.List.{find_step}
use Rattle.plain_volume.specs.PlainState.{objects_in}
use Rattle.plain_volume.specs.laws.PlainState.{len_objects}
use Rattle.plain_volume.proofs.state.change.new_number.Goals as goal

pub loop-number-init : goal.loop-number-init
loop-number-init c =
    let many = len_objects c.args.objects.now c.len.ensures.ordered in
    let same : (c.len.result + 3) - 2 ≡ map.len (objects_in c.args.objects.now) + 1 = omega (arith, c.len.ensures.len, many) in
    ap (λ n. unwrap_or (find (λ n. not (map.contains_key (objects_in c.args.objects.now) n)) (range_with_len 2 n)) 0) same

pub loop-number-preserved : goal.loop-number-preserved
loop-number-preserved c =
    let no' = sym c.is_free.ensures ∙ c.if-is_free.false in
    let more : (c.len.result + 3) - c.loop-number.number ≡ ((c.len.result + 3) - (c.loop-number.number + 1)) + 1 = omega arith in
    ap (λ o. unwrap_or o 0) (find_step (λ n. not (map.contains_key (objects_in c.args.objects.now) n)) c.loop-number.number _ _ more no') ∙ c.loop-number.invariant
