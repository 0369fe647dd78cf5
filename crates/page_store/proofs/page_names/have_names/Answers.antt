use Rattle.std.proofs.Common.{◌≡◌, ◌∙◌, refl, ap, subst, arith, length}
use Rattle.std.proofs.lemmas.Option.{slice_get_within}
use Rattle.mount_scan.specs.Listed.{listed}
use Rattle.mount_scan.specs.laws.Listed.{before, before_all, bucket_part, part_end}
use Rattle.page_store.proofs.Buckets.{NamedBelow, names_more, names_part, not_true}
use Rattle.page_store.proofs.page_names.have_names.Goals as goal

pub loop-at-preserved : goal.loop-at-preserved
loop-at-preserved c =
    let part = bucket_part c.args.newest.now c.loop-at.at _ (omega (arith, c.loop-at-test.true)) c.bucket.ensures in
    let end = part_end c.args.newest.now c.loop-at.at _ (omega (arith, c.loop-at-test.true)) c.bucket.ensures in
    subst (λ n. NamedBelow c.args.number (listed c.args.newest.now) n) end
    (names_more c.args.number (listed c.args.newest.now) (before c.args.newest.now c.loop-at.at) _ part c.loop-at.invariant (c.are_named.ensures.0 c.if-not-are_named.false))

pub returns-then-not-are_named : goal.returns-then-not-are_named
returns-then-not-are_named c =
    let part = bucket_part c.args.newest.now c.loop-at.at _ (omega (arith, c.loop-at-test.true)) c.bucket.ensures in
    (λ holds. absurd cc, λ names. absurd (not_true c.are_named.result c.if-not-are_named.true (c.are_named.ensures.1 (names_part c.args.number (listed c.args.newest.now) _ _ part names))))

pub returns : goal.returns
returns c =
    let end : c.loop-at.at ≡ 64 = omega (arith, c.loop-at-test.false, c.loop-at.auto.at-end) in
    let all : before c.args.newest.now c.loop-at.at ≡ length (listed c.args.newest.now) = ap (before c.args.newest.now) end ∙ before_all c.args.newest.now in
    (λ holds i f at. c.loop-at.invariant i f (omega (arith, all, slice_get_within (listed c.args.newest.now) i f at)) at, λ names. refl)
