use Rattle.std.proofs.Common.{◌≡◌, ◌+◌, ◌-◌, ◌*◌, ◌/◌, ℕ, List, length, take, drop, sym, ap, ◌∙◌, arith}
use Rattle.mount_scan.specs.CheckpointParts.{entry_part}
use Rattle.mount_scan.proofs.CheckpointParts.{part_of, length-part, takes_start, takes_next, takes_row}
use Rattle.mount_scan.proofs.checkpoint_part.take_parts.Goals as goal

pub loop-k-init : goal.loop-k-init
loop-k-init c = takes_start c.args.n c.args.first c.args.parts.now c.args.entries.now.items c.requires.so_far

pub take_part-requires-clause-so_far : goal.take_part-requires-clause-so_far
take_part-requires-clause-so_far c = c.loop-k.invariant.so_far

-- the part at place k, as it is cut out
cut_out : (k : ℕ) (xs : List ℕ) → take (32 * k + 32 - 32 * k) (drop (32 * k) xs) ≡ take 32 (drop (32 * k) xs)
cut_out k xs = ap (λ n. take n (drop (32 * k) xs)) (let z : 32 * k + 32 - 32 * k ≡ 32 = omega arith in z)

pub returns-then-not-branch-clause-no : goal.returns-then-not-branch-clause-no
returns-then-not-branch-clause-no c is fs are first same =
    let each = part_of (entry_part fs) (length-part fs) c.args.first (length c.args.parts.now / 32) c.args.parts.now same in
    let begins = (c.loop-k.invariant.exact fs are).1 (first, λ i lt. each i (omega (arith, lt, c.loop-k-test.true))) in
    c.in_ok-take_part.ensures.no c.if-not-branch.true fs are begins (cut_out c.loop-k.k c.args.parts.now ∙ each c.loop-k.k c.loop-k-test.true)

pub loop-k-preserved : goal.loop-k-preserved
loop-k-preserved c =
    takes_next c.args.n c.args.first c.loop-k.k c.args.parts.now _ (cut_out c.loop-k.k c.args.parts.now) c.args.entries.now.items c.loop-k.entries.items c.take_part.new.entries.items c.loop-k.invariant
    (c.in_ok-take_part.ensures.yes c.if-not-branch.false)

pub returns-clause-yes : goal.returns-clause-yes
returns-clause-yes c is =
    let all : c.loop-k.k ≡ length c.args.parts.now / 32 = omega (arith, c.loop-k-test.false, c.loop-k.auto.k-end) in
    takes_row c.args.n c.args.first c.loop-k.k c.args.parts.now (sym c.requires.size) all c.args.entries.now.items c.loop-k.entries.items c.loop-k.invariant
