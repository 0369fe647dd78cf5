use Rattle.std.proofs.Common.{rules}
use Rattle.flash_tree.specs.Places.{spot_of}
use Rattle.test_devices.proofs.Parts.{no_part, reported_by_tag}
use Rattle.test_devices.proofs.group.is_part.Goals as goal

pub returns-in-None-clause-part : goal.returns-in-None-clause-part
returns-in-None-clause-part g c = λ honest.
    let none = rw c.in-None.is at (c.in_ok-tag_at.ensures.tag honest) in
    (search rules, λ part. absurd (no_part _ (spot_of c.args.member.now) c.args.i none part))

pub returns-in-Some-clause-part : goal.returns-in-Some-clause-part
returns-in-Some-clause-part g c = λ honest.
    let has = rw c.in-Some.is at (c.in_ok-tag_at.ensures.tag honest) in
    reported_by_tag _ (spot_of c.args.member.now) c.args.i c.in-Some.tag _ has c.is_part_tag.ensures
