use Rattle.posix_profile.specs.laws.Below.{is_below_decides}
use Rattle.posix_profile.proofs.law.the_test_says_what_lies_below.Goals as goal

pub returns : goal.returns
returns c = λ z objects x q forest (dir, up). is_below_decides z objects forest x q dir up
