use Rattle.std.proofs.Common.{refl, sym, subst, nat_le, MatchBool}
use Rattle.std.specs.FinMap as map
use Rattle.posix_profile.specs.WellFormed.{IsNamed}
use Rattle.command_plans.specs.laws.Fact.{file_info, directory_info, pairs_named, named_some}
use Rattle.command_plans.proofs.facts.is_named.Goals as goal

pub returns-in-File : goal.returns-in-File
returns-in-File g c z objects has x is =
    subst (λ n. MatchBool (nat_le 1 n) (IsNamed objects c.args.number) (IsNamed objects c.args.number → ⊥)) (sym (file_info objects c.args.number c.in-Some.info (map.get objects c.args.number) (c.in-Some.ensures z objects has) c.in-File.is))
    (pairs_named objects c.args.number)

pub returns-in-Directory : goal.returns-in-Directory
returns-in-Directory g c z objects has x is =
    let dir = directory_info objects c.args.number c.in-Some.info (map.get objects c.args.number) refl (c.in-Some.ensures z objects has) c.in-Directory.is in
    subst (λ b. MatchBool b (IsNamed objects c.args.number) (IsNamed objects c.args.number → ⊥)) (sym c.is_some.ensures) (named_some objects c.args.number c.parent.result (c.parent.ensures z objects has dir))
