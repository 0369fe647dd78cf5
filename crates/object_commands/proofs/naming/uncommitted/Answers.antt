use Rattle.std.proofs.Common.{◌∙◌, sym, subst, inl, inr}
use Rattle.posix_profile.specs.State.{Handles}
use Rattle.posix_profile.specs.WellFormed.{IsOpen}
use Rattle.object_commands.proofs.NamesLost.{name_lost_keeps, name_lost_drops}
use Rattle.object_commands.proofs.naming.uncommitted.Goals as goal

pub returns-then-has_other_name-clause-left : goal.returns-then-has_other_name-clause-left
returns-then-has_other_name-clause-left g c z s holds same left directory name lost =
    name_lost_keeps z s holds.sound.well_formed left directory c.args.number name lost (inl (sym (c.has_other_name.ensures z s.objects holds.has) ∙ c.if-has_other_name.true))

pub returns-then-is_open-clause-left : goal.returns-then-is_open-clause-left
returns-then-is_open-clause-left g c z s holds same left directory name lost =
    let is = rw c.if-is_open.true at c.is_open.ensures in
    name_lost_keeps z s holds.sound.well_formed left directory c.args.number name lost (inr (subst (λ (h : Handles). IsOpen h c.args.number) same is))

pub returns-clause-left : goal.returns-clause-left
returns-clause-left g c z s holds same left directory name lost =
    let closed = rw c.if-is_open.false at c.is_open.ensures in
    name_lost_drops z s holds.sound.well_formed left directory c.args.number name lost (sym (c.has_other_name.ensures z s.objects holds.has) ∙ c.if-has_other_name.false)
    (λ is. closed (subst (λ (h : Handles). IsOpen h c.args.number) (sym same) is))
