use Rattle.std.proofs.Common.{◌∙◌, ap, sym}
use Rattle.std.specs.Prelude.{Option, ℕ}
use Rattle.command_plans.specs.Paths.{place_of}
use Rattle.command_plans.specs.Classes.{Changing, is_one, reports_if}
use Rattle.object_commands.proofs.Making.{both_end}
use Rattle.command_plans.specs.laws.Plan.{tries_kind, tries_same, refused, passed, passed_all, no_object, this_object}
use Rattle.object_commands.proofs.rename.rename_places.Goals as goal

pub returns-then-have_dots : goal.returns-then-have_dots
returns-then-have_dots g c z s holds same from to = refused s _ _ _ _ (sym c.have_dots.ensures ∙ c.if-have_dots.true)

pub returns-then-have_no_name : goal.returns-then-have_no_name
returns-then-have_no_name g c z s holds same from to = refused s _ _ _ _ (sym c.have_no_name.ensures ∙ c.if-have_no_name.true) ∙ passed s _ _ _ _ (sym c.have_dots.ensures ∙ c.if-have_dots.false)

pub returns-in-Some : goal.returns-in-Some
returns-in-Some g c z s holds same from to =
    let dots = sym c.have_dots.ensures ∙ c.if-have_dots.false in
    let names = sym c.have_no_name.ensures ∙ c.if-have_no_name.false in
    let both = both_end s.objects (place_of c.args.from) (place_of c.args.to) from to dots names in
    tries_kind z _ _ s _ (ap (λ (o : Option ℕ). reports_if (is_one o (place_of c.args.to).object) Changing) (sym c.in-Some.is)) c.rename_to.result
    (tries_same z _ s _ _ (this_object s c.args.from.object _ c.in-Some.number c.in-Some.is ∙ passed_all s _ ∙ passed s _ _ _ _ names ∙ passed s _ _ _ _ dots)
    c.rename_to.result (c.rename_to.ensures z s holds same both.0 c.in-Some.is both.1))

pub returns-in-None : goal.returns-in-None
returns-in-None g c z s holds same from to =
    no_object s c.args.from.object _ c.in-None.is ∙ passed_all s _ ∙ passed s _ _ _ _ (sym c.have_no_name.ensures ∙ c.if-have_no_name.false) ∙ passed s _ _ _ _ (sym c.have_dots.ensures ∙ c.if-have_dots.false)
