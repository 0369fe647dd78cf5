use Rattle.std.proofs.Common.{◌∙◌, refl, sym, ap, subst, inl, inr, Some}
use Rattle.std.specs.FinMap as map
use Rattle.posix_profile.specs.State.{Handles}
use Rattle.posix_profile.specs.WellFormed.{IsNamed, IsOpen}
use Rattle.object_commands.proofs.Making.{dropped_empty, unnamed_names_nothing}
use Rattle.object_commands.proofs.NamesLost.{closed_keeps, closed_drops}
use Rattle.command_plans.specs.laws.Room.{forget_fits}
use Rattle.object_commands.proofs.opening.forgotten.Goals as goal

pub returns-then-number-eq-ROOT-clause-leaves : goal.returns-then-number-eq-ROOT-clause-leaves
returns-then-number-eq-ROOT-clause-leaves g c z s holds same handle stood is =
    closed_keeps z s holds.sound.well_formed c.args.fd handle stood (inl (sym is ∙ c.if-number-eq-ROOT.true))

pub returns-then-is_named-clause-leaves : goal.returns-then-is_named-clause-leaves
returns-then-is_named-clause-leaves g c z s holds same handle stood is =
    let there = (holds.sound.well_formed.handles c.args.fd handle stood).there in
    let named = (rw c.if-is_named.true at c.is_named.ensures) z s.objects holds.has there.0 (ap (map.get s.objects) is ∙ there.1) in
    closed_keeps z s holds.sound.well_formed c.args.fd handle stood (inr (inl (subst (IsNamed s.objects) is named)))

pub returns-then-is_open_besides-clause-leaves : goal.returns-then-is_open_besides-clause-leaves
returns-then-is_open_besides-clause-leaves g c z s holds same handle stood is =
    let other = rw c.if-is_open_besides.true at c.is_open_besides.ensures in
    closed_keeps z s holds.sound.well_formed c.args.fd handle stood
    (inr (inr (subst (IsOpen (map.remove s.handles c.args.fd)) is (subst (λ (h : Handles). IsOpen (map.remove h c.args.fd) c.args.number) same other))))

pub returns-clause-leaves : goal.returns-clause-leaves
returns-clause-leaves g c z s holds same handle stood is =
    let there = (holds.sound.well_formed.handles c.args.fd handle stood).there in
    let unnamed = (rw c.if-is_named.false at c.is_named.ensures) z s.objects holds.has there.0 (ap (map.get s.objects) is ∙ there.1) in
    let alone = rw c.if-is_open_besides.false at c.is_open_besides.ensures in
    ap (map.remove s.objects) is
    ∙ closed_drops z s holds.sound.well_formed c.args.fd handle stood
    (λ top. c.if-number-eq-ROOT.false (is ∙ top))
    (λ named. unnamed (subst (IsNamed s.objects) (sym is) named))
    (λ open'. alone (subst (λ (h : Handles). IsOpen (map.remove h c.args.fd) c.args.number) (sym same) (subst (IsOpen (map.remove s.handles c.args.fd)) (sym is) open')))

pub returns-clause-can : goal.returns-clause-can
returns-clause-can g c z s holds same handle stood is =
    let there = (holds.sound.well_formed.handles c.args.fd handle stood).there in
    let unnamed = (rw c.if-is_named.false at c.is_named.ensures) z s.objects holds.has there.0 (ap (map.get s.objects) is ∙ there.1) in
    record { sensible = (c.if-number-eq-ROOT.false, unnamed, (there.0, ap (map.get s.objects) is ∙ there.1)); takes = tt; empty = dropped_empty s.objects (Some c.args.number) c.args.number (inr refl) (unnamed_names_nothing z s.objects holds.has.forest c.args.number c.if-number-eq-ROOT.false unnamed); fits = forget_fits z s.objects c.args.number holds.sound.fit }
