use Rattle.std.proofs.Common.{◌∙◌, ◌&&◌, sym, ap}
use Rattle.posix_profile.specs.NameSteps.{is_below}
use Rattle.object_commands.proofs.rename.goes_below.Goals as goal

pub returns-then-not-is_directory : goal.returns-then-not-is_directory
returns-then-not-is_directory g c z objects has dir reached =
    ap (λ b. b && is_below objects c.args.number c.args.directory) (sym c.if-not-is_directory.true ∙ c.is_directory.ensures z objects has)

pub returns : goal.returns
returns g c z objects has dir reached =
    c.is_below.ensures z objects has dir reached ∙ ap (λ b. b && is_below objects c.args.number c.args.directory) (sym c.if-not-is_directory.false ∙ c.is_directory.ensures z objects has)
