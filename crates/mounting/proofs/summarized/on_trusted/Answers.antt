use Rattle.std.proofs.Common.{◌≡◌, true, sym, subst}
use Rattle.nand_model.specs.Calls.{Device}
use Rattle.flash_tree.specs.Places.{numbers_of}
use Rattle.block_state.specs.TableOf.{table}
use Rattle.mounting.specs.Mounted.{IsTreeRead, CoversNewest}
use Rattle.mounting.proofs.summarized.on_trusted.Goals as goal

pub returns-clause-named : goal.returns-clause-named
returns-clause-named g c =
    let pruned = c.args.pruned in
    let found = c.args.found in
    let reported = c.requires.1 in
    record {
      tree = subst (λ (d : Device). IsTreeRead d (table pruned.blocks) pruned.index (numbers_of pruned.numbers) found.spare found.tree) (sym c.new.ensures.state) reported.0;
      names = subst (λ (d : Device). d.honest ≡ true → CoversNewest found.names d found.spare found.tree) (sym c.new.ensures.state) reported.1.0;
    }
