use Rattle.std.proofs.Common.{◌≡◌, Some, true, sym, subst}
use Rattle.nand_model.specs.Calls.{Device}
use Rattle.flash_tree.specs.Places.{numbers_of}
use Rattle.block_state.specs.TableOf.{table}
use Rattle.nand_model.specs.Trusting.{trusted_as}
use Rattle.mounting.specs.Mounted.{IsTreeRead, CoversNewest}
use Rattle.mounting.proofs.Entering.{tree_read, names_read}
use Rattle.mounting.proofs.Firsts.{known_after}
use Rattle.mounting.specs.Tables.{KnowsFirstsOf}
use Rattle.mounting.proofs.Lent.{reads_trusted}
use Rattle.mounting.proofs.entries.go_by.Goals as goal

pub returns-in-Ok-clause-named : goal.returns-in-Ok-clause-named
returns-in-Ok-clause-named g c =
    let a = g.N.Nand.state c.args.bounded.device in
    let b = g.N.Nand.state c.in_ok-device.device in
    let n = numbers_of c.args.opened.numbers in
    let walked = c.in_ok-device.walked in
    let e = c.in_ok-device.ensures in
    let noted = Some c.args.found.now.block in
    let still = c.prune.ensures.opened noted (trusted_as g.reported a) (trusted_as g.reported b) n (reads_trusted g.reported a b e.reads) c.requires.1 in
    let within = g.met.N.Nand.within c.in_ok-device.device in
    rw c.in-Ok.ensures.same (record {
      tree = subst (λ (d : Device). IsTreeRead d (table c.prune.new.blocks) c.prune.new.index n walked.spare walked.tree) (sym c.new.ensures.state)
          (tree_read g.reported noted a b (table c.args.opened.blocks) (table c.prune.new.blocks) c.args.opened.index c.prune.new.index n walked.spare walked.tree walked.names e.reads c.requires.1 still
          c.prune.ensures.only e.tree e.names within c.the_headers_report_the_keys.ensures);
      names = subst (λ (d : Device). d.honest ≡ true → CoversNewest walked.names d walked.spare walked.tree) (sym c.new.ensures.state)
          (names_read g.reported noted a b (table c.args.opened.blocks) (table c.prune.new.blocks) c.args.opened.index c.prune.new.index n walked.spare walked.tree walked.names e.reads c.requires.1 still
          c.prune.ensures.only e.tree e.names within c.the_headers_report_the_keys.ensures);
    })

pub returns-in-Ok-clause-noted : goal.returns-in-Ok-clause-noted
returns-in-Ok-clause-noted g c =
    let a = g.N.Nand.state c.args.bounded.device in
    let b = g.N.Nand.state c.in_ok-device.device in
    rw c.in-Ok.ensures.same (c.prune.ensures.opened (Some c.args.found.now.block) (trusted_as g.reported a) (trusted_as g.reported b) (numbers_of c.args.opened.numbers) (reads_trusted g.reported a b c.in_ok-device.ensures.reads) c.requires.1).noted

pub returns-in-Ok-clause-firsts : goal.returns-in-Ok-clause-firsts
returns-in-Ok-clause-firsts g c known =
    let a = g.N.Nand.state c.args.bounded.device in
    let b = g.N.Nand.state c.in_ok-device.device in
    let n = numbers_of c.args.opened.numbers in
    rw c.in-Ok.ensures.same (subst (λ (d : Device). KnowsFirstsOf d (table c.prune.new.blocks) n) (sym c.new.ensures.state)
    (known_after (trusted_as g.reported a) (trusted_as g.reported b) _ _ (table c.args.opened.blocks) (table c.prune.new.blocks) n (reads_trusted g.reported a b c.in_ok-device.ensures.reads) c.prune.ensures.counts known))
