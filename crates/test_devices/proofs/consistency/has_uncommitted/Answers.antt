use Rattle.std.proofs.Common.{◌≡◌, ◌<◌, ◌+◌, Some, None, sym, ◌∙◌, arith, rules}
use Rattle.block_state.specs.Committed.{bad_count, free_count}
use Rattle.block_state.specs.Table.{Table}
use Rattle.block_state.specs.TableOf.{table}
use Rattle.block_state.specs.laws.Committed.{free_where_closed}
use Rattle.test_devices.proofs.consistency.has_uncommitted.Goals as goal

pub returns-then-bad-spare : goal.returns-then-bad-spare
returns-then-bad-spare c = λ is.
    let t : Table = table c.args.blocks.now in
    let closed : t.open_block ≡ None = search rules in
    let none : t.checkpoint ≡ None = search rules in
    let free = free_where_closed t closed in
    record {
      bad = search rules;
      uncommitted = let sufficient : c.args.spare < free_count t + bad_count t = search rules in omega (arith, free, sufficient);
      apart = λ k at. let two : None ≡ Some k = sym none ∙ at in absurd cc;
    }
