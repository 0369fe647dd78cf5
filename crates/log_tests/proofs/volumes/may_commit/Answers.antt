use Rattle.std.proofs.Common.{◌≡◌, ◌<◌, ap, arith, rules}
use Rattle.std.specs.Option.{option_map_or}
use Rattle.volume_terms.specs.laws.List.{slice_get_there}
use Rattle.flash_tree.specs.Slots.{check_object}
use Rattle.flash_tree.specs.declared.place.Key.{Key}
use Rattle.transactions.specs.Committing.{no_key, fresh_name}
use Rattle.log_tests.proofs.volumes.may_commit.Goals as goal

pub returns-clause-ordinary : goal.returns-clause-ordinary
returns-clause-ordinary c = λ number _ i lt same.
    let pages = c.args.pages.now in
    let there = slice_get_there pages i lt in
    let name : (fresh_name pages number i).key ≡ there.0.key = ap (λ m. option_map_or (λ p. p.key) m no_key) there.1 in
    let object = ap (λ (k : Key). k.object) name in
    let less = (c.loop-i.invariant i there.0 (search rules) there.1).2 in
    omega (arith, less, object, same)
