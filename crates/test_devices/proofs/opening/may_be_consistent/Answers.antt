use Rattle.std.proofs.Common.{rules}
use Rattle.block_state.specs.TableOf.{table}
use Rattle.flash_tree.specs.Places.{numbers_of}
use Rattle.test_devices.proofs.Tested.{consistent_tested}
use Rattle.test_devices.proofs.opening.may_be_consistent.Goals as goal

pub returns-clause-consistent : goal.returns-clause-consistent
returns-clause-consistent c = λ is d opened.
    let o = c.args.opened.now in
    consistent_tested c.args.spare d (table o.blocks) o.index (numbers_of o.numbers) opened (record { left = (search rules, search rules); fits = search rules; free = search rules; limits = (search rules, search rules) }) (search rules)
