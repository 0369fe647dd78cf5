use Rattle.block_state.specs.TableOf.{table}
use Rattle.flash_tree.specs.Places.{numbers_of}
use Rattle.test_devices.proofs.Forgetting.{forgotten}
use Rattle.test_devices.proofs.opening.forget.Goals as goal

pub returns : goal.returns
returns g c = λ d opened.
    forgotten (g.F.KeyFilter.keeps c.args.filter.now) d (table c.args.opened.now.blocks) (table c.retain.new.blocks) c.args.opened.now.index c.retain.new.self (numbers_of c.args.opened.now.numbers) opened
    c.retain.ensures.retains c.retain.ensures.agree c.retain.ensures.counts
