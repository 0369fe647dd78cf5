use Rattle.flash_tree.specs.laws.Order.{after_on}
use Rattle.flash_tree.specs.laws.Order.{not_after_itself}
use Rattle.flash_tree.proofs.law.places_are_in_order.Goals as goal

pub returns-clause-on : goal.returns-clause-on
returns-clause-on c = after_on

pub returns-clause-strict : goal.returns-clause-strict
returns-clause-strict c = not_after_itself
