use Rattle.std.proofs.Common.{IsTrue, false, subst}
use Rattle.flash_tree.specs.Places.{numbers_of}
use Rattle.page_store.specs.Opened.{AreLeft}
use Rattle.page_store.proofs.Tables.{blank_tables, blank_unwritten, marked_tables, marked_unwritten}
use Rattle.page_store.proofs.opening.table_above.Goals as goal

pub returns-then-not-are_left-clause-table : goal.returns-then-not-are_left-clause-table
returns-then-not-are_left-clause-table g c =
    let none : AreLeft (numbers_of c.args.numbers) → ⊥ = λ left. let two : IsTrue false = subst (λ b. IsTrue b) c.if-not-are_left.true (c.are_left.ensures.1 left) in absurd cc in
    blank_tables (g.N.Nand.state c.args.device.now) (numbers_of c.args.numbers) c.geometry.result c.new.result none c.geometry.ensures c.new.ensures

pub returns-then-not-are_left-clause-unwritten : goal.returns-then-not-are_left-clause-unwritten
returns-then-not-are_left-clause-unwritten g c = blank_unwritten c.geometry.result c.new.result c.new.ensures

pub returns-clause-table : goal.returns-clause-table
returns-clause-table g c = marked_tables (g.N.Nand.state c.args.device.now) (numbers_of c.args.numbers) c.marked_table.result c.marked_table.ensures

pub returns-clause-unwritten : goal.returns-clause-unwritten
returns-clause-unwritten g c = marked_unwritten (g.N.Nand.state c.args.device.now) (numbers_of c.args.numbers) c.marked_table.result c.marked_table.ensures
