use Rattle.std.proofs.Common.{◌∙◌, inl, inr, IsTrue, subst, false}
use Rattle.std.proofs.lemmas.Bool.{cases_Bool}
use Rattle.block_state.specs.TableOf.{table}
use Rattle.page_store.proofs.Tables.{have_names, reports_read, greatest_read, opened, counted_unwritten}
use Rattle.page_store.proofs.opening.open.Goals as goal

pub returns-then-not-have_names-clause-fault : goal.returns-then-not-have_names-clause-fault
returns-then-not-have_names-clause-fault g c =
    let old = g.N.Nand.state c.args.device.now in
    let reads = c.scan_newest.ensures.reads.only in
    elim (cases_Bool old.honest) [
      | inl honest ↦
          let named = have_names old _ _ c.in_ok-newest.ensures.newest honest (c.in_ok-newest.ensures.numbers honest) in
          let two : IsTrue false = subst (λ b. IsTrue b) c.if-not-have_names.true (c.have_names.ensures.1 named) in
          absurd cc
      | inr lies ↦ reads.lasts.honest ∙ lies
    ]

pub returns-clause-opened : goal.returns-clause-opened
returns-clause-opened g c =
    let old = g.N.Nand.state c.args.device.now in
    let new = g.N.Nand.state c.scan_newest.new.device in
    let reads = c.scan_newest.ensures.reads.only in
    opened new _ c.in_ok-index.index _ _ _
    (reports_read old new _ reads c.in_ok-newest.ensures.newest)
    (greatest_read old new _ reads c.in_ok-newest.ensures.numbers)
    (c.have_names.ensures.0 c.if-not-have_names.false)
    c.in_ok-blocks.ensures.table
    c.in_ok-index.ensures.indexes c.in_ok-index.ensures.agree c.in_ok-index.ensures.counts

pub returns-clause-unwritten : goal.returns-clause-unwritten
returns-clause-unwritten g c = counted_unwritten _ _ (table c.in_ok-blocks.blocks) (table c.in_ok-index.blocks) c.in_ok-index.ensures.counts c.in_ok-blocks.ensures.unwritten
