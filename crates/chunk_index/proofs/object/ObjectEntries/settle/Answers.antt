use Rattle.std.proofs.Common.{IfSome, sym, ap, subst, refl, ◌∙◌}
use Rattle.block_state.specs.TableOf.{table}
use Rattle.chunk_index.specs.Entries.{chunk}
use Rattle.chunk_index.specs.InPlace.{goes_of, left}
use Rattle.chunk_index.specs.Settled.{MaySettleEntry, RecountsSettled}
use Rattle.chunk_index.proofs.Finding.{find_in_gap}
use Rattle.chunk_index.proofs.InPlace.{element_found, rises_at, alters_by, alters_absent, left_chunk, goes_absent, counts_absent}
use Rattle.chunk_index.proofs.object.ObjectEntries.settle.Goals as goal

pub settle-requires : goal.settle-requires
settle-requires c =
    let e = c.index_mut.result.now in
    let is = element_found _ c.args.self.now.rises _ _ c.in-Ok.ensures.found e e refl c.index_mut.ensures.value in
    record { may = subst (λ v. IfSome v (λ x. MaySettleEntry c.args.group x (table c.args.blocks.now))) is c.requires.may }

pub invariant_of-self : goal.invariant_of-self
invariant_of-self c =
    let e = c.index_mut.result.now in
    let is = element_found _ c.args.self.now.rises _ _ c.in-Ok.ensures.found e e refl c.index_mut.ensures.value in
    record { rises = rises_at _ c.args.self.now.rises _ _ c.in-Ok.ensures.found e is c.settle.new.self (ap chunk c.settle.ensures.entry ∙ left_chunk c.args.group e) }

pub returns-in-Ok-clause-alters : goal.returns-in-Ok-clause-alters
returns-in-Ok-clause-alters c =
    let e = c.index_mut.result.now in
    let is = element_found _ c.args.self.now.rises _ _ c.in-Ok.ensures.found e e refl c.index_mut.ensures.value in
    alters_by _ c.args.self.now.rises _ _ c.in-Ok.ensures.found e is c.settle.new.self (ap chunk c.settle.ensures.entry ∙ left_chunk c.args.group e) (left c.args.group) c.settle.ensures.entry

pub returns-in-Ok-clause-goes : goal.returns-in-Ok-clause-goes
returns-in-Ok-clause-goes c =
    let e = c.index_mut.result.now in
    let is = element_found _ c.args.self.now.rises _ _ c.in-Ok.ensures.found e e refl c.index_mut.ensures.value in
    c.settle.ensures.goes ∙ sym (ap (goes_of c.args.group) is)

pub returns-in-Ok-clause-counts : goal.returns-in-Ok-clause-counts
returns-in-Ok-clause-counts c =
    let e = c.index_mut.result.now in
    let is = element_found _ c.args.self.now.rises _ _ c.in-Ok.ensures.found e e refl c.index_mut.ensures.value in
    subst (λ v. RecountsSettled c.args.group v (table c.args.blocks.now) (table c.settle.new.blocks)) (sym is) c.settle.ensures.counts

pub returns-in-Err-clause-alters : goal.returns-in-Err-clause-alters
returns-in-Err-clause-alters c = alters_absent _ _ (find_in_gap chunk _ _ _ c.in-Err.ensures.absent) (left c.args.group)

pub returns-in-Err-clause-goes : goal.returns-in-Err-clause-goes
returns-in-Err-clause-goes c = goes_absent c.args.group _ (find_in_gap chunk _ _ _ c.in-Err.ensures.absent)

pub returns-in-Err-clause-counts : goal.returns-in-Err-clause-counts
returns-in-Err-clause-counts c = counts_absent c.args.group _ _ (find_in_gap chunk _ _ _ c.in-Err.ensures.absent)
