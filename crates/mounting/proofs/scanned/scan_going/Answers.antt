use Rattle.std.proofs.Common.{sym, ◌∙◌}
use Rattle.nand_model.specs.laws.Changes.{only_reads_on}
use Rattle.block_state.specs.TableOf.{table}
use Rattle.mounting.proofs.Firsts.{tree_knows}
use Rattle.mounting.proofs.Noting.{whole_none}
use Rattle.mounting.proofs.scanned.scan_going.Goals as goal

pub returns-in-Some-clause-going : goal.returns-in-Some-clause-going
returns-in-Some-clause-going g c =
    let reported = c.in-Some.ensures in
    let e = c.in_ok-named.ensures in
    record {
      named = record { tree = e.read; names = λ honest. e.names (sym e.reads.lasts.honest ∙ honest) };
      sizes = rw c.deref.ensures at reported.sizes;
      fitting = rw c.deref.ensures at reported.fitting;
      room = rw c.deref.ensures at reported.room;
      blocks = record {
        firsts = tree_knows _ _ c.in_ok-named.named.value.on.index _ c.in_ok-named.named.value.on.spare c.in_ok-named.named.value.on.tree e.read e.firsts;
        whole = whole_none (g.N.Nand.state c.in_ok-named.named.value.on.device) (table c.in_ok-named.named.value.on.blocks).checkpoint e.none;
      };
      tree = rw c.deref.ensures at reported.tree;
    }

pub returns-in-None-clause-back : goal.returns-in-None-clause-back
returns-in-None-clause-back g c = only_reads_on _ _ _ (rw (sym c.into_inner.ensures) at c.in_ok-named.ensures.reads) c.unmounted.ensures.reads

pub unmounted-requires : goal.unmounted-requires
unmounted-requires g c = rw c.into_inner.ensures (λ power. rw c.deref.ensures at c.in-None.ensures.none)
