use Rattle.std.proofs.Common.{sym, ◌∙◌, ap, subst}
use Rattle.nand_model.specs.Calls.{Device}
use Rattle.nand_model.specs.Changes.{OnlyReads}
use Rattle.nand_model.specs.laws.Changes.{only_reads_on}
use Rattle.flash_tree.specs.Checkpoints.{IsChecked}
use Rattle.nand_model.specs.TrustedParts.{inner_of}
use Rattle.mounting.specs.Reads.{ReadsAtMost}
use Rattle.mounting.proofs.Mountable.{remembers_since}
use Rattle.mounting.proofs.Noting.{since_same}
use Rattle.mounting.proofs.ReadsTree.{reads_seen, without_seen}
use Rattle.mounting.proofs.opening.mount.Goals as goal

pub returns-in-Ok-clause-given : goal.returns-in-Ok-clause-given
returns-in-Ok-clause-given g c =
    let a = g.N.Nand.state c.args.device in
    let m = c.in-Ok.ensures in
    let e = c.in_ok-going.ensures in
    let same = m.device in
    record {
      since = since_same a _ _ _ _ (ap (λ d. g.N.Nand.state (inner_of d)) m.same) same e.read;
      made = m.made;
      checked = λ is. subst (IsChecked a.geometry a.flash) (sym m.checkpoint) (e.checked is);
      within_limit = subst (ReadsAtMost a) (sym same) (record { by_checkpoint = reads_seen a _ _ e.read e.within_limit; without_checkpoint = without_seen a _ _ e.read e.without });
      remembers = λ honest. remembers_since a _ _ _ e.read honest m.remembers;
    }

pub returns-in-Err-clause-back : goal.returns-in-Err-clause-back
returns-in-Err-clause-back g c =
    let there = ap g.N.Nand.state (c.into_inner.ensures.inner ∙ ap inner_of c.in-Err.ensures.back) in
    only_reads_on _ _ _ c.in_ok-going.ensures.read.read.reads
    (subst (λ (k : Device). OnlyReads k (g.N.Nand.state c.unmounted.result.0)) there c.unmounted.ensures.reads)
