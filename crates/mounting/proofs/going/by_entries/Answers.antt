use Rattle.mounting.proofs.ReadsTree.{ReadLaws, honest_seen, not_damaged, reads_tree}
use Rattle.mounting.proofs.going.by_entries.Goals as goal

pub returns-in-Some-clause-going : goal.returns-in-Some-clause-going
returns-in-Some-clause-going g c =
    let reported = c.in-Some.ensures in
    let same = c.deref.ensures in
    record {
      named = c.in_ok-named.ensures.named;
      sizes = rw same at reported.sizes;
      fitting = rw same at reported.fitting;
      room = rw same at reported.room;
      blocks = c.in_ok-named.ensures.blocks;
      tree = rw same at reported.tree;
    }

pub returns-in-Some-clause-within_limit : goal.returns-in-Some-clause-within_limit
returns-in-Some-clause-within_limit g c = λ is.
    let e = c.in_ok-named.ensures in
    let on = c.in_ok-named.named.value.on in
    let laws : ReadLaws = record {
      sizes = c.a_volume_has_sizes.ensures;
      pages = c.the_pages_of_a_tree_are_those_of_its_objects.ensures;
      one = c.a_flash_has_one_answer_at_most.ensures;
    } in
    let tree = (rw c.deref.ensures at c.in-Some.ensures.tree) (honest_seen _ _ _ e.read is) in
    reads_tree _ _ _ e.read is laws on.index on.spare on.tree tree.0 (e.within_limit is) tree.1 tree.2

pub returns-in-None-clause-fault : goal.returns-in-None-clause-fault
returns-in-None-clause-fault g c = λ is spare objects sound.
    let e = c.in_ok-named.ensures in
    let laws : ReadLaws = record {
      sizes = c.a_volume_has_sizes.ensures;
      pages = c.the_pages_of_a_tree_are_those_of_its_objects.ensures;
      one = c.a_flash_has_one_answer_at_most.ensures;
    } in
    absurd (not_damaged _ _ _ e.read is laws spare objects sound ((rw c.deref.ensures at c.in-None.ensures.none) (honest_seen _ _ _ e.read is)))
