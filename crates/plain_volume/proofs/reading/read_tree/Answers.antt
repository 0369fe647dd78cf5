use Rattle.std.proofs.Common.{◌≡◌, ◌++◌, ◌∷◌, [], sym, ◌∙◌, ap, subst}
use Rattle.std.proofs.Common.{map as list_map}
use Rattle.std.proofs.lemmas.List.{map-append}
use Rattle.plain_volume.specs.Items.{IsRead, AreRead, item_of, paths_of, root_path}
use Rattle.plain_volume.specs.declared.reading.TreeName.{TreeName}
use Rattle.plain_volume.specs.laws.Listing.{AreReadSoFar, so_far_start, so_far_next, so_far_all, none_wait, reports_both, reports_then}
use Rattle.plain_volume.proofs.reading.read_tree.Goals as goal

pub loop-round-init : goal.loop-round-init
loop-round-init g c = record {
  reported = λ z read_only s shown. (
    so_far_start s.objects (paths_of c.push_back.new.self.items) (list_map item_of c.new-entries.result.items)
        (ap paths_of (c.in_ok-push_back.ensures.items ∙ ap (λ k. k ++ c.in_ok-first.first ∷ []) c.new-waiting.ensures.items) ∙ ap (λ p. p ∷ []) c.in_ok-first.ensures)
        (ap (λ k. list_map item_of k) c.new-entries.ensures.items),
    shown,
  );
}

pub loop-round-preserved : goal.loop-round-preserved
loop-round-preserved g c =
    let entry = c.in_ok-entry-in-Some.entry in
    let name = c.in-Some.name in
    let items = list_map item_of c.loop-round.entries.items in
    let popped : paths_of c.loop-round.waiting.items ≡ name.path.items ∷ paths_of c.pop_front.new.self.items = ap paths_of c.in-Some.ensures.items in
    let grown : list_map item_of c.push.new.self.items ≡ items ++ item_of entry ∷ [] = ap (λ k. list_map item_of k) c.in_ok-push-in-Some.ensures.items ∙ map-append item_of c.loop-round.entries.items (entry ∷ []) in
    record {
      reported = reports_both g.V.Answers.shows c.args.volume.now c.loop-round.volume c.read_entry.new.volume (λ objects. AreReadSoFar objects (paths_of c.loop-round.waiting.items) items) (λ objects. IsRead objects (item_of entry))
          (λ objects. AreReadSoFar objects (paths_of c.wait_for_names.new.waiting.items) (list_map item_of c.push.new.self.items))
          c.loop-round.invariant.reported c.in_ok-entry-in-Some.ensures.reported
          (λ objects so_far read. subst (λ k. AreReadSoFar objects (paths_of c.wait_for_names.new.waiting.items) k) (sym grown)
          (so_far_next objects name.path.items (paths_of c.pop_front.new.self.items) (paths_of c.wait_for_names.new.waiting.items) items (item_of entry) (ap (λ (n : TreeName). n.path.items) c.in_ok-entry-in-Some.ensures.same) read
          c.in_ok-wait_for_names-in-Some.ensures (subst (λ p. AreReadSoFar objects p items) popped so_far)));
    }

pub returns-in-None : goal.returns-in-None
returns-in-None g c = reports_then g.V.Answers.shows c.args.volume.now c.loop-round.volume (λ objects. AreReadSoFar objects (paths_of c.loop-round.waiting.items) (list_map item_of c.loop-round.entries.items))
    (λ objects. AreRead objects (root_path ∷ []) (list_map item_of c.loop-round.entries.items))
    (λ objects so_far. so_far_all objects (paths_of c.loop-round.waiting.items) (list_map item_of c.loop-round.entries.items) (ap paths_of (none_wait c.loop-round.waiting.items c.pop_front.new.self.items c.in-None.ensures.items c.in-None.ensures.rest)) so_far) c.loop-round.invariant.reported
