use Rattle.std.proofs.Common.{◌≡◌, ◌∙◌, ◌++◌, ◌∷◌, [], List, length, sym, ap, subst, rules}
use Rattle.std.proofs.Common.{map as list_map}
use Rattle.std.proofs.lemmas.List.{map-append, map-id}
use Rattle.std.proofs.lemmas.Iterator.Adapters.{YieldsList-from_vec}
use Rattle.std.proofs.lemmas.Iterator.Consumers.{YieldsList-end}
use Rattle.plain_volume.specs.Items.{Item, item_of}
use Rattle.image_tools.specs.FirstNames.{Knows}
use Rattle.image_tools.specs.Folders.{entry_of, entries_after}
use Rattle.image_tools.proofs.Reading.{entries_more}
use Rattle.image_tools.proofs.unpacking.folder_of.Goals as goal

pub loop-entry-preserved : goal.loop-entry-preserved
loop-entry-preserved c =
    let items = list_map item_of c.loop-entry.yielded in
    let item = item_of c.in-Some.entry in
    let next = c.in_ok-next.ensures items c.loop-entry.invariant.knows in
    let more : items ++ item ∷ [] ≡ list_map item_of (c.loop-entry.yielded ++ c.in-Some.entry ∷ []) = sym (map-append item_of c.loop-entry.yielded (c.in-Some.entry ∷ [])) in
    record {
      are = ap (λ k. list_map entry_of k) c.in_ok-push.ensures.items ∙ map-append entry_of c.loop-entry.entries.items (c.in_ok-next.next ∷ [])
          ∙ (λ i. c.loop-entry.invariant.are i ++ next.0 i ∷ []) ∙ sym (entries_more [] items item) ∙ ap (λ (k : List Item). entries_after [] k) more;
      knows = subst (Knows c.entry_after.new.names) more next.1;
    }

pub returns : goal.returns
returns c =
    let gives = c.into_iter-entry-iterator.ensures.into_iter_gives in
    let many : c.into_iter-entry-iterator.result.rest.len ≡ length c.args.list.entries.items = gives.1 ∙ search rules in
    let all = YieldsList-end (YieldsList-from_vec c.args.list.entries.items gives.0 many) c.loop-entry.yielded c.loop-entry.entry-iterator c.loop-entry.yielded_by c.next.result c.next.new.self c.in-None.is c.next.ensures.steps in
    let yielded : c.loop-entry.yielded ≡ c.args.list.entries.items = sym (map-id c.loop-entry.yielded) ∙ all.0 in
    c.loop-entry.invariant.are ∙ ap (λ k. entries_after [] (list_map item_of k)) yielded
