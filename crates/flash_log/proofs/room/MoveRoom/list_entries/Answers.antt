use Rattle.std.proofs.Common.{◌≡◌, ℕ, List, length, map, sym, ap, subst, ◌∙◌, arith}
use Rattle.std.proofs.lemmas.List.{length-map}
use Rattle.page_tags.specs.declared.check.CheckEntry.{CheckEntry}
use Rattle.chunk_index.specs.declared.form.CommittedKey.{CommittedKey}
use Rattle.chunk_index.specs.Maps.{committed_pages}
use Rattle.flash_log.specs.SummaryMaking.{ListsEntries, entry_of_key}
use Rattle.flash_log.proofs.EntryLists.{lists_entries}
use Rattle.flash_log.proofs.room.MoveRoom.list_entries.Goals as goal

pub returns-clause-lists : goal.returns-clause-lists
returns-clause-lists c =
    let x = c.args.index.now in
    let b : ℕ = c.args.block in
    let law = c.the_sorted_list_of_a_block_is_whole.ensures in
    let ks : List CommittedKey = c.committed_by_page.new.keys.items in
    let perm = c.committed_by_page.ensures.lists in
    let entries : c.enter_all.new.entries.items ≡ map entry_of_key ks = c.enter_all.ensures.entries ∙ ap (λ (l : List CommittedKey). map entry_of_key l) c.deref.ensures.value in
    subst (λ (l : List CheckEntry). ListsEntries b (committed_pages x) l) (sym entries) (lists_entries x b ks (law.committed x b ks perm) (law.all x b ks perm) (law.once x b ks perm) c.committed_by_page.ensures.rise)

pub enter_all-requires : goal.enter_all-requires
enter_all-requires c =
    let law = c.the_sorted_list_of_a_block_is_whole.ensures in
    let count = law.count c.args.index.now c.args.block c.committed_by_page.new.keys.items c.committed_by_page.ensures.lists in
    let same : length c.deref.result.now ≡ length c.committed_by_page.new.keys.items = ap (λ (l : List CommittedKey). length l) c.deref.ensures.value in
    omega (arith, count, same, c.requires.entries)

pub returns-clause-count : goal.returns-clause-count
returns-clause-count c =
    let law = c.the_sorted_list_of_a_block_is_whole.ensures in
    let count = law.count c.args.index.now c.args.block c.committed_by_page.new.keys.items c.committed_by_page.ensures.lists in
    ap (λ (l : List CheckEntry). length l) c.enter_all.ensures.entries ∙ length-map c.deref.result.now entry_of_key ∙ ap (λ (l : List CommittedKey). length l) c.deref.ensures.value ∙ count
