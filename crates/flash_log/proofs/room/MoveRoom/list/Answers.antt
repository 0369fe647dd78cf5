use Rattle.std.proofs.Common.{◌≡◌, ℕ, List, ◌++◌, sym, ap, subst, ◌∙◌}
use Rattle.chunk_index.specs.declared.form.CommittedKey.{CommittedKey}
use Rattle.chunk_index.specs.Listing.{block_keys}
use Rattle.chunk_index.specs.Maps.{committed_pages}
use Rattle.flash_log.specs.Lists.{ListsCommitted}
use Rattle.flash_log.proofs.Listing.{lists_committed}
use Rattle.flash_log.proofs.room.MoveRoom.list.Goals as goal

pub returns-clause-lists : goal.returns-clause-lists
returns-clause-lists c =
    let x = c.args.index.now in
    let b : ℕ = c.args.block in
    let law = c.the_list_of_a_block_is_whole.ensures in
    let copies : c.committed_in_block.new.keys.items ≡ block_keys x b = c.committed_in_block.ensures.items ∙ ap (λ (ks : List CommittedKey). ks ++ block_keys x b) c.clear.ensures.items in
    subst (λ (xs : List CommittedKey). ListsCommitted b (committed_pages x) xs) (sym copies) (lists_committed x b (law.committed x b) (law.here x b) (law.all x b) (law.once x b))
