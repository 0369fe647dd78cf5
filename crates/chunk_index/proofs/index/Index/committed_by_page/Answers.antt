use Rattle.std.proofs.Common.{◌≡◌, List, ◌++◌, IsPermutation, ap, subst, ◌∙◌, arith, rules}
use Rattle.std.proofs.lemmas.List.Sorted.{IsNonDecreasingBy-from_sort_by_key}
use Rattle.chunk_index.specs.declared.form.CommittedKey.{CommittedKey}
use Rattle.chunk_index.specs.Listing.{block_keys}
use Rattle.chunk_index.proofs.index.Index.committed_by_page.Goals as goal

pub returns-clause-lists : goal.returns-clause-lists
returns-clause-lists c =
    let all = block_keys c.args.self.now c.args.block in
    let listed : c.committed_in_block.new.keys.items ≡ all = c.committed_in_block.ensures.items ∙ ap (λ (ks : List CommittedKey). ks ++ all) c.clear.ensures.items in
    subst (λ (ks : List CommittedKey). IsPermutation ks c.sort_unstable_by_key.new.self.items) listed c.sort_unstable_by_key.ensures.permutation

pub returns-clause-rise : goal.returns-clause-rise
returns-clause-rise c =
    let rises = IsNonDecreasingBy-from_sort_by_key (λ (k : CommittedKey). k.at.page) _ c.sort_unstable_by_key.ensures.sorted (λ a r q k. search rules) in
    λ i j d lt within. rises i j d (omega (arith, lt)) within
