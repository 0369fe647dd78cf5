use Rattle.std.proofs.Common.{rules, sym, subst}
use Rattle.std.proofs.lemmas.List.Sorted.{answers_always}
use Rattle.mount_scan.specs.Keys.{rank_of, AreLatest}
use Rattle.mount_scan.proofs.Ranked.{AreSorted, sorted_by_rank}
use Rattle.mount_scan.proofs.FoundLatest.{latest_of}
use Rattle.mount_scan.proofs.keeping.keep_newest.Goals as goal

pub gather_last-committed-requires : goal.gather_last-committed-requires
gather_last-committed-requires c =
    let order : AreSorted c.args.list.now.items c.sort_unstable_by_key.new.self.items = sorted_by_rank _ _ c.sort_unstable_by_key.ensures.permutation (c.sort_unstable_by_key.ensures.sorted rank_of (answers_always _ _ _ (λ f a r g h. search rules))) in
    order.order

pub returns : goal.returns
returns c =
    subst (AreLatest c.args.list.now.items) (sym c.truncate.ensures.items)
    (latest_of _ c.sort_unstable_by_key.new.self.items _ (sorted_by_rank _ _ c.sort_unstable_by_key.ensures.permutation (c.sort_unstable_by_key.ensures.sorted rank_of (answers_always _ _ _ (λ f a r g h. search rules)))) c.gather_last-committed.ensures.last)
