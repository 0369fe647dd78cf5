use Rattle.std.proofs.Common.{refl, ap, option_and_then}
use Rattle.std.specs.Ordering.{nat_cmp}
use Rattle.std.specs.Map.{lookup}
use Rattle.std.specs.BTreeMap.{is_at}
use Rattle.object_store.proofs.Edits.{empty_counts}
use Rattle.object_store.proofs.counted_facts.CountedFacts.new.Goals as goal

pub returns-clause-counts : goal.returns-clause-counts
returns-clause-counts c = empty_counts _ (λ o. ap (λ es. option_and_then (λ f. f) (lookup (is_at (nat_cmp o)) es)) c.new.ensures.empty) refl
