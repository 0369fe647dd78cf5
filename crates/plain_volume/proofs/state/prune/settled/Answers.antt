use Rattle.std.proofs.Common.{◌≡◌, ◌∙◌, ℕ, Bool, ◌||◌, nat_eq, refl, ap, rules, tests}
use Rattle.std.specs.FinMap as map
use Rattle.std.specs.Ordering.{nat_cmp}
use Rattle.std.specs.Cmp.{nat_cmp_total}
use Rattle.std.proofs.lemmas.Map.Entries.{filter_from_retain_pairs}
use Rattle.volume_terms.specs.Sizes.{root_number}
use Rattle.posix_profile.specs.Names.{is_named}
use Rattle.plain_volume.specs.PlainState.{objects_in, object_of}
use Rattle.name_map.specs.laws.Seen.{retain_seen}
use Rattle.plain_volume.proofs.Committed.{committed_settles}
use Rattle.plain_volume.proofs.state.prune.settled.Goals as goal

pub returns : goal.returns
returns c =
    let p : ℕ → Bool = λ o. nat_eq o root_number || is_named (objects_in c.args.objects.now) o in
    retain_seen nat_cmp (λ (k : ℕ). k) object_of nat_cmp_total map.nat_cmp-IsAntisymmetric p c.in_ok-committed.committed.entries c.retain.new.self.entries
    (filter_from_retain_pairs _ (λ g. g ≡ record { 0 = c.args.objects }) (λ e. p e.0) (λ g k v b w g' i t. search (rules, tests)) (record { 0 = c.args.objects }) _ _ refl c.retain.ensures.filtered)
    ∙ ap (λ m. map.retain_keys m p) c.in_ok-committed.ensures ∙ committed_settles (objects_in c.args.objects.now)
