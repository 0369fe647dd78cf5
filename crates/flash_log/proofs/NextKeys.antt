-- The parts of a checkpoint that are written of the committed keys, one after another.
use Rattle.std.proofs.Common.{◌≡◌, ℕ, zero, suc, List, [], ◌∷◌, drop, slice_get, Option, Some, None, refl, sym, ap, ◌∙◌}
use Rattle.std.specs.Prelude.{replicate}
use Rattle.std.specs.Option.{option_map_or, option_map}
use Rattle.std.proofs.lemmas.Option.{slice_get-map}
use Rattle.volume_terms.specs.laws.List.{mapped_at}
use Rattle.chunk_index.specs.declared.form.CommittedKey.{CommittedKey}
use Rattle.page_tags.specs.Checks.{check_entry_bytes, check_slot}
use Rattle.page_tags.specs.declared.check.CheckEntry.{CheckEntry}
use Rattle.flash_log.specs.CheckpointListing.{check_entry, check_entries}

first_left : (n : ℕ) (ks : List CommittedKey) → slice_get (drop n ks) 0 ≡ slice_get ks n
first_left zero ks = refl
first_left (suc n) [] = refl
first_left (suc n) (k ∷ ks) = first_left n ks

one_less : (n : ℕ) (ks : List CommittedKey) → drop 1 (drop n ks) ≡ drop (suc n) ks
one_less zero ks = refl
one_less (suc n) [] = refl
one_less (suc n) (k ∷ ks) = one_less n ks

-- all keys but the first n are left, and the next of them was taken
module _ (ks : List CommittedKey) (n : ℕ) (left : List CommittedKey) (same : left ≡ drop n ks) where
  taken : (r : Option CommittedKey) → r ≡ slice_get left 0 → slice_get ks n ≡ r
  taken r is = sym (is ∙ ap (λ xs. slice_get xs 0) same ∙ first_left n ks)

  pub part_some : (k : CommittedKey) → Some k ≡ slice_get left 0 → check_entry_bytes (check_entry k) ≡ check_slot (check_entries ks) (suc n)
  part_some k is = sym (ap (λ (v : Option CheckEntry). option_map_or check_entry_bytes v (replicate 32 0)) (mapped_at check_entry ks n k (taken (Some k) is)))

  pub part_none : None ≡ slice_get left 0 → replicate 32 0 ≡ check_slot (check_entries ks) (suc n)
  part_none is = sym (ap (λ (v : Option CheckEntry). option_map_or check_entry_bytes v (replicate 32 0)) (slice_get-map check_entry ks n ∙ ap (λ (v : Option CommittedKey). option_map check_entry v) (taken None is)))

  pub left_less : (new : List CommittedKey) → new ≡ drop 1 left → new ≡ drop (suc n) ks
  left_less new is = is ∙ ap (drop 1) same ∙ one_less n ks
