-- What holds of the committed keys and of their counts.
use Rattle.std.specs.Prelude.{◌≡◌, ℕ, ◌+◌, List, [], ◌∷◌, length, Option, Some, None, if◌then◌else◌, ◌==◌}
use Rattle.std.specs.List.{sum_by}
use Rattle.std.specs.Map.{values_of}
use Rattle.std.specs.Option.{option_map_or}
use Rattle.std.proofs.Common.{refl, sym, ap, ◌∙◌, arith, inl, inr}
use Rattle.std.proofs.lemmas.Bool.{cases_eq}
use Rattle.std.proofs.lemmas.Bool.Decides.{nat_tests}
use Rattle.std.proofs.lemmas.List.{length-append}
use Rattle.std.proofs.lemmas.List.Sums.{sum_by-cons}
use Rattle.chunk_index.specs.declared.form.CommittedPage.{CommittedPage}
use Rattle.chunk_index.specs.declared.form.CommittedKey.{CommittedKey}
use Rattle.chunk_index.specs.declared.entry.KeyEntry.{KeyEntry}
use Rattle.chunk_index.specs.declared.object.ObjectEntries.{ObjectEntries}
use Rattle.chunk_index.specs.Entries.{weigh, counted_at, one_at}
use Rattle.chunk_index.specs.Listing.{key_in, keys_of, keys_in}

-- a list for each key that is in the count
length-key_in : (b o : ℕ) (e : KeyEntry) → length (key_in b o e) ≡ counted_at b e
length-key_in b o e = go e.committed refl where
  go : (p : Option CommittedPage) → e.committed ≡ p → length (key_in b o e) ≡ one_at e.committed b
  go None is = ap (λ q. length {A = CommittedKey} (option_map_or (λ p. if p.block == b then record { key = record { object = o; chunk = e.chunk }; at = p } ∷ [] else []) q [])) is ∙ sym (ap (λ q. one_at q b) is)
  go (Some p) is =
      let here = λ (q : Option CommittedPage). length {A = CommittedKey} (option_map_or (λ p. if p.block == b then record { key = record { object = o; chunk = e.chunk }; at = p } ∷ [] else []) q []) in
      let both : here (Some p) ≡ one_at (Some p) b = elim (cases_eq p.block b) [
        | inl at ↦ grind (arith, nat_tests, at)
        | inr ne ↦ grind (arith, nat_tests, ne)
      ] in
      ap here is ∙ both ∙ sym (ap (λ q. one_at q b) is)

length-keys_of : (b o : ℕ) (es : List KeyEntry) → length (keys_of b o es) ≡ weigh (counted_at b) es
length-keys_of b o [] = refl
length-keys_of b o (e ∷ es) =
    let one = length-append (key_in b o e) (keys_of b o es) in
    let here = length-key_in b o e in
    let rest = length-keys_of b o es in
    let all : weigh (counted_at b) (e ∷ es) ≡ counted_at b e + weigh (counted_at b) es = sum_by-cons (counted_at b) e es in
    omega (arith, one, here, rest, all)

pub length-keys_in : (b : ℕ) (xs : List (ℕ × ObjectEntries)) → length (keys_in b xs) ≡ sum_by (λ (z : ObjectEntries). weigh (counted_at b) z.entries.items) (values_of xs)
length-keys_in b [] = refl
length-keys_in b (x ∷ xs) =
    let g = λ (z : ObjectEntries). weigh (counted_at b) z.entries.items in
    let one = length-append (keys_of b x.0 x.1.entries.items) (keys_in b xs) in
    let here = length-keys_of b x.0 x.1.entries.items in
    let rest = length-keys_in b xs in
    let all : sum_by g (values_of (x ∷ xs)) ≡ g x.1 + sum_by g (values_of xs) = sum_by-cons g x.1 (values_of xs) in
    omega (arith, one, here, rest, all)
