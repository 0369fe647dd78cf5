-- What is committed once the buffer was written.
use Rattle.std.specs.Prelude.{◌≡◌, ◌<◌, ℕ, List, [], length, Option, Some, None}
use Rattle.std.specs.Option.{option_map, option_and_then}
use Rattle.std.proofs.Common.{refl, sym, ◌∙◌, ap, inl, inr, arith}
use Rattle.std.proofs.lemmas.Bool.{cases_lt}
use Rattle.std.proofs.lemmas.Option.{slice_get_past}
use Rattle.nand_model.specs.Flash.{Flash}
use Rattle.flash_tree.specs.declared.place.FreshPage.{FreshPage}
use Rattle.flash_tree.specs.declared.place.Key.{Key}
use Rattle.chunk_index.specs.Entries.{as_committed}
use Rattle.chunk_index.specs.declared.form.CommittedPage.{CommittedPage}
use Rattle.chunk_index.specs.declared.form.Present.{Present}
use Rattle.chunk_index.specs.declared.form.Present.TheVariants as presents
use Rattle.chunk_index.specs.declared.form.WrittenGroup.{WrittenGroup}
use Rattle.chunk_index.specs.declared.index.Index.{Index}
use Rattle.chunk_index.specs.Maps.{committed_pages, present, once_written, Settles, SamePresent}
use Rattle.page_store.specs.Shown.{data_at, data_by, committed_data, present_data}
use Rattle.page_store.specs.Buffering.{Buffers, HasWritten, IsUnbuffered, key_at}

data_written : (g : WrittenGroup) (old new : Flash) (pages : List FreshPage) (p : Present) → HasWritten g pages new → ((i : ℕ) → p ≡ presents.InBuffer i → i < length pages) → ((k : CommittedPage) → p ≡ presents.OnFlash k → data_at new k ≡ data_at old k)
    → option_and_then (data_at new) (once_written g p) ≡ data_by old pages p
data_written g old new pages presents.Absent has within same = refl
data_written g old new pages (presents.OnFlash k) has within same = same k refl
data_written g old new pages (presents.InBuffer i) has within same = has i (within i refl)

data_as_committed : (flash : Flash) (m : Option CommittedPage) (pages : List FreshPage) → data_by flash pages (as_committed m) ≡ option_and_then (data_at flash) m
data_as_committed flash None pages = refl
data_as_committed flash (Some k) pages = refl

-- where a page has a key, there is one
pub place_within : (pages : List FreshPage) (i : ℕ) (k : Key) → key_at pages i ≡ Some k → i < length pages
place_within pages i k is = elim (cases_lt i (length pages)) [
  | inl lt ↦ lt
  | inr le ↦ let two : None ≡ Some k = sym (ap (option_map (λ (p : FreshPage). p.key)) (slice_get_past pages i le)) ∙ is in absurd cc
]

module _ (g : WrittenGroup) (x y : Index) (pages : List FreshPage) (old new : Flash) (settles : Settles g x y) (buffers : Buffers x pages) (has : HasWritten g pages new)
    (same : (o c : ℕ) (k : CommittedPage) → present x o c ≡ presents.OnFlash k → data_at new k ≡ data_at old k) where
  pub written_committed : (o c : ℕ) → committed_data y new o c ≡ present_data x pages old o c
  written_committed o c = ap (option_and_then (data_at new)) (settles.committed o c) ∙ data_written g old new pages (present x o c) has (λ i is. place_within pages i _ (buffers.there o c i is)) (same o c)

  pub written_present : (rest : List FreshPage) (o c : ℕ) → present_data y rest new o c ≡ present_data x pages old o c
  written_present rest o c = ap (data_by new rest) (settles.presents o c) ∙ data_as_committed new (committed_pages y o c) rest ∙ written_committed o c

-- where what is present stays, the buffer is the index's still
pub buffers_same : (x y : Index) (pages : List FreshPage) → SamePresent x y → Buffers x pages → Buffers y pages
buffers_same x y pages same b = record {
  there = λ o c i is. b.there o c i (sym (same o c) ∙ is);
  reported = λ o c i is. same o c ∙ b.reported o c i is;
}

-- nothing is buffered in an empty buffer
pub buffers_empty : (x : Index) (pages : List FreshPage) → IsUnbuffered x → pages ≡ [] → Buffers x pages
buffers_empty x pages none empty = record {
  there = λ o c i is. absurd (none o c i is);
  reported = λ o c i is. absurd (none_there o c i (ap (λ (xs : List FreshPage). key_at xs i) (sym empty) ∙ is));
} where
  none_there : (o c i : ℕ) → key_at [] i ≡ Some (record { object = o; chunk = c }) → ⊥
  none_there o c i is = let lt : i < 0 = place_within [] i (record { object = o; chunk = c }) is in omega (arith, lt)
