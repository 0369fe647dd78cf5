-- The bytes of a file after a change.
use Rattle.std.specs.Prelude.{◌≡◌, ◌≤◌, ℕ, ◌+◌, ◌-◌, ◌++◌, List, [], length, take, drop, replicate, max}
use Rattle.std.proofs.Common.{sym, ◌∙◌, ap, subst, inl, inr, arith}
use Rattle.std.proofs.lemmas.Bool.{cases_lt}
use Rattle.std.specs.FinMap as map
use Rattle.std.proofs.lemmas.List.{append-nil, take-append-drop}
use Rattle.std.proofs.Math.Seq.{take-append_seam}
use Rattle.std.proofs.Math.ListN.{drop_of_length-le}
use Rattle.page_tags.specs.Headers.{greatest_recorded}
use Rattle.page_tags.specs.declared.header.ObjectKind.{ObjectKind}
use Rattle.page_tags.specs.declared.header.ObjectKind.TheVariants as kinds
use Rattle.volume_terms.specs.Sizes.{Sizes, most_file_bytes}
use Rattle.posix_profile.specs.State.{File, Objects, IsFile}
use Rattle.posix_profile.specs.Changes.{with_bytes, written, resized}
use Rattle.object_store.specs.Facts.{bytes_of}
use Rattle.pages.specs.Changes.{IsOnlyOf}
use Rattle.pages.specs.Maps.{after_change}
use Rattle.pages.specs.State.{PagesState}
use Rattle.pages.specs.laws.Changes.{others_keep}
use Rattle.pages.specs.declared.change.Change.{Change}
use Rattle.file_io.specs.Files.{Becomes}
use Rattle.paged_objects.specs.Holding.{HoldsObjects, HoldsIn}
use Rattle.paged_objects.specs.laws.Holding.{held_file, file_in, put_object}

-- a write of no bytes lets a shorter file grow to the offset
pub written_none : (bytes : List ℕ) (offset : ℕ) → resized bytes (max (length bytes) offset) ≡ written bytes offset []
written_none bytes offset = elim (cases_lt (length bytes) offset) [
  | inl shorter ↦
      let most : max (length bytes) offset ≡ offset = omega (arith, shorter) in
      let none : drop (offset + 0) bytes ≡ [] = drop_of_length-le bytes (omega (arith, shorter)) in
      ap (resized bytes) most ∙ sym (ap (λ (xs : List ℕ). take offset (bytes ++ replicate (offset - length bytes) 0) ++ xs) none ∙ append-nil (take offset (bytes ++ replicate (offset - length bytes) 0)))
  | inr within ↦
      let most : max (length bytes) offset ≡ length bytes = omega (arith, within) in
      let none : offset - length bytes ≡ 0 = omega (arith, within) in
      let whole : take (length bytes) (bytes ++ replicate (length bytes - length bytes) 0) ≡ bytes = take-append_seam bytes (replicate (length bytes - length bytes) 0) in
      let at : offset + 0 ≡ offset = omega arith in
      ap (resized bytes) most ∙ whole ∙ sym (
      ap (λ n. take offset (bytes ++ replicate n 0) ++ drop (offset + 0) bytes) none
      ∙ ap (λ (xs : List ℕ). take offset xs ++ drop (offset + 0) bytes) (append-nil bytes)
      ∙ ap (λ n. take offset bytes ++ drop n bytes) at
      ∙ take-append-drop offset bytes)
]

module _ (p : PagesState) (z : Sizes) (objects : Objects) (h : HoldsIn p z objects) (o : ℕ) (file : IsFile objects o) where
  -- a file that is held is no longer than its header can say
  pub file_fits : length file.1 ≤ most_file_bytes z.page_bytes
  file_fits =
      let r = (held_file p z objects h o file).reads in
      let fits : r.fields.length ≤ greatest_recorded z.page_bytes kinds.File = subst (λ (k : ObjectKind). r.fields.length ≤ greatest_recorded z.page_bytes k) r.kind r.has.1.length_fits in
      omega (arith, fits, r.size)

  -- the file becomes another, and no other object changes
  pub holds_file : (change : Change) (first end moment : ℕ) (bytes : List ℕ) → IsOnlyOf change o
      → Becomes z p.present (after_change change p.present) o (file_in p z objects h o file).reads.fields first end moment bytes
      → HoldsObjects z (after_change change p.present) (with_bytes objects moment o bytes)
  holds_file change first end moment bytes only becomes =
      put_object z p.present (after_change change p.present) objects h.holds o (File moment bytes) (λ q c other. others_keep change o only p.present q c other)
      (record { reads = becomes.reads; only = becomes.only (held_file p z objects h o file).only })

  -- its bytes are those that are reported of it
  pub bytes_are : file.1 ≡ bytes_of (map.get objects o)
  bytes_are = sym (ap bytes_of file.2)
