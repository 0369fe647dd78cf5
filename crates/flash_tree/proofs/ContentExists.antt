-- What is there whole is an object.
use Rattle.std.specs.Prelude.{◌≡◌, ◌<◌, ◌≤◌, ℕ, ◌+◌, ◌/◌, ◌%◌, ◌^◌, List, length, slice_get, slice_index, Some}
use Rattle.std.specs.FinMap as map
use Rattle.std.proofs.Common.{refl, sym, subst, inl, inr, arith}
use Rattle.std.proofs.lemmas.Bool.{cases_Bool}
use Rattle.std.proofs.lemmas.Option.{slice_get-get_or}
use Rattle.page_tags.specs.Headers.{Fields, IsBytes, greatest_recorded, is_present}
use Rattle.page_tags.specs.Slots.{Entry}
use Rattle.page_tags.specs.declared.header.ObjectKind.TheVariants as kinds
use Rattle.volume_terms.specs.Sizes.{Sizes, greatest_length}
use Rattle.posix_profile.specs.State.{Object, File, Dir, moment_of}
use Rattle.posix_profile.specs.WellFormed.{HasContent}
use Rattle.volume_terms.specs.Names.{AreBytes, IsName}
use Rattle.flash_tree.specs.Tree.{NewestMap, HasHeader, ByteIs, ReadsAs, ReadsDir, slot_pairs}
use Rattle.flash_tree.specs.Mount.{HasChunks, AreSlots, Leads, Finds}
use Rattle.flash_tree.proofs.FindingExists.{listed}
use Rattle.flash_tree.specs.laws.Slot.{entry_slot}

-- the element of a list by its place, with a default
at_or : (xs : List ℕ) (P : ℕ → ℕ → Type 0) → ((i x : ℕ) → slice_get xs i ≡ Some x → P i x) → (i : ℕ) → i < length xs → P i (slice_index xs i)
at_or xs P each i lt = each i (slice_index xs i) (slice_get-get_or xs i 0 lt)

-- bytes by place are bytes
all_bytes : (bytes : List ℕ) → ((i x : ℕ) → slice_get bytes i ≡ Some x → x < 256) → AreBytes bytes
all_bytes bytes each k d lt = each k _ (slice_get-get_or bytes k d lt)

-- what an object says of itself fits
pub record IsContent (z : Sizes) (m : NewestMap) (o : ℕ) (x : Object) : Type 0 where
  pub reads : ReadsAs z m o x
  pub moment : moment_of x < 2 ^ 64
  pub content : HasContent z x

module _ (z : Sizes) (m : NewestMap) (sized : (o c : ℕ) (page : List ℕ) → m o c page → IsBytes page) (o : ℕ) where
  -- a byte of a file whose chunks are there
  byte_there : (f : Fields) → HasChunks m o f → (i : ℕ) → (byte : ℕ) × (ByteIs z m o f i byte × (byte < 256))
  byte_there f chunks i = elim (cases_Bool (is_present f.bits (1 + i / z.page_bytes))) [
    | inl present ↦
        let page = chunks (1 + i / z.page_bytes) (omega arith) present in
        (slice_index page.0 (i % z.page_bytes), (inl (present, (page.0, page.1, refl)), sized o (1 + i / z.page_bytes) page.0 page.1 (i % z.page_bytes)))
    | inr absent ↦ (0, (inr (absent, refl), omega arith))
  ]

  file_there : (f : Fields) → HasHeader z m o f → f.kind ≡ kinds.File → HasChunks m o f → (x : Object) × IsContent z m o x
  file_there f has kind chunks =
      let l = listed (λ i byte. ByteIs z m o f i byte × (byte < 256)) f.length (λ i lt. byte_there f chunks i) in
      let fits : f.length ≤ greatest_length z = subst (λ k. f.length ≤ greatest_recorded z.page_bytes k) kind has.1.length_fits in (
        File f.moment l.0,
        record {
          reads = record {
            fields = f;
            has = has;
            kind = kind;
            when = refl;
            size = sym l.1;
            each = at_or l.0 (λ i byte. ByteIs z m o f i byte) (λ i x is. (l.2 i x is).0);
          };
          moment = has.1.moment;
          content = (all_bytes l.0 (λ i x is. (l.2 i x is).1), omega (arith, l.1, fits));
        },
      )

  directory_there : (f : Fields) → HasHeader z m o f → f.kind ≡ kinds.Directory → (slots : List Entry) → AreSlots z m o f.length slots → (x : Object) × IsContent z m o x
  directory_there f has kind slots are =
      let r : ReadsDir z m o f.moment (map.from_entries (slot_pairs slots)) = record {
        fields = f;
        has = has;
        kind = kind;
        when = refl;
        slots = slots;
        size = are.size;
        each = are.each;
        once = are.once;
        entries_are = refl;
      } in (
        Dir f.moment (map.from_entries (slot_pairs slots)),
        record {
          reads = r;
          moment = has.1.moment;
          content = λ name object is.
              let slot = entry_slot z m o f.moment (map.from_entries (slot_pairs slots)) r name object is in
              subst IsName slot.3 (r.each slot.0 slot.1 slot.2).2.slot.name;
        },
      )

  -- so there is an object
  pub content_there : (named : List ℕ) → Finds z m o (Leads named) → (x : Object) × IsContent z m o x
  content_there named (inl (f, has, kind, chunks, none)) = file_there f has kind chunks
  content_there named (inr (f, has, kind, slots, are, is)) = directory_there f has kind slots are
