-- The first slots of a directory, one more at a time.
use Rattle.std.specs.Prelude.{◌≡◌, ◌<◌, ℕ, ◌+◌, List, [], ◌∷◌, ◌++◌, length, Option, Some, None}
use Rattle.std.specs.FinMap as map
use Rattle.std.proofs.Common.{refl, sym, ◌∙◌, ap, subst, inl, inr, arith}
use Rattle.std.proofs.lemmas.List.{length-append}
use Rattle.std.proofs.lemmas.Option.{slice_get_within}
use Rattle.page_tags.specs.Headers.{Fields, IsHeader}
use Rattle.page_tags.specs.Slots.{Entry}
use Rattle.flash_tree.specs.Tree.{slot_pairs}
use Rattle.flash_tree.specs.Tree.{IsPageSize}
use Rattle.flash_tree.specs.laws.Finding.{same_header}
use Rattle.volume_terms.specs.laws.Same.{same_lists}
use Rattle.flash_tree.specs.Tree.{ReadsDir}
use Rattle.volume_terms.specs.Sizes.{Sizes}
use Rattle.volume_terms.specs.laws.List.{get_push, slice_get_there}
use Rattle.posix_profile.specs.State.{Entries}
use Rattle.pages.specs.Maps.{PageMap, has}
use Rattle.pages.specs.State.{PagesState}
use Rattle.directories.specs.Directories.{SlotOf}
use Rattle.directories.specs.Heads.{SaysHead}
use Rattle.directories.specs.Listings.{ReadsFirst}
use Rattle.directories.specs.declared.head.DirectoryHead.{DirectoryHead}
use Rattle.directories.proofs.Lists.{once_push, entries_push, slot_of}
use Rattle.directories.proofs.Reading.{one_entry}
use Rattle.directories.proofs.Searching.{one_page}

pub none_read : (z : Sizes) (m : PageMap) (d : ℕ) (entries : Entries) → entries ≡ map.empty → ReadsFirst z m d 0 entries
none_read z m d entries is = record { slots = []; size = refl; each = λ k e no'. absurd cc; once = λ i j a b no' at same. absurd cc; are = is }

-- with the next slot, whose name is new
pub one_more_read : (z : Sizes) (m : PageMap) (d n : ℕ) (entries : Entries) → ReadsFirst z m d n entries → (e : Entry) → SlotOf z m d n e → map.get entries e.name ≡ None
    → ReadsFirst z m d (n + 1) (map.insert entries e.name e.object)
one_more_read z m d n entries f e slot absent = record {
  slots = f.slots ++ e ∷ [];
  size = length-append f.slots (e ∷ []) ∙ omega (arith, f.size);
  each = λ k x is. elim (get_push f.slots e k x is) [
    | inl before ↦ f.each k x before.1
    | inr last ↦ subst (λ y. SlotOf z m d k y) (sym last.1) (subst (λ i. SlotOf z m d i e) (sym (last.0 ∙ f.size)) slot)
  ];
  once = once_push f.slots f.once entries f.are e absent;
  are = entries_push f.slots f.once entries f.are e absent;
}

-- all slots that the header counts are the directory
pub all_read : (p : PagesState) (z : Sizes) (d : ℕ) (head : DirectoryHead) (entries : Entries) → z.page_bytes ≡ p.page_bytes → SaysHead p d head → ReadsFirst z p.present d head.length entries
    → (moment : ℕ) × ReadsDir z (has p.present) d moment entries
all_read p z d head entries size reported f = (
  reported.0.fields.moment,
  record {
    fields = reported.0.fields;
    has = (reported.0.has, subst (λ n. IsHeader n reported.0.fields) (sym size) reported.0.valid);
    kind = reported.0.kind;
    when = refl;
    slots = f.slots;
    size = sym reported.1.length_is ∙ sym f.size;
    each = f.each;
    once = f.once;
    entries_are = f.are;
  },
)

module _ (z : Sizes) (size : IsPageSize z.page_bytes) (m : PageMap) (d : ℕ) where
  -- a directory that is read has no name twice
  pub next_is_new : (moment : ℕ) (all : Entries) (r : ReadsDir z (has m) d moment all) (n : ℕ) (entries : Entries) → ReadsFirst z m d n entries → n < length r.slots
      → (e : Entry) → SlotOf z m d n e → map.get entries e.name ≡ None
  next_is_new moment all r n entries f lt e slot = go (map.get entries e.name) refl where
    go : (x : Option ℕ) → map.get entries e.name ≡ x → map.get entries e.name ≡ None
    go None is = is
    go (Some object) is =
        let early = slot_of f.slots f.once entries f.are e.name object is in
        let less : early.0 < n = omega (arith, slice_get_within f.slots early.0 early.1 early.2, f.size) in
        let a = slice_get_there r.slots early.0 (omega (arith, less, lt)) in
        let b = slice_get_there r.slots n lt in
        let first : a.0 ≡ early.1 = one_entry z size.most m d early.0 a.0 early.1 (r.each early.0 a.0 a.1) (f.each early.0 early.1 early.2) in
        let second : b.0 ≡ e = one_entry z size.most m d n b.0 e (r.each n b.0 b.1) slot in
        let one : early.0 ≡ n = r.once early.0 n a.0 b.0 a.1 b.1 (ap (λ (x : Entry). x.name) first ∙ early.3 ∙ sym (ap (λ (x : Entry). x.name) second)) in
        absurd (omega (arith, one, less))

  -- and reads in one way
  pub same_entries : (s t : ℕ) (x y : Entries) → ReadsDir z (has m) d s x → ReadsDir z (has m) d t y → x ≡ y
  same_entries s t x y a b =
      let headers : a.fields ≡ b.fields = same_header z size (has m) (λ o c xs ys. one_page m o c xs ys) d a.fields b.fields a.has b.has in
      let lengths : length a.slots ≡ length b.slots = sym a.size ∙ ap (λ (f : Fields). f.length) headers ∙ b.size in
      let slots : a.slots ≡ b.slots = same_lists a.slots b.slots lengths (λ i u v is it. one_entry z size.most m d i u v (a.each i u is) (b.each i v it)) in
      a.entries_are ∙ ap (λ (es : List Entry). map.from_entries (slot_pairs es)) slots ∙ sym b.entries_are
