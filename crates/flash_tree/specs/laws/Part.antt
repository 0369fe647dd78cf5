-- A tree that is found in a part of the newest pages is found in all of them.
use Rattle.std.specs.Prelude.{◌≡◌, ◌<◌, ℕ, ◌+◌, List, [], ◌∷◌, slice_get, map as list_map, Some}
use Rattle.std.proofs.Common.{◌∙◌, ap, subst, inl, inr, arith}
use Rattle.nand_model.specs.declared.geometry.Geometry.{Geometry}
use Rattle.page_tags.specs.Headers.{Fields}
use Rattle.page_tags.specs.Slots.{Entry}
use Rattle.page_tags.specs.declared.header.ObjectKind.TheVariants as kinds
use Rattle.volume_terms.specs.Sizes.{Sizes, root_number}
use Rattle.std.specs.Option.{option_map}
use Rattle.std.proofs.lemmas.Option.{slice_get-map}
use Rattle.volume_terms.specs.laws.List.{slice_get_there}
use Rattle.flash_tree.specs.Tree.{IsPageSize, NewestMap, IsSingle, HasHeader, SlotIs}
use Rattle.flash_tree.specs.Mount.{Leads, Finds, with_new, Wholly, GoesThrough, ends, goes, sizes_of, IsVolume, IsSlotIn, NamesTwice}
use Rattle.flash_tree.specs.laws.Finding.{same_header, kinds_apart, header_there}
use Rattle.flash_tree.specs.laws.OneTree.{one_slot}
use Rattle.flash_tree.specs.laws.WholeList.{IsThereOn, IsWholeList, whole_list}

module _ (m n : NewestMap) (to : (o c : ℕ) (xs : List ℕ) → m o c xs → n o c xs) where
  header_to : (z : Sizes) (o : ℕ) (f : Fields) → HasHeader z m o f → HasHeader z n o f
  header_to z o f has = (to o 0 _ has.0, has.1)

  slot_to : (z : Sizes) (o i : ℕ) (entry : Entry) → SlotIs z m o i entry → SlotIs z n o i entry
  slot_to z o i entry (page, there, valid, bytes) = (page, to o _ page there, valid, bytes)

  finds_to : (z : Sizes) (o : ℕ) (named : List ℕ) → Finds z m o (Leads named) → Finds z n o (Leads named)
  finds_to z o named (inl (f, has, kind, chunks, none)) = inl (f, header_to z o f has, kind, λ c some present. let p = chunks c some present in (p.0, to o c p.0 p.1), none)
  finds_to z o named (inr (f, has, kind, slots, are, is)) =
      inr (f, header_to z o f has, kind, slots, record { size = are.size; each = λ i entry at. slot_to z o i entry (are.each i entry at); once = are.once }, is)

  -- what was gone through wholly in the part is so in all
  pub through_all : (z : Sizes) (list : List ℕ) (k : ℕ) (whole : List ℕ) → GoesThrough z m list k (Wholly whole) → GoesThrough z n list k (Wholly whole)
  through_all z list k whole (ends len) = ends len
  through_all z list k whole (goes o named is lookups on) = goes o named is (finds_to z o named lookups) (through_all z (with_new list named) (k + 1) whole on)

  pub volume_all : (g : Geometry) (spare : ℕ) → IsVolume g m spare → IsVolume g n spare
  volume_all g spare v = record { fields = v.fields; has = header_to (sizes_of g spare) root_number v.fields v.has; kind = v.kind; spare_is = v.spare_is; room = v.room }

  -- and no directory is named twice in all, where none is in the part
  module _ (single : IsSingle n) (z : Sizes) (size : IsPageSize z.page_bytes) (list : List ℕ) (on : GoesThrough z m (root_number ∷ []) 0 (Wholly list)) where
    whole : IsWholeList z m root_number list
    whole = whole_list z m root_number list on

    -- the header of an object of the list is in the part
    header_back : (place o : ℕ) (f : Fields) → slice_get list place ≡ Some o → HasHeader z n o f → HasHeader z m o f
    header_back place o f at has =
        let there = whole.there place o at in
        let own = header_there z size m (λ p c xs ys a b. single p c xs ys (to p c xs a) (to p c ys b)) o there.0 there.1 in
        let same : own.0 ≡ f = same_header z size n single o own.0 f (header_to z o own.0 own.1) has in
        subst (HasHeader z m o) same own.1

    -- and so does a slot of a directory of it
    slot_back : (place o : ℕ) (f : Fields) (i : ℕ) (entry : Entry) → slice_get list place ≡ Some o → HasHeader z n o f → f.kind ≡ kinds.Directory → i < f.length → SlotIs z n o i entry
        → SlotIs z m o i entry × ((k : ℕ) × (slice_get list k ≡ Some entry.object))
    slot_back place o f i entry at has kind lt slot = go (whole.there place o at) where
      go : IsThereOn z m root_number list o → SlotIs z m o i entry × ((k : ℕ) × (slice_get list k ≡ Some entry.object))
      go (named, inl (own, has', file, chunks, none), each) = absurd (kinds_apart z size n single o own f (header_to z o own has') has file kind)
      go (named, inr (own, has', directory, slots, are, is), each) =
          let same : own ≡ f = same_header z size n single o own f (header_to z o own has') has in
          let len : own.length ≡ f.length = ap (λ (x : Fields). x.length) same in
          let s = slice_get_there slots i (omega (arith, lt, len, are.size)) in
          let one : s.0 ≡ entry = one_slot z size.most n single o i s.0 entry (slot_to z o i s.0 (are.each i s.0 s.1)) slot in
          let name : slice_get named i ≡ Some entry.object = ap (λ (l : List ℕ). slice_get l i) is ∙ slice_get_mapped slots i s.0 s.1 ∙ ap (λ (e : Entry). Some e.object) one in
          (subst (SlotIs z m o i) one (are.each i s.0 s.1), each i entry.object name) where
            slice_get_mapped : (slots : List Entry) (i : ℕ) (e : Entry) → slice_get slots i ≡ Some e → slice_get (list_map (λ (x : Entry). x.object) slots) i ≡ Some e.object
            slice_get_mapped slots i e is = slice_get-map (λ (x : Entry). x.object) slots i ∙ ap (option_map (λ (x : Entry). x.object)) is

    slot_in_back : (d i : ℕ) (entry : Entry) → IsSlotIn z n list d i entry → IsSlotIn z m list d i entry
    slot_in_back d i entry s = record {
      place = s.place;
      listed = s.listed;
      fields = s.fields;
      has = header_back s.place d s.fields s.listed s.has;
      kind = s.kind;
      within = s.within;
      slot = (slot_back s.place d s.fields i entry s.listed s.has s.kind s.within s.slot).0;
    }

    pub twice_back : NamesTwice z n list → NamesTwice z m list
    twice_back t =
        let first = t.first in
        let led = (slot_back first.place t.directory first.fields t.i t.entry first.listed first.has first.kind first.within first.slot).1 in
        record {
          named = t.named;
          fields = t.fields;
          has = header_back led.0 t.named t.fields (led.1 ∙ ap Some t.leads) t.has;
          kind = t.kind;
          directory = t.directory;
          other = t.other;
          i = t.i;
          j = t.j;
          entry = t.entry;
          other_entry = t.other_entry;
          first = slot_in_back t.directory t.i t.entry t.first;
          second = slot_in_back t.other t.j t.other_entry t.second;
          leads = t.leads;
          other_leads = t.other_leads;
          apart = t.apart;
        }
