-- A list that was gone through wholly, with no directory named twice, is the list of a tree that is shown.
use Rattle.std.specs.Prelude.{◌≡◌, ◌<◌, ◌≤◌, ◌-◌, ◌^◌, ℕ, List, length, slice_get, map as list_map, Some, None}
use Rattle.std.specs.Cmp.{nat_cmp_total}
use Rattle.std.specs.Cmp.Lexicographic.{nat_list_cmp_total}
use Rattle.std.specs.FinMap as map
use Rattle.std.proofs.Common.{refl, sym, ◌∙◌, ap, subst, inl, inr, arith}
use Rattle.std.proofs.lemmas.Bool.{cases_eq}
use Rattle.std.proofs.lemmas.Option.{slice_get_within}
use Rattle.page_tags.specs.Headers.{Fields}
use Rattle.page_tags.specs.Slots.{Entry}
use Rattle.page_tags.specs.declared.header.ObjectKind.TheVariants as kinds
use Rattle.volume_terms.specs.Sizes.{Sizes, root_number}
use Rattle.volume_terms.specs.laws.List.{mapped_at, at_mapped, slice_get_there}
use Rattle.posix_profile.specs.State.{Name, Entries, Object, File, Dir, Objects, IsDirectory}
use Rattle.posix_profile.specs.Names.{Names, Reached, root, below}
use Rattle.posix_profile.specs.WellFormed.{IsObject}
use Rattle.flash_tree.specs.Tree.{NewestMap, IsSingle, HasHeader, SlotIs, ReadsAs, ReadsDir, Shows}
use Rattle.flash_tree.specs.laws.OneTree.{one_slot}
use Rattle.flash_tree.specs.Mount.{AreSlots, Leads, Finds, IsSlotIn, NamesTwice}
use Rattle.flash_tree.specs.laws.Finding.{kinds_apart, one_finding, same_header, same_slots}
use Rattle.flash_tree.specs.Tree.{IsPageSize}
use Rattle.flash_tree.specs.laws.Shown.{pairs, found}
use Rattle.flash_tree.proofs.FindingExists.{listed}
use Rattle.flash_tree.specs.laws.Pairs.{find_at, at_find}
use Rattle.flash_tree.specs.laws.WholeList.{IsOn, IsLedTo, is_first, is_named, IsWholeList}
use Rattle.flash_tree.proofs.ContentExists.{IsContent}
use Rattle.flash_tree.specs.laws.Slot.{entry_slot}

module _ (z : Sizes) (size : IsPageSize z.page_bytes) (m : NewestMap) (single : IsSingle m)
    (content : (o : ℕ) (named : List ℕ) → Finds z m o (Leads named) → (x : Object) × IsContent z m o x)
    (root_fields : Fields) (root_has : HasHeader z m root_number root_fields) (root_kind : root_fields.kind ≡ kinds.Directory)
    (list : List ℕ) (whole : IsWholeList z m root_number list) (not_twice : NamesTwice z m list → ⊥) where
  -- the objects of the list, each with its number
  pub gathered : (es : List (ℕ × Object)) × (length es ≡ length list) × ((i : ℕ) (e : ℕ × Object) → slice_get es i ≡ Some e → (slice_get list i ≡ Some e.0) × IsContent z m e.0 e.1)
  gathered = listed (λ i (e : ℕ × Object). (slice_get list i ≡ Some e.0) × IsContent z m e.0 e.1) (length list) (λ i lt.
      let at = slice_get_there list i lt in
      let t = whole.there i at.0 at.1 in
      let x = content at.0 t.0 t.1 in
      ((at.0, x.0), (at.1, x.1)))

  abbrev pub tree_objects : Objects
  tree_objects = map.from_entries gathered.0

  -- what is on the list is an object
  get_on : (o : ℕ) → IsOn list o → (x : Object) × (map.get tree_objects o ≡ Some x) × IsContent z m o x
  get_on o (i, at) =
      let g = gathered in
      let e = slice_get_there g.0 i (let within = slice_get_within list i o at in omega (arith, g.1)) in
      let of = g.2 i e.0 e.1 in
      let two : Some e.0.0 ≡ Some o = sym of.0 ∙ at in
      let same : e.0.0 ≡ o = cc in
      let pair : slice_get g.0 i ≡ Some (o, e.0.1) = e.1 ∙ ap (λ n. Some (n, e.0.1)) same in (
        e.0.1,
        map.get-from_entries nat_cmp_total g.0 o ∙ find_at nat_cmp_total map.nat_cmp-IsAntisymmetric g.0 i o e.0.1 pair
            (λ j x there key. whole.once j i o ((g.2 j x there).0 ∙ ap Some key) at),
        subst (λ n. IsContent z m n e.0.1) same of.1,
      )

  -- and each object is on the list
  on_get : (o : ℕ) (x : Object) → map.get tree_objects o ≡ Some x → IsOn list o × IsContent z m o x
  on_get o x is =
      let g = gathered in
      let at = at_find nat_cmp_total map.nat_cmp-IsAntisymmetric g.0 o x (sym (map.get-from_entries nat_cmp_total g.0 o) ∙ is) in
      let of = g.2 at.0 (o, x) at.1 in
      ((at.0, of.0), of.1)

  root_on : IsOn list root_number
  root_on = (0, whole.begins)

  -- a directory that is an object, with its slots
  directory_of : (d : ℕ) (moment : ℕ) (entries : Entries) → map.get tree_objects d ≡ Some (Dir moment entries) → ReadsDir z m d moment entries
  directory_of d moment entries is = (on_get d (Dir moment entries) is).1.reads

  -- what a directory of the list names is on the list
  named_is_on : (d : ℕ) (moment : ℕ) (entries : Entries) (is : map.get tree_objects d ≡ Some (Dir moment entries)) (r : ReadsDir z m d moment entries) (k : ℕ) (e : Entry) → slice_get r.slots k ≡ Some e → IsOn list e.object
  named_is_on d moment entries is r k e at =
      let on = (on_get d (Dir moment entries) is).0 in
      let t = whole.there on.0 d on.1 in
      let leads : Finds z m d (Leads (list_map (λ entry. entry.object) r.slots)) = inr (r.fields, r.has, r.kind, r.slots, record { size = r.size; each = r.each; once = r.once }, refl) in
      let two : Leads t.0 ≡ Leads (list_map (λ entry. entry.object) r.slots) = one_finding z size m single d _ _ t.1 leads in
      let same : t.0 ≡ list_map (λ entry. entry.object) r.slots = cc in
      t.2 k e.object (ap (λ l. slice_get l k) same ∙ mapped_at (λ (entry : Entry). entry.object) r.slots k e at)

  -- a name leads through a slot
  slot_of : (d o : ℕ) (name : Name) (n : Names tree_objects d name o) → (i : ℕ) × (e : Entry) × (slice_get (directory_of d n.moment n.entries n.directory_is).slots i ≡ Some e) × (e.name ≡ name) × (e.object ≡ o)
  slot_of d o name n = entry_slot z m d n.moment n.entries (directory_of d n.moment n.entries n.directory_is) name o n.object_is

  at_least_2 : (d o : ℕ) (name : Name) → Names tree_objects d name o → (2 ≤ o) × (o < 2 ^ 64 - 1)
  at_least_2 d o name n =
      let s = slot_of d o name n in
      let r = directory_of d n.moment n.entries n.directory_is in
      let valid = (r.each s.0 s.1 s.2).2 in
      let object : s.1.object ≡ o = s.4 in
      (omega (arith, valid.slot.object.0), omega (arith, valid.slot.object.1, valid.ordinary))

  leads_on : (d o : ℕ) (name : Name) → Names tree_objects d name o → IsOn list o
  leads_on d o name n =
      let s = slot_of d o name n in
      subst (IsOn list) s.4 (named_is_on d n.moment n.entries n.directory_is (directory_of d n.moment n.entries n.directory_is) s.0 s.1 s.2)

  -- a slot of a directory that is an object is a name
  names_of_slot : (d moment : ℕ) (entries : Entries) → map.get tree_objects d ≡ Some (Dir moment entries) → (r : ReadsDir z m d moment entries) (k : ℕ) (e : Entry) → slice_get r.slots k ≡ Some e → Names tree_objects d e.name e.object
  names_of_slot d moment entries got r k e at = record {
    moment = moment;
    entries = entries;
    directory_is = got;
    object_is = ap (λ es. map.get es e.name) r.entries_are ∙ map.get-from_entries nat_list_cmp_total (pairs r.slots) e.name
        ∙ found r.slots k e at (λ j b there same. r.once j k b e there at same);
  }

  slots_same : (d : ℕ) (f : Fields) → HasHeader z m d f → (slots : List Entry) → AreSlots z m d f.length slots → (moment : ℕ) (entries : Entries) (r : ReadsDir z m d moment entries) → r.slots ≡ slots
  slots_same d f has slots are moment entries r =
      let same : f ≡ r.fields = same_header z size m single d f r.fields has r.has in
      same_slots z size m single d r.fields.length r.slots slots (record { size = r.size; each = r.each; once = r.once })
      (subst (λ (x : Fields). AreSlots z m d x.length slots) same are)

  -- so each object that is named by one of the list has a name there
  slot_names : (d : ℕ) (named : List ℕ) (k c : ℕ) → IsOn list d → Finds z m d (Leads named) → slice_get named k ≡ Some c → (name : Name) × Names tree_objects d name c
  slot_names d named k c on (inl (f, has, kind, chunks, none)) at = let two : None ≡ Some c = ap (λ l. slice_get l k) (sym none) ∙ at in absurd cc
  slot_names d named k c on (inr (f, has, kind, slots, are, is)) at =
      let e = at_mapped (λ (entry : Entry). entry.object) slots k c (ap (λ l. slice_get l k) (sym is) ∙ at) in
      let x = get_on d on in
      go e.0 e.1 e.2 x.0 x.1 x.2.reads
    where
      go : (e : Entry) → slice_get slots k ≡ Some e → e.object ≡ c → (x : Object) → map.get tree_objects d ≡ Some x → ReadsAs z m d x → (name : Name) × Names tree_objects d name c
      go e there object (File moment bytes) got r = absurd (kinds_apart z size m single d r.fields f r.has has r.kind kind)
      go e there object (Dir moment entries) got r =
          let here : slice_get r.slots k ≡ Some e = ap (λ l. slice_get l k) (slots_same d f has slots are moment entries r) ∙ there in
          (e.name, subst (Names tree_objects d e.name) object (names_of_slot d moment entries got r k e here))

  -- what is led to is on the list, and reached
  led_reached : (o : ℕ) → IsLedTo z m root_number o → IsOn list o × Reached tree_objects o
  led_reached o is_first = (root_on, root)
  led_reached o (is_named {o = d} named k led lookups at) =
      let up = led_reached d led in
      let n = slot_names d named k o up.0 lookups at in
      (leads_on d o n.0 n.1, below n.0 up.1 n.1)

  reached_on : (o : ℕ) → IsOn list o → Reached tree_objects o
  reached_on o (i, at) = (led_reached o (whole.led i o at)).1

  -- the root is a directory
  root_is : IsDirectory tree_objects root_number
  root_is = let x = get_on root_number root_on in go x.0 x.1 x.2.reads where
    go : (x : Object) → map.get tree_objects root_number ≡ Some x → ReadsAs z m root_number x → IsDirectory tree_objects root_number
    go (File moment bytes) got r = absurd (kinds_apart z size m single root_number r.fields root_fields r.has root_has r.kind root_kind)
    go (Dir moment entries) got r = (moment, entries, got)

  -- numbers from 1 up
  in_range : (o : ℕ) → IsLedTo z m root_number o → (1 ≤ o) × (o < 2 ^ 64 - 1)
  in_range o is_first = (omega arith, omega arith)
  in_range o (is_named {o = d} named k led lookups at) =
      let n = slot_names d named k o (led_reached d led).0 lookups at in
      let some = at_least_2 d o n.0 n.1 in
      (omega (arith, some.0), some.1)

  is_object : (o : ℕ) (x : Object) → map.get tree_objects o ≡ Some x → IsObject z o x
  is_object o x got =
      let c = on_get o x got in
      let range = in_range o (whole.led c.0.0 o c.0.1) in
      record { numbered = range.0; number = range.1; moment = c.1.moment; content = c.1.content }

  -- the slot that a name stands in, as one of the list
  slot_in : (d o : ℕ) (name : Name) (n : Names tree_objects d name o) → (i : ℕ) × (e : Entry) × IsSlotIn z m list d i e × (e.name ≡ name) × (e.object ≡ o)
  slot_in d o name n =
      let s = slot_of d o name n in
      let r = directory_of d n.moment n.entries n.directory_is in
      let on = (on_get d (Dir n.moment n.entries) n.directory_is).0 in (
        s.0,
        s.1,
        record {
          place = on.0;
          listed = on.1;
          fields = r.fields;
          has = r.has;
          kind = r.kind;
          within = omega (arith, r.size, slice_get_within r.slots s.0 s.1 s.2);
          slot = r.each s.0 s.1 s.2;
        },
        s.3,
        s.4,
      )

  one_name : (o a b : ℕ) (x y : Name) → IsDirectory tree_objects o → Names tree_objects a x o → Names tree_objects b y o → (a ≡ b) × (x ≡ y)
  one_name o a b x y is n k =
      let s = slot_in a o x n in
      let t = slot_in b o y k in
      let r = directory_of o is.0 is.1 is.2 in
      elim (cases_eq a b) [
        | inr ne ↦ absurd (not_twice (record {
          named = o;
          fields = r.fields;
          has = r.has;
          kind = r.kind;
          directory = a;
          other = b;
          i = s.0;
          j = t.0;
          entry = s.1;
          other_entry = t.1;
          first = s.2;
          second = t.2;
          leads = s.4;
          other_leads = t.4;
          apart = inl ne;
        }))
        | inl same ↦ elim (cases_eq s.0 t.0) [
          | inr ne ↦ absurd (not_twice (record {
            named = o;
            fields = r.fields;
            has = r.has;
            kind = r.kind;
            directory = a;
            other = b;
            i = s.0;
            j = t.0;
            entry = s.1;
            other_entry = t.1;
            first = s.2;
            second = t.2;
            leads = s.4;
            other_leads = t.4;
            apart = inr ne;
          }))
          | inl place ↦
              let slot : SlotIs z m b t.0 s.1 = subst (λ d. SlotIs z m d t.0 s.1) same (subst (λ i. SlotIs z m a i s.1) place s.2.slot) in
              let one : s.1 ≡ t.1 = one_slot z size.most m single b t.0 s.1 t.1 slot t.2.slot in
              (same, sym s.3 ∙ ap (λ (e : Entry). e.name) one ∙ t.3)
        ]
      ]

  -- the objects are a tree, and the newest pages show it
  pub some_tree : Shows z m tree_objects
  some_tree = record {
    tree = record {
      forest = record {
        each = is_object;
        root = root_is;
        root_unnamed = λ d name n. let some = at_least_2 d root_number name n in omega (arith, some.0);
        leads = λ d o name n. let x = get_on o (leads_on d o name n) in (x.0, x.1);
        reached = λ d o name n. reached_on d (on_get d (Dir n.moment n.entries) n.directory_is).0;
        one_name = one_name;
      };
      all_reached = λ o x got. reached_on o (on_get o x got).0;
    };
    each = λ o x got. (on_get o x got).1.reads;
  }
