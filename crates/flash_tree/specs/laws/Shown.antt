-- Of objects that are shown nothing is wrong, and no directory is named twice.
use Rattle.std.specs.Prelude.{◌≡◌, ◌≢◌, ◌<◌, ◌≤◌, ℕ, zero, suc, ◌+◌, ◌-◌, ◌*◌, ◌/◌, ◌%◌, true, false, List, [], ◌∷◌, ◌++◌, length, slice_get, map as list_map, nat_eq, Some, None}
use Rattle.std.proofs.Common.{refl, sym, ◌∙◌, ap, subst, inl, inr, arith}
use Rattle.std.proofs.Math.Nat.{mul-le-mul_right, div-add-mod'}
use Rattle.std.proofs.lemmas.Bool.{cases_Bool, cases_order, cond-true, cond-false}
use Rattle.std.specs.List.{list_any}
use Rattle.std.specs.Ordering.{nat_cmp, eq_by_cmp}
use Rattle.std.specs.Cmp.Lexicographic.{slice_cmp, nat_list_cmp_total}
use Rattle.std.specs.FinMap as map
use Rattle.page_tags.specs.Headers.{Fields, MayBeSet, is_present}
use Rattle.page_tags.specs.Slots.{Entry}
use Rattle.page_tags.specs.declared.header.ObjectKind.{ObjectKind}
use Rattle.page_tags.specs.declared.header.ObjectKind.TheVariants as kinds
use Rattle.volume_terms.specs.Sizes.{Sizes}
use Rattle.volume_terms.specs.laws.List.{slice_get_there}
use Rattle.posix_profile.specs.State.{Name, Entries, Object, File, Dir, Objects}
use Rattle.posix_profile.specs.Names.{Names}
use Rattle.posix_profile.specs.laws.Map.{same_key, eq_same}
use Rattle.flash_tree.specs.Tree.{NewestMap, IsSingle, HasHeader, SlotIs, ReadsAs, ReadsFile, ReadsDir, Shows}
use Rattle.flash_tree.specs.laws.OneTree.{one_slot}
use Rattle.flash_tree.specs.Mount.{Wrong, HasChunks, AreSlots, Stops, Leads, Finds, with_new, ListEnd, Wrongly, Wholly, GoesThrough, ends, stops, goes, NamesTwice}
use Rattle.flash_tree.specs.laws.Finding.{same_header, kinds_apart, one_finding}
use Rattle.flash_tree.specs.Tree.{IsPageSize}

-- ---- what a list has

-- a fact of each element
abbrev pub Each : (ℕ → Type 0) → List ℕ → Type 0
Each P list = (k c : ℕ) → slice_get list k ≡ Some c → P c

each_first : (P : ℕ → Type 0) (x : ℕ) (xs : List ℕ) → Each P (x ∷ xs) → P x
each_first P x xs each = each zero x refl

each_rest : (P : ℕ → Type 0) (x : ℕ) (xs : List ℕ) → Each P (x ∷ xs) → Each P xs
each_rest P x xs each k c is = each (suc k) c is

each_more : (P : ℕ → Type 0) (xs : List ℕ) (o : ℕ) → Each P xs → P o → Each P (xs ++ o ∷ [])
each_more P [] o each at zero c is = let same : o ≡ c = cc in subst P same at
each_more P [] o each at (suc k) c is = let no' : None ≡ Some c = is in absurd cc
each_more P (x ∷ xs) o each at zero c is = each zero c is
each_more P (x ∷ xs) o each at (suc k) c is = each_more P xs o (each_rest P x xs each) at k c is

-- what holds of a list and of what is new holds of the list with it
pub each_with_new : (P : ℕ → Type 0) (list named : List ℕ) → Each P list → Each P named → Each P (with_new list named)
each_with_new P list [] old new = old
each_with_new P list (o ∷ named) old new =
    let rest = each_rest P o named new in
    elim (cases_Bool (list_any (nat_eq o) list)) [
      | inl is ↦ subst (Each P) (sym (cond-true (list_any (nat_eq o) list) (with_new list named) (with_new (list ++ o ∷ []) named) is)) (each_with_new P list named old rest)
      | inr is ↦ subst (Each P) (sym (cond-false (list_any (nat_eq o) list) (with_new list named) (with_new (list ++ o ∷ []) named) is))
          (each_with_new P (list ++ o ∷ []) named (each_more P list o old (each_first P o named new)) rest)
    ]

each_mapped : {A : Type 0} (f : A → ℕ) (P : ℕ → Type 0) (xs : List A) → ((k : ℕ) (x : A) → slice_get xs k ≡ Some x → P (f x)) → Each P (list_map f xs)
each_mapped f P [] each k c is = absurd cc
each_mapped f P (x ∷ xs) each zero c is = let same : f x ≡ c = cc in subst P same (each zero x refl)
each_mapped f P (x ∷ xs) each (suc k) c is = each_mapped f P xs (λ j y at. each (suc j) y at) k c is

-- ---- the entries of slots

abbrev pub pairs : List Entry → List (Name × ℕ)
pairs slots = list_map (λ entry. (entry.name, entry.object)) slots

ne_name : (a b : Name) → a ≢ b → eq_by_cmp (slice_cmp nat_cmp) a b ≡ false
ne_name a b ne = elim (cases_Bool (eq_by_cmp (slice_cmp nat_cmp) a b)) [
  | inl e ↦ absurd (ne (same_key nat_list_cmp_total (map.slice_cmp-IsAntisymmetric map.nat_cmp-IsAntisymmetric) a b e))
  | inr e ↦ e
]

-- the entry at a place is found by its name, where no other place has it
pub found : (slots : List Entry) (k : ℕ) (e : Entry) → slice_get slots k ≡ Some e → ((j : ℕ) (b : Entry) → slice_get slots j ≡ Some b → b.name ≡ e.name → j ≡ k)
    → map.find (slice_cmp nat_cmp) e.name (pairs slots) ≡ Some e.object
found [] k e is once = absurd cc
found (s ∷ slots) zero e is once =
    let same : s ≡ e = cc in
    let test : eq_by_cmp (slice_cmp nat_cmp) e.name s.name ≡ true =
    eq_same nat_list_cmp_total (map.slice_cmp-IsAntisymmetric map.nat_cmp-IsAntisymmetric) e.name s.name (ap (λ (x : Entry). x.name) (sym same)) in
    cond-true _ (Some s.object) _ test ∙ ap (λ (x : Entry). Some x.object) same
found (s ∷ slots) (suc k) e is once =
    let test : eq_by_cmp (slice_cmp nat_cmp) e.name s.name ≡ false = ne_name e.name s.name (λ same. let no' : zero ≡ suc k = once zero s refl (sym same) in absurd (omega arith)) in
    cond-false _ (Some s.object) _ test ∙ found slots k e is (λ j b at same. let one : suc j ≡ suc k = once (suc j) b at same in omega arith)

-- ---- chunks of a file

-- the chunk after k whole ones begins before the end of so many bytes
begins_before : (k d n : ℕ) → 1 ≤ d → k + 1 ≤ (n + d - 1) / d → k * d < n
begins_before k d n some le =
    let less : (k + 1) * d ≤ (n + d - 1) / d * d = mul-le-mul_right d le in
    let split : (n + d - 1) / d * d + (n + d - 1) % d ≡ n + d - 1 = div-add-mod' (n + d - 1) d in
    omega arith

-- it is the chunk of its first byte
first_of_chunk : (k d : ℕ) → 1 ≤ d → k * d / d ≡ k
first_of_chunk k d some =
    let split : k * d / d * d + k * d % d ≡ k * d = div-add-mod' (k * d) d in
    elim (cases_order (k * d / d) k) [
      | inl same ↦ same
      | inr (inl less) ↦ let under : k * d / d + 1 ≤ k = omega arith in let le : (k * d / d + 1) * d ≤ k * d = mul-le-mul_right d under in absurd (omega arith)
      | inr (inr more) ↦ let under : k + 1 ≤ k * d / d = omega arith in let le : (k + 1) * d ≤ k * d / d * d = mul-le-mul_right d under in absurd (omega arith)
    ]

module _ (z : Sizes) (size : IsPageSize z.page_bytes) (m : NewestMap) (single : IsSingle m) (objects : Objects) (shown : Shows z m objects) where
  abbrev pub IsThere : ℕ → Type 0
  IsThere o = (x : Object) × (map.get objects o ≡ Some x)

  -- a file that is read has the chunks that its header says are present
  has_chunks : (o moment : ℕ) (bytes : List ℕ) (r : ReadsFile z m o moment bytes) → HasChunks m o r.fields
  has_chunks o moment bytes r c some present =
      let k : ℕ = c - 1 in
      let d : ℕ = z.page_bytes in
      let ok : 1 ≤ d = omega (arith, size.least) in
      let may : MayBeSet d kinds.File r.fields.length c = subst (λ (kind : ObjectKind). MayBeSet d kind r.fields.length c) r.kind (r.has.1.within c some present) in
      let lt : k * d < length bytes = omega (arith, begins_before k d r.fields.length ok (omega arith), r.size) in
      let at : 1 + k * d / d ≡ c = omega (arith, first_of_chunk k d ok) in
      elim (r.each (k * d) lt) [
        | inl there ↦ (there.1.0, subst (λ n. m o n there.1.0) at there.1.1)
        | inr absent ↦ let two : true ≡ false = sym present ∙ ap (is_present r.fields.bits) (sym at) ∙ absent.0 in absurd cc
      ]

  -- an entry of a directory that is read is a name
  names_slot : (o moment : ℕ) (entries : Entries) (r : ReadsDir z m o moment entries) → map.get objects o ≡ Some (Dir moment entries) → (k : ℕ) (e : Entry) → slice_get r.slots k ≡ Some e → Names objects o e.name e.object
  names_slot o moment entries r there k e is = record {
    moment = moment;
    entries = entries;
    directory_is = there;
    object_is = ap (λ es. map.get es e.name) r.entries_are ∙ map.get-from_entries nat_list_cmp_total (pairs r.slots) e.name
        ∙ found r.slots k e is (λ j b at same. r.once j k b e at is same);
  }

  -- of an object that is there the going through finds the objects that it names, which are there too
  shown_leads : (o : ℕ) (x : Object) → map.get objects o ≡ Some x → (named : List ℕ) × Finds z m o (Leads named) × Each IsThere named
  shown_leads o x there = go x there (shown.each o x there) where
    go : (x : Object) → map.get objects o ≡ Some x → ReadsAs z m o x → (named : List ℕ) × Finds z m o (Leads named) × Each IsThere named
    go (File moment bytes) there r = ([], inl (r.fields, r.has, r.kind, has_chunks o moment bytes r, refl), λ k c is. let two : None ≡ Some c = is in absurd cc)
    go (Dir moment entries) there r =
        let named : List ℕ = list_map (λ entry. entry.object) r.slots in
        let are : AreSlots z m o r.fields.length r.slots = record { size = r.size; each = r.each; once = r.once } in (
          named,
          inr (r.fields, r.has, r.kind, r.slots, are, refl),
          each_mapped (λ (e : Entry). e.object) IsThere r.slots (λ k e is. shown.tree.forest.leads o e.object e.name (names_slot o moment entries r there k e is)),
        )

  -- so nothing is found to be wrong
  nothing_wrong : (o : ℕ) (wrong : Wrong) → IsThere o → Finds z m o (Stops wrong) → ⊥
  nothing_wrong o wrong there lookups =
      let leads = shown_leads o there.0 there.1 in
      let two : Leads leads.0 ≡ Stops wrong = one_finding z size m single o _ _ leads.1 lookups in
      cc

  named_there : (o : ℕ) (named : List ℕ) → IsThere o → Finds z m o (Leads named) → Each IsThere named
  named_there o named there lookups =
      let leads = shown_leads o there.0 there.1 in
      let two : Leads leads.0 ≡ Leads named = one_finding z size m single o _ _ leads.1 lookups in
      let same : leads.0 ≡ named = cc in
      subst (Each IsThere) same leads.2

  -- how the going through ends: wholly, with objects that are there
  abbrev pub EndsWell : ListEnd → Type 0
  EndsWell (Wrongly wrong) = ⊥
  EndsWell (Wholly list) = Each IsThere list

  pub ends_well : (list : List ℕ) (n : ℕ) (end : ListEnd) → Each IsThere list → GoesThrough z m list n end → EndsWell end
  ends_well list n end there (ends len) = there
  ends_well list n end there (stops o wrong is lookups) = nothing_wrong o wrong (there n o is) lookups
  ends_well list n end there (goes o named is lookups on) =
      ends_well (with_new list named) (n + 1) end (each_with_new IsThere list named there (named_there o named (there n o is) lookups)) on

  -- what is there with a directory's header is a directory
  is_directory_there : (o : ℕ) (f : Fields) → HasHeader z m o f → f.kind ≡ kinds.Directory → IsThere o → (moment : ℕ) × (entries : Entries) × (map.get objects o ≡ Some (Dir moment entries)) × ReadsDir z m o moment entries
  is_directory_there o f has kind there = go there.0 there.1 (shown.each o there.0 there.1) where
    go : (x : Object) → map.get objects o ≡ Some x → ReadsAs z m o x → (moment : ℕ) × (entries : Entries) × (map.get objects o ≡ Some (Dir moment entries)) × ReadsDir z m o moment entries
    go (File moment bytes) is r = absurd (kinds_apart z size m single o r.fields f r.has has r.kind kind)
    go (Dir moment entries) is r = (moment, entries, is, r)

  -- a slot of it is one of its entries
  slot_of : (o : ℕ) (f : Fields) (has : HasHeader z m o f) (moment : ℕ) (entries : Entries) (r : ReadsDir z m o moment entries) (i : ℕ) (e : Entry) → i < f.length → SlotIs z m o i e → slice_get r.slots i ≡ Some e
  slot_of o f has moment entries r i e lt slot =
      let same : r.fields ≡ f = same_header z size m single o r.fields f r.has has in
      let len : r.fields.length ≡ f.length = ap (λ (x : Fields). x.length) same in
      let at = slice_get_there r.slots i (omega (arith, r.size, len)) in
      let one : at.0 ≡ e = one_slot z size.most m single o i at.0 e (r.each i at.0 at.1) slot in
      at.1 ∙ ap Some one

  -- no directory of the tree is named by two slots
  pub not_twice : (list : List ℕ) → Each IsThere list → NamesTwice z m list → ⊥
  not_twice list there t =
      let a = t.first in
      let b = t.second in
      let d = is_directory_there t.directory a.fields a.has a.kind (there a.place t.directory a.listed) in
      let q = is_directory_there t.other b.fields b.has b.kind (there b.place t.other b.listed) in
      let first = slot_of t.directory a.fields a.has d.0 d.1 d.3 t.i t.entry a.within a.slot in
      let second = slot_of t.other b.fields b.has q.0 q.1 q.3 t.j t.other_entry b.within b.slot in
      let name : Names objects t.directory t.entry.name t.named = subst (Names objects t.directory t.entry.name) t.leads (names_slot t.directory d.0 d.1 d.3 d.2 t.i t.entry first) in
      let other_name : Names objects t.other t.other_entry.name t.named = subst (Names objects t.other t.other_entry.name) t.other_leads (names_slot t.other q.0 q.1 q.3 q.2 t.j t.other_entry second) in
      let named_there : IsThere t.named = shown.tree.forest.leads t.directory t.named t.entry.name name in
      let n = is_directory_there t.named t.fields t.has t.kind named_there in
      let one = shown.tree.forest.one_name t.named t.directory t.other t.entry.name t.other_entry.name (n.0, n.1, n.2) name other_name in
      elim t.apart [
        | inl directories ↦ directories one.0
        | inr places ↦
            let slot : SlotIs z m t.directory t.j t.other_entry = subst (λ o. SlotIs z m o t.j t.other_entry) (sym one.0) b.slot in
            let has_too : HasHeader z m t.directory b.fields = subst (λ o. HasHeader z m o b.fields) (sym one.0) b.has in
            let second_too = slot_of t.directory b.fields has_too d.0 d.1 d.3 t.j t.other_entry b.within slot in
            places (d.3.once t.i t.j t.entry t.other_entry first second_too one.1)
      ]
