-- Of pages that show a tree a salvage has all of it.
use Rattle.std.specs.Prelude.{◌≡◌, ◌<◌, ◌≤◌, ℕ, ◌+◌, ◌-◌, ◌%◌, true, false, List, length, min, take, drop, slice_index, slice_get, Option, Some, None, IsSome}
use Rattle.std.specs.Option.{is_some}
use Rattle.std.specs.List.{Contains}
use Rattle.std.specs.Cmp.Lexicographic.{nat_list_cmp_total}
use Rattle.std.specs.FinMap as map
use Rattle.std.proofs.Common.{refl, sym, ◌∙◌, ap, subst, inl, inr, arith}
use Rattle.std.proofs.lemmas.List.{ext_get_or, get_or-take, get_or-drop, length-drop, length-take-le}
use Rattle.std.proofs.lemmas.Option.{slice_get_within}
use Rattle.page_tags.specs.Headers.{Fields, is_present}
use Rattle.page_tags.specs.Slots.{Entry}
use Rattle.page_tags.specs.declared.header.ObjectKind.TheVariants as kinds
use Rattle.volume_terms.specs.Sizes.{Sizes, root_number}
use Rattle.volume_terms.specs.laws.List.{slice_get_there}
use Rattle.posix_profile.specs.State.{Name, Entries, Object, File, Dir, Objects}
use Rattle.posix_profile.specs.Names.{Reached, root, below}
use Rattle.flash_tree.specs.Tree.{NewestMap, IsSingle, ByteIs, SlotIs, ReadsAs, ReadsDir, ReadsFile, Shows}
use Rattle.flash_tree.specs.laws.OneTree.{one_header, one_slot}
use Rattle.flash_tree.specs.laws.Shown.{pairs, found}
use Rattle.flash_tree.specs.laws.Slot.{entry_slot}
use Rattle.salvage.specs.Reached.{LeadsTo, IsReached, here, on}
use Rattle.salvage.specs.Reported.{AreRead, no_slots, reads, lacks, ListsDirectory, ReadsPart, pairs_of, rest_of_chunk}
use Rattle.salvage.specs.Whole.{ReachesAll, HasNames, ListsAll, HasBytes, ReadsAll}
use Rattle.salvage.specs.declared.reported.Listing.{Listing}
use Rattle.salvage.specs.declared.reported.Part.{Part}
use Rattle.salvage.specs.declared.reported.Part.TheVariants as parts
use Rattle.salvage.proofs.Named.{pair_of_slot, slot_of_pair}

of_some : {A : Type 0} (x : Option A) → IsSome x → (y : A) × (x ≡ Some y)
of_some None is = absurd cc
of_some (Some y) is = (y, refl)

-- where each slot reads none is lost
none_lost : (z : Sizes) (m : NewestMap) (d c l : ℕ) (ps : List (Name × ℕ)) → AreRead z m d c ps l → ((i : ℕ) → i < c → (e : Entry) × SlotIs z m d i e) → l ≡ 0
none_lost z m d c l ps no_slots each = refl
none_lost z m d c l ps (reads {n} {lost} {pairs} e before slot) each = none_lost z m d n lost pairs before (λ i lt. each i (omega (arith, lt)))
none_lost z m d c l ps (lacks {n} {lost} {pairs} before not) each = let s = each n (omega arith) in absurd (not s.0 s.1)

module _ (z : Sizes) (within_limit : z.page_bytes ≤ 4096) (m : NewestMap) (single : IsSingle m) (o : ℕ) where
  -- a byte of a file is one
  one_byte : (f : Fields) (i x y : ℕ) → ByteIs z m o f i x → ByteIs z m o f i y → x ≡ y
  one_byte f i x y (inl a) (inl b) =
      let same : a.1.0 ≡ b.1.0 = single _ _ _ _ a.1.1 b.1.1 in
      sym a.1.2 ∙ ap (λ (p : List ℕ). slice_index p (i % z.page_bytes)) same ∙ b.1.2
  one_byte f i x y (inl a) (inr b) = let two : true ≡ false = sym a.0 ∙ b.0 in cc
  one_byte f i x y (inr a) (inl b) = let two : true ≡ false = sym b.0 ∙ a.0 in cc
  one_byte f i x y (inr a) (inr b) = a.1 ∙ sym b.1

  kinds_apart : (f g : Fields) → f ≡ g → f.kind ≡ kinds.File → g.kind ≡ kinds.Directory → ⊥
  kinds_apart f g same file directory = let two : kinds.File ≡ kinds.Directory = sym file ∙ ap (λ (x : Fields). x.kind) same ∙ directory in cc

  -- ---- a directory

  module _ (moment : ℕ) (entries : Entries) (r : ReadsDir z m o moment entries) where
    entry_at : (k : ℕ) (e : Entry) → slice_get r.slots k ≡ Some e → map.get entries e.name ≡ Some e.object
    entry_at k e is =
        ap (λ (es : Entries). map.get es e.name) r.entries_are ∙ map.get-from_entries nat_list_cmp_total (pairs r.slots) e.name
        ∙ found r.slots k e is (λ j b at same. r.once j k b e at is same)

    -- the slot at a place within it is one of its slots
    slot_at : (i : ℕ) (e : Entry) → i < r.fields.length → SlotIs z m o i e → map.get entries e.name ≡ Some e.object
    slot_at i e lt slot =
        let x = slice_get_there r.slots i (omega (arith, lt, r.size)) in
        let one : x.0 ≡ e = one_slot z within_limit m single o i x.0 e (r.each i x.0 x.1) slot in
        subst (λ (y : Entry). map.get entries y.name ≡ Some y.object) one (entry_at i x.0 x.1)

    slot_there : (i : ℕ) → i < r.fields.length → (e : Entry) × SlotIs z m o i e
    slot_there i lt = let x = slice_get_there r.slots i (omega (arith, lt, r.size)) in (x.0, r.each i x.0 x.1)

    pub led : (c : ℕ) → LeadsTo z m o c → (name : Name) × (map.get entries name ≡ Some c)
    led c l =
        let same : l.fields ≡ r.fields = one_header z within_limit m single o l.fields r.fields l.has r.has in
        let within : l.place < r.fields.length = subst (λ (x : Fields). l.place < x.length) same l.within in
        (l.entry.name, slot_at l.place l.entry within l.slot ∙ ap Some l.names)

    pub leads : (name : Name) (c : ℕ) → map.get entries name ≡ Some c → LeadsTo z m o c
    leads name c is =
        let s = entry_slot z m o moment entries r name c is in
        record {
          fields = r.fields;
          has = r.has;
          kind = r.kind;
          place = s.0;
          within = omega (arith, slice_get_within r.slots s.0 s.1 s.2, r.size);
          entry = s.1;
          slot = r.each s.0 s.1 s.2;
          names = s.4;
        }

    pub has_names : (reported : Option Listing) → ListsDirectory z m o reported → HasNames reported entries
    has_names None not = not r.fields r.has r.kind
    has_names (Some listing) (f, has, kind, slots) =
        let same : f ≡ r.fields = one_header z within_limit m single o f r.fields has r.has in
        let read : AreRead z m o r.fields.length (pairs_of listing) listing.lost = subst (λ (x : Fields). AreRead z m o x.length (pairs_of listing) listing.lost) same slots in (
          none_lost z m o r.fields.length listing.lost (pairs_of listing) read slot_there,
          λ name c. (to read name c, from read name c),
        )
      where
        to : AreRead z m o r.fields.length (pairs_of listing) listing.lost → (name : Name) (c : ℕ) → Contains (pairs_of listing) (name, c) → map.get entries name ≡ Some c
        to read name c at =
            let s = slot_of_pair z m o r.fields.length listing.lost (pairs_of listing) read (name, c) at in
            let is = slot_at s.0 s.1 s.2 s.3 in
            ap (λ (x : Name × ℕ). map.get entries x.0) s.4 ∙ is ∙ ap (λ (x : Name × ℕ). Some x.1) (sym s.4)

        from : AreRead z m o r.fields.length (pairs_of listing) listing.lost → (name : Name) (c : ℕ) → map.get entries name ≡ Some c → Contains (pairs_of listing) (name, c)
        from read name c is =
            let s = entry_slot z m o moment entries r name c is in
            let pair = pair_of_slot z within_limit m single o r.fields.length listing.lost (pairs_of listing) read s.0 s.1 (omega (arith, slice_get_within r.slots s.0 s.1 s.2, r.size)) (r.each s.0 s.1 s.2) in
            subst (λ (x : Name). Contains (pairs_of listing) (x, c)) s.3 (subst (λ (x : ℕ). Contains (pairs_of listing) (s.1.name, x)) s.4 pair)

  -- ---- a file

  module _ (moment : ℕ) (bytes : List ℕ) (r : ReadsFile z m o moment bytes) (offset : ℕ) (buffer : List ℕ) where
    same_bytes : (f : Fields) (n : ℕ) → f ≡ r.fields → n ≤ length buffer → n ≤ length bytes - offset → ((i : ℕ) → i < n → ByteIs z m o f (offset + i) (slice_index buffer i))
        → take n buffer ≡ take n (drop offset bytes)
    same_bytes f n same room there each =
        let long : length (drop offset bytes) ≡ length bytes - offset = length-drop offset bytes in
        let left : length (take n buffer) ≡ n = length-take-le n buffer room in
        let right : length (take n (drop offset bytes)) ≡ n = length-take-le n (drop offset bytes) (omega (arith, there, long)) in
        ext_get_or 0 (take n buffer) (take n (drop offset bytes)) (left ∙ sym right) (λ i lt.
        let less : i < n = omega (arith, lt, left) in
        let byte = one_byte r.fields (offset + i) (slice_index buffer i) (slice_index bytes (offset + i))
        (subst (λ (x : Fields). ByteIs z m o x (offset + i) (slice_index buffer i)) same (each i less)) (r.each (offset + i) (omega (arith, less, there))) in
        get_or-take n buffer i 0 less ∙ byte ∙ sym (get_or-take n (drop offset bytes) i 0 less ∙ get_or-drop offset bytes i 0))

    pub has_bytes : (reported : Option Part) → ReadsPart z m o offset buffer reported → HasBytes z bytes offset buffer reported
    has_bytes None not = absurd (not r.fields r.has r.kind)
    has_bytes (Some (parts.Lost part)) (f, has, kind, lost) =
        let same : f ≡ r.fields = one_header z within_limit m single o f r.fields has r.has in
        let lt : offset < length bytes = omega (arith, lost.within, ap (λ (x : Fields). x.length) same, r.size) in
        absurd (elim (r.each offset lt) [
          | inl there ↦ lost.none there.1.0 (subst (λ c. m o c there.1.0) (sym lost.chunk) there.1.1)
          | inr absent ↦
              let two : true ≡ false = sym lost.present ∙ ap (λ (x : Fields). is_present x.bits part.chunk) same ∙ ap (is_present r.fields.bits) lost.chunk ∙ absent.0 in
              cc
        ])
    has_bytes (Some (parts.Bytes n)) (f, has, kind, (count, each)) =
        let same : f ≡ r.fields = one_header z within_limit m single o f r.fields has r.has in
        let size : f.length ≡ length bytes = ap (λ (x : Fields). x.length) same ∙ r.size in
        let is : n ≡ min (length buffer) (rest_of_chunk z (length bytes) offset) = count ∙ ap (λ k. min (length buffer) (rest_of_chunk z k offset)) size in
        (n, refl, is, same_bytes f n same (omega (arith, is)) (omega (arith, is)) each)

-- ---- the tree

module _ (z : Sizes) (within_limit : z.page_bytes ≤ 4096) (m : NewestMap) (single : IsSingle m) (objects : Objects) (shown : Shows z m objects) where
  -- what is reached is an object of the tree
  there : (o : ℕ) → IsReached z m root_number o → (x : Object) × (map.get objects o ≡ Some x)
  there o here = let d = shown.tree.forest.root in (Dir d.0 d.1, d.2)
  there o (on {d} {o = c} up l) = let x = there d up in go x.0 x.1 (shown.each d x.0 x.1)
    where
      go : (x : Object) → map.get objects d ≡ Some x → ReadsAs z m d x → (y : Object) × (map.get objects c ≡ Some y)
      go (File moment bytes) is r = absurd (kinds_apart z within_limit m single d r.fields l.fields (one_header z within_limit m single d r.fields l.fields r.has l.has) r.kind l.kind)
      go (Dir moment entries) is r =
          let n = led z within_limit m single d moment entries r c l in
          shown.tree.forest.leads d c n.0 (record { moment = moment; entries = entries; directory_is = is; object_is = n.1 })

  reached : (o : ℕ) → Reached objects o → IsReached z m root_number o
  reached o root = here
  reached o (below {directory} {object} name up n) =
      let r : ReadsDir z m directory n.moment n.entries = shown.each directory (Dir n.moment n.entries) n.directory_is in
      on (reached directory up) (leads z within_limit m single directory n.moment n.entries r name object n.object_is)

  pub reaches_all : ReachesAll z m objects
  reaches_all o = (
    λ is. let x = there o is in ap is_some x.1,
    λ some. let x = of_some (map.get objects o) some in reached o (shown.tree.all_reached o x.0 x.1),
  )

  pub lists_all : ListsAll z m objects
  lists_all d moment entries reported is listed = has_names z within_limit m single d moment entries (shown.each d (Dir moment entries) is) reported listed

  pub reads_all : ReadsAll z m objects
  reads_all o moment offset bytes buffer reported is part = has_bytes z within_limit m single o moment bytes (shown.each o (File moment bytes) is) offset buffer reported part
