-- The names of objects in an index, after a change.
use Rattle.std.specs.Prelude.{List, [], ◌≡◌, ◌≢◌, ◌<◌, ◌≤◌, ◌+◌, ◌-◌, ℕ, Bool, true, false, cond, Option, Some, None, Result, Ok, Err, OnOk, IfOk, ◌/◌}
use Rattle.std.proofs.Common.{sym, ◌∙◌, ap, subst, inl, inr, arith}
use Rattle.std.proofs.lemmas.Bool.{cases_eq}
use Rattle.std.specs.Cmp.{nat_cmp_total}
use Rattle.std.specs.Cmp.Lexicographic.{slice_cmp, nat_list_cmp_total}
use Rattle.std.specs.Ordering.{nat_cmp}
use Rattle.std.specs.FinMap as map
use Rattle.name_index.specs.Covering.{HasHashes}
use Rattle.name_index.specs.declared.index.NameIndex.{NameIndex}
use Rattle.volume_terms.specs.Sizes.{Sizes, IsSizes, page_slots}
use Rattle.posix_profile.specs.State.{Name, Entries, Object, File, Dir, Objects, IsDirectory, entries_of}
use Rattle.posix_profile.specs.Changes.{with_name, without_name, with_bytes}
use Rattle.posix_profile.specs.Charge.{fits}
use Rattle.posix_profile.specs.laws.Map.{get_here, get_there, get_removed, removed_none}
use Rattle.posix_profile.specs.declared.reply.Kind.{Kind}
use Rattle.posix_profile.specs.declared.reply.Kind.TheVariants as kinds
use Rattle.object_store.specs.Changes.{without, empty_object}
use Rattle.pages.specs.Changes.{IsOnlyOf}
use Rattle.pages.specs.Maps.{PageMap, no_pages, without_cuts, after_change}
use Rattle.pages.specs.laws.Changes.{others_keep}
use Rattle.pages.specs.laws.Maps.{page_elsewhere, first_here}
use Rattle.directories.specs.Writes.{HasKey}
use Rattle.directories.specs.laws.Keys.{first_or_none, cuts_leave}
use Rattle.pages.specs.declared.change.Change.{Change}
use Rattle.directories.specs.Hashing.{WritesPast, WritesNewSlots}
use Rattle.paged_objects.specs.Holding.{HoldsObject, HoldsObjects, HoldsDirectory}
use Rattle.paged_objects.specs.Naming.{HasNames, WritesNames}
use Rattle.paged_objects.proofs.Entries.{few_fitting}

-- no entry stands in no slot
no_entries : (s : ℕ) → s < map.len (entries_of None) → ⊥
no_entries s less = let none : map.len (entries_of None) ≡ 0 = map.len-empty (slice_cmp nat_cmp) ℕ in omega (arith, none, less)

-- what is no directory has no name
pub has_hashes : (names : NameIndex) (z : Sizes) (m : PageMap) (objects : Objects) → HasNames names z m objects → (d : ℕ) (x : Option Object) → map.get objects d ≡ x → HasHashes names z m d (map.len (entries_of x))
has_hashes names z m objects has d None is s e less at = absurd (no_entries s less)
has_hashes names z m objects has d (Some (File moment bytes)) is s e less at = absurd (no_entries s less)
has_hashes names z m objects has d (Some (Dir moment entries)) is s e less at = has d (moment, entries, is) s e less at

-- what the pages of a change write of a directory's slots
pub writes_slots : (z : Sizes) (m : PageMap) (change : Change) (old new : Objects) → HoldsObjects z (after_change change m) new → IsSizes z → fits z new ≡ true → WritesNames z change old new → (d : ℕ) (dir : IsDirectory new d)
    → WritesNewSlots z m change d (map.len (entries_of (map.get old d))) (map.len dir.1)
writes_slots z m change old new holds numbers fit writes d dir =
    let here : HoldsDirectory z (after_change change m) d dir.0 dir.1 = subst (HoldsObject z (after_change change m) d) dir.2 (holds.each d) in
    let within_limit : map.len dir.1 < 4294967295 = few_fitting z new numbers fit d dir in
    record {
      fields = here.reads.fields;
      has_header = here.reads.has;
      kind = here.reads.kind;
      within_limit = omega (arith, within_limit);
      written = subst (λ (x : Option Object). WritesPast z change d (map.len (entries_of (map.get old d))) (map.len (entries_of x))) dir.2 (writes d);
    }

-- what holds of each directory of a result that is there
pub on_each_directory : {E : Type 0} (new : Objects) (P : (d : ℕ) → IsDirectory new d → Type 0) (r : Result (Unit {0}) E) → ((d : ℕ) (dir : IsDirectory new d) → OnOk r (P d dir)) → OnOk r ((d : ℕ) (dir : IsDirectory new d) → P d dir)
on_each_directory new P (Ok x) f = f
on_each_directory new P (Err e) f = tt

-- ---- how many entries objects have

abbrev pub count : Objects → ℕ → ℕ
count objects d = map.len (entries_of (map.get objects d))

same_count : (a b : Option Object) → a ≡ b → map.len (entries_of a) ≡ map.len (entries_of b)
same_count a b is = ap (λ (x : Option Object). map.len (entries_of x)) is

none_counted : map.len (entries_of None) ≡ 0
none_counted = map.len-empty (slice_cmp nat_cmp) ℕ

put_here : (objects : Objects) (o : ℕ) (x : Object) (d : ℕ) → d ≡ o → count (map.insert objects o x) d ≡ map.len (entries_of (Some x))
put_here objects o x d here = same_count (map.get (map.insert objects o x) d) (Some x) (ap (map.get (map.insert objects o x)) here ∙ get_here nat_cmp_total map.nat_cmp-IsAntisymmetric objects o x)

put_there : (objects : Objects) (o : ℕ) (x : Object) (d : ℕ) → d ≢ o → count (map.insert objects o x) d ≡ count objects d
put_there objects o x d other = same_count (map.get (map.insert objects o x) d) (map.get objects d) (get_there nat_cmp_total map.nat_cmp-IsAntisymmetric objects o x d other)

pub less_removed : (objects : Objects) (o d : ℕ) → count (map.remove objects o) d ≤ count objects d
less_removed objects o d = elim (cases_eq d o) [
  | inl here ↦
      let c : count (map.remove objects o) d ≡ 0 =
      same_count (map.get (map.remove objects o) d) None (ap (map.get (map.remove objects o)) here ∙ removed_none nat_cmp_total map.nat_cmp-IsAntisymmetric objects o) ∙ none_counted in
      omega (arith, c)
  | inr other ↦
      let c : count (map.remove objects o) d ≡ count objects d =
      same_count (map.get (map.remove objects o) d) (map.get objects d) (get_removed nat_cmp_total map.nat_cmp-IsAntisymmetric objects o d other) in
      omega (arith, c)
]

pub less_file : (objects : Objects) (o moment : ℕ) (bytes : List ℕ) (d : ℕ) → count (with_bytes objects moment o bytes) d ≤ count objects d
less_file objects o moment bytes d = elim (cases_eq d o) [
  | inl here ↦ let c = put_here objects o (File moment bytes) d here in omega (arith, c, none_counted)
  | inr other ↦ let c = put_there objects o (File moment bytes) d other in omega (arith, c)
]

len_less : (entries : Entries) (name : Name) → map.len (map.remove entries name) ≤ map.len entries
len_less entries name = go (map.contains_key entries name) (map.len-remove nat_list_cmp_total entries name)
  where
    go : (b : Bool) → map.len (map.remove entries name) ≡ cond b (map.len entries - 1) (map.len entries) → map.len (map.remove entries name) ≤ map.len entries
    go true e = omega (arith, e)
    go false e = omega (arith, e)

len_more : (entries : Entries) (name : Name) (o : ℕ) → map.len (map.insert entries name o) ≤ map.len entries + 1
len_more entries name o = go (map.contains_key entries name) (map.len-insert nat_list_cmp_total entries name o)
  where
    go : (b : Bool) → map.len (map.insert entries name o) ≡ cond b (map.len entries) (map.len entries + 1) → map.len (map.insert entries name o) ≤ map.len entries + 1
    go true e = omega (arith, e)
    go false e = omega (arith, e)

pub less_unnamed : (objects : Objects) (moment dir : ℕ) (name : Name) (d : ℕ) → count (without_name objects moment dir name) d ≤ count objects d
less_unnamed objects moment dir name d = elim (cases_eq d dir) [
  | inl here ↦
      let es : Entries = entries_of (map.get objects dir) in
      let c = put_here objects dir (Dir moment (map.remove es name)) d here in
      let same : count objects d ≡ map.len es = ap (λ k. count objects k) here in
      omega (arith, c, same, len_less es name)
  | inr other ↦ let c = put_there objects dir (Dir moment (map.remove (entries_of (map.get objects dir)) name)) d other in omega (arith, c)
]

-- a new object has no entry
pub less_new : (objects : Objects) (o moment : ℕ) (kind : Kind) (d : ℕ) → count (map.insert objects o (empty_object kind moment)) d ≤ count objects d
less_new objects o moment kinds.File d = less_file objects o moment [] d
less_new objects o moment kinds.Directory d = elim (cases_eq d o) [
  | inl here ↦ let c = put_here objects o (Dir moment map.empty) d here in omega (arith, c, none_counted)
  | inr other ↦ let c = put_there objects o (Dir moment map.empty) d other in omega (arith, c)
]

-- ---- what a change writes of the slots

-- nothing, where there are no more of them
pub fewer_names : (z : Sizes) (change : Change) (old new : Objects) → ((d : ℕ) → count new d ≤ count old d) → WritesNames z change old new
fewer_names z change old new less d s low high = let le : count new d ≤ count old d = less d in absurd (omega (arith, le, low, high))

-- a name is put into a directory
pub named_at : (z : Sizes) (change : Change) (old base : Objects) (moment d : ℕ) (name : Name) (o : ℕ) → ((k : ℕ) → count base k ≤ count old k)
    → WritesPast z change d (count old d) (map.len (map.insert (entries_of (map.get base d)) name o)) → WritesNames z change old (with_name base moment d name o)
named_at z change old base moment d name o less writes k = elim (cases_eq k d) [
  | inl here ↦
      let x : Object = Dir moment (map.insert (entries_of (map.get base d)) name o) in
      let c : count (with_name base moment d name o) k ≡ map.len (map.insert (entries_of (map.get base d)) name o) = put_here base d x k here in
      subst (λ n. WritesPast z change k (count old k) n) (sym c) (subst (λ j. WritesPast z change j (count old j) (map.len (map.insert (entries_of (map.get base d)) name o))) (sym here) writes)
  | inr other ↦ λ s low high.
      let c : count (with_name base moment d name o) k ≡ count base k = put_there base d (Dir moment (map.insert (entries_of (map.get base d)) name o)) k other in
      let le : count base k ≤ count old k = less k in
      absurd (omega (arith, c, le, low, high))
]

-- one more
pub named_more : (z : Sizes) (change : Change) (old base : Objects) (moment d : ℕ) (name : Name) (o : ℕ) → ((k : ℕ) → count base k ≤ count old k)
    → WritesPast z change d (count old d) (count old d + 1) → WritesNames z change old (with_name base moment d name o)
named_more z change old base moment d name o less writes = named_at z change old base moment d name o less (λ s low high.
    let le : count base d ≤ count old d = less d in
    let more : map.len (map.insert (entries_of (map.get base d)) name o) ≤ count base d + 1 = len_more (entries_of (map.get base d)) name o in
    writes s low (omega (arith, le, more, high)))

-- another name of a directory
pub renamed_names : (z : Sizes) (change : Change) (objects : Objects) (moment d : ℕ) (dir : IsDirectory objects d) (from to : Name) (o : ℕ)
    → WritesPast z change d (map.len dir.1) (map.len (map.insert (map.remove dir.1 from) to o)) → WritesNames z change objects (with_name (without_name objects moment d from) moment d to o)
renamed_names z change objects moment d dir from to o slots =
    let base : Objects = without_name objects moment d from in
    let reported : dir.1 ≡ entries_of (map.get objects d) = sym (ap entries_of dir.2) in
    let left : map.remove dir.1 from ≡ entries_of (map.get base d) =
    ap (λ (es : Entries). map.remove es from) reported
    ∙ sym (ap entries_of (get_here nat_cmp_total map.nat_cmp-IsAntisymmetric objects d (Dir moment (map.remove (entries_of (map.get objects d)) from)))) in
    named_at z change objects base moment d to o (less_unnamed objects moment d from)
    (subst (λ n. WritesPast z change d n (map.len (map.insert (entries_of (map.get base d)) to o))) (ap map.len reported)
    (subst (λ (es : Entries). WritesPast z change d (map.len dir.1) (map.len (map.insert es to o))) left slots))

-- a name in another directory
pub moved_names : (z : Sizes) (change : Change) (objects : Objects) (moment d t : ℕ) (target : IsDirectory objects t) → t ≢ d → (from to : Name) (o : ℕ)
    → WritesPast z change t (map.len target.1) (map.len (map.insert target.1 to o)) → WritesNames z change objects (with_name (without_name objects moment d from) moment t to o)
moved_names z change objects moment d t target apart from to o slots =
    let base : Objects = without_name objects moment d from in
    let reported : target.1 ≡ entries_of (map.get objects t) = sym (ap entries_of target.2) in
    let there : target.1 ≡ entries_of (map.get base t) =
    reported ∙ sym (ap entries_of (get_there nat_cmp_total map.nat_cmp-IsAntisymmetric objects d (Dir moment (map.remove (entries_of (map.get objects d)) from)) t apart)) in
    named_at z change objects base moment t to o (less_unnamed objects moment d from)
    (subst (λ n. WritesPast z change t n (map.len (map.insert (entries_of (map.get base t)) to o))) (ap map.len reported)
    (subst (λ (es : Entries). WritesPast z change t (map.len target.1) (map.len (map.insert es to o))) there slots))

-- ---- an object that goes besides

key_there : (change : Change) (m : PageMap) (o c : ℕ) → HasKey change o c → (xs : List ℕ) × (after_change change m o c ≡ Some xs)
key_there change m o c key = elim (first_or_none change.pages.items o c) [
  | inl x ↦ (x.1.0.page.bytes.items, first_here change.pages.items (without_cuts change.cuts.items m) o c x.0 x.1.0.page x.1.0.there x.1.0.object x.1.0.chunk x.1.1)
  | inr none ↦ absurd (none key.0 key.1)
]

key_is : (change : Change) (o c : ℕ) (xs : List ℕ) → after_change change no_pages o c ≡ Some xs → HasKey change o c
key_is change o c xs there = elim (first_or_none change.pages.items o c) [
  | inl x ↦ (x.0, x.1.0)
  | inr none ↦
      let two : None ≡ Some xs = cuts_leave change.cuts.items no_pages o c xs (sym (page_elsewhere change.pages.items (without_cuts change.cuts.items no_pages) o c none) ∙ there) in
      absurd cc
]

pub names_cut : (z : Sizes) (change cut both : Change) (number : ℕ) → IsOnlyOf cut number → ((o c : ℕ) → after_change both no_pages o c ≡ after_change cut (after_change change no_pages) o c)
    → (old new : Objects) → WritesNames z change old new → WritesNames z both old (map.remove new number)
names_cut z change cut both number only same old new writes d s low high =
    let c : ℕ = 1 + s / page_slots z in
    elim (cases_eq d number) [
      | inl here ↦
          let none : count (map.remove new number) d ≡ 0 =
          same_count (map.get (map.remove new number) d) None (ap (map.get (map.remove new number)) here ∙ removed_none nat_cmp_total map.nat_cmp-IsAntisymmetric new number) ∙ none_counted in
          absurd (omega (arith, none, high))
      | inr other ↦
          let committed : count (map.remove new number) d ≡ count new d = same_count (map.get (map.remove new number) d) (map.get new d) (get_removed nat_cmp_total map.nat_cmp-IsAntisymmetric new number d other) in
          let key = key_there change no_pages d c (writes d s low (omega (arith, committed, high))) in
          key_is both d c key.0 (same d c ∙ others_keep cut number only (after_change change no_pages) d c other ∙ key.1)
    ]

-- no more entries of any object, whatever is written
pub fewer_on : {E : Type 0} (z : Sizes) (old new : Objects) (r : Result Change E) → ((d : ℕ) → count new d ≤ count old d) → IfOk r (λ it. WritesNames z it old new)
fewer_on z old new (Ok change) less = fewer_names z change old new less
fewer_on z old new (Err e) less = tt

pub less_without : (dropped : Option ℕ) (objects : Objects) (d : ℕ) → count (without dropped objects) d ≤ count objects d
less_without None objects d = omega arith
less_without (Some o) objects d = less_removed objects o d

pub less_dropped : (dropped : Option ℕ) (objects : Objects) (moment dir : ℕ) (name : Name) (d : ℕ) → count (without dropped (without_name objects moment dir name)) d ≤ count objects d
less_dropped dropped objects moment dir name d =
    let one : count (without dropped (without_name objects moment dir name)) d ≤ count (without_name objects moment dir name) d = less_without dropped (without_name objects moment dir name) d in
    let two : count (without_name objects moment dir name) d ≤ count objects d = less_unnamed objects moment dir name d in
    omega (arith, one, two)
