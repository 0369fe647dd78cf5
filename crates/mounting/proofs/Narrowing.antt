-- What was gone through in a map was gone through in the part of it that the tree looks up.
use Rattle.std.specs.Prelude.{◌≡◌, ◌<◌, ◌+◌, ◌/◌, ℕ, zero, suc, List, slice_get, Some}
use Rattle.std.proofs.Common.{refl, inl, inr, arith}
use Rattle.std.proofs.lemmas.Option.{slice_get_within}
use Rattle.nand_model.specs.declared.geometry.Geometry.{Geometry}
use Rattle.page_tags.specs.Headers.{Fields}
use Rattle.page_tags.specs.Slots.{Entry}
use Rattle.page_tags.specs.declared.header.ObjectKind.TheVariants as kinds
use Rattle.volume_terms.specs.Sizes.{Sizes, page_slots, root_number}
use Rattle.flash_tree.specs.Tree.{HasHeader, SlotIs}
use Rattle.flash_tree.specs.Mount.{Leads, Finds, with_new, Wholly, GoesThrough, ends, goes, sizes_of, IsSlotIn, NamesTwice}
use Rattle.flash_tree.specs.laws.WalkExists.{stays_with_new}
use Rattle.flash_tree.specs.laws.WholeList.{whole_list}
use Rattle.name_index.specs.declared.index.NameIndex.{NameIndex}
use Rattle.pages.specs.Maps.{PageMap, has}
use Rattle.tree_walk.specs.Hashes.{CoversTree}
use Rattle.tree_walk.specs.Trees.{IsLookedUp, IsTreeThrough, ReportsHeads, AreNamesOf, objects_listed}
use Rattle.tree_walk.specs.declared.tree.NamedObject.{NamedObject}
use Rattle.tree_walk.specs.declared.tree.Tree.{Tree}
use Rattle.mounting.specs.Trees.{IsGoneThrough}

module _ (z : Sizes) (m p : PageMap) (tree : Tree) (to : (o c : ℕ) (xs : List ℕ) → IsLookedUp z (has m) (objects_listed tree) o c → m o c ≡ Some xs → p o c ≡ Some xs)
    (back : (o c : ℕ) (xs : List ℕ) → p o c ≡ Some xs → m o c ≡ Some xs) where
  -- the object stands on the list
  abbrev IsListed : ℕ → Type 0
  IsListed o = (i : ℕ) × (slice_get (objects_listed tree) i ≡ Some o)

  header_in : (o : ℕ) (f : Fields) → IsListed o → HasHeader z (has m) o f → HasHeader z (has p) o f
  header_in o f at there = (to o 0 _ (record { place = at.0; listed = at.1; fields = f; has = there; looks = inl refl }) there.0, there.1)

  slot_in : (o : ℕ) (f : Fields) (i : ℕ) (entry : Entry) → IsListed o → HasHeader z (has m) o f → f.kind ≡ kinds.Directory → i < f.length → SlotIs z (has m) o i entry → SlotIs z (has p) o i entry
  slot_in o f i entry at there kind lt (page, is, valid, bytes) =
      (page, to o (1 + i / page_slots z) page (record { place = at.0; listed = at.1; fields = f; has = there; looks = inr (inr (kind, (i, lt, refl))) }) is, valid, bytes)

  finds_in : (o : ℕ) (named : List ℕ) → IsListed o → Finds z (has m) o (Leads named) → Finds z (has p) o (Leads named)
  finds_in o named at (inl (f, there, kind, chunks, none)) = inl (
    f,
    header_in o f at there,
    kind,
    λ c some present.
        let page = chunks c some present in
        (page.0, to o c page.0 (record { place = at.0; listed = at.1; fields = f; has = there; looks = inr (inl (kind, some, present)) }) page.1),
    none,
  )
  finds_in o named at (inr (f, there, kind, slots, are, is)) = inr (
    f,
    header_in o f at there,
    kind,
    slots,
    record {
      size = are.size;
      each = λ i entry here. slot_in o f i entry at there kind (let within = slice_get_within slots i entry here in let size = are.size in omega (arith, within, size)) (are.each i entry here);
      once = are.once;
    },
    is,
  )

  -- what stands on a list stands on the whole one
  stays : (l : List ℕ) (k : ℕ) (whole : List ℕ) → GoesThrough z (has m) l k (Wholly whole) → (i o : ℕ) → slice_get l i ≡ Some o → slice_get whole i ≡ Some o
  stays l k whole (ends len) i o is = is
  stays l k whole (goes x named at lookups on) i o is = stays (with_new l named) (k + 1) whole on i o (stays_with_new l named i o is)

  through_in : (l : List ℕ) (k : ℕ) (whole : List ℕ) → ((i o : ℕ) → slice_get whole i ≡ Some o → IsListed o) → GoesThrough z (has m) l k (Wholly whole) → GoesThrough z (has p) l k (Wholly whole)
  through_in l k whole all (ends len) = ends len
  through_in l k whole all (goes o named is lookups on) =
      goes o named is (finds_in o named (all k o (stays (with_new l named) (k + 1) whole on k o (stays_with_new l named k o is))) lookups) (through_in (with_new l named) (k + 1) whole all on)

  names_in : (k : ℕ) (names : List NamedObject) → AreNamesOf z (has m) (objects_listed tree) k names → AreNamesOf z (has p) (objects_listed tree) k names
  names_in zero names is = is
  names_in (suc k) names (o, named, before, at, lookups, rest, is) = (o, named, before, at, finds_in o named (k, at) lookups, names_in k before rest, is)

  heads_in : ReportsHeads z (has m) tree → ReportsHeads z (has p) tree
  heads_in heads = record {
    each = heads.each;
    only = heads.only;
    says = λ o head at. let said = heads.says o head at in (said.0, header_in o said.0 (heads.only o head at) said.1, said.2);
  }

  -- and back
  header_out : (o : ℕ) (f : Fields) → HasHeader z (has p) o f → HasHeader z (has m) o f
  header_out o f there = (back o 0 _ there.0, there.1)

  slot_out : (o i : ℕ) (entry : Entry) → SlotIs z (has p) o i entry → SlotIs z (has m) o i entry
  slot_out o i entry (page, is, valid, bytes) = (page, back o _ page is, valid, bytes)

  slot_in_out : (o i : ℕ) (entry : Entry) → IsSlotIn z (has p) (objects_listed tree) o i entry → IsSlotIn z (has m) (objects_listed tree) o i entry
  slot_in_out o i entry s = record {
    place = s.place;
    listed = s.listed;
    fields = s.fields;
    has = header_out o s.fields s.has;
    kind = s.kind;
    within = s.within;
    slot = slot_out o i entry s.slot;
  }

  twice_out : NamesTwice z (has p) (objects_listed tree) → NamesTwice z (has m) (objects_listed tree)
  twice_out t = record {
    named = t.named;
    fields = t.fields;
    has = header_out t.named t.fields t.has;
    kind = t.kind;
    directory = t.directory;
    other = t.other;
    i = t.i;
    j = t.j;
    entry = t.entry;
    other_entry = t.other_entry;
    first = slot_in_out t.directory t.i t.entry t.first;
    second = slot_in_out t.other t.j t.other_entry t.second;
    leads = t.leads;
    other_leads = t.other_leads;
    apart = t.apart;
  }

  tree_in : IsTreeThrough z (has m) tree → IsTreeThrough z (has p) tree
  tree_in is = record {
    through = through_in _ 0 (objects_listed tree) (λ i o at. (i, at)) is.through;
    once = λ twice. is.once (twice_out twice);
    heads = heads_in is.heads;
    names = names_in _ _ is.names;
  }

  -- the hashes of its names are those of the map
  pub covers_in : (names : NameIndex) → CoversTree names z m tree → CoversTree names z p tree
  covers_in names covers o head at kind s e lt slot = covers o head at kind s e lt (slot_out o s e slot)

-- so a tree that was gone through in a map was so in that part
pub gone_in : (g : Geometry) (spare : ℕ) (m p : PageMap) (tree : Tree) → ((o c : ℕ) (xs : List ℕ) → IsLookedUp (sizes_of g spare) (has m) (objects_listed tree) o c → m o c ≡ Some xs → p o c ≡ Some xs)
    → ((o c : ℕ) (xs : List ℕ) → p o c ≡ Some xs → m o c ≡ Some xs) → IsGoneThrough g (has m) spare tree → IsGoneThrough g (has p) spare tree
gone_in g spare m p tree to back is =
    let z : Sizes = sizes_of g spare in
    let v = is.volume in
    record {
      volume = record {
        fields = v.fields;
        has = header_in z m p tree to back root_number v.fields (0, (whole_list z (has m) root_number (objects_listed tree) is.tree_is.through).begins) v.has;
        kind = v.kind;
        spare_is = v.spare_is;
        room = v.room;
      };
      size = is.size;
      tree_is = tree_in z m p tree to back is.tree_is;
    }
