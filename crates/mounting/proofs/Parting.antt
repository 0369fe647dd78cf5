-- What was gone through in a part of the newest pages was gone through in all of them.
use Rattle.std.specs.Prelude.{◌≡◌, ◌⊎◌, ◌↔◌, ◌<◌, ◌≤◌, ◌^◌, ℕ, zero, suc, List, Option, Some, None}
use Rattle.std.specs.Option.{option_and_then}
use Rattle.std.proofs.Common.{refl, sym, ◌∙◌, ap, subst, inl, inr, arith}
use Rattle.std.proofs.lemmas.Bool.{cases_lt}
use Rattle.nand_model.specs.Flash.{Flash, IsWithin}
use Rattle.nand_model.specs.declared.geometry.Geometry.{Geometry}
use Rattle.page_tags.specs.Headers.{Fields, header_bytes, is_present}
use Rattle.page_tags.specs.Slots.{Entry}
use Rattle.page_tags.specs.declared.header.ObjectKind.TheVariants as kinds
use Rattle.volume_terms.specs.Sizes.{Sizes, root_number}
use Rattle.volume_terms.specs.laws.List.{slice_get_there}
use Rattle.flash_tree.specs.Newest.{Spot, IsNewest, HasNewest}
use Rattle.flash_tree.specs.Tree.{IsPageSize, IsSingle, HasHeader, SlotIs, LooksUp}
use Rattle.flash_tree.specs.Mount.{Leads, Finds, sizes_of}
use Rattle.flash_tree.specs.laws.Finding.{same_header, kinds_apart}
use Rattle.flash_tree.specs.laws.Newest.{one_newest, one_spot}
use Rattle.flash_tree.specs.laws.NewestReported.{data_or_none}
use Rattle.flash_tree.specs.laws.OneTree.{one_slot}
use Rattle.flash_tree.specs.laws.Part.{through_all, volume_all, twice_back}
use Rattle.flash_tree.specs.laws.WholeList.{IsThereOn, IsWholeList, whole_list}
use Rattle.flash_log.specs.Consistency.{AreCommitted}
use Rattle.chunk_index.specs.declared.form.CommittedPage.{CommittedPage}
use Rattle.chunk_index.specs.declared.index.Index.{Index}
use Rattle.chunk_index.specs.Maps.{committed_pages}
use Rattle.name_index.specs.declared.index.NameIndex.{NameIndex}
use Rattle.page_store.specs.Opened.{committed_at}
use Rattle.page_store.specs.Shown.{data_at, committed_data}
use Rattle.pages.specs.Maps.{PageMap, has}
use Rattle.tree_walk.specs.Hashes.{CoversTree}
use Rattle.tree_walk.specs.Trees.{IsTreeThrough, IsLookedUp, ReportsHeads, AreNamesOf, objects_listed}
use Rattle.tree_walk.specs.declared.tree.NamedObject.{NamedObject}
use Rattle.tree_walk.specs.declared.tree.Tree.{Tree}
use Rattle.mounting.specs.NewestMaps.{IsNewestMap}
use Rattle.mounting.specs.Trees.{IsGoneThrough}

-- ---- a map of all newest pages

-- what is reported of a key's newest page
abbrev IsReportedOf : Flash → ℕ → ℕ → Type 0
IsReportedOf flash o c = ((bytes : List ℕ) × HasNewest flash o c bytes) ⊎ ((bytes : List ℕ) → HasNewest flash o c bytes → ⊥)

abbrev data_reported : (flash : Flash) (o c : ℕ) → IsReportedOf flash o c → Option (List ℕ)
data_reported flash o c (inl (bytes, newest)) = Some bytes
data_reported flash o c (inr none) = None

data_exact : (flash : Flash) (o c : ℕ) (reported : IsReportedOf flash o c) (xs : List ℕ) → (data_reported flash o c reported ≡ Some xs) ↔ HasNewest flash o c xs
data_exact flash o c (inl (bytes, newest)) xs =
    (λ is. let same : bytes ≡ xs = cc in subst (HasNewest flash o c) same newest, λ other. ap Some (one_newest flash o c bytes xs newest other))
data_exact flash o c (inr none) xs = (λ is. absurd cc, λ newest. absurd (none xs newest))

-- of a chunk that a tree may look up, and of no other
abbrev low_reported : (flash : Flash) (o c : ℕ) → (c < 2 ^ 32) ⊎ (2 ^ 32 ≤ c) → IsReportedOf flash o c → Option (List ℕ)
low_reported flash o c (inl low) reported = data_reported flash o c reported
low_reported flash o c (inr high) reported = None

low_exact : (flash : Flash) (o c : ℕ) (at : (c < 2 ^ 32) ⊎ (2 ^ 32 ≤ c)) (reported : IsReportedOf flash o c) (xs : List ℕ) → (low_reported flash o c at reported ≡ Some xs) ↔ (HasNewest flash o c xs × (c < 2 ^ 32))
low_exact flash o c (inl low) reported xs = (λ is. ((data_exact flash o c reported xs).0 is, low), λ (newest, also). (data_exact flash o c reported xs).1 newest)
low_exact flash o c (inr high) reported xs = (λ is. absurd cc, λ (newest, low). absurd (omega (arith, low, high)))

-- each flash of some size has one
pub newest_map : (g : Geometry) (flash : Flash) → IsWithin g.pages g.blocks flash → (m : PageMap) × IsNewestMap flash m
newest_map g flash within = (
  λ o c. low_reported flash o c (cases_lt c (2 ^ 32)) (data_or_none flash o c g.pages g.blocks within),
  λ o c xs. low_exact flash o c (cases_lt c (2 ^ 32)) (data_or_none flash o c g.pages g.blocks within) xs,
)

-- a map has one page of a key
pub single : (m : PageMap) → IsSingle (has m)
single m o c xs ys a b = let two : Some xs ≡ Some ys = sym a ∙ b in cc

-- ---- what a map has, and another has too

module _ (m n : PageMap) (to : (o c : ℕ) (xs : List ℕ) → m o c ≡ Some xs → n o c ≡ Some xs) where
  header_to : (z : Sizes) (o : ℕ) (f : Fields) → HasHeader z (has m) o f → HasHeader z (has n) o f
  header_to z o f at = (to o 0 _ at.0, at.1)

  slot_to : (z : Sizes) (o i : ℕ) (entry : Entry) → SlotIs z (has m) o i entry → SlotIs z (has n) o i entry
  slot_to z o i entry (page, there, valid, bytes) = (page, to o _ page there, valid, bytes)

  finds_to : (z : Sizes) (o : ℕ) (named : List ℕ) → Finds z (has m) o (Leads named) → Finds z (has n) o (Leads named)
  finds_to z o named (inl (f, at, kind, chunks, none)) = inl (f, header_to z o f at, kind, λ c some present. let p = chunks c some present in (p.0, to o c p.0 p.1), none)
  finds_to z o named (inr (f, at, kind, slots, are, is)) =
      inr (f, header_to z o f at, kind, slots, record { size = are.size; each = λ i entry here. slot_to z o i entry (are.each i entry here); once = are.once }, is)

  names_to : (z : Sizes) (list : List ℕ) (k : ℕ) (names : List NamedObject) → AreNamesOf z (has m) list k names → AreNamesOf z (has n) list k names
  names_to z list zero names is = is
  names_to z list (suc k) names (o, named, before, at, lookups, rest, is) = (o, named, before, at, finds_to z o named lookups, names_to z list k before rest, is)

  heads_to : (z : Sizes) (tree : Tree) → ReportsHeads z (has m) tree → ReportsHeads z (has n) tree
  heads_to z tree heads = record {
    each = heads.each;
    only = heads.only;
    says = λ o head at. let said = heads.says o head at in (said.0, header_to z o said.0 said.1, said.2);
  }

  through_to : (z : Sizes) → IsPageSize z.page_bytes → (tree : Tree) → IsTreeThrough z (has m) tree → IsTreeThrough z (has n) tree
  through_to z size tree is = record {
    through = through_all (has m) (has n) to z _ 0 (objects_listed tree) is.through;
    once = λ twice. is.once (twice_back (has m) (has n) to (single n) z size (objects_listed tree) is.through twice);
    heads = heads_to z tree is.heads;
    names = names_to z (objects_listed tree) _ _ is.names;
  }

  -- a tree that was gone through in the one was so in the other
  pub gone_to : (g : Geometry) (spare : ℕ) (tree : Tree) → IsGoneThrough g (has m) spare tree → IsGoneThrough g (has n) spare tree
  gone_to g spare tree is = record {
    volume = volume_all (has m) (has n) to g spare is.volume;
    size = is.size;
    tree_is = through_to (sizes_of g spare) (record { least = let low = g.least_bytes in omega (arith, low); most = g.most_bytes }) tree is.tree_is;
  }

  -- and its hashes are those of the other
  module _ (z : Sizes) (size : IsPageSize z.page_bytes) (tree : Tree) (is : IsTreeThrough z (has m) tree) where
    whole : IsWholeList z (has m) root_number (objects_listed tree)
    whole = whole_list z (has m) root_number (objects_listed tree) is.through

    -- a slot of a directory of the tree stands in the one
    slot_back : (o : ℕ) (f : Fields) (i : ℕ) (entry : Entry) → HasHeader z (has m) o f → f.kind ≡ kinds.Directory → i < f.length → IsThereOn z (has m) root_number (objects_listed tree) o
        → SlotIs z (has n) o i entry → SlotIs z (has m) o i entry
    slot_back o f i entry at kind lt (named, inl (own, other, file, chunks, none), each) slot = absurd (kinds_apart z size (has m) (single m) o own f other at file kind)
    slot_back o f i entry at kind lt (named, inr (own, other, directory, slots, are, names), each) slot =
        let same : own ≡ f = same_header z size (has m) (single m) o own f other at in
        let len : own.length ≡ f.length = ap (λ (x : Fields). x.length) same in
        let s = slice_get_there slots i (omega (arith, lt, len, are.size)) in
        let one : s.0 ≡ entry = one_slot z size.most (has n) (single n) o i s.0 entry (slot_to z o i s.0 (are.each i s.0 s.1)) slot in
        subst (SlotIs z (has m) o i) one (are.each i s.0 s.1)

    pub covers_to : (names : NameIndex) → CoversTree names z m tree → CoversTree names z n tree
    covers_to names covers o head at kind s e lt slot =
        let said = is.heads.says o head at in
        let listed = is.heads.only o head at in
        let of = said.2 in
        let length_is = of.length_is in
        covers o head at kind s e lt (slot_back o said.0 s e said.1 (sym of.kind ∙ kind) (omega (arith, lt, length_is)) (whole.there listed.0 o listed.1) slot)

-- ---- what a tree looks up it has found

module _ (m : PageMap) (z : Sizes) (size : IsPageSize z.page_bytes) (tree : Tree) (is : IsTreeThrough z (has m) tree) where
  looked_there : (o c : ℕ) (f : Fields) → HasHeader z (has m) o f → LooksUp z f c → IsThereOn z (has m) root_number (objects_listed tree) o → (xs : List ℕ) × (m o c ≡ Some xs)
  looked_there o c f at (inl first) there = (header_bytes f, ap (m o) first ∙ at.0)
  looked_there o c f at (inr (inl (kind, some, present))) (named, inl (own, other, file, chunks, none), each) =
      let same : own ≡ f = same_header z size (has m) (single m) o own f other at in
      chunks c some (ap (λ (x : Fields). is_present x.bits c) same ∙ present)
  looked_there o c f at (inr (inl (kind, some, present))) (named, inr (own, other, directory, slots, are, names), each) =
      absurd (kinds_apart z size (has m) (single m) o f own at other kind directory)
  looked_there o c f at (inr (inr (kind, slot))) (named, inl (own, other, file, chunks, none), each) =
      absurd (kinds_apart z size (has m) (single m) o own f other at file kind)
  looked_there o c f at (inr (inr (kind, slot))) (named, inr (own, other, directory, slots, are, names), each) =
      let same : own ≡ f = same_header z size (has m) (single m) o own f other at in
      let len : own.length ≡ f.length = ap (λ (x : Fields). x.length) same in
      let lt = slot.1 in
      let s = slice_get_there slots slot.0 (omega (arith, lt, len, are.size)) in
      let found = are.each slot.0 s.0 s.1 in
      (found.0, ap (m o) slot.2 ∙ found.1)

  -- the key of the list that is looked up has a page
  pub looked_up : (o c : ℕ) → IsLookedUp z (has m) (objects_listed tree) o c → (xs : List ℕ) × (m o c ≡ Some xs)
  looked_up o c looked =
      let all : IsWholeList z (has m) root_number (objects_listed tree) = whole_list z (has m) root_number (objects_listed tree) is.through in
      looked_there o c looked.fields looked.has looked.looks (all.there looked.place o looked.listed)

-- ---- and so it is committed

-- a key with data is committed
data_committed : (flash : Flash) (xs : List ℕ) (m : Option CommittedPage) → option_and_then (data_at flash) m ≡ Some xs → (p : CommittedPage) × (m ≡ Some p)
data_committed flash xs None is = absurd cc
data_committed flash xs (Some p) is = (p, refl)

-- at its newest page
pub committed_at_newest : (flash : Flash) (x : Index) (o c : ℕ) (s : Spot) (xs : List ℕ) → AreCommitted flash (committed_pages x) → committed_data x flash o c ≡ Some xs → IsNewest flash o c s → committed_pages x o c ≡ Some (committed_at s)
committed_at_newest flash x o c s xs committed found newest =
    let there = data_committed flash xs (committed_pages x o c) found in
    let p : CommittedPage = there.0 in
    let at = committed o c p there.1 in
    let place : Spot = record { block = p.block; page = p.page; tag = at.tag } in
    let spot : place ≡ s = one_spot flash o c place s at.newest newest in
    let version : p.version ≡ s.tag.version = sym at.version ∙ ap (λ (k : Spot). k.tag.version) spot in
    let block : p.block ≡ s.block = ap (λ (k : Spot). k.block) spot in
    let page : p.page ≡ s.page = ap (λ (k : Spot). k.page) spot in
    let same : p ≡ committed_at s = λ i. record { block = block i; page = page i; version = version i } in
    there.1 ∙ ap Some same
