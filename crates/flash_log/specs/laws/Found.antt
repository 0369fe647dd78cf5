-- What keeps keys findable by summaries, over the steps of a call.
use Rattle.std.proofs.Common.{◌≡◌, ◌≢◌, ◌⊎◌, ◌≤◌, ℕ, true, List, Option, Some, None, Result, Ok, Err, refl, sym, ap, subst, ◌∙◌, arith, inl, inr}
use Rattle.std.proofs.lemmas.Bool.{cases_Bool}
use Rattle.nand_model.specs.Flash.{Flash}
use Rattle.nand_model.specs.Calls.{Device, Lasts, Erases, Marks}
use Rattle.nand_model.specs.declared.geometry.Geometry.{Geometry}
use Rattle.nand_model.specs.declared.nand.EraseFault.{EraseFault}
use Rattle.nand_model.specs.declared.nand.Gone.{Gone}
use Rattle.nand_model.specs.laws.Changes.{shrinks-erase}
use Rattle.flash_tree.specs.Fading.{Fades}
use Rattle.flash_tree.specs.Groups.{Group, SameGroups, NamesNot}
use Rattle.flash_tree.specs.Newest.{Spot, IsNewest}
use Rattle.flash_tree.specs.Slots.{check_object}
use Rattle.flash_tree.specs.Summaries.{AreSummariesRight}
use Rattle.flash_tree.specs.Summarizing.{WritesIn, AddsNamed, IsKey, IsFindable}
use Rattle.flash_tree.specs.Truth.{KeepsSummaries}
use Rattle.flash_tree.specs.laws.Fading.{fades_erase, fades_mark}
use Rattle.flash_tree.specs.laws.Findable.{fades_key, findable_same, named_findable, unnamed_findable}
use Rattle.flash_tree.specs.laws.Newest.{one_spot}
use Rattle.flash_tree.specs.laws.Summarizing.{right_faded}
use Rattle.block_state.specs.Table.{Table}
use Rattle.chunk_index.specs.declared.form.CommittedPage.{CommittedPage}
use Rattle.chunk_index.specs.declared.index.Index.{Index}
use Rattle.chunk_index.specs.Maps.{committed_pages}
use Rattle.transactions.specs.Groups.{AddsPages, GroupsAfter, WritesOpen, next_group}
use Rattle.transactions.specs.Naming.{BeginsOther, NamesOnce}
use Rattle.transactions.specs.Newest.{IsOfCopies}
use Rattle.transactions.specs.Ready.{IsReady}
use Rattle.transactions.specs.Written.{tag_in}
use Rattle.transactions.specs.declared.group.GroupFault.{GroupFault}
use Rattle.transactions.specs.declared.group.GroupFault.TheVariants as groups
use Rattle.transactions.specs.declared.group.Placed.{Placed}
use Rattle.transactions.specs.declared.source.PageName.{PageName}
use Rattle.transactions.specs.laws.Newest.{copies_come_last}
use Rattle.flash_log.specs.Copying.{KeepsCommittedAt}
use Rattle.flash_log.specs.Passing.{KeepsCommitted, KeepsFound}
use Rattle.flash_log.specs.Consistency.{AreHeld, IsCommittedKey, KeepsFindable, IsConsistentLog}
use Rattle.flash_log.specs.Steps.{MovesCommitted}
use Rattle.flash_log.specs.laws.CommittedPages.{spot_of}

-- ---- steps in turn

-- each key has its newest page in the block of the one before, where that has committed pages by the table
abbrev pub KeepsPlaces : Table → Flash → Flash → Type 0
KeepsPlaces t old new = (o c : ℕ) (s : Spot) → o ≢ check_object → IsNewest old o c s → 1 ≤ (t.entry s.block).committed → (r : Spot) × IsNewest new o c r × (r.block ≡ s.block)

pub places_committed : (t : Table) (f g : Flash) → KeepsCommitted t f g → KeepsPlaces t f g
places_committed t f g keeps o c s other newest some = (s, (keeps o c s newest some).newest, refl)

pub places_at : (t : Table) (f g : Flash) → KeepsCommittedAt t f g → KeepsPlaces t f g
places_at t f g keeps o c s other newest some =
    let p : CommittedPage = record { block = s.block; page = s.page; version = s.tag.version } in
    let at = keeps o c p some (record { tag = s.tag; newest = newest; version = refl }) in
    (spot_of p at.tag, at.newest, refl)

pub found_on : (a b c : Device) (t u : Table) → ((k : ℕ) → (u.entry k).committed ≡ (t.entry k).committed) → KeepsPlaces t a.flash b.flash → KeepsFound t a b → KeepsFound u b c → KeepsFound t a c
found_on a b c t u committed places first then = record {
  summaries = λ right. then.summaries (first.summaries right);
  keys = λ right o k s newest some all.
      let at = places o k s (all.ordinary o k (refl, refl)) newest some in
      let same = committed at.0.block in
      let block : (t.entry at.0.block).committed ≡ (t.entry s.block).committed = ap (λ n. (t.entry n).committed) at.2 in
      then.keys (first.summaries right) o k at.0 at.1 (omega (arith, same, block, some)) (first.keys right o k s newest some all);
}

-- another table of the same counts
pub found_as : (t u : Table) (a b : Device) → ((k : ℕ) → (t.entry k).committed ≡ (u.entry k).committed) → KeepsFound t a b → KeepsFound u a b
found_as t u a b committed found = record {
  summaries = found.summaries;
  keys = λ right o c s newest some all. found.keys right o c s newest (let same = committed s.block in omega (arith, same, some)) all;
}

-- nothing is done
pub found_here : (t : Table) (d : Device) → KeepsFound t d d
found_here t d = record { summaries = λ right. right; keys = λ right o c s newest some all. all }

-- ---- a block without a committed page fades

found_faded : (b : ℕ) (d e : Device) (t : Table) → (t.entry b).committed ≡ 0 → e.geometry ≡ d.geometry → Fades b d.flash e.flash → KeepsFound t d e
found_faded b d e t none geometry fades = record {
  summaries = λ right. subst (λ (g : Geometry). AreSummariesRight g e.flash) (sym geometry) (right_faded d.geometry b d.flash e.flash fades right);
  keys = λ right o c s newest some all. subst (λ (g : Geometry). IsFindable g e.flash o c) (sym geometry) (fades_key d.geometry d.flash e.flash b o c fades (apart o c s newest some) all);
} where
  apart : (o c : ℕ) (s : Spot) → IsNewest d.flash o c s → 1 ≤ (t.entry s.block).committed → (p : Spot) → IsNewest d.flash o c p → p.block ≢ b
  apart o c s newest some p last at =
      let same : p ≡ s = one_spot d.flash o c p s last newest in
      let here : (t.entry s.block).committed ≡ (t.entry b).committed = ap (λ n. (t.entry n).committed) (sym (ap (λ (x : Spot). x.block) same) ∙ at) in
      omega (arith, here, none, some)

pub found_erased : (b : ℕ) (d e : Device) (t : Table) (result : Result (Unit {0}) EraseFault) → (t.entry b).committed ≡ 0 → Erases b d e result → d.honest ≡ true → KeepsFound t d e
found_erased b d e t result none does honest = found_faded b d e t none does.lasts.geometry (fades_erase b d.flash e.flash (shrinks-erase b d e result honest does))

pub found_marked : (b : ℕ) (d e : Device) (t : Table) (result : Result (Unit {0}) Gone) → (t.entry b).committed ≡ 0 → Marks b d e result → d.honest ≡ true → KeepsFound t d e
found_marked b d e t result none marks honest = found_faded b d e t none marks.lasts.geometry (fades_mark b d e result honest marks)

-- ---- a group is written in the open block

module _ (t : Table) (d e : Device) (block count : ℕ) (name : ℕ → PageName) (bytes : ℕ → List ℕ) (can_write : IsReady d t) (opened : t.open_block ≡ Some block) (honest : d.honest ≡ true)
    (geometry : e.geometry ≡ d.geometry) (writes : WritesOpen t d.flash e.flash) (summaries : KeepsSummaries d e) where
  abbrev g : Group
  g = next_group t count block

  written : WritesIn block t.next_group (t.entry block).seq d.flash e.flash
  written = writes.within block opened

  by_key : ((o c : ℕ) → AreSummariesRight d.geometry d.flash → IsFindable d.geometry d.flash o c → IsFindable d.geometry e.flash o c) → KeepsFound t d e
  by_key each = record {
    summaries = summaries;
    keys = λ right o c s newest some all. subst (λ (x : Geometry). IsFindable x e.flash o c) (sym geometry) (each o c right all);
  }

  -- no group is added
  pub found_same : SameGroups d.flash e.flash → KeepsFound t d e
  found_same same = by_key (λ o c right all. findable_same d.geometry d.flash e.flash block t.next_group (t.entry block).seq written right (IsKey o c) same all)

  module _ (other : 1 ≤ count → BeginsOther (name 0)) (adds : AddsPages g name bytes d.flash e.flash) where
    named : AddsNamed g (tag_in g name) bytes d.flash e.flash
    named = record {
      writes = written;
      adds = adds.group;
      all = adds.pages;
      no_summary = λ begins. other ((adds.group g).1 (inr refl)).some begins.0 begins.1;
      in_order = ((can_write.open_block block opened).in_order honest).written;
    }

    other_key : (o c : ℕ) → NamesNot g (tag_in g name) o c → AreSummariesRight d.geometry d.flash → IsFindable d.geometry d.flash o c → IsFindable d.geometry e.flash o c
    other_key o c apart right all = unnamed_findable d.geometry g (tag_in g name) bytes d.flash e.flash named right o c apart all

    -- a group that names no such key
    pub found_others : ((o c : ℕ) → o ≢ check_object → NamesNot g (tag_in g name) o c) → KeepsFound t d e
    found_others apart = by_key (λ o c right all. other_key o c (apart o c (all.ordinary o c (refl, refl))) right all)

    module _ (copies : IsOfCopies g name d.flash) where
      copied_key : (o c i : ℕ) → NamesOnce g name o c i → AreSummariesRight d.geometry d.flash → IsFindable d.geometry d.flash o c → IsFindable d.geometry e.flash o c
      copied_key o c i names right all =
          let k : ℕ = (name i).key.object in
          let n : ℕ = (name i).key.chunk in
          let own : NamesOnce g name k n i = record {
            within = names.within;
            named = record { object = refl; chunk = refl };
            once = λ j lt is. names.once j lt (record { object = is.object ∙ names.named.object; chunk = is.chunk ∙ names.named.chunk });
          } in
          let newest = copies.versions k n i own in
          let same : IsFindable d.geometry d.flash k n = subst (λ l. IsFindable d.geometry d.flash k l) (sym names.named.chunk) (subst (λ m. IsFindable d.geometry d.flash m c) (sym names.named.object) all) in
          named_findable d.geometry g (tag_in g name) bytes d.flash e.flash named right o c i
          (record { within = names.within; object = names.named.object; chunk = names.named.chunk; once = λ j lt object chunk. names.once j lt (record { object = object; chunk = chunk }) })
          (record { ordinary = same.ordinary k n (refl, refl); last = copies_come_last g name d.flash copies k n i own; version = inr (same, newest) })

      -- a group of copies
      pub found_copied : ((o c : ℕ) → NamesNot g (tag_in g name) o c ⊎ ((i : ℕ) × NamesOnce g name o c i)) → KeepsFound t d e
      found_copied each = by_key (λ o c right all. elim (each o c) [
        | inl apart ↦ other_key o c apart right all
        | inr (i, names) ↦ copied_key o c i names right all
      ])

  -- however the writing of the group ends
  pub found_after : (AddsPages g name bytes d.flash e.flash → KeepsFound t d e) → (result : Result Placed GroupFault) → GroupsAfter g name bytes d.flash e.flash result → KeepsFound t d e
  found_after added (Ok placed) adds = added adds
  found_after added (Err groups.NoRoom) same = found_same same
  found_after added (Err groups.Failed) same = found_same same
  found_after added (Err groups.Lost) same = found_same same
  found_after added (Err groups.Gone) (inl same) = found_same same
  found_after added (Err groups.Gone) (inr adds) = added adds

-- ---- committed keys

pub findable_here : (d : Device) (x : Index) → KeepsFindable d d x x
findable_here d x honest right found = found

-- a step that leaves the index
pub findable_still : (spare : ℕ) (d e : Device) (t : Table) (x : Index) → AreHeld t x → Lasts d e → IsConsistentLog spare d t x → (d.honest ≡ true → KeepsFound t d e) → KeepsFindable d e x x
findable_still spare d e t x held lasts consistent keeps honest right found o c (p, is) = elim (cases_Bool d.gone) [
  | inl gone ↦ subst (λ (f : Device). IsFindable f.geometry f.flash o c) (sym (lasts.gone gone)) (found o c (p, is))
  | inr power ↦
      let at = consistent.newest honest power o c p is in
      (keeps honest).keys right o c (spot_of p at.tag) at.newest (held o c p is) (found o c (p, is))
]

-- and one that moves pages
pub findable_moved : (d e : Device) (x y : Index) → MovesCommitted x y → KeepsFindable d e x x → KeepsFindable d e x y
findable_moved d e x y moves stays honest right found o c (p, is) = stays honest right found o c (go (committed_pages x o c) refl) where
  go : (q : Option CommittedPage) → committed_pages x o c ≡ q → IsCommittedKey (committed_pages x) o c
  go (Some q) at = (q, at)
  go None none = let two : None ≡ Some p = sym (moves.committed o c none) ∙ is in absurd cc

-- one step after another
pub findable_on : (a b c : Device) (x y z : Index) → b.honest ≡ a.honest → (a.honest ≡ true → KeepsSummaries a b) → KeepsFindable a b x y → KeepsFindable b c y z → KeepsFindable a c x z
findable_on a b c x y z same summaries first then honest right found = then (same ∙ honest) (summaries honest right) (first honest right found)
