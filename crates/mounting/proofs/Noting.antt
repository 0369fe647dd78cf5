-- The block that may have a checkpoint, noted after a scan.
use Rattle.std.specs.Prelude.{◌≡◌, ◌≢◌, ◌↔◌, ◌<◌, ◌≤◌, ◌&&◌, ◌+◌, ◌*◌, ℕ, Bool, true, false, List, length, [], ◌∷◌, Option, Some, None, Result, Ok, Err, IfOk, IfErr}
use Rattle.std.proofs.Common.{refl, sym, ◌∙◌, ap, subst, inl, inr}
use Rattle.std.proofs.lemmas.Bool.{cases_Bool}
use Rattle.nand_model.specs.Flash.{Flash}
use Rattle.nand_model.specs.Calls.{Device}
use Rattle.nand_model.specs.Changes.{OnlyReads}
use Rattle.nand_model.specs.declared.geometry.Geometry.{Geometry}
use Rattle.nand_model.specs.laws.Changes.{only_reads_on}
use Rattle.page_tags.specs.declared.check.CheckEntry.{CheckEntry}
use Rattle.posix_profile.specs.State.{Objects}
use Rattle.flash_tree.specs.Checkpoints.{Checkpoint, IsWhole, IsRight, IsTrueFlash, IsChecked, LiesOnlyIn}
use Rattle.flash_tree.specs.Mount.{Wholly, GoesThrough, sizes_of, IsVolume}
use Rattle.flash_tree.specs.Newest.{Spot, IsNewest, HasNewest, Numbers}
use Rattle.flash_tree.specs.Tree.{Shows, InFootprint, IsSingle}
use Rattle.flash_tree.specs.laws.Checking.{same_block}
use Rattle.flash_tree.specs.laws.Newest.{one_newest, one_spot}
use Rattle.flash_tree.specs.laws.OneTree.{one_tree}
use Rattle.flash_tree.specs.laws.Place.{same_flash}
use Rattle.flash_tree.specs.laws.Tree.{footprint_law}
use Rattle.block_state.specs.Table.{Table}
use Rattle.chunk_index.specs.Committed.{HoldsNone}
use Rattle.chunk_index.specs.Maps.{committed_pages, count_committed_in}
use Rattle.chunk_index.specs.declared.index.Index.{Index}
use Rattle.flash_log.specs.Consistency.{AreCommitted}
use Rattle.page_store.specs.Checked.{HasTrueFlash, IsConsistent}
use Rattle.page_store.specs.Opened.{IsOpenedBy}
use Rattle.paged_objects.specs.laws.Findable.{one_spare}
use Rattle.pages.specs.Maps.{PageMap, has}
use Rattle.nand_model.specs.Trusting.{trusted_as}
use Rattle.nand_model.specs.laws.Trusted.{honest_of}
use Rattle.volume_terms.specs.Rounding.{ceiling}
use Rattle.volume_terms.specs.Sizes.{Sizes, root_number}
use Rattle.mounting.specs.Footprints.{KeepsFootprint}
use Rattle.mounting.specs.NewestMaps.{IsNewestMap}
use Rattle.mount_scan.specs.FoundCheckpoint.{HasForm, IsWholeOn, HasNoneWhole}
use Rattle.mounting.specs.Going.{IsGoodOn, MayBeNoted, NotesFree}
use Rattle.mounting.specs.Marked.{AreFitting}
use Rattle.mounting.specs.Mounted.{IsTreeRead, IsTreeShown, HasRoomOn}
use Rattle.mounting.specs.Named.{IsReadAs, IsTrustedSince}
use Rattle.mounting.specs.Tables.{HoldsWhole, KnowsBlocks, KnowsFirstsOf}
use Rattle.tree_walk.specs.Trees.{IsLookedUp, keeps_key, objects_listed}
use Rattle.tree_walk.specs.declared.tree.Tree.{Tree}
use Rattle.mounting.proofs.Entering.{KeysLaw, is_size}

-- a device that is trusted is as it is
pub trusted_is : (d : Device) → trusted_as true d ≡ d
trusted_is d = ap (λ h. record d { honest = h }) (both_true d.honest) where
  both_true : (h : Bool) → (h && true) ≡ h
  both_true true = refl
  both_true false = refl

-- ---- the tables with the block that is noted

module _ (d : Device) (t : Table) (x : Index) (n : Numbers) (b : ℕ) (opened : IsOpenedBy t.checkpoint d t x n) (within : b < d.geometry.blocks) (good : d.flash.bad b ≡ false) (empty : (t.entry b).committed ≡ 0) where
  abbrev u : Table
  u = record t { checkpoint = Some b }

  noted_opened : IsOpenedBy (Some b) d u x n
  noted_opened = record {
    counts = record { counts = opened.counts.counts; within = opened.counts.within };
    geometry = opened.geometry;
    good = opened.good;
    closed = opened.closed;
    noted = refl;
    apart = λ c at. let same : b ≡ c = cc in subst (λ k. (t.entry k).committed ≡ 0) same empty;
    shown = opened.shown;
    unbuffered = opened.unbuffered;
    within = opened.within;
    low = opened.low;
    newest = opened.newest;
    numbers = opened.numbers;
    can_write = λ left.
        let was = opened.can_write left in
        record {
          geometry = was.geometry;
          marks = was.marks;
          open_block = λ o is. absurd (let two : None ≡ Some o = sym opened.closed ∙ is in cc);
          waits = λ c at.
              let same : b ≡ c = cc in
              record { within = subst (λ k. k < d.geometry.blocks) same within; good = subst (λ k. d.flash.bad k ≡ false) same good; closed = opened.closed };
          numbers = was.numbers;
          below = was.below;
        };
    group = opened.group;
    seq = opened.seq;
    lie = λ left o c p is. let at = opened.lie left o c p is in record { block = at.block; page = at.page; name = at.name };
  }

-- a tree that was read stays read
pub noted_read : (d : Device) (t u : Table) (x : Index) (n : Numbers) (spare : ℕ) (tree : Tree) (at : Option ℕ) → MayBeNoted d at → NotesFree at t u → IsTreeRead d t x n spare tree → IsTreeRead d u x n spare tree
noted_read d t u x n spare tree at may notes read = elim notes.is [
  | inl same ↦ subst (λ (k : Table). IsTreeRead d k x n spare tree) (sym same) read
  | inr (b, is, empty, noted) ↦
      let v : u ≡ record t { checkpoint = Some b } = noted ∙ ap (λ k. record t { checkpoint = k }) is in
      let good = may.good b is in
      subst (λ (k : Table). IsTreeRead d k x n spare tree) (sym v) (record {
        tables = record { tables = noted_opened d t x n b read.tables.tables good.0 good.1 empty; all = read.tables.all; others = read.tables.others };
        tree_on = read.tree_on;
      })
]

-- ---- on a true flash the pages of the tree lie apart from a whole checkpoint

module _ (g : Geometry) (flash : Flash) (c : Checkpoint) (right : IsRight g flash c) (m : PageMap) (newest : IsNewestMap flash m) (spare : ℕ) (objects : Objects) (volume : IsVolume g (has m) spare)
    (shows : Shows (sizes_of g spare) (has m) objects) where
  abbrev z : Sizes
  z = sizes_of g spare

  abbrev n : ℕ → ℕ → List ℕ → Type 0
  n = HasNewest flash

  single : IsSingle n
  single = one_newest flash

  volume_is : IsVolume g n spare
  volume_is = record { fields = volume.fields; has = (((newest _ 0 _).0 volume.has.0).0, volume.has.1); kind = volume.kind; spare_is = volume.spare_is; room = volume.room }

  shows_is : Shows z n objects
  shows_is = footprint_law z (has m) n objects (λ o k bytes foot at. ((newest o k bytes).0 at).0) shows

  spare_is : right.tree.spare ≡ spare
  spare_is = one_spare g n single right.tree.spare spare right.tree.volume volume_is

  objects_are : right.tree.objects ≡ objects
  objects_are =
      let size = is_size g spare in
      one_tree z size.most n single right.tree.objects objects (subst (λ s. Shows (sizes_of g s) n right.tree.objects) spare_is right.tree.shows) shows_is

  -- the newest page of a key that is looked up lies in another block
  pub lies_apart : (o k : ℕ) (s : Spot) → InFootprint z (has m) objects o k → IsNewest flash o k s → s.block ≢ c.block
  lies_apart o k s foot at same =
      let here : InFootprint z n objects o k = record { object = foot.object; there = foot.there; fields = foot.fields; has = (((newest o 0 _).0 foot.has.0).0, foot.has.1); looks = foot.looks } in
      let there : InFootprint (sizes_of g right.tree.spare) n right.tree.objects o k =
      subst (λ q. InFootprint (sizes_of g q) n right.tree.objects o k) (sym spare_is) (subst (λ (q : Objects). InFootprint z n q o k) (sym objects_are) here) in
      let (e, listed, object, chunk) = right.tree.all o k there in
      let (r, last, reported) = (right.tree.only e listed).1 in
      let key : IsNewest flash o k r = subst (λ j. IsNewest flash o j r) chunk (subst (λ j. IsNewest flash j e.chunk r) object last) in
      let spot : r ≡ s = one_spot flash o k r s key at in
      right.apart e listed (ap (λ (f : CheckEntry). f.block) reported ∙ ap (λ (q : Spot). q.block) spot ∙ same)

-- so the checkpoint's block holds no committed page of the tree
pub holds_none : (flash : Flash) (x : Index) (keeps : ℕ → ℕ → Bool) (b : ℕ) → AreCommitted flash (committed_pages x) → ((o k : ℕ) → keeps o k ≡ false → committed_pages x o k ≡ None)
    → ((o k : ℕ) (s : Spot) → keeps o k ≡ true → IsNewest flash o k s → s.block ≢ b) → HoldsNone (committed_pages x) b
holds_none flash x keeps b committed others apart o k p is = elim (cases_Bool (keeps o k)) [
  | inr goes ↦ let two : None ≡ Some p = sym (others o k goes) ∙ is in absurd cc
  | inl stays ↦ let at = committed o k p is in apart o k (record { block = p.block; page = p.page; tag = at.tag }) stays at.newest
]

-- what is noted then is what may have one
pub noted_checked : (g : Geometry) (flash : Flash) (at : Option ℕ) (t u : Table) → IsTrueFlash g flash → LiesOnlyIn g flash at → NotesFree at t u
    → ((b : ℕ) → flash.bad b ≡ false → (t.entry b).bad ≡ false) → ((c : Checkpoint) → IsWhole g flash c → (t.entry c.block).committed ≡ 0) → IsChecked g flash u.checkpoint
noted_checked g flash at t u true_flash only notes good empty = record {
  right = true_flash;
  only = λ c whole.
      let is = only c whole in
      let noted = notes.free c.block is (good c.block whole.good) (empty c whole) in
      ap (λ (k : Table). k.checkpoint) noted ∙ is;
}

-- ---- devices that were only read since

pub true_after : (a b : Device) → OnlyReads a b → HasTrueFlash a → HasTrueFlash b
true_after a b reads (honest, is) = (
  reads.lasts.honest ∙ honest,
  subst (λ (g : Geometry). IsConsistent g b.flash) (sym reads.lasts.geometry) (subst (λ (f : Flash). IsConsistent a.geometry f) (sym (same_flash a b reads honest)) is),
)

pub checked_before : (a b : Device) (at : Option ℕ) → OnlyReads a b → (HasTrueFlash b → IsChecked b.geometry b.flash at) → HasTrueFlash a → IsChecked a.geometry a.flash at
checked_before a b at reads checked is =
    subst (λ (g : Geometry). IsChecked g a.flash at) reads.lasts.geometry
    (subst (λ (f : Flash). IsChecked b.geometry f at) (same_flash a b reads is.0) (checked (true_after a b reads is)))

-- of one that is honest, and on whose flash each whole checkpoint is right
pub right_after : (a b : Device) → OnlyReads a b → a.honest ≡ true → IsTrueFlash a.geometry a.flash → IsTrueFlash b.geometry b.flash
right_after a b reads honest is =
    subst (λ (g : Geometry). IsTrueFlash g b.flash) (sym reads.lasts.geometry) (subst (λ (f : Flash). IsTrueFlash a.geometry f) (sym (same_flash a b reads honest)) is)

pub right_before : (a b : Device) (at : Option ℕ) → OnlyReads a b → (b.honest ≡ true → IsTrueFlash b.geometry b.flash → IsChecked b.geometry b.flash at)
    → a.honest ≡ true → IsTrueFlash a.geometry a.flash → IsChecked a.geometry a.flash at
right_before a b at reads checked honest is =
    subst (λ (g : Geometry). IsChecked g a.flash at) reads.lasts.geometry
    (subst (λ (f : Flash). IsChecked b.geometry f at) (same_flash a b reads honest) (checked (reads.lasts.honest ∙ honest) (right_after a b reads honest is)))

-- a whole checkpoint lies there still
holds_after : (a b : Device) (at : Option ℕ) → OnlyReads a b → HoldsWhole a at → HoldsWhole b at
holds_after a b at reads holds honest k is =
    let was : a.honest ≡ true = sym reads.lasts.honest ∙ honest in
    let (c, whole, same) = holds was k is in
    (c, subst (λ (g : Geometry). IsWhole g b.flash c) (sym reads.lasts.geometry) (subst (λ (f : Flash). IsWhole a.geometry f c) (sym (same_flash a b reads was)) whole), same)

-- the block may be noted still
pub may_after : (a b : Device) (at : Option ℕ) → OnlyReads a b → MayBeNoted a at → MayBeNoted b at
may_after a b at reads may = record {
  good = λ k is.
      let was = may.good k is in
      (subst (λ (g : Geometry). k < g.blocks) (sym reads.lasts.geometry) was.0, ap (λ (bad : ℕ → Bool). bad k) reads.bad ∙ was.1);
  whole = holds_after a b at reads may.whole;
  only = λ honest is.
      let was : a.honest ≡ true = sym reads.lasts.honest ∙ honest in
      let flash : b.flash ≡ a.flash = same_flash a b reads was in
      let true_was : IsTrueFlash a.geometry a.flash = subst (λ (g : Geometry). IsTrueFlash g a.flash) reads.lasts.geometry (subst (λ (f : Flash). IsTrueFlash b.geometry f) flash is) in
      subst (λ (g : Geometry). LiesOnlyIn g b.flash at) (sym reads.lasts.geometry) (subst (λ (f : Flash). LiesOnlyIn a.geometry f at) (sym flash) (may.only was true_was));
}

-- ---- a volume that goes on after a scan

pub whole_noted : (d : Device) (at : Option ℕ) (t u : Table) → MayBeNoted d at → NotesFree at t u → HoldsWhole d t.checkpoint → HoldsWhole d u.checkpoint
whole_noted d at t u may notes was = elim notes.is [
  | inl same ↦ subst (λ (k : Table). HoldsWhole d k.checkpoint) (sym same) was
  | inr (b, is, empty, noted) ↦ subst (λ (k : Table). HoldsWhole d k.checkpoint) (sym noted) may.whole
]

-- where no block is noted
pub whole_none : (d : Device) (at : Option ℕ) → at ≡ None → HoldsWhole d at
whole_none d at none honest k is = let two : None ≡ Some k = sym none ∙ is in absurd cc

pub fitting_noted : (at : Option ℕ) (t u : Table) → NotesFree at t u → AreFitting t → AreFitting u
fitting_noted at t u notes fits = elim notes.is [
  | inl same ↦ subst AreFitting (sym same) fits
  | inr (b, is, empty, noted) ↦ subst AreFitting (sym noted) fits
]

pub room_noted : (d : Device) (spare : ℕ) (at : Option ℕ) (t u : Table) → NotesFree at t u → HasRoomOn d t spare → HasRoomOn d u spare
room_noted d spare at t u notes room = elim notes.is [
  | inl same ↦ subst (λ (k : Table). HasRoomOn d k spare) (sym same) room
  | inr (b, is, empty, noted) ↦ subst (λ (k : Table). HasRoomOn d k spare) (sym noted) room
]

-- what is known of the keys that a tree looks up
abbrev pub TestLaw : Type 0
TestLaw = (z : Sizes) (m : PageMap) (objects : Objects) (list : List ℕ) (keeps : ℕ → ℕ → Bool) → 32 ≤ z.page_bytes → z.page_bytes ≤ 4096 → Shows z (has m) objects
    → GoesThrough z (has m) (root_number ∷ []) 0 (Wholly list) → ((o c : ℕ) → (keeps o c ≡ true) ↔ IsLookedUp z (has m) list o c) → KeepsFootprint z m objects keeps

pub scan_checked : KeysLaw → TestLaw → (d : Device) (t u : Table) (x : Index) (n : Numbers) (spare : ℕ) (tree : Tree) (objects : Objects) (at : Option ℕ) → ((b : ℕ) → HoldsNone (committed_pages x) b → count_committed_in x b ≡ 0)
    → d.honest ≡ true → IsTrueFlash d.geometry d.flash → MayBeNoted d at → NotesFree at t u → IsTreeRead d t x n spare tree → IsTreeShown d x spare tree objects → IsChecked d.geometry d.flash u.checkpoint
scan_checked keys test d t u x n spare tree objects at zero honest true_flash may notes read shown =
    let on = shown.on in
    let m : PageMap = on.pages in
    let z : Sizes = sizes_of d.geometry spare in
    let size = is_size d.geometry spare in
    let foot = test z m objects (objects_listed tree) (keeps_key tree) size.least size.most shown.shows on.through.tree_is.through (keys z m tree (sym on.through.size) on.through.tree_is.heads) in
    noted_checked d.geometry d.flash at t u true_flash (may.only honest true_flash) notes read.tables.tables.good
    (λ c whole. read.tables.tables.counts.counts c.block ∙ zero c.block
    (holds_none d.flash x (keeps_key tree) c.block (read.tables.tables.newest honest) read.tables.others
    (λ o k s stays newest. lies_apart d.geometry d.flash c (true_flash c whole) m on.newest spare objects on.through.volume shown.shows o k s ((foot o k).0 stays) newest)))

-- ---- what was only read before

-- a device that was trusted since the one that was read
pub since_before : (a b c seen : Device) → OnlyReads a b → (a.gone ≡ false → b.gone ≡ false) → IsTrustedSince b c seen → IsTrustedSince a c seen
since_before a b c seen reads power since = record {
  reported = since.reported;
  read = record {
    reads = only_reads_on a b c reads since.read.reads;
    power = λ was. since.read.power (power was);
    seen_is = since.read.seen_is;
  };
  trusted = λ is. since.trusted (true_after a b reads is);
}

-- one that is trusted is so, however its flash is
pub since_trusted : (a b seen : Device) → IsReadAs true a b seen → IsTrustedSince a b seen
since_trusted a b seen read = record { reported = true; read = read; trusted = λ is. refl }

pub read_before : (a b c seen : Device) → OnlyReads a b → (a.gone ≡ false → b.gone ≡ false) → IsReadAs true b c seen → IsReadAs true a c seen
read_before a b c seen reads power read = record { reads = only_reads_on a b c reads read.reads; power = λ was. read.power (power was); seen_is = read.seen_is }

-- the same devices
pub read_same : (a b c s t : Device) → c ≡ b → t ≡ s → IsReadAs true a b s → IsReadAs true a c t
read_same a b c s t new seen read = subst (λ (d : Device). IsReadAs true a c d) (sym seen) (subst (λ (d : Device). IsReadAs true a d s) (sym new) read)

pub since_same : (a b c s t : Device) → c ≡ b → t ≡ s → IsTrustedSince a b s → IsTrustedSince a c t
since_same a b c s t new seen since = subst (λ (d : Device). IsTrustedSince a c d) (sym seen) (subst (λ (d : Device). IsTrustedSince a d s) (sym new) since)

-- and one that has power
pub since_with : (a b c seen : Device) → OnlyReads a b → c.gone ≡ false → IsTrustedSince b c seen → IsTrustedSince a c seen
since_with a b c seen reads power since = record {
  reported = since.reported;
  read = record { reads = only_reads_on a b c reads since.read.reads; power = λ was. power; seen_is = since.read.seen_is };
  trusted = λ is. since.trusted (true_after a b reads is);
}

-- ---- what a search found

pub form_after : (a b : Device) (c : Checkpoint) → OnlyReads a b → HasForm a c → HasForm b c
form_after a b c reads form =
    let geometry : b.geometry ≡ a.geometry = reads.lasts.geometry in
    record {
      block = subst (λ (g : Geometry). c.block < g.blocks) (sym geometry) form.block;
      good = ap (λ (bad : ℕ → Bool). bad c.block) reads.bad ∙ form.good;
      room = subst (λ (g : Geometry). c.size ≤ g.pages) (sym geometry) form.room;
      tag = form.tag;
      size = subst (λ (g : Geometry). c.size ≡ ceiling (32 * (1 + length c.entries)) g.bytes) (sym geometry) form.size;
      entries = form.entries;
      rise = form.rise;
    }

pub whole_after : (a b : Device) (c : Checkpoint) → OnlyReads a b → IsWholeOn a c → IsWholeOn b c
whole_after a b c reads whole honest =
    let was : a.honest ≡ true = sym reads.lasts.honest ∙ honest in
    subst (λ (g : Geometry). IsWhole g b.flash c) (sym reads.lasts.geometry) (subst (λ (f : Flash). IsWhole a.geometry f c) (sym (same_flash a b reads was)) (whole was))

-- a device that is read as it is trusted has the checkpoint that was whole
pub whole_seen : (reported : Bool) (a b seen : Device) (c : Checkpoint) (at : Option ℕ) → IsReadAs reported a b seen → IsWholeOn a c → at ≡ Some c.block → HoldsWhole seen at
whole_seen reported a b seen c at read whole noted = subst (λ (d : Device). HoldsWhole d at) (sym read.seen_is) (λ both k is.
    let honest : b.honest ≡ true = honest_of b.honest reported both in
    let same : Some c.block ≡ Some k = sym noted ∙ is in
    (c, whole_after a b c read.reads whole honest, cc))

-- where no checkpoint is whole none is noted
pub none_noted : (a b : Device) → OnlyReads a b → HasNoneWhole a → MayBeNoted b None
none_noted a b reads none = may_after a b None reads (record {
  good = λ k is. absurd cc;
  whole = λ honest k is. absurd cc;
  only = λ honest is c whole. absurd (none honest is c whole);
})

-- and where one is, its block is
pub found_noted : (d : Device) (c : Checkpoint) → HasForm d c → IsWholeOn d c → MayBeNoted d (Some c.block)
found_noted d c form whole = record {
  good = λ k is. let same : c.block ≡ k = cc in subst (IsGoodOn d) same (form.block, form.good);
  whole = λ honest k is. (c, whole honest, cc);
  only = λ honest is other there. ap Some (same_block d.geometry d.flash is c other (whole honest) there);
}

-- ---- what is said of a result

pub ok_map : {T E : Type 0} {P Q : T → Type 0} (r : Result T E) → ((x : T) → P x → Q x) → IfOk r P → IfOk r Q
ok_map (Ok x) to is = to x is
ok_map (Err e) to is = tt

pub err_map : {T E : Type 0} {P Q : E → Type 0} (r : Result T E) → ((e : E) → P e → Q e) → IfErr r P → IfErr r Q
err_map (Ok x) to is = tt
err_map (Err e) to is = to e is

pub ok_both : {T E : Type 0} {P Q R : T → Type 0} (r : Result T E) → ((x : T) → P x → Q x → R x) → IfOk r P → IfOk r Q → IfOk r R
ok_both (Ok x) to p q = to x p q
ok_both (Err e) to p q = tt

-- what is known of the blocks of a device that was gone through by a checkpoint
pub blocks_known : {T E : Type 0} (r : Result T E) (reported : Bool) (a : Device) (c : Checkpoint) (new seen : T → Device) (t : T → Table) (n : T → Numbers) → IsWholeOn a c
    → IfOk r (λ x. IsReadAs reported a (new x) (seen x)) → IfOk r (λ x. (t x).checkpoint ≡ Some c.block) → IfOk r (λ x. KnowsFirstsOf (seen x) (t x) (n x))
    → IfOk r (λ x. KnowsBlocks (seen x) (t x) (n x))
blocks_known (Ok x) reported a c new seen t n whole read noted firsts = record { firsts = firsts; whole = whole_seen reported a (new x) (seen x) c (t x).checkpoint read whole noted }
blocks_known (Err e) reported a c new seen t n whole read noted firsts = tt
