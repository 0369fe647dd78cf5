-- Flashes with the same pages and marks.
use Rattle.std.specs.Prelude.{◌≡◌, ◌≤◌, ◌+◌, ◌-◌, ℕ, Bool, true, false, List, [], ◌∷◌, count_by, cond}
use Rattle.std.specs.List.{range_with_len}
use Rattle.std.proofs.Common.{refl, sym, ◌∙◌, ap, subst, arith}
use Rattle.std.proofs.lemmas.List.Sums.{sum_by-cons}
use Rattle.nand_model.specs.Flash.{Flash}
use Rattle.nand_model.specs.Changes.{Grows}
use Rattle.nand_model.specs.declared.geometry.Geometry.{Geometry}
use Rattle.page_tags.specs.declared.tag.Tag.{Tag}
use Rattle.posix_profile.specs.State.{Objects}
use Rattle.flash_tree.specs.Checkpoints.{Checkpoint, check_group, IsWhole, IsTrueFlash}
use Rattle.flash_tree.specs.Groups.{HasTag, Group, IsGroup, SameGroups}
use Rattle.flash_tree.specs.Newest.{Spot, IsNewest, HasNewest, AreAbove, AreGreatest, Numbers}
use Rattle.flash_tree.specs.Tree.{InFootprint}
use Rattle.flash_tree.specs.Mount.{sizes_of, IsVolume, bad_blocks, IsFree, HasRoom, Answers, IsTreeOf}
use Rattle.flash_tree.specs.Sound.{IsSoundFlash}
use Rattle.flash_tree.specs.laws.Newest.{same_groups_keep, has_newest_stays, tag_stays}
use Rattle.flash_tree.specs.laws.Tree.{footprint_law}
use Rattle.volume_terms.specs.Sizes.{Sizes}
use Rattle.powercut.specs.Living.{HasSame, AreWithin}

pub same_here : (f : Flash) → HasSame f f
same_here f = record { page = refl; bad = refl }

pub same_back : (f g : Flash) → HasSame f g → HasSame g f
same_back f g same = record { page = sym same.page; bad = sym same.bad }

pub same_on : (f g h : Flash) → HasSame f g → HasSame g h → HasSame f h
same_on f g h first then = record { page = then.page ∙ first.page; bad = then.bad ∙ first.bad }

pub tag_same : (f g : Flash) → HasSame f g → (b p : ℕ) (t : Tag) → HasTag f b p t → HasTag g b p t
tag_same f g same b p t has = tag_stays f g b p t (ap (λ (page : ℕ → ℕ → _). page b p) same.page) has

pub group_same : (f g : Flash) → HasSame f g → (x : Group) → IsGroup f x → IsGroup g x
group_same f g same x is = record {
  good = ap (λ (bad : ℕ → Bool). bad x.block) same.bad ∙ is.good;
  some = is.some;
  each = λ i lt. let part = is.each i lt in record {
    tag = part.tag;
    has = tag_same f g same x.block (x.start + i) part.tag part.has;
    index = part.index;
    count = part.count;
    group = part.group;
    seq = part.seq;
  };
}

groups_same : (f g : Flash) → HasSame f g → SameGroups f g
groups_same f g same x = (group_same g f (same_back f g same) x, group_same f g same x)

grows_same : (f g : Flash) → HasSame f g → Grows f g
grows_same f g same b p not = ap (λ (page : ℕ → ℕ → _). page b p) same.page

pub spot_same : (f g : Flash) → HasSame f g → (o c : ℕ) (s : Spot) → IsNewest f o c s → IsNewest g o c s
spot_same f g same o c s newest = (same_groups_keep f g (groups_same f g same) (grows_same f g same) o c s newest).newest

pub newest_same : (f g : Flash) → HasSame f g → (o c : ℕ) (bytes : List ℕ) → HasNewest f o c bytes → HasNewest g o c bytes
newest_same f g same o c bytes has = has_newest_stays f g o c bytes has (same_groups_keep f g (groups_same f g same) (grows_same f g same) o c has.spot has.newest)

pub foot_same : (z : Sizes) (f g : Flash) → HasSame f g → (objects : Objects) (o c : ℕ) → InFootprint z (HasNewest f) objects o c → InFootprint z (HasNewest g) objects o c
foot_same z f g same objects o c foot = record {
  object = foot.object;
  there = foot.there;
  fields = foot.fields;
  has = (newest_same f g same o 0 _ foot.has.0, foot.has.1);
  looks = foot.looks;
}

pub bad_same : (g : Geometry) (a b : Flash) → HasSame a b → bad_blocks g b ≡ bad_blocks g a
bad_same g a b same = ap (λ (bad : ℕ → Bool). count_by bad (range_with_len 0 g.blocks)) same.bad

free_same : (g : Geometry) (a b : Flash) → HasSame a b → (z : Sizes) (objects : Objects) (block : ℕ) → IsFree g a z objects block → IsFree g b z objects block
free_same g a b same z objects block free = record {
  within = free.within;
  good = ap (λ (bad : ℕ → Bool). bad block) same.bad ∙ free.good;
  apart = λ o c s foot newest. free.apart o c s (foot_same z b a (same_back a b same) objects o c foot) (spot_same b a (same_back a b same) o c s newest);
}

room_same : (g : Geometry) (a b : Flash) → HasSame a b → (spare : ℕ) (objects : Objects) → HasRoom g a spare objects → HasRoom g b spare objects
room_same g a b same spare objects room = record {
  fits = room.fits;
  free = λ within_limit.
      let count = bad_same g a b same in
      let was = room.free (subst (λ n. n ≤ spare) count within_limit) in
      record {
        blocks = was.blocks;
        size = was.size ∙ ap (λ n. 1 + spare - n) (sym count);
        once = was.once;
        each = λ i block at. free_same g a b same (sizes_of g spare) objects block (was.each i block at);
      };
}

pub volume_same : (g : Geometry) (a b : Flash) → HasSame a b → (spare : ℕ) → IsVolume g (HasNewest a) spare → IsVolume g (HasNewest b) spare
volume_same g a b same spare volume = record {
  fields = volume.fields;
  has = (newest_same a b same _ 0 _ volume.has.0, volume.has.1);
  kind = volume.kind;
  spare_is = volume.spare_is;
  room = volume.room;
}

pub above_same : (f g : Flash) → HasSame f g → (n : Numbers) → AreAbove f n → AreAbove g n
above_same f g same n above b p t good has = above b p t (ap (λ (bad : ℕ → Bool). bad b) (sym same.bad) ∙ good) (tag_same g f (same_back f g same) b p t has)

pub within_same : (f g : Flash) → HasSame f g → (group seq : ℕ) → AreWithin f group seq → AreWithin g group seq
within_same f g same group seq within b p t good has = within b p t (ap (λ (bad : ℕ → Bool). bad b) (sym same.bad) ∙ good) (tag_same g f (same_back f g same) b p t has)

pub greatest_same : (f g : Flash) → HasSame f g → (n : Numbers) → AreGreatest f n → AreGreatest g n
greatest_same f g same n greatest = record {
  above = above_same f g same n greatest.above;
  least = λ m above. greatest.least m (above_same g f (same_back f g same) m above);
}

-- the tree that a flash shows depends on pages and marks alone
pub answers_same : (g : Geometry) (a b : Flash) → HasSame a b → (spare : ℕ) (objects : Objects) → Answers g a (IsTreeOf spare objects) → Answers g b (IsTreeOf spare objects)
answers_same g a b same spare objects shown = (
  volume_same g a b same spare shown.0,
  footprint_law (sizes_of g spare) (HasNewest a) (HasNewest b) objects (λ o c bytes foot has. newest_same a b same o c bytes has) shown.1,
  room_same g a b same spare objects shown.2,
)

-- and so whether it is sound
pub sound_same : (g : Geometry) (a b : Flash) → HasSame a b → (spare : ℕ) (objects : Objects) → IsSoundFlash g a spare objects → IsSoundFlash g b spare objects
sound_same g a b same spare objects sound = record {
  volume = volume_same g a b same spare sound.volume;
  shows = footprint_law (sizes_of g spare) (HasNewest a) (HasNewest b) objects (λ o c bytes foot has. newest_same a b same o c bytes has) sound.shows;
  room = room_same g a b same spare objects sound.room;
  few_bad = subst (λ n. n ≤ spare) (sym (bad_same g a b same)) sound.few_bad;
  numbers = above_same a b same _ sound.numbers;
}

-- and so whether it is true
pub whole_same : (g : Geometry) (a b : Flash) → HasSame a b → (c : Checkpoint) → IsWhole g a c → IsWhole g b c
whole_same g a b same c whole = record {
  good = ap (λ (bad : ℕ → Bool). bad c.block) same.bad ∙ whole.good;
  size = whole.size;
  pages = λ i lt. let there = whole.pages i lt in (ap (λ (page : ℕ → ℕ → _). page (check_group c).block ((check_group c).start + i)) same.page ∙ there.0, there.1);
  entries = whole.entries;
  rise = whole.rise;
}

pub true_same : (g : Geometry) (a b : Flash) → HasSame a b → IsTrueFlash g a → IsTrueFlash g b
true_same g a b same truth c whole =
    let back = same_back a b same in
    let right = truth c (whole_same g b a back c whole) in
    let tree = right.tree in
    let z = sizes_of g tree.spare in
    record {
      tree = record {
        spare = tree.spare;
        objects = tree.objects;
        volume = volume_same g a b same tree.spare tree.volume;
        shows = footprint_law z (HasNewest a) (HasNewest b) tree.objects (λ o k bytes foot has. newest_same a b same o k bytes has) tree.shows;
        all = λ o k foot. tree.all o k (foot_same z b a back tree.objects o k foot);
        only = λ e has. let at = tree.only e has in (foot_same z a b same tree.objects e.object e.chunk at.0, (at.1.0, spot_same a b same e.object e.chunk at.1.0 at.1.1, at.1.2));
      };
      apart = right.apart;
      above = above_same a b same _ right.above;
      alone = λ k p t good apart has. right.alone k p t (ap (λ (bad : ℕ → Bool). bad k) (sym same.bad) ∙ good) apart (tag_same b a back k p t has);
    }

one_more : (a b : Bool) → (a ≡ true → b ≡ true) → cond {A = ℕ} a 1 0 ≤ cond {A = ℕ} b 1 0
one_more true true more = omega arith
one_more true false more = let two : false ≡ true = more refl in absurd cc
one_more false true more = omega arith
one_more false false more = omega arith

-- where one test holds wherever the other does it holds as often
pub counts_more : (f g : ℕ → Bool) → ((k : ℕ) → f k ≡ true → g k ≡ true) → (xs : List ℕ) → count_by f xs ≤ count_by g xs
counts_more f g more [] = omega arith
counts_more f g more (x ∷ xs) =
    let fewer : count_by f (x ∷ xs) ≡ cond (f x) 1 0 + count_by f xs = sum_by-cons (λ k. cond (f k) 1 0) x xs in
    let rest : count_by f xs ≤ count_by g xs = counts_more f g more xs in
    let all : count_by g (x ∷ xs) ≡ cond (g x) 1 0 + count_by g xs = sum_by-cons (λ k. cond (g k) 1 0) x xs in
    omega (arith, fewer, rest, all, one_more (f x) (g x) (more x))

-- marks that stay are no fewer
pub bad_more : (g : Geometry) (a b : Flash) → ((k : ℕ) → a.bad k ≡ true → b.bad k ≡ true) → bad_blocks g a ≤ bad_blocks g b
bad_more g a b stays = counts_more a.bad b.bad stays (range_with_len 0 g.blocks)
