-- What lets the next mount go by summaries, over calls of a store of pages.
use Rattle.std.specs.Prelude.{◌≡◌, Option}
use Rattle.std.proofs.Common.{sym, ◌∙◌, subst}
use mathlib.Core.Logic.{∥∥₁_elim}
use Rattle.nand_model.specs.Flash.{Flash}
use Rattle.nand_model.specs.Calls.{Lasts}
use Rattle.nand_model.specs.Changes.{OnlyReads}
use Rattle.nand_model.specs.laws.Changes.{only_reads_on}
use Rattle.nand_model.specs.declared.geometry.Geometry.{Geometry}
use Rattle.flash_tree.specs.ErasedBlocks.{OnlyFirstHasTags, GoesFirst}
use Rattle.flash_tree.specs.MountableFlash.{BeganMountable}
use Rattle.flash_tree.specs.Summarizing.{IsFindable}
use Rattle.flash_tree.specs.laws.Place.{same_flash}
use Rattle.pages.specs.Maps.{PageMap}
use Rattle.pages.specs.State.{PagesState}
use Rattle.pages.specs.Stores.{FindsAll, FindsSince, BeganMountably, IsOrdered, SamePages, StaysMountable, StaysOrdered}

-- the store began with the same flash, of the same size, and its device is as honest
pub begun_on : (p q : PagesState) → Lasts p.device q.device → q.first ≡ p.first → BeganMountably p → BeganMountably q
begun_on p q lasts first (honest, began) = (
  lasts.honest ∙ honest,
  subst (λ (f : Option Flash). BeganMountable q.device.geometry f) (sym first) (subst (λ (g : Geometry). BeganMountable g p.first) (sym lasts.geometry) began),
)

pub begun_before : (p q : PagesState) → Lasts p.device q.device → q.first ≡ p.first → BeganMountably q → BeganMountably p
begun_before p q lasts first (honest, began) = (
  sym lasts.honest ∙ honest,
  subst (λ (f : Option Flash). BeganMountable p.device.geometry f) first (subst (λ (g : Geometry). BeganMountable g q.first) lasts.geometry began),
)

-- blocks stay ordered where a device is only read, and the same one may have a checkpoint
pub ordered_read : (p q : PagesState) → OnlyReads p.device q.device → q.checkpoint ≡ p.checkpoint → StaysOrdered p q
ordered_read p q reads checkpoint begun ordered =
    let flash = sym (same_flash p.device q.device reads begun.0) in
    ∣ record {
      first = subst OnlyFirstHasTags flash ordered.first;
      noted = λ c is. subst (λ (f : Flash). GoesFirst f c) flash (ordered.noted c (sym checkpoint ∙ is));
    } ∣₁

pub mountable_read : (p q : PagesState) → OnlyReads p.device q.device → q.first ≡ p.first → q.checkpoint ≡ p.checkpoint → StaysMountable p q
mountable_read p q reads first checkpoint = record { first = first; ordered = ordered_read p q reads checkpoint; reads = λ worn. reads }

-- and by two calls in turn
pub mountable_then : (a b c : PagesState) → Lasts a.device b.device → b.worn ≡ a.worn → StaysMountable a b → StaysMountable b c → StaysMountable a c
mountable_then a b c lasts worn x y = record {
  first = y.first ∙ x.first;
  ordered = λ begun ordered.
      ∥∥₁_elim (x.ordered begun ordered) (λ m n. squash₁ m n) (λ (is : IsOrdered b). y.ordered (begun_on a b lasts x.first begun) is);
  reads = λ is. only_reads_on a.device b.device c.device (x.reads is) (y.reads (worn ∙ is));
}

-- what is found is found of a map with the same pages
pub finds_as : (p : PagesState) (m n : PageMap) → SamePages m n → FindsSince p m → FindsSince p n
finds_as p m n same found begun =
    ∥∥₁_elim (found begun) (λ a b. squash₁ a b) (λ (all : FindsAll p.device m). ∣ (λ o c (xs, is). all o c (xs, same o c ∙ is)) ∣₁)

-- and where the device is only read
pub finds_read : (p q : PagesState) (m : PageMap) → OnlyReads p.device q.device → q.first ≡ p.first → FindsSince p m → FindsSince q m
finds_read p q m reads first found begun =
    let before = begun_before p q reads.lasts first begun in
    let flash = sym (same_flash p.device q.device reads before.0) in
    ∥∥₁_elim (found before) (λ a b. squash₁ a b) (λ (all : FindsAll p.device m). ∣ (λ o c has.
    subst (λ (g : Geometry). IsFindable g q.device.flash o c) (sym reads.lasts.geometry) (subst (λ (f : Flash). IsFindable p.device.geometry f o c) flash (all o c has))) ∣₁)
