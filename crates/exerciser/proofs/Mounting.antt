-- What a mount of a true flash shows is what the flash stands for.
use Rattle.std.proofs.Common.{◌≡◌, List, true, refl, sym, ◌∙◌, ap, subst, Some, None, IfSome}
use Rattle.nand_model.specs.Calls.{Device}
use Rattle.nand_model.specs.Changes.{PowersUp, OnlyReads}
use Rattle.nand_model.specs.declared.geometry.Geometry.{Geometry}
use Rattle.flash_tree.specs.Mount.{Answers, IsTreeOf}
use Rattle.lives.specs.Lives.{at_mount}
use Rattle.mounting.specs.declared.fault.MountFault.{MountFault}
use Rattle.page_store.specs.Checked.{HasTrueFlash, IsConsistent}
use Rattle.pages.specs.State.{PagesState}
use Rattle.posix_calls.specs.PageVolumes.{pages_of, is_read_only}
use Rattle.posix_calls.specs.declared.page_volume.PageVolume.{PageVolume}
use Rattle.paged_objects.specs.Representing.{volume_of}
use Rattle.plain_volume.specs.Lists.{IsMadeOf, ListsShown, shown_of}
use Rattle.plain_volume.specs.declared.list.TreeList.{TreeList}
use Rattle.plain_volume.specs.Views.{PlainView}
use Rattle.posix_profile.specs.declared.command.Stamped.{Stamped}
use Rattle.posix_profile.specs.declared.reply.Reply.{Reply}
use Rattle.posix_calls.specs.Answering.{ShowsState}
use Rattle.posix_calls.specs.Mounts.{IsMounted}
use Rattle.posix_calls.specs.laws.Trusting.{seen_since}
use Rattle.powercut.specs.Living.{HasSame}
use Rattle.powercut.specs.laws.SameFlash.{answers_same, same_back, same_on}
use Rattle.powercut.specs.laws.SameSummaries.{consistent_same}
use Rattle.exerciser.specs.Causes.{HasTree, IsTornOn, IsTreeOn, MountsAs, ShowsFlash}
use Rattle.exerciser.specs.Keeping.{IsDurable, IsLeast, IsTreeShown}
use Rattle.exerciser.specs.Seen.{tree_in}
use Rattle.exerciser.specs.declared.seen.Seen.{Seen}
use Rattle.exerciser.specs.declared.seen.Seen.TheVariants as seens
use Rattle.exerciser.proofs.Following.{bare_settled, made_shown}

module _ {P V : Type 0} (state : P → PagesState) (over : V → PageVolume P) (d e : Device) (v : V) (up : PowersUp d e) (m : IsMounted state e (over v)) where
  same : HasSame d.flash e.flash
  same = record { page = up.page; bad = up.bad }

  truth_up : HasTrueFlash d → HasTrueFlash e
  truth_up truth = (up.honest ∙ truth.0, subst (λ (g : Geometry). IsConsistent g e.flash) (sym up.geometry) (consistent_same d.geometry d.flash e.flash same truth.1))

  -- a volume that is mounted shows the tree of the flash
  pub shows_flash : HasTrueFlash d → ShowsFlash (λ v. ShowsState state (over v)) d v
  shows_flash truth =
      let p = state (pages_of (over v)) in
      let seen : p.device ≡ m.now = seen_since e m.now p.device m.since (truth_up truth) in
      let reads : OnlyReads e m.now = m.since.read.reads in
      let honest : p.device.honest ≡ true = ap (λ (x : Device). x.honest) seen ∙ reads.lasts.honest ∙ up.honest ∙ truth.0 in
      let geometry : p.device.geometry ≡ d.geometry = ap (λ (x : Device). x.geometry) seen ∙ reads.lasts.geometry ∙ up.geometry in
      let read : HasSame e.flash m.now.flash = record { page = reads.page (up.honest ∙ truth.0); bad = reads.bad } in
      let there : HasSame d.flash p.device.flash = subst (λ (x : Device). HasSame d.flash x.flash) (sym seen) (same_on d.flash e.flash m.now.flash same read) in
      let tree = m.tree honest in
      record {
        spare = p.spare;
        objects = tree.0;
        sizes = volume_of p;
        read_only = is_read_only (over v);
        answers = answers_same d.geometry p.device.flash d.flash (same_back d.flash p.device.flash there) p.spare tree.0
            (subst (λ (g : Geometry). Answers g p.device.flash (IsTreeOf p.spare tree.0)) geometry tree.1.answers);
        shown = (m.goes_on, refl, tree.1.volume);
      }

module _ {P V : Type 0} (state : P → PagesState) (over : V → PageVolume P) (d : Device) (v : V) (on : HasTrueFlash d → ShowsFlash (λ v. ShowsState state (over v)) d v) where
  -- a tree that it shows lies on the device
  pub tree_on : (tree : PlainView) → IsTreeShown (λ v. ShowsState state (over v)) v tree → IsTreeOn d tree
  tree_on tree is = λ truth.
      let m = on truth in
      let same : shown_of tree ≡ m.objects = is m.sizes m.read_only (at_mount m.objects) m.shown refl ∙ bare_settled m.sizes (at_mount m.objects) m.shown.2.sound refl in
      (m.spare, subst (λ objects. Answers d.geometry d.flash (IsTreeOf m.spare objects)) (sym same) m.answers)

  -- the device stands for a tree
  pub has_tree : HasTree d
  has_tree truth = let m = on truth in (m.spare, m.objects, m.answers)

  -- a session that may not leave what is shown may not leave the tree that lies on the device
  pub torn_on : (before : PlainView) (commands : List Stamped) (reported : List Reply) → IsDurable (λ v. ShowsState state (over v)) v before commands reported None → IsTornOn d before commands reported
  torn_on before commands reported committed = λ truth.
      let m = on truth in (
        m.spare,
        m.objects,
        m.answers,
        subst (λ objects. IsLeast before commands reported (λ x. x ≡ objects) None) (bare_settled m.sizes (at_mount m.objects) m.shown.2.sound refl) (committed m.sizes m.read_only (at_mount m.objects) m.shown refl),
      )

  -- and so does one that is made of what it reports
  pub made_on : (list : TreeList) → ListsShown (λ v. ShowsState state (over v)) v list → (tree : PlainView) → IsMadeOf list tree → IsTreeOn d tree
  made_on list listed tree made = tree_on tree (made_shown (λ v. ShowsState state (over v)) (λ v z read_only s shown. shown.2.sound) v list listed tree made)

-- what is seen by commands is seen by a mount
pub seen_on : (d : Device) (before : PlainView) (commands : List Stamped) (reported : List Reply) (seen : Seen) → IfSome (tree_in seen) (IsTreeOn d) → (seen ≡ seens.Torn None → IsTornOn d before commands reported)
    → ((fault : MountFault) → seen ≡ seens.Mount fault → ⊥) → MountsAs d before commands reported seen
seen_on d before commands reported (seens.Committed count tree) on torn mounted = on
seen_on d before commands reported (seens.Torn (Some tree)) on torn mounted = on
seen_on d before commands reported (seens.Torn None) on torn mounted = torn refl
seen_on d before commands reported (seens.Mount fault) on torn mounted = absurd (mounted fault refl)
