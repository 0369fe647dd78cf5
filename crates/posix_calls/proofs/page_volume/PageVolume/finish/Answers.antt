use Rattle.std.specs.Prelude.{◌≡◌, ◌⊎◌, ◌≤◌, false, not}
use Rattle.std.proofs.Common.{sym, ◌∙◌, ap, subst}
use Rattle.std.proofs.lemmas.Bool.{not-true, not-false}
use Rattle.object_store.specs.Stores.{settled}
use Rattle.paged_objects.specs.Ending.{HasEnded}
use Rattle.paged_objects.specs.Representing.{Shown}
use Rattle.paged_objects.specs.laws.Going.{ended_after, goes_here, goes_on}
use Rattle.pages.specs.State.{PagesState}
use Rattle.pages.specs.Stores.{GoesOn}
use Rattle.posix_profile.specs.State.{Objects}
use Rattle.posix_profile.specs.declared.reply.Errno.TheVariants as errors
use Rattle.posix_profile.specs.declared.reply.Reply.TheVariants as replies
use Rattle.posix_calls.specs.Closing.{KeepsOnly}
use Rattle.posix_calls.specs.PageVolumes.{pages_of}
use Rattle.posix_calls.proofs.Calls.{has_of, commit_done, commit_cause}
use Rattle.posix_calls.proofs.Closed.{all_named}
use Rattle.posix_calls.proofs.Exact.{commit_exact, committed_tree}
use Rattle.posix_calls.proofs.page_volume.PageVolume.finish.Goals.{in-Ok, in-Err}
use Rattle.posix_calls.proofs.page_volume.PageVolume.finish.Goals as goal

pub returns-then-stopped-clause-goes_on : goal.returns-then-stopped-clause-goes_on
returns-then-stopped-clause-goes_on g c =
    let p = g.P.Pages.state (pages_of c.args.self) in
    subst (GoesOn p) (sym (ap g.P.Pages.state c.into_pages.ensures)) (goes_here p)

pub returns-then-read_only-clause-goes_on : goal.returns-then-read_only-clause-goes_on
returns-then-read_only-clause-goes_on g c =
    let p = g.P.Pages.state (pages_of c.args.self) in
    subst (GoesOn p) (sym (ap g.P.Pages.state c.into_pages-then-read_only.ensures)) (goes_here p)

pub returns-then-not-close_all-clause-tree : goal.returns-then-not-close_all-clause-tree
returns-then-not-close_all-clause-tree g c goes z s is tree shown =
    subst (λ (q : PagesState). Shown z q tree ⊎ Shown z q (settled s.objects)) (sym (ap g.P.Pages.state c.into_pages-then-not-close_all.ensures)) (c.close_all.ensures.closes.tree z s is tree shown)

pub returns-then-not-close_all-clause-cause : goal.returns-then-not-close_all-clause-cause
returns-then-not-close_all-clause-cause g c goes z s is reported =
    subst (HasEnded (g.P.Pages.state (pages_of c.args.self))) (sym (ap g.P.Pages.state c.into_pages-then-not-close_all.ensures)) (c.close_all.ensures.closes.cause (not-false _ (sym c.if-not-close_all.ensures.stops)) z s is)

pub returns-clause-goes_on : goal.returns-clause-goes_on
returns-clause-goes_on g c =
    let state = g.P.Pages.state in
    let v = c.close_all.new.self in
    let before : state c.into_store-objects.result.pages ≡ state (pages_of v) = ap (λ o. state o.pages) c.into_store-objects.ensures in
    subst (GoesOn (state (pages_of c.args.self))) (sym (ap state c.into_pages-2.ensures))
    (goes_on (state (pages_of c.args.self)) (state (pages_of v)) (state c.commit.new.self.pages) c.close_all.ensures.closes.goes_on
    (subst (λ (p : PagesState). GoesOn p (state c.commit.new.self.pages)) before c.commit.ensures.lasts.0))

pub returns-clause-power : goal.returns-clause-power
returns-clause-power g c reported was =
    let state = g.P.Pages.state in
    let before : (state c.into_store-objects.result.pages).device.gone ≡ false = ap (λ o. (state o.pages).device.gone) c.into_store-objects.ensures ∙ ap (λ d. d.gone) c.close_all.ensures.closes.device ∙ was in
    elim c.match-commit.branch [
      | in-Ok w ↦ subst (λ (q : PagesState). q.device.gone ≡ false) (sym (ap state c.into_pages-2.ensures)) (not-true _ (w.in-Ok.ensures.power ∙ ap not before))
      | in-Err w ↦ let two : replies.Error errors.EIO ≡ replies.Done = sym w.reply-is ∙ reported in absurd cc
    ]

pub returns-clause-done : goal.returns-clause-done
returns-clause-done g c goes z s is reported =
    let state = g.P.Pages.state in
    let a = c.into_store-objects.result in
    let b = c.commit.new.self in
    let at = c.close_all.ensures.closes.represents (not-true _ (sym c.if-not-close_all.ensures.stops)) z s is in
    let has = has_of state z at.0 c.close_all.new.self a c.into_store-objects.ensures at.1 in
    elim c.match-commit.branch [
      | in-Ok w ↦ subst (λ (q : PagesState). Shown z q (settled s.objects)) (sym (ap state c.into_pages-2.ensures))
          (subst (λ (objects : Objects). Shown z (state b.pages) objects) at.2.settles
          (commit_done state z at.0.objects a b has c.commit.result _ w.in-Ok.is (c.commit.ensures.commits z at.0.objects has)))
      | in-Err w ↦ let two : replies.Error errors.EIO ≡ replies.Done = sym w.reply-is ∙ reported in absurd cc
    ]

pub returns-clause-exact : goal.returns-clause-exact
returns-clause-exact g c z s is reported =
    let state = g.P.Pages.state in
    let a = c.into_store-objects.result in
    let b = c.commit.new.self in
    let v = c.close_all.new.self in
    let goes : GoesOn (state (pages_of c.args.self)) (state b.pages) = goes_on (state (pages_of c.args.self)) (state (pages_of v)) (state b.pages) c.close_all.ensures.closes.goes_on
    (subst (λ (p : PagesState). GoesOn p (state b.pages)) (ap (λ o. state o.pages) c.into_store-objects.ensures) c.commit.ensures.lasts.0) in
    let at = c.close_all.ensures.closes.represents (not-true _ (sym c.if-not-close_all.ensures.stops)) z s is.1 in
    let has = has_of state z at.0 c.close_all.new.self a c.into_store-objects.ensures at.1 in
    elim c.match-commit.branch [
      | in-Ok w ↦ subst (λ (q : PagesState). KeepsOnly z q (settled s.objects)) (sym (ap state c.into_pages-2.ensures))
          (subst (λ (objects : Objects). KeepsOnly z (state b.pages) objects) at.2.settles
          (commit_exact state z at.0.objects a b has (all_named z at.0 at.1.sound.well_formed at.2.closed) c.commit.result _ w.in-Ok.is (c.commit.ensures.commits z at.0.objects has) (λ sound. g.met.P.PageStore.within_limit b.pages sound (goes.worn ∙ is.1.worn ∙ is.0))))
      | in-Err w ↦ let two : replies.Error errors.EIO ≡ replies.Done = sym w.reply-is ∙ reported in absurd cc
    ]

pub returns-clause-tree : goal.returns-clause-tree
returns-clause-tree g c goes z s is tree shown =
    let state = g.P.Pages.state in
    let a = c.into_store-objects.result in
    let b = c.commit.new.self in
    let v = c.close_all.new.self in
    let at = c.close_all.ensures.closes.represents (not-true _ (sym c.if-not-close_all.ensures.stops)) z s is in
    let has = has_of state z at.0 v a c.into_store-objects.ensures at.1 in
    let before : state a.pages ≡ state (pages_of v) = ap (λ o. state o.pages) c.into_store-objects.ensures in
    subst (λ (q : PagesState). Shown z q tree ⊎ Shown z q (settled s.objects)) (sym (ap state c.into_pages-2.ensures))
    (committed_tree state z s.objects at.0.objects a b has c.commit.result c.commit.ensures.memory (c.commit.ensures.commits z at.0.objects has) at.2.settles tree
    (subst (λ (q : PagesState). Shown z q tree ⊎ Shown z q (settled s.objects)) (sym before) (c.close_all.ensures.closes.tree z s is tree shown)))

pub returns-clause-cause : goal.returns-clause-cause
returns-clause-cause g c goes z s is reported =
    let state = g.P.Pages.state in
    let a = c.into_store-objects.result in
    let b = c.commit.new.self in
    let at = c.close_all.ensures.closes.represents (not-true _ (sym c.if-not-close_all.ensures.stops)) z s is in
    let has = has_of state z at.0 c.close_all.new.self a c.into_store-objects.ensures at.1 in
    elim c.match-commit.branch [
      | in-Ok w ↦ let two : replies.Done ≡ replies.Error errors.EIO = sym w.reply-is ∙ reported in absurd cc
      | in-Err w ↦ subst (HasEnded (state (pages_of c.args.self))) (sym (ap state c.into_pages-2.ensures))
          (ended_after (state (pages_of c.args.self)) (state a.pages) (state b.pages)
          (subst (λ (p : PagesState). (state (pages_of c.args.self)).commits ≤ p.commits) (sym (ap (λ o. state o.pages) c.into_store-objects.ensures)) c.close_all.ensures.closes.goes_on.commits)
          (commit_cause state z at.0.objects a b has c.commit.result _ w.in-Err.is c.commit.ensures.memory (c.commit.ensures.commits z at.0.objects has)))
    ]
