-- What follows of lives.
use Rattle.std.specs.Prelude.{◌≡◌, [], ◌∷◌, ◌++◌}
use Rattle.std.proofs.Common.{refl, sym, ap, subst, ◌∙◌}
use Rattle.std.proofs.lemmas.List.Elements.{All-head, All-tail}
use Rattle.volume_terms.specs.Sizes.{Sizes, IsSizes}
use Rattle.posix_profile.specs.State.{Objects}
use Rattle.posix_profile.specs.laws.Prune.{prune_same, tree_well_formed, well_formed_tree}
use Rattle.posix_profile.specs.laws.Sound.{IsSound}
use Rattle.posix_profile.specs.laws.Step.{AreStamped}
use Rattle.lives.specs.LawTerms.{StaysShown, AreStampedSessions, CanBegin, AreInTurn, AreSoundlyInTurn, IsInLife, RepliesAsSteps, AreNotMounted, Followed, sessions_of, AreNextMounts, ShowsPrefix}
use Rattle.lives.specs.Lives.{Mounted, Faulty, SessionRecord, Sessions, at_mount, KeepsPrefix, IsLife}
use Rattle.lives.specs.PlainLives.{IsUndisturbed}
use Rattle.lives.specs.laws.Sessions.{no_fault, serves_mounted, stays_unmounted, undisturbed_replies, session_sound}

-- lives in turn are a life
pub life_append : (z : Sizes) (first between last : Objects) (xs ys : Sessions) → IsLife z first xs between → IsLife z between ys last → IsLife z first (xs ++ ys) last
life_append z first between last [] ys one two = subst (λ (t : Objects). IsLife z t ys last) one two
life_append z first between last (x ∷ xs) ys one two = (one.0, one.1, life_append z one.0 between last xs ys one.2 two)

-- a life has a tree wherever it is divided
pub life_split : (z : Sizes) (first last : Objects) (xs ys : Sessions) → IsLife z first (xs ++ ys) last → (between : Objects) × IsLife z first xs between × IsLife z between ys last
life_split z first last [] ys is = (first, refl, is)
life_split z first last (x ∷ xs) ys is = let rest = life_split z is.0 last xs ys is.2 in (rest.0, (is.0, is.1, rest.1), rest.2)

-- lives in turn as they are recorded, and the same apart
pub turn_life : (z : Sizes) (first last : Objects) (xs ys : Sessions) → AreInTurn z first xs ys last → IsLife z first (xs ++ ys) last
turn_life z first last xs ys turn = life_append z first turn.between last xs ys turn.before turn.after

pub life_turn : (z : Sizes) (first last : Objects) (xs ys : Sessions) → IsLife z first (xs ++ ys) last → AreInTurn z first xs ys last
life_turn z first last xs ys is = let at = life_split z first last xs ys is in record { between = at.0; before = at.1; after = at.2 }

-- no mount in a life finds a fault
pub life_no_fault : (z : Sizes) (first last : Objects) (x : SessionRecord) → IsInLife z first x last → x.mounted ≡ Faulty → ⊥
life_no_fault z first last x place fault = let at = life_split z first last place.earlier (x ∷ place.later) place.life in no_fault z at.0 x at.2.0 at.2.1 fault

-- mounts that fail leave the tree
pub failed_leave : (z : Sizes) (first last : Objects) (xs : Sessions) → IsLife z first xs last → AreNotMounted xs → last ≡ first
failed_leave z first last [] is failed = is
failed_leave z first last (x ∷ xs) is failed =
    let not : SessionRecord → Type 0 = λ (v : SessionRecord). v.mounted ≡ Mounted → ⊥ in
    failed_leave z is.0 last xs is.2 (All-tail not x xs failed) ∙ stays_unmounted z first x is.0 is.1 (All-head not x xs failed)

-- the tree after a life is sound where the first one is
pub life_sound : (z : Sizes) (first last : Objects) (xs : Sessions) → IsSizes z → AreStampedSessions xs → IsLife z first xs last → IsSound z (at_mount first) → IsSound z (at_mount last)
life_sound z first last [] sizes stamped is sound = subst (λ (t : Objects). IsSound z (at_mount t)) (sym is) sound
life_sound z first last (x ∷ xs) sizes stamped is sound =
    let are : SessionRecord → Type 0 = λ (v : SessionRecord). AreStamped v.commands in
    life_sound z is.0 last xs sizes (All-tail are x xs stamped) is.2 (session_sound z first x is.0 sizes (All-head are x xs stamped) is.1 sound)

-- the same of trees that fit
pub life_tree : (z : Sizes) (first last : Objects) (xs : Sessions) → CanBegin z first xs → IsLife z first xs last → StaysShown z last
life_tree z first last xs begin is =
    let sound = life_sound z first last xs begin.sizes begin.stamped is (record { well_formed = tree_well_formed z first begin.tree.is_tree; fit = begin.tree.fit }) in
    record {
      fitting = record { is_tree = well_formed_tree z last sound.well_formed; fit = sound.fit };
      again = ap (λ s. s.objects) (prune_same z (at_mount last) sound.well_formed);
    }

-- and so is each tree between
pub life_trees : (z : Sizes) (first last : Objects) (xs ys : Sessions) → CanBegin z first xs → IsLife z first (xs ++ ys) last → AreSoundlyInTurn z first xs ys last
life_trees z first last xs ys begin is =
    let turn = life_turn z first last xs ys is in
    record { turn = turn; shown = life_tree z first turn.between xs begin turn.before }

-- a session of a life that was mounted, without a cut or want of memory, has the replies of the steps
pub life_replies : (z : Sizes) (first last : Objects) (x : SessionRecord) (place : IsInLife z first x last) → IsUndisturbed x → RepliesAsSteps place
life_replies z first last x place calm =
    let at = life_split z first last place.earlier (x ∷ place.later) place.life in
    record { before = at.0; life = at.1; steps = undisturbed_replies z at.0 x at.2.0 at.2.1 calm }

-- Between two sessions that were mounted, with none between them: the later one begins with the tree of some commands of the earlier one.
pub next_mount : (z : Sizes) (first last : Objects) (f : Followed) → IsLife z first (sessions_of f) last → AreNextMounts f → ShowsPrefix z first f
next_mount z first last f is mounts =
    let x = f.session in
    let failed = f.failed in
    let next = f.next in
    let at = life_split z first last f.earlier (x ∷ (failed ++ next ∷ f.later)) is in
    let then' = life_split z at.2.0 last failed (next ∷ f.later) at.2.2 in
    let same : then'.0 ≡ at.2.0 = failed_leave z at.2.0 then'.0 failed then'.1 mounts.failed in
    record {
      before = at.0;
      after = then'.0;
      life = at.1;
      keeps = subst (λ (t : Objects). KeepsPrefix z at.0 x t) (sym same) (serves_mounted z at.0 x at.2.0 at.2.1 mounts.session).keeps;
      replies = (serves_mounted z then'.0 next then'.2.0 then'.2.1 mounts.next).run;
    }
