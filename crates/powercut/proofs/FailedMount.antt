-- A mount that fails leaves the device, and reports no fault of a sound flash.
use Rattle.std.specs.Prelude.{◌≡◌, ℕ, true, false, Bool, List, [], ◌∷◌, length, Some, None, Err}
use Rattle.std.proofs.Common.{refl, sym, ◌∙◌, subst, inl, inr}
use Rattle.volume_terms.specs.Sizes.{Sizes}
use Rattle.nand_model.specs.Flash.{Flash}
use Rattle.nand_model.specs.Calls.{Device}
use Rattle.nand_model.specs.Changes.{OnlyReads}
use Rattle.nand_model.specs.declared.geometry.Geometry.{Geometry}
use Rattle.posix_profile.specs.State.{Objects}
use Rattle.posix_profile.specs.declared.command.Stamped.{Stamped}
use Rattle.posix_profile.specs.declared.reply.Errno.TheVariants as errors
use Rattle.posix_profile.specs.declared.reply.Reply.{Reply}
use Rattle.posix_profile.specs.declared.reply.Reply.TheVariants as replies
use Rattle.flash_tree.specs.Mount.{Answer, Answers, NotAVolume, IsWrong, IsTreeOf, IsNewer, IsDamaged, sizes_of}
use Rattle.flash_tree.specs.Sound.{IsSoundFlash}
use Rattle.lives.specs.Lives.{MountAnswer, NoMemory, Gone, SessionRecord, IsSessionFrom}
use Rattle.mounting.specs.Faults.{WhyNotMounted}
use Rattle.mounting.specs.declared.fault.MountFault.{MountFault}
use Rattle.mounting.specs.declared.fault.MountFault.TheVariants as faults
use Rattle.powercut.specs.Sessions.{answer_of}
use Rattle.powercut.specs.Living.{HasSame, HasLived}
use Rattle.powercut.specs.laws.SameFlash.{sound_same}
use Rattle.powercut.proofs.Living.{lived_still}

-- what is recorded of a session whose mount failed
abbrev pub failed_record : List Stamped → MountAnswer → Bool → SessionRecord
failed_record commands answer cut = record {
  mounted = answer;
  commands = commands;
  begun = 0;
  replies = [];
  unmounted = None;
  cut = cut;
}

module _ (z : Sizes) (tree : Objects) (commands : List Stamped) (cut : Bool) where
  no_memory : IsSessionFrom z tree (failed_record commands NoMemory cut) tree
  no_memory = record {
    ends = inl (record { mounted = inl refl; begun = refl; replies = refl; unmounted = refl; tree = refl });
    cuts = record {
      mount = λ is. let two : NoMemory ≡ Gone = is in absurd cc;
      commands = λ is. let two : false ≡ true = is in absurd cc;
      unmount = λ is. let two : None ≡ Some (replies.Error errors.EIO) = is in absurd cc;
    };
  }

  gone_in_it : cut ≡ true → IsSessionFrom z tree (failed_record commands Gone cut) tree
  gone_in_it lost = record {
    ends = inl (record { mounted = inr refl; begun = refl; replies = refl; unmounted = refl; tree = refl });
    cuts = record {
      mount = λ is. lost;
      commands = λ is. let two : false ≡ true = is in absurd cc;
      unmount = λ is. let two : None ≡ Some (replies.Error errors.EIO) = is in absurd cc;
    };
  }

module _ (one : (g : Geometry) (flash : Flash) (a b : Answer) → Answers g flash a → Answers g flash b → a ≡ b) (d e : Device) (commands : List Stamped) (honest : d.honest ≡ true) (reads : OnlyReads d e) where
  module _ (spare : ℕ) (tree : Objects) (sound : IsSoundFlash e.geometry e.flash spare tree) where
    -- a sound flash has no other answer than its tree
    no_other : (a : Answer) → Answers e.geometry e.flash a → a ≡ IsTreeOf spare tree
    no_other a answers = one e.geometry e.flash a (IsTreeOf spare tree) answers (sound.volume, sound.shows, sound.room)

    session_failed : (fault : MountFault) → WhyNotMounted e fault → (z : Sizes) → IsSessionFrom z tree (failed_record commands (answer_of (Err fault)) e.gone) tree
    session_failed faults.Gone why z = gone_in_it z tree commands e.gone why
    session_failed faults.NoMemory why z = no_memory z tree commands e.gone
    session_failed faults.NotAVolume why z = let two : NotAVolume ≡ IsTreeOf spare tree = no_other NotAVolume (why.1 (reads.lasts.honest ∙ honest)) in absurd cc
    session_failed (faults.Newer format) why z = let two : IsWrong (IsNewer format) ≡ IsTreeOf spare tree = no_other (IsWrong (IsNewer format)) (why.1 (reads.lasts.honest ∙ honest)) in absurd cc
    session_failed faults.Damaged why z = let two : IsWrong IsDamaged ≡ IsTreeOf spare tree = no_other (IsWrong IsDamaged) (why.1 (reads.lasts.honest ∙ honest)) in absurd cc

  pub failed_lived : (fault : MountFault) → WhyNotMounted e fault → HasLived d e (failed_record commands (answer_of (Err fault)) e.gone ∷ [])
  failed_lived fault why =
      let same : HasSame d.flash e.flash = record { page = reads.page honest; bad = reads.bad } in
      let still = lived_still d e reads.lasts.geometry reads.changes reads.failures same in
      record {
        geometry = still.geometry;
        changes = still.changes;
        marks = still.marks;
        answered = still.answered;
        truly = λ truth. record {
          truth = (still.truly truth).truth;
          numbers = (still.truly truth).numbers;
          known = (still.truly truth).known;
          life = λ spare tree sound within.
              let there = subst (λ (g : Geometry). IsSoundFlash g e.flash spare tree) (sym reads.lasts.geometry) (sound_same d.geometry d.flash e.flash same spare tree sound) in
              (tree, (tree, session_failed spare tree there fault why (sizes_of d.geometry spare), refl), there);
        };
      }

-- where nothing was replied that is what is recorded
pub of_no_replies : (d e : Device) (commands : List Stamped) (answer : MountAnswer) (cut : Bool) (reported : List Reply) → reported ≡ [] → HasLived d e (failed_record commands answer cut ∷ [])
    → HasLived d e (record { mounted = answer; commands = commands; begun = length reported; replies = reported; unmounted = None; cut = cut } ∷ [])
of_no_replies d e commands answer cut reported none lived =
    subst (λ (rs : List Reply). HasLived d e (record { mounted = answer; commands = commands; begun = length rs; replies = rs; unmounted = None; cut = cut } ∷ [])) (sym none) lived
