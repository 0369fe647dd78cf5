-- An object that a step makes or changes has the command's moment.
use Rattle.std.specs.Prelude.{◌≡◌, ◌⊎◌, ℕ, Bool, true, false, List, [], ◌∷◌, Option, Some, None, cond, ℤ, pos, negsuc}
use Rattle.std.proofs.Common.{refl, ◌∙◌, ap, inl, inr}
use Rattle.std.specs.Cmp.{nat_cmp_total}
use Rattle.std.specs.FinMap as map
use Rattle.volume_terms.specs.Sizes.{Sizes}
use Rattle.posix_profile.specs.State.{Object, File, Dir, Objects, Handle, State, moment_of}
use Rattle.posix_profile.specs.Names.{prune}
use Rattle.posix_profile.specs.Outcomes.{Outcome, answer, refuse}
use Rattle.posix_profile.specs.Paths.{Place}
use Rattle.posix_profile.specs.HandleSteps.{open_at, write_bytes, seek_to, truncate_to}
use Rattle.posix_profile.specs.NameSteps.{stat_of, mkdir_at, link_at, is_object, rename_to, list_of}
use Rattle.posix_profile.specs.Steps.{step_at}
use Rattle.posix_profile.specs.laws.Map.{insert_cases, retain_cases}
use Rattle.posix_profile.specs.laws.Outcome.{by_unless, by_place, by_handle, by_file, by_descriptor, by_object, by_change}
use Rattle.posix_profile.specs.declared.command.Command.{Command}
use Rattle.posix_profile.specs.declared.command.Command.TheVariants as commands
use Rattle.posix_profile.specs.declared.command.OpenFlags.{OpenFlags}
use Rattle.posix_profile.specs.declared.reply.Errno.{Errno}
use Rattle.posix_profile.specs.declared.reply.Reply.{Reply}
use Rattle.posix_profile.specs.declared.reply.Reply.TheVariants as replies

-- each object is one of the old ones as it was, or has the moment
pub record AreStampedAt (moment : ℕ) (old new : Objects) : Type 0 where
  pub each : (o : ℕ) (object : Object) → map.get new o ≡ Some object → (map.get old o ≡ Some object) ⊎ (moment_of object ≡ moment)

-- the outcome's objects are such
pub record StampsChanges (moment : ℕ) (s : State) (o : Outcome) : Type 0 where
  pub stamped : AreStampedAt moment s.objects o.state.objects

module _ (moment : ℕ) (s : State) where
  abbrev Stamped : Objects → Type 0
  Stamped = AreStampedAt moment s.objects

  as_before : Stamped s.objects
  as_before = record { each = λ o object is. inl is }

  put : (objects : Objects) (k : ℕ) (v : Object) → moment_of v ≡ moment → Stamped objects → Stamped (map.insert objects k v)
  put objects k v is before = record {
    each = λ o object get. elim (insert_cases nat_cmp_total map.nat_cmp-IsAntisymmetric objects k v o object get) [
      | inl here ↦ inr (ap moment_of here.1 ∙ is)
      | inr there ↦ before.each o object there.1
    ];
  }

  pruned : (t : State) → Stamped t.objects → Stamped (prune t).objects
  pruned t before = record { each = λ o object get. before.each o object (retain_cases nat_cmp_total map.nat_cmp-IsAntisymmetric t.objects _ o object get).1 }

  abbrev P : Outcome → Type 0
  P = StampsChanges moment s

  refused : (error : Errno) → P (refuse s error)
  refused error = record { stamped = as_before }

  same : (reply : Reply) → P (answer s reply)
  same reply = record { stamped = as_before }

  cut : (b : Bool) (o : ℕ) → Stamped (cond b (map.insert s.objects o (File moment [])) s.objects)
  cut true o = put s.objects o (File moment []) refl as_before
  cut false o = as_before

  module _ (z : Sizes) (read_only : Bool) where
    open_stamps : (flags : OpenFlags) (place : Place) (o : Option ℕ) → P (open_at z read_only moment s flags place o)
    open_stamps flags place (Some o) = by_unless P s refused _ _ (λ _. by_descriptor P s refused _ _ (λ fd _. by_unless P s refused _ _ (λ _. by_change P s refused z _ _ (λ _.
        record { stamped = cut flags.trunc o }))))
    open_stamps flags place None = by_unless P s refused _ _ (λ _. by_descriptor P s refused _ _ (λ fd _. by_unless P s refused _ _ (λ _. by_change P s refused z _ _ (λ _.
        record { stamped = put _ _ _ refl (put s.objects _ _ refl as_before) }))))

    write_stamps : (fd : ℕ) (handle : Handle) (new : List ℕ) → P (write_bytes z moment s fd handle new)
    write_stamps fd handle [] = same _
    write_stamps fd handle (byte ∷ bytes) = by_file P s refused _ _ _ (λ _ there _. by_unless P s refused _ _ (λ _. record { stamped = put s.objects _ _ refl as_before }))

    seek_stamps : (fd : ℕ) (handle : Handle) (offset : ℤ) → P (seek_to s fd handle offset)
    seek_stamps fd handle (pos n) = by_unless P s refused _ _ (λ _. record { stamped = as_before })
    seek_stamps fd handle (negsuc n) = refused _

    truncate_stamps : (handle : Handle) (length : ℤ) → P (truncate_to z moment s handle length)
    truncate_stamps handle (pos n) = by_unless P s refused _ _ (λ _. by_file P s refused _ _ _ (λ _ there _. by_change P s refused z _ _ (λ _. record { stamped = put s.objects _ _ refl as_before })))
    truncate_stamps handle (negsuc n) = refused _

    stat_stamps : (o : ℕ) (object : Option Object) → P (stat_of s o object)
    stat_stamps o None = refused _
    stat_stamps o (Some object) = same _

    mkdir_stamps : (place : Place) (o : Option ℕ) → P (mkdir_at z read_only moment s place o)
    mkdir_stamps place (Some o) = refused _
    mkdir_stamps place None = by_unless P s refused _ _ (λ _. by_change P s refused z _ _ (λ _. record { stamped = put _ _ _ refl (put s.objects _ _ refl as_before) }))

    link_stamps : (o : ℕ) (place : Place) (there : Option ℕ) → P (link_at z read_only moment s o place there)
    link_stamps o place (Some there) = refused _
    link_stamps o place None = by_unless P s refused _ _ (λ _. by_change P s refused z _ _ (λ _. record { stamped = put s.objects _ _ refl as_before }))

    list_stamps : (object : Option Object) → P (list_of s object)
    list_stamps None = refused _
    list_stamps (Some (File m bytes)) = refused _
    list_stamps (Some (Dir m entries)) = same _

    same_or : (b : Bool) (o : Outcome) → P o → P (cond b (answer s replies.Done) o)
    same_or true o h = same _
    same_or false o h = h

    rename_stamps : (from to : Place) (o : ℕ) → P (rename_to z read_only moment s from to o)
    rename_stamps from to o = same_or (is_object o to.object) _
        (by_unless P s refused _ _ (λ _. by_unless P s refused _ _ (λ _. by_unless P s refused _ _ (λ _. by_change P s refused z _ _ (λ _.
        record { stamped = pruned _ (put _ _ _ refl (put s.objects _ _ refl as_before)) })))))

    pub command_stamps : (command : Command) → StampsChanges moment s (step_at z read_only s moment command)
    unfolding step_at
    command_stamps (commands.Open path flags) = by_unless P s refused _ _ (λ _. by_place P s refused _ _ (λ place _. open_stamps flags place place.object))
    command_stamps (commands.Close fd) = by_handle P s refused _ _ (λ handle _. record { stamped = pruned _ as_before })
    command_stamps (commands.Read fd count) = by_handle P s refused _ _ (λ handle _. by_unless P s refused _ _ (λ _. by_file P s refused _ _ _ (λ m bytes is. record { stamped = as_before })))
    command_stamps (commands.Write fd bytes) = by_handle P s refused _ _ (λ handle _. by_unless P s refused _ _ (λ _. write_stamps fd handle bytes))
    command_stamps (commands.Seek fd offset whence) = by_handle P s refused _ _ (λ handle _. by_file P s refused _ _ _ (λ _ bytes _. seek_stamps fd handle _))
    command_stamps (commands.Truncate fd length) = by_handle P s refused _ _ (λ handle _. by_unless P s refused _ _ (λ _. truncate_stamps handle length))
    command_stamps (commands.Fsync fd) = by_handle P s refused _ _ (λ handle _. same _)
    command_stamps commands.Sync = same _
    command_stamps (commands.Stat path) = by_place P s refused _ _ (λ place _. by_object P s refused _ _ (λ o _. stat_stamps o _))
    command_stamps (commands.Mkdir path) = by_place P s refused _ _ (λ place _. mkdir_stamps place place.object)
    command_stamps (commands.Rmdir path) = by_place P s refused _ _ (λ place _. by_unless P s refused _ _ (λ _. by_object P s refused _ _ (λ o _. by_unless P s refused _ _ (λ _.
        record { stamped = pruned _ (put s.objects _ _ refl as_before) }))))
    command_stamps (commands.Link old new) = by_place P s refused _ _ (λ from _. by_object P s refused _ _ (λ o _. by_unless P s refused _ _ (λ _. by_place P s refused _ _ (λ to _. link_stamps o to to.object))))
    command_stamps (commands.Unlink path) = by_place P s refused _ _ (λ place _. by_object P s refused _ _ (λ o _. by_unless P s refused _ _ (λ _.
        record { stamped = pruned _ (put s.objects _ _ refl as_before) })))
    command_stamps (commands.Rename old new) = by_place P s refused _ _ (λ from _. by_place P s refused _ _ (λ to _. by_unless P s refused _ _ (λ _. by_object P s refused _ _ (λ o _. rename_stamps from to o))))
    command_stamps (commands.List path) = by_place P s refused _ _ (λ place _. by_object P s refused _ _ (λ o _. list_stamps _))
    command_stamps commands.Space = same _
