-- An error leaves the state.
use Rattle.std.specs.Prelude.{◌≡◌, ℕ, Bool, true, false, List, [], ◌∷◌, Option, Some, None, cond, ℤ, pos, negsuc}
use Rattle.std.proofs.Common.{refl}
use Rattle.volume_terms.specs.Sizes.{Sizes}
use Rattle.posix_profile.specs.State.{Object, File, Dir, Handle, State}
use Rattle.posix_profile.specs.Paths.{Place}
use Rattle.posix_profile.specs.Outcomes.{Outcome, answer, refuse}
use Rattle.posix_profile.specs.HandleSteps.{open_at, write_bytes, seek_to, truncate_to}
use Rattle.posix_profile.specs.NameSteps.{stat_of, mkdir_at, link_at, rename_to, list_of, is_object}
use Rattle.posix_profile.specs.laws.Outcome.{by_unless, by_place, by_handle, by_file, by_descriptor, by_object, by_change}
use Rattle.posix_profile.specs.Steps.{step_at}
use Rattle.posix_profile.specs.declared.command.Command.{Command}
use Rattle.posix_profile.specs.declared.command.Command.TheVariants as commands
use Rattle.posix_profile.specs.declared.command.OpenFlags.{OpenFlags}
use Rattle.posix_profile.specs.declared.reply.Errno.{Errno}
use Rattle.posix_profile.specs.declared.reply.Reply.{Reply}
use Rattle.posix_profile.specs.declared.reply.Reply.TheVariants as replies

-- where the reply is an error, the state is as it was
pub record KeepsOnError (s : State) (o : Outcome) : Type 0 where
  pub keeps : (error : Errno) → o.reply ≡ replies.Error error → o.state ≡ s

module _ (z : Sizes) (read_only : Bool) (moment : ℕ) (s : State) where
  abbrev P : Outcome → Type 0
  P = KeepsOnError s

  refused : (error : Errno) → P (refuse s error)
  refused error = record { keeps = λ e is. refl }

  done : (new : State) → P (answer new replies.Done)
  done new = record { keeps = λ e is. cc }

  fd_done : (new : State) (fd : ℕ) → P (answer new (replies.Fd fd))
  fd_done new fd = record { keeps = λ e is. cc }

  wrote : (new : State) (n : ℕ) → P (answer new (replies.Wrote n))
  wrote new n = record { keeps = λ e is. cc }

  at : (new : State) (n : ℕ) → P (answer new (replies.At n))
  at new n = record { keeps = λ e is. cc }

  reported : (reply : Reply) → P (answer s reply)
  reported reply = record { keeps = λ e is. refl }

  read : (new : State) (bytes : List ℕ) → P (answer new (replies.Data bytes))
  read new bytes = record { keeps = λ e is. cc }

  open_keeps : (flags : OpenFlags) (place : Place) (o : Option ℕ) → P (open_at z read_only moment s flags place o)
  open_keeps flags place (Some o) =
      by_unless P s refused _ _ (λ _. by_descriptor P s refused _ _ (λ fd _. by_unless P s refused _ _ (λ _. by_change P s refused z _ _ (λ _. fd_done _ _))))
  open_keeps flags place None =
      by_unless P s refused _ _ (λ _. by_descriptor P s refused _ _ (λ fd _. by_unless P s refused _ _ (λ _. by_change P s refused z _ _ (λ _. fd_done _ _))))

  write_keeps : (fd : ℕ) (handle : Handle) (new : List ℕ) → P (write_bytes z moment s fd handle new)
  write_keeps fd handle [] = reported _
  write_keeps fd handle (byte ∷ bytes) = by_file P s refused _ _ _ (λ _ there _. by_unless P s refused _ _ (λ _. wrote _ _))

  seek_keeps : (fd : ℕ) (handle : Handle) (offset : ℤ) → P (seek_to s fd handle offset)
  seek_keeps fd handle (pos n) = by_unless P s refused _ _ (λ _. at _ _)
  seek_keeps fd handle (negsuc n) = refused _

  truncate_keeps : (handle : Handle) (length : ℤ) → P (truncate_to z moment s handle length)
  truncate_keeps handle (pos n) = by_unless P s refused _ _ (λ _. by_file P s refused _ _ _ (λ _ there _. by_change P s refused z _ _ (λ _. done _)))
  truncate_keeps handle (negsuc n) = refused _

  stat_keeps : (o : ℕ) (object : Option Object) → P (stat_of s o object)
  stat_keeps o None = refused _
  stat_keeps o (Some object) = reported _

  mkdir_keeps : (place : Place) (o : Option ℕ) → P (mkdir_at z read_only moment s place o)
  mkdir_keeps place (Some o) = refused _
  mkdir_keeps place None = by_unless P s refused _ _ (λ _. by_change P s refused z _ _ (λ _. done _))

  link_keeps : (o : ℕ) (place : Place) (there : Option ℕ) → P (link_at z read_only moment s o place there)
  link_keeps o place (Some there) = refused _
  link_keeps o place None = by_unless P s refused _ _ (λ _. by_change P s refused z _ _ (λ _. done _))

  list_keeps : (object : Option Object) → P (list_of s object)
  list_keeps None = refused _
  list_keeps (Some (File m bytes)) = refused _
  list_keeps (Some (Dir m entries)) = reported _

  same_or : (b : Bool) (o : Outcome) → P o → P (cond b (answer s replies.Done) o)
  same_or true o h = done s
  same_or false o h = h

  rename_keeps : (from to : Place) (o : ℕ) → P (rename_to z read_only moment s from to o)
  rename_keeps from to o = same_or (is_object o to.object) _
      (by_unless P s refused _ _ (λ _. by_unless P s refused _ _ (λ _. by_unless P s refused _ _ (λ _. by_change P s refused z _ _ (λ _. done _)))))

  pub error_keeps : (command : Command) → KeepsOnError s (step_at z read_only s moment command)
  unfolding step_at
  error_keeps (commands.Open path flags) = by_unless P s refused _ _ (λ _. by_place P s refused _ _ (λ place _. open_keeps flags place place.object))
  error_keeps (commands.Close fd) = by_handle P s refused _ _ (λ handle _. done _)
  error_keeps (commands.Read fd count) = by_handle P s refused _ _ (λ handle _. by_unless P s refused _ _ (λ _. by_file P s refused _ _ _ (λ _ bytes _. read _ _)))
  error_keeps (commands.Write fd bytes) = by_handle P s refused _ _ (λ handle _. by_unless P s refused _ _ (λ _. write_keeps fd handle bytes))
  error_keeps (commands.Seek fd offset whence) = by_handle P s refused _ _ (λ handle _. by_file P s refused _ _ _ (λ _ bytes _. seek_keeps fd handle _))
  error_keeps (commands.Truncate fd length) = by_handle P s refused _ _ (λ handle _. by_unless P s refused _ _ (λ _. truncate_keeps handle length))
  error_keeps (commands.Fsync fd) = by_handle P s refused _ _ (λ handle _. done s)
  error_keeps commands.Sync = done s
  error_keeps (commands.Stat path) = by_place P s refused _ _ (λ place _. by_object P s refused _ _ (λ o _. stat_keeps o _))
  error_keeps (commands.Mkdir path) = by_place P s refused _ _ (λ place _. mkdir_keeps place place.object)
  error_keeps (commands.Rmdir path) = by_place P s refused _ _ (λ place _. by_unless P s refused _ _ (λ _. by_object P s refused _ _ (λ o _. by_unless P s refused _ _ (λ _. done _))))
  error_keeps (commands.Link old new) = by_place P s refused _ _ (λ from _. by_object P s refused _ _ (λ o _. by_unless P s refused _ _ (λ _. by_place P s refused _ _ (λ to _. link_keeps o to to.object))))
  error_keeps (commands.Unlink path) = by_place P s refused _ _ (λ place _. by_object P s refused _ _ (λ o _. by_unless P s refused _ _ (λ _. done _)))
  error_keeps (commands.Rename old new) = by_place P s refused _ _ (λ from _. by_place P s refused _ _ (λ to _. by_unless P s refused _ _ (λ _. by_object P s refused _ _ (λ o _. rename_keeps from to o))))
  error_keeps (commands.List path) = by_place P s refused _ _ (λ place _. by_object P s refused _ _ (λ o _. list_keeps _))
  error_keeps commands.Space = reported _
