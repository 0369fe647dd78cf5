-- A step itself answers neither ENOMEM nor EIO: these come only from below.
use Rattle.std.specs.Prelude.{◌≡◌, ℕ, Bool, true, false, ◌&&◌, List, [], ◌∷◌, Option, Some, None, Result, Ok, Err, cond, ℤ, pos, negsuc}
use Rattle.std.proofs.Common.{refl, sym, ◌∙◌, ap}
use Rattle.std.proofs.lemmas.Bool.{and_parts, false≢true}
use Rattle.std.specs.List.{list_all}
use Rattle.std.specs.FinMap as map
use Rattle.volume_terms.specs.Sizes.{Sizes}
use Rattle.posix_profile.specs.State.{Object, File, Dir, Objects, Handle, State, is_file}
use Rattle.posix_profile.specs.Charge.{fits}
use Rattle.posix_profile.specs.Paths.{Component, Place, first_error, path_tests, leads_to, arrive, pass, walk, walk_from_root, walk_unless, resolve, ends_in_slash}
use Rattle.posix_profile.specs.Outcomes.{Outcome, answer, refuse, refuse_or, unless, change_to, at_place}
use Rattle.posix_profile.specs.HandleSteps.{at_handle, at_file, at_descriptor, open_at, write_bytes, seek_to, truncate_to}
use Rattle.posix_profile.specs.NameSteps.{at_object, stat_of, mkdir_at, link_at, rename_tests_onto, is_object, rename_to, list_of}
use Rattle.posix_profile.specs.Steps.{step_at}
use Rattle.posix_profile.specs.Runs.{is_no_memory, is_stop}
use Rattle.posix_profile.specs.declared.command.Command.{Command}
use Rattle.posix_profile.specs.declared.command.Command.TheVariants as commands
use Rattle.posix_profile.specs.declared.command.OpenFlags.{OpenFlags}
use Rattle.posix_profile.specs.declared.reply.Errno.{Errno}
use Rattle.posix_profile.specs.declared.reply.Errno.TheVariants as errors
use Rattle.posix_profile.specs.declared.reply.Reply.{Reply}
use Rattle.posix_profile.specs.declared.reply.Reply.TheVariants as replies

-- an error of the profile's tests
abbrev pub is_own : Errno → Bool
is_own errors.ENOMEM = false
is_own errors.EIO = false
is_own error = true

-- neither want of memory nor a stop is answered
pub record AnswersItself (o : Outcome) : Type 0 where
  pub memory : is_no_memory o.reply ≡ false
  pub goes : is_stop o.reply ≡ false

-- all errors of the tests are the profile's
abbrev are_own : List (Bool × Errno) → Bool
are_own tests = list_all (λ test. is_own test.1) tests

first_own : (tests : List (Bool × Errno)) (error : Errno) → are_own tests ≡ true → first_error tests ≡ Some error → is_own error ≡ true
first_own [] error own is = absurd cc
first_own (test ∷ tests) error own is = go test.0 is (first_own tests error both.1)
  where
    both : (is_own test.1 ≡ true) × (are_own tests ≡ true)
    both = and_parts (is_own test.1) (are_own tests) own

    go : (b : Bool) → cond b (Some test.1) (first_error tests) ≡ Some error → (first_error tests ≡ Some error → is_own error ≡ true) → is_own error ≡ true
    go true e rest = let same : test.1 ≡ error = cc in ap is_own (sym same) ∙ both.0
    go false e rest = rest e

-- an error of a path is the profile's
abbrev OwnError : Result Place Errno → Type 0
OwnError (Ok place) = Unit {0}
OwnError (Err error) = is_own error ≡ true

arrive_own : (objects : Objects) (s : Bool) (d : ℕ) (c : Component) (found : Option ℕ) → OwnError (arrive objects s d c found)
arrive_own objects s d c None = tt
arrive_own objects s d c (Some o) = go (is_file (map.get objects o) && s)
  where
    go : (b : Bool) → OwnError (cond b (Err errors.ENOTDIR) (Ok (record { directory = d; last = Some c; object = Some o; slash_follows = s })))
    go true = refl
    go false = tt

pass_own : (objects : Objects) (found : Option ℕ) (on : ℕ → Result Place Errno) → ((o : ℕ) → OwnError (on o)) → OwnError (pass objects found on)
pass_own objects None on rest = refl
pass_own objects (Some o) on rest = go (is_file (map.get objects o))
  where
    go : (b : Bool) → OwnError (cond b (Err errors.ENOTDIR) (on o))
    go true = refl
    go false = rest o

walk_own : (objects : Objects) (s : Bool) (d : ℕ) (c : Component) (cs : List Component) → OwnError (walk objects s d c cs)
walk_own objects s d c [] = arrive_own objects s d c (leads_to objects d c)
walk_own objects s d c (next ∷ rest) = pass_own objects (leads_to objects d c) (λ o. walk objects s o next rest) (λ o. walk_own objects s o next rest)

root_own : (objects : Objects) (s : Bool) (cs : List Component) → OwnError (walk_from_root objects s cs)
root_own objects s [] = tt
root_own objects s (c ∷ cs) = walk_own objects s 1 c cs

unless_own : (objects : Objects) (path : List ℕ) (e : Option Errno) → first_error (path_tests path) ≡ e → OwnError (walk_unless objects path e)
unless_own objects path (Some error) is = first_own (path_tests path) error refl is
unless_own objects path None is = root_own objects (ends_in_slash path) _

resolve_own : (objects : Objects) (path : List ℕ) → OwnError (resolve objects path)
unfolding resolve
resolve_own objects path = unless_own objects path (first_error (path_tests path)) refl

module _ (s : State) where
  refuse_own : (error : Errno) → is_own error ≡ true → AnswersItself (refuse s error)
  refuse_own errors.ENOMEM own = absurd (false≢true own)
  refuse_own errors.EIO own = absurd (false≢true own)
  refuse_own error own = record { memory = refl; goes = refl }

  own_first : (e : Option Errno) (o : Outcome) → ((error : Errno) → e ≡ Some error → is_own error ≡ true) → AnswersItself o → AnswersItself (refuse_or s e o)
  own_first None o own rest = rest
  own_first (Some error) o own rest = refuse_own error (own error refl)

  own_unless : (tests : List (Bool × Errno)) (o : Outcome) → are_own tests ≡ true → AnswersItself o → AnswersItself (unless s tests o)
  unfolding unless
  own_unless tests o own rest = own_first (first_error tests) o (λ error is. first_own tests error own is) rest

  own_place : (r : Result Place Errno) (act : Place → Outcome) → OwnError r → ((place : Place) → AnswersItself (act place)) → AnswersItself (at_place s r act)
  unfolding at_place
  own_place (Ok place) act own rest = rest place
  own_place (Err error) act own rest = refuse_own error own

  own_handle : (h : Option Handle) (act : Handle → Outcome) → ((handle : Handle) → AnswersItself (act handle)) → AnswersItself (at_handle s h act)
  unfolding at_handle
  own_handle None act rest = record { memory = refl; goes = refl }
  own_handle (Some handle) act rest = rest handle

  own_file : (x : Option Object) (error : Errno) (act : List ℕ → Outcome) → is_own error ≡ true → ((bytes : List ℕ) → AnswersItself (act bytes)) → AnswersItself (at_file s x error act)
  unfolding at_file
  own_file None error act own rest = record { memory = refl; goes = refl }
  own_file (Some (File moment bytes)) error act own rest = rest bytes
  own_file (Some (Dir moment entries)) error act own rest = refuse_own error own

  own_descriptor : (fd : Option ℕ) (act : ℕ → Outcome) → ((n : ℕ) → AnswersItself (act n)) → AnswersItself (at_descriptor s fd act)
  unfolding at_descriptor
  own_descriptor None act rest = record { memory = refl; goes = refl }
  own_descriptor (Some n) act rest = rest n

  own_object : (o : Option ℕ) (act : ℕ → Outcome) → ((n : ℕ) → AnswersItself (act n)) → AnswersItself (at_object s o act)
  unfolding at_object
  own_object None act rest = record { memory = refl; goes = refl }
  own_object (Some n) act rest = rest n

  own_room : (b : Bool) (new : State) (reply : Reply) → AnswersItself (answer new reply) → AnswersItself (cond b (answer new reply) (refuse s errors.ENOSPC))
  own_room true new reply rest = rest
  own_room false new reply rest = record { memory = refl; goes = refl }

  own_change : (z : Sizes) (new : State) (reply : Reply) → AnswersItself (answer new reply) → AnswersItself (change_to z s new reply)
  unfolding change_to
  own_change z new reply rest = own_room (fits z new.objects) new reply rest

  module _ (z : Sizes) (read_only : Bool) (moment : ℕ) where
    done : (new : State) → AnswersItself (answer new replies.Done)
    done new = record { memory = refl; goes = refl }

    open_own : (flags : OpenFlags) (place : Place) (o : Option ℕ) → AnswersItself (open_at z read_only moment s flags place o)
    open_own flags place (Some o) = own_unless _ _ refl (own_descriptor _ _ (λ fd. own_unless _ _ refl (own_change z _ _ (record { memory = refl; goes = refl }))))
    open_own flags place None = own_unless _ _ refl (own_descriptor _ _ (λ fd. own_unless _ _ refl (own_change z _ _ (record { memory = refl; goes = refl }))))

    write_own : (fd : ℕ) (handle : Handle) (new : List ℕ) → AnswersItself (write_bytes z moment s fd handle new)
    write_own fd handle [] = record { memory = refl; goes = refl }
    write_own fd handle (byte ∷ bytes) = own_file _ _ _ refl (λ there. own_unless _ _ refl (record { memory = refl; goes = refl }))

    seek_own : (fd : ℕ) (handle : Handle) (offset : ℤ) → AnswersItself (seek_to s fd handle offset)
    seek_own fd handle (pos n) = own_unless _ _ refl (record { memory = refl; goes = refl })
    seek_own fd handle (negsuc n) = record { memory = refl; goes = refl }

    truncate_own : (handle : Handle) (length : ℤ) → AnswersItself (truncate_to z moment s handle length)
    truncate_own handle (pos n) = own_unless _ _ refl (own_file _ _ _ refl (λ there. own_change z _ _ (done _)))
    truncate_own handle (negsuc n) = record { memory = refl; goes = refl }

    stat_own : (o : ℕ) (object : Option Object) → AnswersItself (stat_of s o object)
    stat_own o None = record { memory = refl; goes = refl }
    stat_own o (Some object) = record { memory = refl; goes = refl }

    mkdir_own : (place : Place) (o : Option ℕ) → AnswersItself (mkdir_at z read_only moment s place o)
    mkdir_own place (Some o) = record { memory = refl; goes = refl }
    mkdir_own place None = own_unless _ _ refl (own_change z _ _ (done _))

    link_own : (o : ℕ) (place : Place) (there : Option ℕ) → AnswersItself (link_at z read_only moment s o place there)
    link_own o place (Some there) = record { memory = refl; goes = refl }
    link_own o place None = own_unless _ _ refl (own_change z _ _ (done _))

    list_own : (object : Option Object) → AnswersItself (list_of s object)
    list_own None = record { memory = refl; goes = refl }
    list_own (Some (File m bytes)) = record { memory = refl; goes = refl }
    list_own (Some (Dir m entries)) = record { memory = refl; goes = refl }

    same_or : (b : Bool) (o : Outcome) → AnswersItself o → AnswersItself (cond b (answer s replies.Done) o)
    same_or true o rest = done s
    same_or false o rest = rest

    onto_own : (o : ℕ) (to : Place) (there : Option ℕ) → are_own (rename_tests_onto s o to there) ≡ true
    onto_own o to None = refl
    onto_own o to (Some there) = refl

    rename_own : (from to : Place) (o : ℕ) → AnswersItself (rename_to z read_only moment s from to o)
    rename_own from to o = same_or (is_object o to.object) _
        (own_unless _ _ refl (own_unless _ _ (onto_own o to to.object) (own_unless _ _ refl (own_change z _ _ (done _)))))

    pub command_own : (command : Command) → AnswersItself (step_at z read_only s moment command)
    unfolding step_at
    command_own (commands.Open path flags) = own_unless _ _ refl (own_place _ _ (resolve_own s.objects path) (λ place. open_own flags place place.object))
    command_own (commands.Close fd) = own_handle _ _ (λ handle. done _)
    command_own (commands.Read fd count) = own_handle _ _ (λ handle. own_unless _ _ refl (own_file _ _ _ refl (λ bytes. record { memory = refl; goes = refl })))
    command_own (commands.Write fd bytes) = own_handle _ _ (λ handle. own_unless _ _ refl (write_own fd handle bytes))
    command_own (commands.Seek fd offset whence) = own_handle _ _ (λ handle. own_file _ _ _ refl (λ bytes. seek_own fd handle _))
    command_own (commands.Truncate fd length) = own_handle _ _ (λ handle. own_unless _ _ refl (truncate_own handle length))
    command_own (commands.Fsync fd) = own_handle _ _ (λ handle. done s)
    command_own commands.Sync = done s
    command_own (commands.Stat path) = own_place _ _ (resolve_own s.objects path) (λ place. own_object _ _ (λ o. stat_own o _))
    command_own (commands.Mkdir path) = own_place _ _ (resolve_own s.objects path) (λ place. mkdir_own place place.object)
    command_own (commands.Rmdir path) = own_place _ _ (resolve_own s.objects path) (λ place. own_unless _ _ refl (own_object _ _ (λ o. own_unless _ _ refl (done _))))
    command_own (commands.Link old new) = own_place _ _ (resolve_own s.objects old) (λ from. own_object _ _ (λ o. own_unless _ _ refl (own_place _ _ (resolve_own s.objects new) (λ to. link_own o to to.object))))
    command_own (commands.Unlink path) = own_place _ _ (resolve_own s.objects path) (λ place. own_object _ _ (λ o. own_unless _ _ refl (done _)))
    command_own (commands.Rename old new) = own_place _ _ (resolve_own s.objects old) (λ from. own_place _ _ (resolve_own s.objects new) (λ to. own_unless _ _ refl (own_object _ _ (λ o. rename_own from to o))))
    command_own (commands.List path) = own_place _ _ (resolve_own s.objects path) (λ place. own_object _ _ (λ o. list_own _))
    command_own commands.Space = record { memory = refl; goes = refl }
