-- States that a volume can have and that fit, and the bytes of files.
use Rattle.std.specs.Prelude.{◌≡◌, ◌<◌, ◌≤◌, ◌^◌, ℕ, ◌+◌, ◌-◌, true, List, ◌++◌, length, take, drop, replicate}
use Rattle.std.proofs.Common.{arith}
use Rattle.std.proofs.lemmas.List.{length-take, length-drop, length-replicate, length-append}
use Rattle.std.proofs.lemmas.List.Elements.{All-take, All-drop, All-append, All-replicate}
use Rattle.volume_terms.specs.Sizes.{Sizes}
use Rattle.posix_profile.specs.State.{State}
use Rattle.posix_profile.specs.Charge.{fits}
use Rattle.posix_profile.specs.Outcomes.{Outcome, refuse}
use Rattle.posix_profile.specs.Changes.{written, resized}
use Rattle.posix_profile.specs.WellFormed.{IsWellFormed}
use Rattle.volume_terms.specs.Names.{AreBytes}
use Rattle.posix_profile.specs.declared.command.Command.{Command}
use Rattle.posix_profile.specs.declared.command.Command.TheVariants as commands
use Rattle.posix_profile.specs.declared.command.Stamped.{Stamped}
use Rattle.posix_profile.specs.declared.reply.Errno.{Errno}

-- a state that a volume can have, and that fits
pub record IsSound (z : Sizes) (s : State) : Type 0 where
  pub well_formed : IsWellFormed z s
  pub fit : fits z s.objects ≡ true

-- the paths and the data of a command are bytes
abbrev pub HasBytes : Command → Type 0
HasBytes (commands.Open path flags) = AreBytes path
HasBytes (commands.Close fd) = Unit {0}
HasBytes (commands.Read fd count) = Unit {0}
HasBytes (commands.Write fd bytes) = AreBytes bytes
HasBytes (commands.Seek fd offset whence) = Unit {0}
HasBytes (commands.Truncate fd length) = Unit {0}
HasBytes (commands.Fsync fd) = Unit {0}
HasBytes commands.Sync = Unit {0}
HasBytes (commands.Stat path) = AreBytes path
HasBytes (commands.Mkdir path) = AreBytes path
HasBytes (commands.Rmdir path) = AreBytes path
HasBytes (commands.Link old new) = AreBytes old × AreBytes new
HasBytes (commands.Unlink path) = AreBytes path
HasBytes (commands.Rename old new) = AreBytes old × AreBytes new
HasBytes (commands.List path) = AreBytes path
HasBytes commands.Space = Unit {0}

-- a stamped command as the types allow it: its bytes are bytes, and its moment has 64 bits
pub record IsStamped (stamped : Stamped) : Type 0 where
  pub bytes : HasBytes stamped.command
  pub moment : stamped.moment < 2 ^ 64

-- the outcome's state is sound
pub record LeavesSound (z : Sizes) (o : Outcome) : Type 0 where
  pub sound : IsSound z o.state

pub refuse_sound : (z : Sizes) (s : State) → IsSound z s → (error : Errno) → LeavesSound z (refuse s error)
refuse_sound z s sound error = record { sound = sound }

-- bytes stay bytes, and their lengths
pub written_bytes : (bytes : List ℕ) (offset : ℕ) (new : List ℕ) → AreBytes bytes → AreBytes new → AreBytes (written bytes offset new)
written_bytes bytes offset new old are =
    let small : ℕ → Type 0 = λ b. b < 256 in
    All-append small (take offset (bytes ++ replicate (offset - length bytes) 0)) (new ++ drop (offset + length new) bytes)
    (All-take small offset (bytes ++ replicate (offset - length bytes) 0) (All-append small bytes (replicate (offset - length bytes) 0) old (All-replicate small (offset - length bytes) 0 (omega arith))))
    (All-append small new (drop (offset + length new) bytes) are (All-drop small (offset + length new) bytes old))

pub resized_bytes : (bytes : List ℕ) (n : ℕ) → AreBytes bytes → AreBytes (resized bytes n)
resized_bytes bytes n are =
    let small : ℕ → Type 0 = λ b. b < 256 in
    All-take small n (bytes ++ replicate (n - length bytes) 0) (All-append small bytes (replicate (n - length bytes) 0) are (All-replicate small (n - length bytes) 0 (omega arith)))

pub length-resized : (bytes : List ℕ) (n : ℕ) → length (resized bytes n) ≡ n
length-resized bytes n = omega (arith, length-take n (bytes ++ replicate (n - length bytes) 0), length-append bytes (replicate (n - length bytes) 0), length-replicate {A = ℕ} (n - length bytes) 0)

pub written_length : (bytes : List ℕ) (offset : ℕ) (new : List ℕ) (most : ℕ) → length bytes ≤ most → offset + length new ≤ most → length (written bytes offset new) ≤ most
written_length bytes offset new most old le =
    omega (
      arith,
      length-append (take offset (bytes ++ replicate (offset - length bytes) 0)) (new ++ drop (offset + length new) bytes),
      length-take offset (bytes ++ replicate (offset - length bytes) 0),
      length-append bytes (replicate (offset - length bytes) 0),
      length-replicate {A = ℕ} (offset - length bytes) 0,
      length-append new (drop (offset + length new) bytes),
      length-drop (offset + length new) bytes,
    )
