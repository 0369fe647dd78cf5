-- What a read does: into a buffer, and by a plan.
use Rattle.std.specs.Prelude.{◌≡◌, ◌≤◌, ◌<◌, ◌+◌, ◌-◌, ◌^◌, ℕ, Bool, List, length, take, drop, min}
use Rattle.std.proofs.Common.{refl, ◌∙◌, ap, arith}
use Rattle.std.proofs.lemmas.List.{length-take, take_min}
use Rattle.std.specs.FinMap as map
use Rattle.posix_profile.specs.Changes.{with_offset}
use Rattle.posix_profile.specs.HandleSteps.{read_step}
use Rattle.posix_profile.specs.Outcomes.{answer}
use Rattle.posix_profile.specs.State.{Handle, Objects, State}
use Rattle.posix_profile.specs.Steps.{step, step_at}
use Rattle.posix_profile.specs.WellFormed.{IsHandle}
use Rattle.posix_profile.specs.declared.reply.Reply.TheVariants as replies
use Rattle.posix_profile.specs.laws.Sound.{IsStamped}
use Rattle.volume_terms.specs.Sizes.{Sizes, offset_limit}
use Rattle.object_store.specs.Facts.{bytes_from, bytes_of}
use Rattle.command_plans.specs.Classes.{Reporting}
use Rattle.command_plans.specs.Plans.{IsPlan}
use Rattle.command_plans.specs.Tables.{handle_of}
use Rattle.command_plans.specs.declared.plan.HandleChange.TheVariants as handle_changes
use Rattle.command_plans.specs.declared.plan.StoreWork.TheVariants as work
use Rattle.command_plans.specs.declared.table.OpenDescription.{OpenDescription}
use Rattle.object_commands.specs.Reads.{IsReadable, read_reported, reading}

-- the step of a read that is stamped is that of a read
pub read_is : (z : Sizes) (read_only : Bool) (s : State) (fd count : ℕ) → read_step s fd count ≡ step z read_only s (reading fd count)
unfolding step_at
read_is z read_only s fd count = refl

-- its moment is 0, and it has no bytes
pub stamped_read : (fd count : ℕ) → IsStamped (reading fd count)
stamped_read fd count = record { bytes = tt; moment = omega arith }

-- room for the bytes that there are is room for as many as are called
pub bytes_in_room : (objects : Objects) (file offset count room : ℕ) → room ≡ length (bytes_from objects file offset count) → bytes_from objects file offset room ≡ bytes_from objects file offset count
bytes_in_room objects file offset count room is =
    let rest : List ℕ = drop offset (bytes_of (map.get objects file)) in
    ap (λ n. take n rest) (is ∙ length-take count rest) ∙ take_min count rest

-- the plan of a read that was made
pub read_plan : (z : Sizes) (s : State) (fd count : ℕ) (d : OpenDescription) (read : ℕ) (bytes : List ℕ) (moved : OpenDescription) → IsHandle s.objects fd (handle_of d) → IsReadable s fd d → count < 2 ^ 32
    → read ≡ length (bytes_from s.objects d.object d.offset count) → bytes ≡ bytes_from s.objects d.object d.offset count → moved ≡ record d { offset = min (d.offset + read) (2 ^ 64 - 1) }
    → IsPlan z Reporting s (read_step s fd count) (record { reply = replies.Data bytes; handles = handle_changes.Put fd moved; work = work.Nothing })
read_plan z s fd count d read bytes moved opened is small size reported goes = record {
  means =
      let h : Handle = handle_of d in
      let rest : List ℕ = drop d.offset (bytes_of (map.get s.objects d.object)) in
      let far : d.offset ≤ offset_limit = opened.offset in
      let within_limit : read ≤ count = omega (arith, size, length-take count rest) in
      let end : min (d.offset + read) (2 ^ 64 - 1) ≡ d.offset + length bytes = omega (arith, far, within_limit, small, size, ap length reported) in
      ap (λ (m : OpenDescription). answer (record s { handles = map.insert s.handles fd (handle_of m) }) (replies.Data bytes)) goes
      ∙ ap (λ n. answer (with_offset s fd h n) (replies.Data bytes)) end ∙ ap (read_reported s fd h) reported ∙ is.means count;
  can = tt;
  range = opened.descriptor;
  suits = tt;
}
