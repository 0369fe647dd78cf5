-- How sessions that are cut end.
use Rattle.std.proofs.Common.{◌≡◌, inl, inr, ℕ, List, Option, Result, Ok, Err, refl, sym, subst}
use Rattle.std.specs.Global.{Vec}
use Rattle.std.specs.Prelude.{IfErr}
use Rattle.exerciser.specs.Causes.{HasCause}
use Rattle.exerciser.specs.Cutting.{Cuts}
use Rattle.exerciser.specs.declared.fault.CutFault.{CutFault}
use Rattle.line_shell.specs.Scripts.{ReadsScript}
use Rattle.nand_model.specs.Calls.{Device}
use Rattle.posix_profile.specs.declared.command.Stamped.{Stamped}
use Rattle.flash_program.specs.Images.{NotOpened, IsCopy, ReadsInput, CutEnds, of_script, of_cut, cut_ended}
use Rattle.flash_program.specs.Sessions.{IsUntouched, Stream}
use Rattle.flash_program.specs.declared.fault.ProgramFault.{ProgramFault}

-- both ends are the same
abbrev SameEnd : (one other : Result (Unit {0}) ProgramFault) → Type 0
SameEnd one other = one ≡ other

ends_alike : (one other : ProgramFault) → one ≡ other → SameEnd (Err one) (Err other)
ends_alike one other same = subst (λ f. SameEnd (Err one) (Err f)) same refl

module _ {F : Type 0} (known : F → Option (List ℕ)) (image : Option F) (seed sessions : ℕ) where
  -- there is no copy
  pub not_copied : (input output : Stream) (fault : ProgramFault) → IsUntouched input → IsUntouched output → NotOpened known image (Err fault)
      → CutEnds known image seed sessions input output (Err fault)
  not_copied input output fault unread unwritten closed = inl (closed, unread, unwritten)

  module _ (copy : Device) (input output : Stream) (copied : IsCopy known image copy) where
    -- the lines are no script
    pub no_script : (fault : ProgramFault) → IsUntouched output → ReadsInput input (Err fault) → CutEnds known image seed sessions input output (Err fault)
    no_script fault unwritten (why, reads, is) = inr (copied.0, copied.1, inl (why, reads, ends_alike fault (of_script why) is, unwritten))

    -- the commands were done
    pub script_done : (script : Vec Stamped) (ended : Result (Unit {0}) CutFault) → ReadsScript input.before input.after (Ok script)
        → Cuts (record { first = copy; seed = seed; commands = script.items; sessions = sessions }) output.before output.after ended → IfErr ended (HasCause copy)
        → CutEnds known image seed sessions input output (cut_ended ended)
    script_done script ended reads cuts cause = inr (copied.0, copied.1, inr (copy, script, ended, copied.2, reads, cuts, cause, refl))

    pub script_stopped : (script : Vec Stamped) (why : CutFault) (fault : ProgramFault) → fault ≡ of_cut why → ReadsScript input.before input.after (Ok script)
        → Cuts (record { first = copy; seed = seed; commands = script.items; sessions = sessions }) output.before output.after (Err why) → HasCause copy why
        → CutEnds known image seed sessions input output (Err fault)
    script_stopped script why fault is reads cuts cause =
        subst (λ f. CutEnds known image seed sessions input output (Err f)) (sym is) (script_done script (Err why) reads cuts cause)
