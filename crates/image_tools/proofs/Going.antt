-- What commands leave, one after another.
use Rattle.std.specs.Prelude.{Bool, Result, Ok, Err, IfOk, OnOk}
use Rattle.posix_profile.specs.State.{Objects, State}
use Rattle.posix_profile.specs.Steps.{step}
use Rattle.posix_profile.specs.declared.command.Stamped.{Stamped}
use Rattle.posix_profile.specs.declared.reply.Reply.{Reply}
use Rattle.plain_volume.specs.Reading.{IsReportedBy, Reports}
use Rattle.volume_terms.specs.Sizes.{Sizes}
use Rattle.image_tools.specs.Leaving.{GoesOn, Leaves}

module _ {V : Type 0} (shows : V → Sizes → Bool → State → Type 0) where
  -- a reply that is no refusal leaves a state
  pub goes_reported : (old new : V) (command : Stamped) (reply : Reply) → IsReportedBy shows old command new reply → GoesOn shows old new
  goes_reported old new command reply reported = record { shown = λ z read_only s shown. ((step z read_only s command).state, (reported z read_only s shown).shown) }

  pub goes_none : (v : V) → GoesOn shows v v
  goes_none v = record { shown = λ z read_only s shown. (s, shown) }

  pub goes_then : (a b c : V) → GoesOn shows a b → GoesOn shows b c → GoesOn shows a c
  goes_then a b c first second = record { shown = λ z read_only s shown. let t = first.shown z read_only s shown in second.shown z read_only t.0 t.1 }

  -- what is read of the state that is left
  pub leaves : (a b c : V) (P : Objects → Type 0) → GoesOn shows a b → Reports shows b c P → Leaves shows a c P
  leaves a b c P goes reported = λ z read_only s shown. let t = goes.shown z read_only s shown in let u = reported z read_only t.0 t.1 in (t.0, u.0, u.1)

-- what follows of two facts of a result that is Ok
pub ok_with : {A E : Type 0} (r : Result A E) (P Q R : A → Type 0) → ((x : A) → P x → Q x → R x) → IfOk r P → IfOk r Q → IfOk r R
ok_with (Ok x) P Q R both one other = both x one other
ok_with (Err e) P Q R both one other = one
