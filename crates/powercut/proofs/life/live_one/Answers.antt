use Rattle.std.specs.Prelude.{◌≡◌, List, [], ◌∷◌, length}
use Rattle.std.proofs.Common.{refl, ◌∙◌, ap, sym, subst, inl, inr, arith}
use Rattle.posix_profile.specs.declared.command.Stamped.{Stamped}
use Rattle.nand_model.specs.Calls.{Device, Lasts}
use Rattle.nand_model.specs.Plans.{Plan}
use Rattle.nand_model.specs.MemoryState.{device, plan}
use Rattle.lives.specs.Lives.{SessionRecord}
use Rattle.mounting.specs.Faults.{WhyNotMounted}
use Rattle.mounting.specs.declared.fault.MountFault.TheVariants as faults
use Rattle.page_store.specs.Checked.{HasTrueFlash}
use Rattle.powercut.specs.Planning.{IsPlanned}
use Rattle.powercut.specs.Running.{RunsAsPlanned}
use Rattle.powercut.specs.States.{state_of}
use Rattle.powercut.specs.Living.{HasLived}
use Rattle.powercut.specs.Sessions.{IsServedFrom}
use Rattle.powercut.specs.Starting.{plan_of}
use Rattle.powercut.proofs.Lasting.{lived_one, session_lived, planned_from, runs_from, since_before, no_cut, same_record, why_counts, served_counts}
use Rattle.powercut.proofs.life.live_one.Goals as goal

pub returns-clause-lived : goal.returns-clause-lived
returns-clause-lived c =
    let a = device c.args.nand in
    let b = device c.in_ok-nand.nand in
    let d = device c.into_nand-nand.result in
    let served = c.in_ok-planned.served in
    let last = c.into_nand-nand.ensures.device in
    let count : c.len-begun.result ≡ length served.replies.items = omega (arith, c.len-begun.ensures, served.replies.ok.0) in
    let gone : (state_of c.in_ok-planned.planned).gone ≡ d.gone = ap (λ (x : Device). x.gone) last in
    subst (λ (r : SessionRecord). HasLived a d (r ∷ []))
    (same_record c.args.session.now c.deref.result.now served c.len-begun.result c.gone-cut.result (state_of c.in_ok-planned.planned).gone c.deref.ensures.value count (c.gone-cut.ensures ∙ sym gone))
    (lived_one _ a b d c.in_ok-nand.ensures.starts _ refl
    (session_lived b d (state_of c.new-planned.result) (state_of c.in_ok-planned.planned) _ _ _ c.new-planned.ensures last c.in_ok-planned.ensures.lived))

pub returns-clause-ended : goal.returns-clause-ended
returns-clause-ended c =
    let session = c.args.session.now in
    let a = device c.args.nand in
    let b = device c.in_ok-nand.nand in
    let d = device c.into_nand-nand.result in
    let served = c.in_ok-planned.ensures.served in
    let count : c.len-begun.result ≡ length c.in_ok-planned.served.replies.items = omega (arith, c.len-begun.ensures, c.in_ok-planned.served.replies.ok.0) in
    let commands : c.deref.result.now ≡ session.commands.items = c.deref.ensures.value in
    let gone : (state_of c.in_ok-planned.planned).gone ≡ d.gone = ap (λ (x : Device). x.gone) c.into_nand-nand.ensures.device in
    let lasts = subst (λ (x : Device). Lasts x (state_of c.in_ok-planned.planned)) c.new-planned.ensures (c.in_ok-planned.ensures.lasts refl) in
    let there : IsPlanned (plan_of session) b d = subst (λ (p : Plan). IsPlanned p b d) c.in_ok-nand.ensures.plan (c.into_nand-nand.ensures.planned (plan c.in_ok-nand.nand) b lasts) in
    let planned : IsPlanned (plan_of session) a d = planned_from _ a b d c.in_ok-nand.ensures.starts (plan_of session) there in
    let runs : ∥ RunsAsPlanned (plan_of session) b d ∥₁ = subst (λ (p : Plan). ∥ RunsAsPlanned p b d ∥₁) c.in_ok-nand.ensures.plan (c.into_nand-nand.ensures.runs (plan c.in_ok-nand.nand) b lasts) in
    record {
      replies = count;
      begun = λ mounted. elim (served.begun mounted) [
        | inl all ↦ inl (count ∙ all ∙ ap (λ (xs : List Stamped). length xs) commands)
        | inr stop ↦ inr stop
      ];
      none = λ fault is. count ∙ served.none fault is;
      unmounts = served.unmounts;
      cut = c.gone-cut.ensures;
      planned = planned;
      outcomes = runs_from _ a b d c.in_ok-nand.ensures.starts (plan_of session) c.in_ok-nand.ensures.nexts runs;
      fuse = no_cut session a d c.gone-cut.result c.gone-cut.ensures planned;
      gone = λ is. c.gone-cut.ensures ∙ sym gone ∙ served.why faults.Gone is;
      why = λ fault is. why_counts d (state_of c.in_ok-planned.planned).cuts fault (subst (λ (x : Device). WhyNotMounted x fault) c.into_nand-nand.ensures.device (served.why fault is));
      served = λ truth mounted.
          let reported = c.in_ok-planned.served in
          let w = state_of c.in_ok-planned.planned in
          subst (λ (xs : List Stamped). IsServedFrom a d xs reported.replies.items reported.unmounted) commands
          (served_counts _ a b d c.in_ok-nand.ensures.starts _ _ c.deref.result.now _ _ refl
          (subst (λ (x : Device). HasTrueFlash x → IsServedFrom x (record d { cuts = w.cuts }) c.deref.result.now reported.replies.items reported.unmounted) c.new-planned.ensures
          (subst (λ (x : Device). HasTrueFlash (state_of c.new-planned.result) → IsServedFrom (state_of c.new-planned.result) x c.deref.result.now reported.replies.items reported.unmounted) c.into_nand-nand.ensures.device
          (λ true'. c.in_ok-planned.ensures.right true' mounted))) truth);
    }

pub returns-clause-calls : goal.returns-clause-calls
returns-clause-calls c = λ power.
    let a = device c.args.nand in
    let b = device c.in_ok-nand.nand in
    let d = device c.into_nand-nand.result in
    let lasts = subst (λ (x : Device). Lasts x (state_of c.in_ok-planned.planned)) c.new-planned.ensures (c.in_ok-planned.ensures.lasts refl) in
    c.into_nand-nand.ensures.calls (plan c.in_ok-nand.nand) b lasts power ∙ since_before _ a b d c.in_ok-nand.ensures.starts
