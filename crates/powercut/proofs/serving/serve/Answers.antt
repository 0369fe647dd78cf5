use Rattle.std.specs.Prelude.{◌≡◌, List, length, Ok, Err}
use Rattle.std.proofs.Common.{refl, ◌∙◌, sym, ap, subst}
use Rattle.posix_profile.specs.declared.reply.Reply.{Reply}
use Rattle.mounting.specs.Faults.{WhyNotMounted}
use Rattle.powercut.proofs.FailedMount.{failed_lived, of_no_replies}
use Rattle.powercut.proofs.InPower.{used_lasts, used_lived, used_right}
use Rattle.powercut.proofs.Representing.{represents_there}
use Rattle.powercut.proofs.serving.serve.Goals as goal

pub returns-in_ok-device-in-Ok-clause-lasts : goal.returns-in_ok-device-in-Ok-clause-lasts
returns-in_ok-device-in-Ok-clause-lasts g c = used_lasts _ c.in-Ok.volume _ _ _ c.args.commands.now _ _ c.in-Ok.ensures.mounted.since c.in_ok-device-in-Ok.ensures.used

pub returns-in_ok-device-in-Ok-clause-lived : goal.returns-in_ok-device-in-Ok-clause-lived
returns-in_ok-device-in-Ok-clause-lived g c = λ power honest.
    let mounted = c.in-Ok.ensures.mounted in
    used_lived _ c.in-Ok.volume _ _ _ c.args.commands.now _ _ mounted.since c.in_ok-device-in-Ok.ensures.used honest c.a_flash_has_one_answer_at_most.ensures mounted.goes_on mounted.read_only mounted.next
    (λ here. let tree = mounted.tree here in (tree.0, represents_there _ _ c.in-Ok.volume tree.0 tree.1)) mounted.checked (mounted.remembers honest)

pub returns-in-Err-clause-lived : goal.returns-in-Err-clause-lived
returns-in-Err-clause-lived g c = λ power honest.
    of_no_replies _ _ c.args.commands.now _ _ c.new.result.items c.new.ensures.items
    (failed_lived c.a_flash_has_one_answer_at_most.ensures _ _ c.args.commands.now honest c.in-Err.ensures.back c.in-Err.fault c.in-Err.ensures.fault)

pub returns-in_ok-device-in-Ok-clause-served : goal.returns-in_ok-device-in-Ok-clause-served
returns-in_ok-device-in-Ok-clause-served g c =
    let used = c.in_ok-device-in-Ok.ensures.used in
    let issued = c.in_ok-device-in-Ok.ensures.unmounts in
    record {
      begun = λ _. used.begun c.in-Ok.ensures.mounted.goes_on;
      none = λ fault is. absurd cc;
      unmounts = (λ some. (sym issued ∙ some, refl), λ both. issued ∙ both.0);
      why = λ fault is. absurd cc;
    }

pub returns-in-Err-clause-served : goal.returns-in-Err-clause-served
returns-in-Err-clause-served g c =
    record {
      begun = λ is. absurd cc;
      none = λ fault is. ap (λ (rs : List Reply). length rs) c.new.ensures.items;
      unmounts = (λ some. absurd cc, λ both. let two : Err c.in-Err.fault ≡ Ok tt = both.1 in absurd cc);
      why = λ fault is.
          let same : c.in-Err.fault ≡ fault = cc in
          subst (WhyNotMounted (g.N.Nand.state c.in-Err.device)) same c.in-Err.ensures.fault;
    }

pub returns-in_ok-device-in-Ok-clause-right : goal.returns-in_ok-device-in-Ok-clause-right
returns-in_ok-device-in-Ok-clause-right g c = λ truth mounted'.
    let mounted = c.in-Ok.ensures.mounted in
    used_right _ c.in-Ok.volume _ _ _ c.args.commands.now _ _ mounted.since c.in_ok-device-in-Ok.ensures.used truth.0 c.a_flash_has_one_answer_at_most.ensures mounted.goes_on mounted.read_only mounted.next
    (λ here. let tree = mounted.tree here in (tree.0, represents_there _ _ c.in-Ok.volume tree.0 tree.1)) mounted.checked (mounted.remembers truth.0) truth.1

pub returns-in-Err-clause-right : goal.returns-in-Err-clause-right
returns-in-Err-clause-right g c = λ truth mounted. let two : Err c.in-Err.fault ≡ Ok tt = mounted in absurd cc
