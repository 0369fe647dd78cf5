use Rattle.std.specs.Prelude.{◌≡◌, ◌+◌, ◌++◌, ◌<◌, List, [], ◌∷◌, length, Some, slice_get}
use Rattle.std.proofs.Common.{sym, ◌∙◌, ap, subst, arith}
use Rattle.std.proofs.lemmas.List.{length_push}
use Rattle.nand_model.specs.MemoryState.{device}
use Rattle.lives.specs.Lives.{SessionRecord}
use Rattle.powercut.specs.Living.{HasLived}
use Rattle.powercut.specs.Sessions.{record_of, records_of, AreEnded, cuts_in, failing_in}
use Rattle.powercut.specs.declared.session.SessionEnd.{SessionEnd}
use Rattle.powercut.proofs.Lists.{no_records, none_ended, records_more, ended_more, cuts_more, failures_listed, at_index}
use Rattle.powercut.proofs.Lasting.{cuts_counted}
use Rattle.powercut.proofs.Living.{lived_here, lived_on, few_from}
use Rattle.powercut.proofs.life.live.Goals as goal

pub loop-session-init : goal.loop-session-init
loop-session-init c =
    let sessions = c.args.sessions.now in
    let none : c.new-ends.result.items ≡ [] = c.new-ends.ensures.items in
    record {
      count = ap (λ (ends : List SessionEnd). length ends) none;
      lived = subst (λ (ends : List SessionEnd). HasLived (device c.args.nand) (device c.args.nand) (records_of sessions ends)) (sym none)
          (subst (λ (rs : List SessionRecord). HasLived (device c.args.nand) (device c.args.nand) rs) (sym (no_records sessions)) (lived_here (device c.args.nand)));
      ended = subst (λ (ends : List SessionEnd). AreEnded sessions ends (device c.args.nand) (device c.args.nand)) (sym none) (none_ended sessions (device c.args.nand));
      cuts = let zero : cuts_in c.new-ends.result.items ≡ 0 = ap cuts_in none in omega (arith, zero);
    }

pub loop-session-preserved : goal.loop-session-preserved
loop-session-preserved c =
    let sessions = c.args.sessions.now in
    let was = c.loop-session.invariant in
    let ends = c.loop-session.ends.items in
    let end = c.in_ok-after.end in
    let session = c.session-item.result in
    let one = c.in_ok-after.ensures in
    let lt : c.loop-session.session-index < length sessions = omega (arith, c.loop-session-test.true) in
    let at : slice_get sessions (length ends) ≡ Some session = ap (slice_get sessions) was.count ∙ at_index sessions c.loop-session.session-index session lt c.session-item.is in
    let pushed : c.push.new.self.items ≡ ends ++ end ∷ [] = c.in-Ok.ensures.items ∙ ap (λ (xs : List SessionEnd). xs ++ end ∷ []) c.reserve.ensures.items in
    let both = lived_on (device c.args.nand) (device c.loop-session.last) (device c.in_ok-after.after) (records_of sessions ends) (record_of session end ∷ []) was.lived one.lived in
    record {
      count = let more : length c.push.new.self.items ≡ length ends + 1 = ap (λ (xs : List SessionEnd). length xs) pushed ∙ length_push ends end in more ∙ ap (λ n. n + 1) was.count;
      lived = subst (λ (xs : List SessionEnd). HasLived (device c.args.nand) (device c.in_ok-after.after) (records_of sessions xs)) (sym pushed)
          (subst (λ (rs : List SessionRecord). HasLived (device c.args.nand) (device c.in_ok-after.after) rs) (sym (records_more sessions ends session end at)) both);
      ended = subst (λ (xs : List SessionEnd). AreEnded sessions xs (device c.args.nand) (device c.in_ok-after.after)) (sym pushed)
          (ended_more sessions ends session end (device c.args.nand) (device c.loop-session.last) (device c.in_ok-after.after) at was.ended one.ended);
      cuts =
          let all : cuts_in c.push.new.self.items ≡ cuts_in (ends ++ end ∷ []) = ap cuts_in pushed in
          omega (arith, all, cuts_more ends end, was.cuts, cuts_counted session end (device c.loop-session.last) (device c.in_ok-after.after) one.ended);
    }

pub returns-clause-failures : goal.returns-clause-failures
returns-clause-failures c = failures_listed c.args.sessions.now c.loop-session.ends.items (device c.args.nand) (device c.loop-session.last) c.loop-session.invariant.ended

pub returns-clause-reserve : goal.returns-clause-reserve
returns-clause-reserve c = λ spare tree sound stays.
    let a = device c.args.nand in
    let b = device c.loop-session.last in
    let was = c.loop-session.invariant in
    let failed = failures_listed c.args.sessions.now c.loop-session.ends.items a b was.ended stays.reserve.totaled in
    (was.lived.truly sound.truth).life spare tree sound.sound (record {
      few_bad = few_from a b spare (length (failing_in c.args.sessions.now)) was.lived.answered failed stays.reserve.within_limit;
      numbers = stays.numbers;
    })

pub returns-clause-life : goal.returns-clause-life
returns-clause-life c = λ spare tree sound within. (c.loop-session.invariant.lived.truly sound.truth).life spare tree sound.sound within

pub returns-clause-truth : goal.returns-clause-truth
returns-clause-truth c = λ truth. (c.loop-session.invariant.lived.truly truth).truth
