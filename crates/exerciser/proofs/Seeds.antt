-- The words of a seed, session by session.
use Rattle.std.proofs.Common.{◌≡◌, ℕ, ◌+◌, max, [], Some, Result, Ok, Err, sym, ap, ◌∙◌, subst}
use native.Mathlib.Numerals.{unary_clauses}
use Rattle.std.specs.Prelude.{IfOk, true}
use Rattle.nand_model.specs.Calls.{Device}
use Rattle.powercut.specs.Planning.{calls_since}
use Rattle.powercut.specs.Living.{IsTrueOn}
use Rattle.powercut.specs.Sessions.{IsEnded}
use Rattle.powercut.specs.Starting.{fuse_of}
use Rattle.powercut.specs.declared.session.Session.{Session}
use Rattle.powercut.specs.declared.session.SessionEnd.{SessionEnd}
use Rattle.exerciser.specs.Causes.{CountsCalls, uncut}
use Rattle.exerciser.specs.declared.fault.CutFault.{CutFault}
use Rattle.exerciser.specs.Words.{answers, operation_of}
use Rattle.rand_core.specs.Pcg32Seed.{pcg32_seed}
use Rattle.rand_core.specs.Stream.{Stream, next_u64}
use Rattle.rand_pcg.specs.Lcg.{Lcg}
use Rattle.rand_pcg.specs.Pcg.{pcg64_of_seed}
use Rattle.exerciser.specs.Cutting.{Exercise, IsCutSession}
use Rattle.exerciser.specs.Draws.{words_after_session, words_after, session_word, drawn_fates, IsCountOf, IsDrawnAmong}

pub first_words : (seed pages : ℕ) (generator : Lcg) → generator ≡ pcg64_of_seed (pcg32_seed 32 seed) → answers generator ≡ words_after seed pages 0
unfolding words_after
first_words seed pages generator seeded = ap answers seeded

-- a session more, with as many pages
pub more_words : (seed pages random before : ℕ) (old new : Stream) → random ≡ pages → old ≡ words_after seed pages before → new ≡ words_after_session random old
    → new ≡ words_after seed pages (before + 1)
unfolding words_after
more_words seed pages random before old new same_pages same left =
    simp unary_clauses (left ∙ ap (λ n. words_after_session n old) same_pages ∙ ap (λ s. words_after_session pages s) same)

-- a session whose fuse was taken from the words that are left, and that ended so
module _ (x : Exercise) (before pages : ℕ) (old : Stream) (was now : Session) (first last : Device) (same_pages : pages ≡ x.first.geometry.pages) (same : old ≡ words_after x.seed x.first.geometry.pages before)
    (like : uncut now ≡ uncut was) (commands : was.commands.items ≡ x.commands) (failures : was.failures.items ≡ []) (unmounts : was.unmount ≡ true) where
  abbrev pub cut_session : (end : SessionEnd) (operation : ℕ) → fuse_of now.fuse ≡ Some (operation, drawn_fates pages old) → IsDrawnAmong first (uncut was) (next_u64 old).0 operation → IsEnded now end first last
      → (IsTrueOn first → IsTrueOn last) → IsCutSession x before first last
  cut_session end operation fuse random ended truth = record {
    session = now;
    end = end;
    operation = operation;
    commands_are = ap (λ (s : Session). s.commands.items) like ∙ commands;
    fuse_is = fuse ∙ ap (λ n. Some (operation, drawn_fates n old)) same_pages ∙ ap (λ words. Some (operation, drawn_fates x.first.geometry.pages words)) same;
    failures_are = ap (λ (s : Session). s.failures.items) like ∙ failures;
    unmounts = ap (λ (s : Session). s.unmount) like ∙ unmounts;
    random = subst (λ s. IsDrawnAmong first s (session_word x.seed x.first.geometry.pages before) operation) (sym like) (subst (λ words. IsDrawnAmong first (uncut was) (next_u64 words).0 operation) same random);
    ended = ended;
    truth = truth;
  }

-- a random call is among those that there are
pub drawn_from : (first : Device) (session : Session) (count calls word : ℕ) (result : Result ℕ CutFault) → IsCountOf first session count → calls ≡ max count 1 → IfOk result (λ operation. operation ≡ operation_of calls word)
    → IfOk result (IsDrawnAmong first session word)
drawn_from first session count calls word (Ok operation) totaled is random = (count, totaled, random ∙ ap (λ n. operation_of n word) is)
drawn_from first session count calls word (Err fault) totaled is random = tt

-- what is in the count of a session is its calls
pub counts : (end : SessionEnd) (calls : ℕ) (last first : Device) (session : Session) (result : Result ℕ CutFault) → IsEnded session end first last → calls ≡ calls_since first last
    → CountsCalls end calls result → IfOk result (IsCountOf first session)
counts end calls last first session (Ok count) ended is totaled = record { last = last; end = end; ended = ended; totaled = subst (λ n. CountsCalls end n (Ok count)) is totaled }
counts end calls last first session (Err fault) ended is totaled = tt
