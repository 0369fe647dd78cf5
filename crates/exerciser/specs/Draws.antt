-- Which calls of the device are cut, at random by a seed.
use Rattle.std.specs.Prelude.{◌≡◌, ℕ, zero, suc, max, List, map, Ok}
use Rattle.nand_model.specs.Calls.{Device}
use Rattle.nand_model.specs.declared.fate.Fate.{Fate}
use Rattle.powercut.specs.Planning.{calls_since}
use Rattle.powercut.specs.Sessions.{IsEnded}
use Rattle.powercut.specs.declared.session.Session.{Session}
use Rattle.powercut.specs.declared.session.SessionEnd.{SessionEnd}
use Rattle.exerciser.specs.Causes.{CountsCalls}
use Rattle.exerciser.specs.Words.{answers, operation_of, fate_of, next_words}
use Rattle.rand_core.specs.Pcg32Seed.{pcg32_seed}
use Rattle.rand_core.specs.Stream.{Stream, next_u64}
use Rattle.rand_pcg.specs.Pcg.{pcg64_of_seed}

-- the words that are left after a session, which takes one for its call and one for each page of a block
abbrev pub words_after_session : (pages : ℕ) → Stream → Stream
words_after_session pages words = (next_words pages (next_u64 words).1).1

-- the fates that words draw for so many pages, after the word of the call
abbrev pub drawn_fates : (pages : ℕ) → Stream → List Fate
drawn_fates pages words = map fate_of (next_words pages (next_u64 words).1).0

-- the words of a seed that are left after so many sessions
unfoldable pub words_after : (seed pages sessions : ℕ) → Stream
words_after seed pages zero = answers (pcg64_of_seed (pcg32_seed 32 seed))
words_after seed pages (suc before) = words_after_session pages (words_after seed pages before)

-- the word of a seed that draws the call of the session after so many
abbrev pub session_word : (seed pages before : ℕ) → ℕ
session_word seed pages before = (next_u64 (words_after seed pages before)).0

-- The session makes so many calls from its power-up on, with its mount and its unmount, which are done, on a device like this: as many as the
-- device counts from before it to after it.
pub record IsCountOf (first : Device) (session : Session) (calls : ℕ) : Type 0 where
  pub last : Device
  pub end : SessionEnd
  pub ended : IsEnded session end first last
  pub totaled : CountsCalls end (calls_since first last) (Ok calls)

-- the word draws this call, among those that the session makes on the device
abbrev pub IsDrawnAmong : Device → Session → (word operation : ℕ) → Type 0
IsDrawnAmong first session word operation = (calls : ℕ) × IsCountOf first session calls × (operation ≡ operation_of (max calls 1) word)
