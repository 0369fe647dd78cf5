-- Lives in which nothing goes wrong.
use Rattle.std.specs.Prelude.{List, [], ◌∷◌}
use Rattle.std.proofs.Common.{refl, ap, ◌∙◌}
use Rattle.std.proofs.lemmas.List.Elements.{All-head, All-tail}
use Rattle.volume_terms.specs.Sizes.{Sizes}
use Rattle.posix_profile.specs.State.{Objects}
use Rattle.posix_profile.specs.declared.command.Stamped.{Stamped}
use Rattle.lives.specs.Lives.{SessionRecord, Sessions, IsLife}
use Rattle.lives.specs.PlainLives.{plain_tree, plain_session, plain_sessions, plain_end, commands_of, IsWhole, AreWhole, IsPlainRun}
use Rattle.lives.specs.laws.Sessions.{whole_is_plain, plain_is_session}

-- such a life is the plain run of its commands
pub whole_life : (z : Sizes) (first last : Objects) (xs : Sessions) → IsLife z first xs last → AreWhole xs → IsPlainRun z first xs last
whole_life z first last [] is whole = record { each = refl; left = is }
whole_life z first last (x ∷ xs) is whole =
    let one = whole_is_plain z first x is.0 is.1 (All-head IsWhole x xs whole) in
    let rest = whole_life z is.0 last xs is.2 (All-tail IsWhole x xs whole) in
    record {
      each = ap (λ (v : SessionRecord). v ∷ xs) one.0 ∙ ap (λ (vs : Sessions). plain_session z first x.commands ∷ vs) (rest.each ∙ ap (λ (t : Objects). plain_sessions z t (commands_of xs)) one.1);
      left = rest.left ∙ ap (λ (t : Objects). plain_end z t (commands_of xs)) one.1;
    }

-- and the plain run of any commands is a life
pub plain_life : (z : Sizes) (first : Objects) (lists : List (List Stamped)) → IsLife z first (plain_sessions z first lists) (plain_end z first lists)
plain_life z first [] = refl
plain_life z first (commands ∷ rest) = (plain_tree z first commands, plain_is_session z first commands, plain_life z (plain_tree z first commands) rest)
