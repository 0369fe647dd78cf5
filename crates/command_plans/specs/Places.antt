-- What a path leads to, for a command.
use Rattle.std.specs.Prelude.{◌≡◌, ℕ, Some, Result, Ok}
use Rattle.std.specs.FinMap as map
use Rattle.posix_profile.specs.State.{Object, Objects, State}
use Rattle.posix_profile.specs.NameSteps.{at_object}
use Rattle.posix_profile.specs.Outcomes.{Outcome, refuse, at_place}
use Rattle.posix_profile.specs.Paths.{Place}
use Rattle.posix_profile.specs.laws.Path.{IsPlace}
use Rattle.posix_profile.specs.declared.reply.Errno.{Errno}
use Rattle.object_store.specs.Stores.{Meaning, Reports}
use Rattle.object_store.specs.declared.refusal.Refusal.{Refusal}
use Rattle.command_plans.specs.Paths.{place_of}
use Rattle.command_plans.specs.declared.path.parts.PathPlace.{PathPlace}
use Rattle.command_plans.specs.declared.place.FoundObject.{FoundObject}

-- the path leads to this place, and whatever is to be done at the place is to be done at it
pub record AtPlace (s : State) (r : Result Place Errno) (p : Place) : Type 0 where
  pub place : IsPlace s.objects p
  pub leads : r ≡ Ok p
  pub act : (act : Place → Outcome) → act p ≡ at_place s r act

-- whatever is to be done at the place, this is the error
abbrev pub NoPlace : State → Result Place Errno → Errno → Type 0
NoPlace s r e = (act : Place → Outcome) → refuse s e ≡ at_place s r act

-- the place, or why there is none
abbrev pub FindsPlace : {S : Type 0} (m : Meaning S) → State → Result Place Errno → S → S → Result PathPlace Refusal → Type 0
FindsPlace m s r a b result = Reports m a b (λ p. AtPlace s r (place_of p)) (NoPlace s r) result

-- whatever is to be done with the object at the place, it is to be done with this one
pub record AtObject (s : State) (r : Result Place Errno) (p : Place) (o : ℕ) : Type 0 where
  pub place : IsPlace s.objects p
  pub object : p.object ≡ Some o
  pub there : (x : Object) × (map.get s.objects o ≡ Some x)
  pub act : (act : Place → ℕ → Outcome) → act p o ≡ at_place s r (λ place. at_object s place.object (act place))

-- whatever is to be done with the object at the place, this is the error
abbrev pub NoObject : State → Result Place Errno → Errno → Type 0
NoObject s r e = (act : Place → ℕ → Outcome) → refuse s e ≡ at_place s r (λ place. at_object s place.object (act place))

-- the object at the place, or why there is none
abbrev pub FindsObject : {S : Type 0} (m : Meaning S) → State → Result Place Errno → S → S → Result FoundObject Refusal → Type 0
FindsObject m s r a b result = Reports m a b (λ f. AtObject s r (place_of f.place) f.number) (NoObject s r) result

-- what is true where the number has an object
abbrev pub OfObject : Objects → ℕ → Type 0 → Type 0
OfObject objects o A = (x : Object) → map.get objects o ≡ Some x → A
