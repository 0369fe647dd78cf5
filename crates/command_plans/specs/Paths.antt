-- Where a path leads, over a store.
use Rattle.std.specs.Prelude.{◌≡◌, ℕ, Bool, List, map as list_map, Option, Some, None, Result, Ok, Err}
use denote.Bor.{Bor}
use Rattle.posix_profile.specs.Paths.{Component, Dot, DotDot, Named, Place, component, leads_to, pass, walk_from_root}
use Rattle.posix_profile.specs.State.{Objects, IsDirectory}
use Rattle.posix_profile.specs.declared.reply.Errno.{Errno}
use Rattle.object_store.specs.Stores.{Meaning, Finds, Reports, OfDirectory}
use Rattle.object_store.specs.declared.refusal.Refusal.{Refusal}
use Rattle.volume_terms.specs.declared.fault.StoreFault.{StoreFault}
use Rattle.command_plans.specs.declared.path.parts.PathPart.{PathPart}
use Rattle.command_plans.specs.declared.path.parts.PathPart.TheVariants as path_parts
use Rattle.command_plans.specs.declared.path.parts.PathPlace.{PathPlace}

-- the component of a part
abbrev pub component_of : PathPart → Component
component_of path_parts.Dot = Dot
component_of path_parts.DotDot = DotDot
component_of (path_parts.Named name) = Named name.now

-- the last component, if there is one
abbrev pub last_of : Option PathPart → Option Component
last_of None = None
last_of (Some part) = Some (component_of part)

-- the place with its last component
abbrev pub place_of : PathPlace → Place
place_of p = record { directory = p.directory; last = last_of p.last; object = p.object; slash_follows = p.slash_follows }

-- the walk goes on from the directory, or where there was a component from where that leads
abbrev pub goes_on : Objects → ℕ → Option Component → (ℕ → Result Place Errno) → Result Place Errno
goes_on objects directory None on = on directory
goes_on objects directory (Some last) on = pass objects (leads_to objects directory last) on

-- the walk over these parts, from the root
abbrev pub walk_over : Objects → Bool → List (Bor (List ℕ)) → Result Place Errno
walk_over objects slash_follows parts = walk_from_root objects slash_follows (list_map (λ part. component part.now) parts)

-- the walk goes on from this directory, or ends
abbrev pub Passes : {S : Type 0} (m : Meaning S) → Objects → ((ℕ → Result Place Errno) → Result Place Errno) → S → S → Result ℕ Refusal → Type 0
Passes m objects meant a b r =
    Reports m a b (λ o. IsDirectory objects o × ((on : ℕ → Result Place Errno) → meant on ≡ on o)) (λ e. (on : ℕ → Result Place Errno) → meant on ≡ Err e) r

-- the place, or why there is none
abbrev pub Leads : {S : Type 0} (m : Meaning S) → Result Place Errno → S → S → Result PathPlace Refusal → Type 0
Leads m meant a b r = Reports m a b (λ place. Ok (place_of place) ≡ meant) (λ e. Err e ≡ meant) r

-- what is found of a directory, in whatever tree the store has
abbrev pub FindsIn : {S A : Type 0} (m : Meaning S) → ℕ → (Objects → A) → S → S → Result A StoreFault → Type 0
FindsIn m directory meant a b r = OfDirectory m a directory (λ z objects. Finds m (meant objects) a b r)

-- where the walk goes on that comes to a directory, in whatever tree the store has
abbrev pub PassesIn : {S : Type 0} (m : Meaning S) → ℕ → (Objects → (ℕ → Result Place Errno) → Result Place Errno) → S → S → Result ℕ Refusal → Type 0
PassesIn m directory meant a b r = OfDirectory m a directory (λ z objects. Passes m objects (meant objects) a b r)

-- where the walk ends that comes to a directory, in whatever tree the store has
abbrev pub LeadsIn : {S : Type 0} (m : Meaning S) → ℕ → (Objects → Result Place Errno) → S → S → Result PathPlace Refusal → Type 0
LeadsIn m directory meant a b r = OfDirectory m a directory (λ z objects. Leads m (meant objects) a b r)
