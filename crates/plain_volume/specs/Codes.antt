-- How a state is coded: the volume's model asks for it.
use Rattle.std.specs.Prelude.{◌≡◌, ◌⊎◌, ℕ, Bool, true, false, List}
use Rattle.std.proofs.Common.{refl, inl, inr}
use Rattle.std.specs.Coded.{Coded, code_by, coded_ℕ, coded_bool, coded_list, coded×, coded⊎}
use Rattle.std.specs.FinMap as map
use Rattle.volume_terms.specs.Sizes.{Sizes}
use Rattle.posix_profile.specs.State.{Entries, Object, File, Dir, Objects, Handle, Handles, State}
use Rattle.posix_profile.specs.declared.command.Access.{Access}
use Rattle.posix_profile.specs.declared.command.Access.TheVariants as accesses
use Rattle.posix_profile.specs.declared.command.OpenFlags.{OpenFlags}
use Rattle.plain_volume.specs.Views.{PlainView}

abbrev pub entries_code : Coded Entries
entries_code = map.code (coded_list coded_ℕ) coded_ℕ

abbrev pub object_parts : Object → (ℕ × List ℕ) ⊎ (ℕ × Entries)
object_parts (File moment bytes) = inl (moment, bytes)
object_parts (Dir moment entries) = inr (moment, entries)

abbrev pub object_from : (ℕ × List ℕ) ⊎ (ℕ × Entries) → Object
object_from (inl file) = File file.0 file.1
object_from (inr directory) = Dir directory.0 directory.1

pub object_again : (x : Object) → object_from (object_parts x) ≡ x
object_again (File moment bytes) = refl
object_again (Dir moment entries) = refl

abbrev pub object_code : Coded Object
object_code = code_by ((ℕ × List ℕ) ⊎ (ℕ × Entries)) (coded⊎ (coded× coded_ℕ (coded_list coded_ℕ)) (coded× coded_ℕ entries_code)) object_parts object_from object_again

abbrev pub objects_code : Coded Objects
objects_code = map.code coded_ℕ object_code

abbrev pub access_parts : Access → Bool × Bool
access_parts accesses.Read = (false, false)
access_parts accesses.Write = (true, false)
access_parts accesses.Both = (true, true)

abbrev pub access_of : Bool → Bool → Access
access_of false both = accesses.Read
access_of true false = accesses.Write
access_of true true = accesses.Both

pub access_again : (a : Access) → access_of (access_parts a).0 (access_parts a).1 ≡ a
access_again accesses.Read = refl
access_again accesses.Write = refl
access_again accesses.Both = refl

abbrev pub access_code : Coded Access
access_code = code_by (Bool × Bool) (coded× coded_bool coded_bool) access_parts (λ p. access_of p.0 p.1) access_again

abbrev pub flags_code : Coded OpenFlags
flags_code = code_by (Access × (Bool × (Bool × (Bool × Bool)))) (coded× access_code (coded× coded_bool (coded× coded_bool (coded× coded_bool coded_bool))))
    (λ f. (f.access, (f.create, (f.excl, (f.trunc, f.append)))))
    (λ p. record { access = p.0; create = p.1.0; excl = p.1.1.0; trunc = p.1.1.1.0; append = p.1.1.1.1 })
    (λ _. refl)

abbrev pub handle_code : Coded Handle
handle_code = code_by (ℕ × (OpenFlags × ℕ)) (coded× coded_ℕ (coded× flags_code coded_ℕ)) (λ h. (h.object, (h.flags, h.offset))) (λ p. record { object = p.0; flags = p.1.0; offset = p.1.1 }) (λ _. refl)

abbrev pub handles_code : Coded Handles
handles_code = map.code coded_ℕ handle_code

abbrev pub state_code : Coded State
state_code = code_by (Objects × Handles) (coded× objects_code handles_code) (λ s. (s.objects, s.handles)) (λ p. record { objects = p.0; handles = p.1 }) (λ _. refl)

abbrev pub sizes_code : Coded Sizes
sizes_code = code_by (ℕ × (ℕ × (ℕ × ℕ))) (coded× coded_ℕ (coded× coded_ℕ (coded× coded_ℕ coded_ℕ))) (λ z. (z.page_bytes, (z.block_pages, (z.blocks, z.spare_blocks))))
    (λ p. record { page_bytes = p.0; block_pages = p.1.0; blocks = p.1.1.0; spare_blocks = p.1.1.1 })
    (λ _. refl)

abbrev pub plain_code : Coded PlainView
plain_code = code_by (Sizes × (Bool × State)) (coded× sizes_code (coded× coded_bool state_code)) (λ v. (v.sizes, (v.read_only, v.state))) (λ p. record { sizes = p.0; read_only = p.1.0; state = p.1.1 }) (λ _. refl)
