-- What reads and writes at an offset leave, by the profile's steps.
use Rattle.std.specs.Prelude.{◌≡◌, ◌≤◌, ℕ, ◌+◌, Bool, true, false, not, nat_lt, List, [], ◌∷◌, length, take, drop, Option, Some, None, if◌then◌else◌, pos, ◌+ℤ◌}
use Rattle.std.proofs.Common.{refl, sym, ◌∙◌, ap, subst, inl, inr, le-ltb, arith}
use Rattle.std.proofs.lemmas.Bool.{cases_eq}
use Rattle.std.specs.Cmp.{nat_cmp_total}
use Rattle.std.specs.FinMap as map
use Rattle.command_plans.specs.laws.Plan.{this_handle, this_file, passed, passed_all}
use Rattle.object_store.specs.Facts.{bytes_of}
use Rattle.posix_profile.specs.Changes.{with_bytes, with_offset, written}
use Rattle.posix_profile.specs.HandleSteps.{may_read, may_write, write_count, write_file, write_offset, seek_to}
use Rattle.posix_profile.specs.Outcomes.{Outcome, answer, refuse_or, unless}
use Rattle.posix_profile.specs.Paths.{first_error}
use Rattle.posix_profile.specs.State.{Object, File, Handle, Handles, State}
use Rattle.posix_profile.specs.Steps.{step}
use Rattle.posix_profile.specs.declared.command.Command.TheVariants as commands
use Rattle.posix_profile.specs.declared.command.Whence.TheVariants as origins
use Rattle.posix_profile.specs.declared.reply.Errno.{Errno}
use Rattle.posix_profile.specs.declared.reply.Errno.TheVariants as errors
use Rattle.posix_profile.specs.declared.reply.Reply.TheVariants as replies
use Rattle.posix_profile.specs.laws.Map.{get_here, get_there}
use Rattle.volume_terms.specs.Sizes.{Sizes, offset_limit}
use Rattle.flash_c.specs.Sessions.{at}

put_twice : (handles : Handles) (fd : ℕ) (a b : Handle) → map.insert (map.insert handles fd a) fd b ≡ map.insert handles fd b
put_twice handles fd a b = map.same_map nat_cmp_total map.nat_cmp-IsAntisymmetric _ _ (λ k. elim (cases_eq k fd) [
  | inl here ↦ subst (λ n. map.get (map.insert (map.insert handles fd a) fd b) n ≡ map.get (map.insert handles fd b) n) (sym here)
      (get_here nat_cmp_total map.nat_cmp-IsAntisymmetric (map.insert handles fd a) fd b ∙ sym (get_here nat_cmp_total map.nat_cmp-IsAntisymmetric handles fd b))
  | inr there ↦ get_there nat_cmp_total map.nat_cmp-IsAntisymmetric (map.insert handles fd a) fd b k there
      ∙ get_there nat_cmp_total map.nat_cmp-IsAntisymmetric handles fd a k there ∙ sym (get_there nat_cmp_total map.nat_cmp-IsAntisymmetric handles fd b k there)
])

put_same : (handles : Handles) (fd : ℕ) (h : Handle) → map.get handles fd ≡ Some h → map.insert handles fd h ≡ handles
put_same handles fd h is = map.same_map nat_cmp_total map.nat_cmp-IsAntisymmetric _ _ (λ k. elim (cases_eq k fd) [
  | inl here ↦ subst (λ n. map.get (map.insert handles fd h) n ≡ map.get handles n) (sym here) (get_here nat_cmp_total map.nat_cmp-IsAntisymmetric handles fd h ∙ sym is)
  | inr there ↦ get_there nat_cmp_total map.nat_cmp-IsAntisymmetric handles fd h k there
])

-- a descriptor's offset is put back
moved_back : (s : State) (fd : ℕ) (h : Handle) (n m : ℕ) → map.get s.handles fd ≡ Some h
    → with_offset (with_offset (with_offset s fd h n) fd (record h { offset = n }) m) fd (record h { offset = m }) h.offset ≡ s
moved_back s fd h n m is = ap (λ (hs : Handles). record s { handles = hs })
    (put_twice (map.insert s.handles fd (record h { offset = n })) fd (record h { offset = m }) h ∙ put_twice s.handles fd (record h { offset = n }) h
    ∙ put_same s.handles fd h is)

-- a seek to a place
seek_there : (z : Sizes) (read_only : Bool) (s : State) (fd n moment : ℕ) (h : Handle) (bytes : List ℕ) → map.get s.handles fd ≡ Some h
    → map.get s.objects h.object ≡ Some (File moment bytes) → n ≤ offset_limit
    → step z read_only s (at 0 (commands.Seek fd (pos n) origins.Set)) ≡ answer (with_offset s fd h n) (replies.At n)
unfolding Rattle.posix_profile.specs.Steps.step_at
seek_there z read_only s fd n moment h bytes is file within_limit =
    let there : List ℕ → Outcome = λ found. seek_to s fd h (pos 0 +ℤ pos n) in
    let zero : 0 + n ≡ n = omega arith in
    let sum : pos 0 +ℤ pos n ≡ pos n = ap pos zero in
    sym (passed_all s (answer (with_offset s fd h n) (replies.At n)) ∙ passed s (nat_lt offset_limit n) errors.EOVERFLOW [] _ (le-ltb offset_limit n within_limit)
    ∙ ap (seek_to s fd h) (sym sum) ∙ this_file s errors.EINVAL there h.object (moment, bytes, file) _ file ∙ this_handle s _ _ h (sym is))

-- a seek by nothing from where the descriptor is
seek_here : (z : Sizes) (read_only : Bool) (s : State) (fd moment : ℕ) (h : Handle) (bytes : List ℕ) → map.get s.handles fd ≡ Some h
    → map.get s.objects h.object ≡ Some (File moment bytes) → h.offset ≤ offset_limit
    → step z read_only s (at 0 (commands.Seek fd (pos 0) origins.Cur)) ≡ answer s (replies.At h.offset)
unfolding Rattle.posix_profile.specs.Steps.step_at
seek_here z read_only s fd moment h bytes is file committed =
    let there : List ℕ → Outcome = λ found. seek_to s fd h (pos h.offset +ℤ pos 0) in
    let zero : h.offset + 0 ≡ h.offset = omega arith in
    let sum : pos h.offset +ℤ pos 0 ≡ pos h.offset = ap pos zero in
    let same : with_offset s fd h h.offset ≡ s = ap (λ (hs : Handles). record s { handles = hs }) (put_same s.handles fd h is) in
    sym (ap (λ (t : State). answer t (replies.At h.offset)) (sym same) ∙ passed_all s (answer (with_offset s fd h h.offset) (replies.At h.offset))
    ∙ passed s (nat_lt offset_limit h.offset) errors.EOVERFLOW [] _ (le-ltb offset_limit h.offset committed) ∙ ap (seek_to s fd h) (sym sum)
    ∙ this_file s errors.EINVAL there h.object (moment, bytes, file) _ file ∙ this_handle s _ _ h (sym is))

-- a read of a file
read_there : (z : Sizes) (read_only : Bool) (s : State) (fd count moment : ℕ) (h : Handle) (bytes : List ℕ) → map.get s.handles fd ≡ Some h
    → may_read h.flags.access ≡ true → map.get s.objects h.object ≡ Some (File moment bytes)
    → step z read_only s (at 0 (commands.Read fd count))
    ≡ answer (with_offset s fd h (h.offset + length (take count (drop h.offset bytes)))) (replies.Data (take count (drop h.offset bytes)))
unfolding Rattle.posix_profile.specs.Steps.step_at
read_there z read_only s fd count moment h bytes is may file =
    let reported : List ℕ → Outcome =
    λ found. answer (with_offset s fd h (h.offset + length (take count (drop h.offset found)))) (replies.Data (take count (drop h.offset found))) in
    sym (ap (λ (o : Option Object). reported (bytes_of o)) (sym file) ∙ this_file s errors.EISDIR reported h.object (moment, bytes, file) _ file ∙ passed_all s _
    ∙ passed s (not (may_read h.flags.access)) errors.EBADF [] _ (ap not may) ∙ this_handle s _ _ h (sym is))

-- A descriptor may read a file. A seek by nothing returns its offset, and a read of no bytes none; both leave the state. A seek to an offset, a
-- read and a seek back read the bytes at the offset and leave the state.
abbrev pub ReadsInPlace : Type 0
ReadsInPlace = (z : Sizes) (read_only : Bool) (s : State) (fd n count moment : ℕ) (handle : Handle) (bytes : List ℕ)
    → map.get s.handles fd ≡ Some handle → may_read handle.flags.access ≡ true → map.get s.objects handle.object ≡ Some (File moment bytes)
    → handle.offset ≤ offset_limit → n ≤ offset_limit
    → let there = (step z read_only s (at 0 (commands.Seek fd (pos n) origins.Set))).state in
    let read = step z read_only there (at 0 (commands.Read fd count)) in
    (step z read_only s (at 0 (commands.Read fd 0)) ≡ answer s (replies.Data []))
    × (step z read_only s (at 0 (commands.Seek fd (pos 0) origins.Cur)) ≡ answer s (replies.At handle.offset))
    × (read.reply ≡ replies.Data (take count (drop n bytes)))
    × ((step z read_only read.state (at 0 (commands.Seek fd (pos handle.offset) origins.Set))).state ≡ s)

pub read_in_place : ReadsInPlace
read_in_place z read_only s fd n count moment handle bytes is may file committed within_limit =
    let m : ℕ = n + length (take count (drop n bytes)) in
    let there : State = with_offset s fd handle n in
    let left : State = with_offset there fd (record handle { offset = n }) m in
    let here = get_here nat_cmp_total map.nat_cmp-IsAntisymmetric in
    let seek = ap (λ (o : Outcome). o.state) (seek_there z read_only s fd n moment handle bytes is file within_limit) in
    let read = ap (λ (t : State). step z read_only t (at 0 (commands.Read fd count))) seek
    ∙ read_there z read_only there fd count moment (record handle { offset = n }) bytes (here s.handles fd (record handle { offset = n })) may file in
    let back = seek_there z read_only left fd handle.offset moment (record handle { offset = m }) bytes (here there.handles fd (record handle { offset = m })) file committed in
    let zero : handle.offset + 0 ≡ handle.offset = omega arith in
    let same : with_offset s fd handle handle.offset ≡ s = ap (λ (hs : Handles). record s { handles = hs }) (put_same s.handles fd handle is) in (
      read_there z read_only s fd 0 moment handle bytes is may file ∙ ap (λ (t : State). answer t (replies.Data [])) (ap (with_offset s fd handle) zero ∙ same),
      seek_here z read_only s fd moment handle bytes is file committed,
      ap (λ (o : Outcome). o.reply) read,
      ap (λ (o : Outcome). (step z read_only o.state (at 0 (commands.Seek fd (pos handle.offset) origins.Set))).state) read
          ∙ ap (λ (o : Outcome). o.state) back ∙ moved_back s fd handle n m is,
    )

-- an outcome that wrote was not refused
not_refused : (s t : State) (tests : List (Bool × Errno)) (j k : ℕ) → (unless s tests (answer t (replies.Wrote j))).reply ≡ replies.Wrote k
    → (unless s tests (answer t (replies.Wrote j)) ≡ answer t (replies.Wrote j)) × (j ≡ k)
unfolding unless
not_refused s t tests j k wrote = go (first_error tests) wrote
  where
    go : (r : Option Errno) → (refuse_or s r (answer t (replies.Wrote j))).reply ≡ replies.Wrote k
        → (refuse_or s r (answer t (replies.Wrote j)) ≡ answer t (replies.Wrote j)) × (j ≡ k)
    go None is = (refl, let same : replies.Wrote j ≡ replies.Wrote k = is in cc)
    go (Some e) is = absurd cc

-- a write of some bytes to a file, and what it leaves where it wrote
write_there : (z : Sizes) (read_only : Bool) (s : State) (fd now moment byte k : ℕ) (h : Handle) (bytes more : List ℕ) → map.get s.handles fd ≡ Some h
    → may_write h.flags.access ≡ true → h.flags.append ≡ false → map.get s.objects h.object ≡ Some (File moment bytes)
    → (step z read_only s (at now (commands.Write fd (byte ∷ more)))).reply ≡ replies.Wrote k
    → (step z read_only s (at now (commands.Write fd (byte ∷ more)))).state
    ≡ with_offset (record s { objects = with_bytes s.objects now h.object (written bytes h.offset (take k (byte ∷ more))) }) fd h (h.offset + k)
unfolding Rattle.posix_profile.specs.Steps.step_at
write_there z read_only s fd now moment byte k h bytes more is may append file wrote =
    let new : List ℕ = byte ∷ more in
    let act : List ℕ → Outcome = write_file z now s fd h new in
    let all : act bytes ≡ step z read_only s (at now (commands.Write fd new)) =
    ap (λ (o : Option Object). act (bytes_of o)) (sym file) ∙ this_file s errors.EBADF act h.object (moment, bytes, file) _ file ∙ passed_all s _
    ∙ passed s (not (may_write h.flags.access)) errors.EBADF [] _ (ap not may) ∙ this_handle s _ _ h (sym is) in
    let j : ℕ = write_count z now s h bytes new in
    let done = not_refused s _ _ j k (ap (λ (o : Outcome). o.reply) all ∙ wrote) in
    let place : write_offset h bytes ≡ h.offset = ap (λ (b : Bool). if b then length bytes else h.offset) append in
    let left : ℕ → ℕ → State = λ offset count.
    with_offset (record s { objects = with_bytes s.objects now h.object (written bytes offset (take count new)) }) fd h (offset + count) in
    sym (ap (λ (o : Outcome). o.state) all) ∙ ap (λ (o : Outcome). o.state) done.0 ∙ ap (λ (n : ℕ). left (write_offset h bytes) n) done.1 ∙ ap (λ (n : ℕ). left n k) place

-- A descriptor may write a file, and does not append. A seek to an offset, a write of some bytes that wrote, and a seek back leave the state but for
-- the bytes of the file at the offset, and its moment.
abbrev pub WritesInPlace : Type 0
WritesInPlace = (z : Sizes) (read_only : Bool) (s : State) (fd n now moment byte k : ℕ) (handle : Handle) (bytes more : List ℕ)
    → map.get s.handles fd ≡ Some handle → may_write handle.flags.access ≡ true → handle.flags.append ≡ false
    → map.get s.objects handle.object ≡ Some (File moment bytes) → handle.offset ≤ offset_limit → n ≤ offset_limit
    → let there = (step z read_only s (at 0 (commands.Seek fd (pos n) origins.Set))).state in
    let write = step z read_only there (at now (commands.Write fd (byte ∷ more))) in
    write.reply ≡ replies.Wrote k → (step z read_only write.state (at 0 (commands.Seek fd (pos handle.offset) origins.Set))).state
    ≡ record s { objects = with_bytes s.objects now handle.object (written bytes n (take k (byte ∷ more))) }

pub write_in_place : WritesInPlace
write_in_place z read_only s fd n now moment byte k handle bytes more is may append file committed within_limit wrote =
    let new : List ℕ = written bytes n (take k (byte ∷ more)) in
    let put : State = record s { objects = with_bytes s.objects now handle.object new } in
    let there : State = with_offset s fd handle n in
    let left : State = with_offset (with_offset put fd handle n) fd (record handle { offset = n }) (n + k) in
    let here = get_here nat_cmp_total map.nat_cmp-IsAntisymmetric in
    let seek = ap (λ (o : Outcome). o.state) (seek_there z read_only s fd n moment handle bytes is file within_limit) in
    let write : State → Outcome = λ t. step z read_only t (at now (commands.Write fd (byte ∷ more))) in
    let does : (write there).state ≡ left = write_there z read_only there fd now moment byte k (record handle { offset = n }) bytes more
    (here s.handles fd (record handle { offset = n })) may append file (ap (λ (t : State). (write t).reply) (sym seek) ∙ wrote) in
    let back = seek_there z read_only left fd handle.offset now (record handle { offset = n + k }) new
    (here there.handles fd (record handle { offset = n + k })) (get_here nat_cmp_total map.nat_cmp-IsAntisymmetric s.objects handle.object (File now new)) committed in
    ap (λ (t : State). (step z read_only t (at 0 (commands.Seek fd (pos handle.offset) origins.Set))).state) (ap (λ (t : State). (write t).state) seek ∙ does)
    ∙ ap (λ (o : Outcome). o.state) back ∙ moved_back put fd handle n (n + k) is
