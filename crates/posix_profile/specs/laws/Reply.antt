-- The numbers of a reply fit their types, and what it reports is bytes and names.
use Rattle.std.specs.Prelude.{◌≡◌, ◌<◌, ◌≤◌, ◌^◌, ℕ, ◌+◌, ◌-◌, ◌*◌, min, Bool, true, false, List, [], ◌∷◌, length, take, drop, map as list_map, filter, Option, Some, None, cond, nat_eq, ℤ, pos, negsuc, All}
use Rattle.std.proofs.Common.{refl, sym, ap, subst, inl, inr, arith}
use Rattle.std.proofs.lemmas.Bool.{leb-true, ltb-false}
use Rattle.std.proofs.lemmas.List.{length-append, length-map}
use Rattle.std.proofs.lemmas.List.Elements.{All-take, All-drop}
use Rattle.std.proofs.lemmas.List.Sums.{length-filter, count_by-le-length, sum_by-cons}
use Rattle.std.specs.List.{flat_map, sum_by}
use Rattle.std.specs.Cmp.{nat_cmp_total}
use Rattle.std.specs.Cmp.Lexicographic.{nat_list_cmp_total}
use Rattle.std.specs.FinMap as map
use Rattle.std.proofs.lemmas.Nat.{mul-le}
use Rattle.volume_terms.specs.Sizes.{Sizes, IsSizes, buffer_pages, most_written, page_slots, capacity, greatest_length, offset_limit}
use Rattle.posix_profile.specs.State.{Name, Entries, Object, File, Dir, Handle, State, is_directory}
use Rattle.posix_profile.specs.Names.{names_to, links}
use Rattle.posix_profile.specs.Charge.{cost, charge, fits}
use Rattle.volume_terms.specs.Rounding.{ceiling}
use Rattle.posix_profile.specs.Outcomes.{Outcome, answer, refuse}
use Rattle.posix_profile.specs.Paths.{Place}
use Rattle.posix_profile.specs.HandleSteps.{open_at, write_offset, objects_written, write_bytes, seek_to, truncate_to}
use Rattle.posix_profile.specs.NameSteps.{info, stat_of, mkdir_at, link_at, is_object, rename_to, list_of}
use Rattle.posix_profile.specs.Steps.{step_at}
use Rattle.volume_terms.specs.Names.{AreBytes, IsName}
use Rattle.posix_profile.specs.laws.Map.{map_member, member_get}
use Rattle.posix_profile.specs.laws.Name.{name_same}
use Rattle.posix_profile.specs.laws.Path.{all_from_members}
use Rattle.posix_profile.specs.laws.Total.{total_without}
use Rattle.posix_profile.specs.laws.Write.{ceiling_at_most}
use Rattle.posix_profile.specs.laws.Fresh.{slots_some}
use Rattle.posix_profile.specs.laws.Number.{free_descriptor_is, greatest_cases, pages_few, capacity_few, greatest_length_few}
use Rattle.posix_profile.specs.laws.Outcome.{by_unless, by_place, by_handle, by_file, by_descriptor, by_object, by_change}
use Rattle.posix_profile.specs.laws.Sound.{IsSound}
use Rattle.posix_profile.specs.declared.command.Command.{Command}
use Rattle.posix_profile.specs.declared.command.Command.TheVariants as commands
use Rattle.posix_profile.specs.declared.command.OpenFlags.{OpenFlags}
use Rattle.posix_profile.specs.declared.reply.Errno.{Errno}
use Rattle.posix_profile.specs.declared.reply.Info.{Info}
use Rattle.posix_profile.specs.declared.reply.SpaceInfo.{SpaceInfo}
use Rattle.posix_profile.specs.declared.reply.Reply.{Reply}
use Rattle.posix_profile.specs.declared.reply.Reply.TheVariants as replies

-- the numbers of what is reported of an object
pub record IsInfo (i : Info) : Type 0 where
  pub object : i.object < 2 ^ 64
  pub links : i.links < 2 ^ 64
  pub size : i.size < 2 ^ 64
  pub moment : i.moment < 2 ^ 64

-- the numbers of what is reported of a volume's room
pub record IsSpaceInfo (i : SpaceInfo) : Type 0 where
  pub unit : i.unit < 2 ^ 64
  pub total : i.total < 2 ^ 64
  pub free : i.free ≤ i.total

-- a reply as its type allows it
abbrev pub IsReply : Reply → Type 0
IsReply replies.Done = Unit {0}
IsReply (replies.Fd fd) = fd < 2 ^ 32
IsReply (replies.Data bytes) = AreBytes bytes
IsReply (replies.Wrote count) = count < 2 ^ 32
IsReply (replies.At offset) = offset < 2 ^ 64
IsReply (replies.Info i) = IsInfo i
IsReply (replies.Names names) = All IsName names
IsReply (replies.SpaceInfo i) = IsSpaceInfo i
IsReply (replies.Error error) = Unit {0}

-- the outcome's reply is one
pub record ReportsRight (o : Outcome) : Type 0 where
  pub reply : IsReply o.reply

-- an object has no more names of another than its cost allows entries
names_few : (z : Sizes) (o : ℕ) (x : Object) → 0 < page_slots z → length (names_to o x) ≤ page_slots z * cost z x
names_few z o (File moment bytes) some = omega arith
names_few z o (Dir moment entries) some =
    let test : Name × ℕ → Bool = λ e. nat_eq o e.1 in
    let n = count_by-le-length test (map.entries entries) in
    let named = length-map (filter test (map.entries entries)) (λ (e : Name × ℕ). e.0) in
    let entries_le = (ceiling_at_most (map.len entries) (page_slots z) (ceiling (map.len entries) (page_slots z)) some).0 (omega arith) in
    let product : page_slots z * (1 + ceiling (map.len entries) (page_slots z)) ≡ page_slots z + ceiling (map.len entries) (page_slots z) * page_slots z = grind arith in
    omega (arith, n, named, length-filter test (map.entries entries), map.len-entries entries, entries_le, product)

-- pairs with a key
abbrev with_key : ℕ → List Name → List (ℕ × Name)
with_key k names = list_map (λ name. (k, name)) names

with_key_length : (k : ℕ) (names : List Name) → length (with_key k names) ≡ length names
with_key_length k names = let pair : Name → ℕ × Name = λ name. (k, name) in length-map names pair

pairs_few : (z : Sizes) (o : ℕ) (es : List (ℕ × Object)) → 0 < page_slots z
    → length (flat_map (λ (e : ℕ × Object). with_key e.0 (names_to o e.1)) es) ≤ page_slots z * sum_by (cost z) (list_map (λ (e : ℕ × Object). e.1) es)
pairs_few z o [] some = omega arith
pairs_few z o (e ∷ es) some =
    let sum' = sum_by-cons (cost z) e.1 (list_map (λ (e : ℕ × Object). e.1) es) in
    let product : page_slots z * (cost z e.1 + sum_by (cost z) (list_map (λ (e : ℕ × Object). e.1) es)) ≡ page_slots z * cost z e.1 + page_slots z * sum_by (cost z) (list_map (λ (e : ℕ × Object). e.1) es) = grind arith in
    let here : length (with_key e.0 (names_to o e.1)) ≤ page_slots z * cost z e.1 =
    omega (arith, with_key_length e.0 (names_to o e.1), names_few z o e.1 some) in
    let rest = pairs_few z o es some in
    omega (
      arith,
      length-append (with_key e.0 (names_to o e.1)) (flat_map (λ (e : ℕ × Object). with_key e.0 (names_to o e.1)) es),
      here,
      rest,
      product,
      ap (λ n. page_slots z * n) sum',
    )

module _ (z : Sizes) (sizes : IsSizes z) (s : State) (sound : IsSound z s) where
  bytes_few : z.page_bytes ≤ 4096
  bytes_few = elim sizes.page_bytes [ inl a ↦ omega arith | inr b ↦ elim b [ inl c ↦ omega arith | inr d ↦ elim d [ inl e ↦ omega arith | inr f ↦ omega arith ] ] ]

  slots_few : page_slots z ≤ 4096
  slots_few = omega (arith, bytes_few)

  -- what all objects together may have of entries
  slots_charge : page_slots z * charge z s.objects ≤ 4096 * (4096 * 256)
  slots_charge = mul-le (page_slots z) (charge z s.objects) 4096 (4096 * 256) slots_few
      (omega (arith, leb-true (charge z s.objects) (capacity z) sound.fit, capacity_few z sizes))

  cost_charge : (o : ℕ) (x : Object) → map.get s.objects o ≡ Some x → cost z x ≤ charge z s.objects
  cost_charge o x is = omega (arith, total_without nat_cmp_total map.nat_cmp-IsAntisymmetric (cost z) s.objects o x is)

  -- a directory has at most so many entries
  pub entries_few : (o m : ℕ) (entries : Entries) → map.get s.objects o ≡ Some (Dir m entries) → map.len entries ≤ 4096 * (4096 * 256)
  entries_few o m entries is =
      let le = (ceiling_at_most (map.len entries) (page_slots z) (ceiling (map.len entries) (page_slots z)) (slots_some z sizes)).0 (omega arith) in
      let part = mul-le (page_slots z) (ceiling (map.len entries) (page_slots z)) (page_slots z) (charge z s.objects) (omega arith) (omega (arith, cost_charge o (Dir m entries) is)) in
      let turn : ceiling (map.len entries) (page_slots z) * page_slots z ≡ page_slots z * ceiling (map.len entries) (page_slots z) = grind arith in
      omega (arith, le, part, turn, slots_charge)

  -- and an object so many links
  pub links_few : (o : ℕ) (x : Object) → map.get s.objects o ≡ Some x → links s.objects o x ≤ 2 + 4096 * (4096 * 256)
  links_few o (File m bytes) is = omega (arith, pairs_few z o (map.entries s.objects) (slots_some z sizes), slots_charge)
  links_few o (Dir m entries) is =
      omega (
        arith,
        count_by-le-length (λ child. is_directory (map.get s.objects child)) (map.values entries),
        length-map (map.entries entries) (λ (e : Name × ℕ). e.1),
        map.len-entries entries,
        entries_few o m entries is,
      )

  written_few : (n a : ℕ) → min n (min (most_written z) a) ≤ 64 * 4096
  written_few n a = omega (arith, mul-le (buffer_pages z - 3) z.page_bytes 64 4096 (omega (arith, pages_few z sizes)) bytes_few)

  abbrev P : Outcome → Type 0
  P = ReportsRight

  refused : (error : Errno) → P (refuse s error)
  refused error = record { reply = tt }

  done : (new : State) → P (answer new replies.Done)
  done new = record { reply = tt }

  fd_reported : (new : State) (fd : ℕ) → fd < 64 → P (answer new (replies.Fd fd))
  fd_reported new fd low = record { reply = omega arith }

  module _ (read_only : Bool) (moment : ℕ) where
    open_reported : (flags : OpenFlags) (place : Place) (o : Option ℕ) → P (open_at z read_only moment s flags place o)
    open_reported flags place (Some o) = by_unless P s refused _ _ (λ _. by_descriptor P s refused _ _ (λ fd free. by_unless P s refused _ _ (λ _. by_change P s refused z _ _ (λ _.
        fd_reported _ fd (free_descriptor_is s.handles fd free).low))))
    open_reported flags place None = by_unless P s refused _ _ (λ _. by_descriptor P s refused _ _ (λ fd free. by_unless P s refused _ _ (λ _. by_change P s refused z _ _ (λ _.
        fd_reported _ fd (free_descriptor_is s.handles fd free).low))))

    data_reported : (new : State) (o m count offset : ℕ) (bytes : List ℕ) → map.get s.objects o ≡ Some (File m bytes) → P (answer new (replies.Data (take count (drop offset bytes))))
    data_reported new o m count offset bytes is =
        let are = (sound.well_formed.forest.each o (File m bytes) is).content.0 in
        record { reply = All-take (λ b. b < 256) count (drop offset bytes) (All-drop (λ b. b < 256) offset bytes are) }

    write_reported : (fd : ℕ) (handle : Handle) (new : List ℕ) → P (write_bytes z moment s fd handle new)
    write_reported fd handle [] = record { reply = omega arith }
    write_reported fd handle (byte ∷ rest) = by_file P s refused _ _ _ (λ m bytes is. by_unless P s refused _ _ (λ _. record {
      reply =
          (let most = greatest_cases (λ k. fits z (objects_written moment s handle bytes (byte ∷ rest) k)) (min (length (byte ∷ rest)) (min (most_written z) (greatest_length z - write_offset handle bytes))) in
          let within_limit = written_few (length (byte ∷ rest)) (greatest_length z - write_offset handle bytes) in
          omega (arith, most.0, within_limit));
    }))

    seek_reported : (fd : ℕ) (handle : Handle) (offset : ℤ) → P (seek_to s fd handle offset)
    seek_reported fd handle (pos n) = by_unless P s refused _ _ (λ tests. record { reply = omega (arith, ltb-false offset_limit n tests.0) })
    seek_reported fd handle (negsuc n) = refused _

    truncate_reported : (handle : Handle) (length : ℤ) → P (truncate_to z moment s handle length)
    truncate_reported handle (pos n) = by_unless P s refused _ _ (λ _. by_file P s refused _ _ _ (λ _ there _. by_change P s refused z _ _ (λ _. done _)))
    truncate_reported handle (negsuc n) = refused _

    info_reported : (o : ℕ) (x : Object) → map.get s.objects o ≡ Some x → IsInfo (info s.objects o x)
    info_reported o (File m bytes) is =
        let object = sound.well_formed.forest.each o (File m bytes) is in
        record { object = omega (arith, object.number); links = omega (arith, links_few o (File m bytes) is); size = omega (arith, object.content.1, greatest_length_few z sizes); moment = object.moment }
    info_reported o (Dir m entries) is =
        let object = sound.well_formed.forest.each o (Dir m entries) is in
        record { object = omega (arith, object.number); links = omega (arith, links_few o (Dir m entries) is); size = omega arith; moment = object.moment }

    stat_reported : (o : ℕ) (object : Option Object) → map.get s.objects o ≡ object → P (stat_of s o object)
    stat_reported o None is = refused _
    stat_reported o (Some object) is = record { reply = info_reported o object is }

    mkdir_reported : (place : Place) (o : Option ℕ) → P (mkdir_at z read_only moment s place o)
    mkdir_reported place (Some o) = refused _
    mkdir_reported place None = by_unless P s refused _ _ (λ _. by_change P s refused z _ _ (λ _. done _))

    link_reported : (o : ℕ) (place : Place) (there : Option ℕ) → P (link_at z read_only moment s o place there)
    link_reported o place (Some there) = refused _
    link_reported o place None = by_unless P s refused _ _ (λ _. by_change P s refused z _ _ (λ _. done _))

    list_reported : (o : ℕ) (object : Option Object) → map.get s.objects o ≡ object → P (list_of s object)
    list_reported o None is = refused _
    list_reported o (Some (File m bytes)) is = refused _
    list_reported o (Some (Dir m entries)) is = record {
      reply = all_from_members IsName (map.keys entries) (λ name in'.
          let e = map_member (λ (e : Name × ℕ). e.0) (map.entries entries) name in' in
          let got = member_get nat_list_cmp_total name_same entries e.0 e.1 in
          subst IsName (sym e.2) ((sound.well_formed.forest.each o (Dir m entries) is).content e.0.0 e.0.1 got));
    }

    same_or : (b : Bool) (o : Outcome) → P o → P (cond b (answer s replies.Done) o)
    same_or true o h = done s
    same_or false o h = h

    rename_reported : (from to : Place) (o : ℕ) → P (rename_to z read_only moment s from to o)
    rename_reported from to o = same_or (is_object o to.object) _
        (by_unless P s refused _ _ (λ _. by_unless P s refused _ _ (λ _. by_unless P s refused _ _ (λ _. by_change P s refused z _ _ (λ _. done _)))))

    pub command_reported : (command : Command) → ReportsRight (step_at z read_only s moment command)
    unfolding step_at
    command_reported (commands.Open path flags) = by_unless P s refused _ _ (λ _. by_place P s refused _ _ (λ place _. open_reported flags place place.object))
    command_reported (commands.Close fd) = by_handle P s refused _ _ (λ handle _. done _)
    command_reported (commands.Read fd count) = by_handle P s refused _ _ (λ handle _. by_unless P s refused _ _ (λ _. by_file P s refused _ _ _ (λ m bytes is. data_reported _ handle.object m count handle.offset bytes is)))
    command_reported (commands.Write fd bytes) = by_handle P s refused _ _ (λ handle _. by_unless P s refused _ _ (λ _. write_reported fd handle bytes))
    command_reported (commands.Seek fd offset whence) = by_handle P s refused _ _ (λ handle _. by_file P s refused _ _ _ (λ _ bytes _. seek_reported fd handle _))
    command_reported (commands.Truncate fd length) = by_handle P s refused _ _ (λ handle _. by_unless P s refused _ _ (λ _. truncate_reported handle length))
    command_reported (commands.Fsync fd) = by_handle P s refused _ _ (λ handle _. done s)
    command_reported commands.Sync = done s
    command_reported (commands.Stat path) = by_place P s refused _ _ (λ place _. by_object P s refused _ _ (λ o _. stat_reported o _ refl))
    command_reported (commands.Mkdir path) = by_place P s refused _ _ (λ place _. mkdir_reported place place.object)
    command_reported (commands.Rmdir path) = by_place P s refused _ _ (λ place _. by_unless P s refused _ _ (λ _. by_object P s refused _ _ (λ o _. by_unless P s refused _ _ (λ _. done _))))
    command_reported (commands.Link old new) = by_place P s refused _ _ (λ from _. by_object P s refused _ _ (λ o _. by_unless P s refused _ _ (λ _. by_place P s refused _ _ (λ to _. link_reported o to to.object))))
    command_reported (commands.Unlink path) = by_place P s refused _ _ (λ place _. by_object P s refused _ _ (λ o _. by_unless P s refused _ _ (λ _. done _)))
    command_reported (commands.Rename old new) = by_place P s refused _ _ (λ from _. by_place P s refused _ _ (λ to _. by_unless P s refused _ _ (λ _. by_object P s refused _ _ (λ o _. rename_reported from to o))))
    command_reported (commands.List path) = by_place P s refused _ _ (λ place _. by_object P s refused _ _ (λ o _. list_reported o _ refl))
    command_reported commands.Space = record { reply = record { unit = omega (arith, bytes_few); total = omega (arith, capacity_few z sizes); free = omega arith } }
