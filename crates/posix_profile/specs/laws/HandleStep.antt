-- The commands on descriptors keep a state sound.
use Rattle.std.specs.Prelude.{◌≡◌, ◌≢◌, ◌<◌, ◌≤◌, ◌^◌, ℕ, ◌+◌, ◌-◌, min, Bool, true, false, ◌&&◌, ◌||◌, List, [], ◌∷◌, length, take, drop, Option, Some, None, cond, ℤ, pos, negsuc}
use Rattle.std.proofs.Common.{refl, sym, ◌∙◌, inl, inr, arith}
use Rattle.std.proofs.lemmas.Bool.{true≢false, or_right, or_left, eqb-false, ltb-false, leb-false}
use Rattle.std.proofs.lemmas.List.{length-take, length-drop}
use Rattle.std.proofs.lemmas.List.Elements.{All-nil, All-take}
use Rattle.std.specs.FinMap as map
use Rattle.volume_terms.specs.Sizes.{Sizes, IsSizes, greatest_length, most_written, offset_limit}
use Rattle.posix_profile.specs.State.{Object, File, Dir, Handle, State, IsFile, is_directory}
use Rattle.posix_profile.specs.Charge.{fits}
use Rattle.posix_profile.specs.Paths.{Place, last_name}
use Rattle.posix_profile.specs.Outcomes.{Outcome, answer}
use Rattle.posix_profile.specs.Changes.{new_number, with_bytes, with_object, with_offset, written, resized}
use Rattle.posix_profile.specs.HandleSteps.{may_write, open_on, open_found, open_absent, open_at, open_step, close_step, read_step, write_offset, objects_written, write_count, write_file, write_bytes, write_step, seek_to, seek_step, truncate_to, truncate_step, fsync_step}
use Rattle.volume_terms.specs.Names.{AreBytes}
use Rattle.posix_profile.specs.laws.Outcome.{by_unless, by_place, by_handle, by_file, by_descriptor, by_change}
use Rattle.posix_profile.specs.laws.Number.{IsFreeDescriptor, free_descriptor_is, new_number_is, new_number_few, greatest_cases, greatest_length_few}
use Rattle.posix_profile.specs.laws.Charge.{fits_less, prune_less}
use Rattle.posix_profile.specs.laws.Handle.{offset_moved, handle_opened, handle_closed, bytes_changed, file_committed}
use Rattle.posix_profile.specs.laws.Entry.{object_added, object_there}
use Rattle.posix_profile.specs.laws.Path.{IsPlace, resolve_place}
use Rattle.posix_profile.specs.laws.Place.{absent_name, found_there}
use Rattle.posix_profile.specs.laws.Name.{file_or}
use Rattle.posix_profile.specs.laws.Sound.{IsSound, LeavesSound, refuse_sound, written_bytes, resized_bytes, length-resized, written_length}
use Rattle.posix_profile.specs.declared.command.OpenFlags.{OpenFlags}
use Rattle.posix_profile.specs.declared.command.Whence.{Whence}
use Rattle.posix_profile.specs.declared.reply.Reply.{Reply}

-- a test that asks for two facts doesn't hold, and the second does: so the first doesn't
first_fails : (a b : Bool) → (a && b) ≡ false → b ≡ true → a ≡ false
first_fails true b e h = absurd (true≢false (sym h ∙ e))
first_fails false b e h = refl

module _ (z : Sizes) (sizes : IsSizes z) (read_only : Bool) (moment : ℕ) (small : moment < 2 ^ 64) (s : State) (sound : IsSound z s) where
  abbrev P : Outcome → Type 0
  P = LeavesSound z

  same : (reply : Reply) → P (answer s reply)
  same reply = record { sound = sound }

  -- the file that a state's object is
  bytes_of : (o m : ℕ) (bytes : List ℕ) → map.get s.objects o ≡ Some (File m bytes) → AreBytes bytes × (length bytes ≤ greatest_length z)
  bytes_of o m bytes is = (sound.well_formed.forest.each o (File m bytes) is).content

  opened_found : (flags : OpenFlags) (o fd : ℕ) → (x : Object) × (map.get s.objects o ≡ Some x)
      → (is_directory (map.get s.objects o) && (flags.create || may_write flags.access || flags.trunc)) ≡ false
      → IsFreeDescriptor s.handles fd → (b : Bool) → flags.trunc ≡ b
      → fits z (cond b (with_bytes s.objects moment o []) s.objects) ≡ true
      → IsSound z (open_on (cond b (with_bytes s.objects moment o []) s.objects) s fd o flags)
  opened_found flags o fd there none free false trunc fit = record {
    well_formed = handle_opened z s sound.well_formed fd o flags free.free free.low there
        (λ may. file_or s.objects o there.0 there.1 (first_fails _ _ none (or_left (flags.create || may_write flags.access) flags.trunc (or_right flags.create (may_write flags.access) may))));
    fit = fit;
  }
  opened_found flags o fd there none free true trunc fit =
      let file : IsFile s.objects o = file_or s.objects o there.0 there.1 (first_fails _ _ none (or_right (flags.create || may_write flags.access) flags.trunc trunc)) in
      let cut = bytes_changed z s sound.well_formed moment o [] file small (All-nil _) (omega arith) in
      let now = file_committed z s sound.well_formed moment o [] file small (All-nil _) (omega arith) o file in
      record {
        well_formed = handle_opened z (record s { objects = with_bytes s.objects moment o [] }) cut fd o flags free.free free.low (File now.0 now.1, now.2) (λ may. now);
        fit = fit;
      }

  found_sound : (flags : OpenFlags) (o : ℕ) → (x : Object) × (map.get s.objects o ≡ Some x) → P (open_found z read_only moment s flags o)
  found_sound flags o there = by_unless P s (refuse_sound z s sound) _ _ (λ tests. by_descriptor P s (refuse_sound z s sound) _ _ (λ fd free.
      by_unless P s (refuse_sound z s sound) _ _ (λ _. by_change P s (refuse_sound z s sound) z _ _ (λ fit.
      record { sound = opened_found flags o fd there tests.1.0 (free_descriptor_is s.handles fd free) flags.trunc refl fit }))))

  absent_sound : (flags : OpenFlags) (place : Place) → IsPlace s.objects place → place.object ≡ None → P (open_absent z read_only moment s flags place)
  absent_sound flags place is none =
      let forest = sound.well_formed.forest in
      let name = absent_name s.objects place.directory place.last place.object none is.ends in
      let number = new_number_is s.objects in
      let x : Object = File moment [] in
      let added = object_added z s sound.well_formed moment place.directory (new_number s.objects) (last_name place.last) x is.directory is.reached name.0 name.1 small
      number.free number.low (record { numbered = omega (arith, number.low); number = new_number_few z sizes s.objects sound.fit; moment = small; content = (All-nil _, omega arith) })
      (λ m entries k c e get. let two : File moment [] ≡ Dir m entries = e in cc) in
      let there = object_there z s sound.well_formed moment place.directory (new_number s.objects) (last_name place.last) x is.directory is.reached name.0 name.1 small
      number.free number.low (record { numbered = omega (arith, number.low); number = new_number_few z sizes s.objects sound.fit; moment = small; content = (All-nil _, omega arith) })
      (λ m entries k c e get. let two : File moment [] ≡ Dir m entries = e in cc) in
      by_unless P s (refuse_sound z s sound) _ _ (λ _. by_descriptor P s (refuse_sound z s sound) _ _ (λ fd free.
      let f = free_descriptor_is s.handles fd free in
      by_unless P s (refuse_sound z s sound) _ _ (λ _. by_change P s (refuse_sound z s sound) z _ _ (λ fit. record {
        sound = record {
          well_formed = handle_opened z (record s { objects = with_object s.objects moment place.directory (last_name place.last) x }) added fd (new_number s.objects) flags f.free f.low (x, there) (λ may. (moment, [], there));
          fit = fit;
        };
      }))))

  place_sound : (flags : OpenFlags) (place : Place) → IsPlace s.objects place → (o : Option ℕ) → place.object ≡ o → P (open_at z read_only moment s flags place o)
  place_sound flags place is (Some o) there = found_sound flags o (found_there z s.objects sound.well_formed.forest place.directory o place.last place.object is.directory there is.ends)
  place_sound flags place is None none = absent_sound flags place is none

  pub open_sound : (path : List ℕ) (flags : OpenFlags) → AreBytes path → P (open_step z read_only moment s path flags)
  open_sound path flags are = by_unless P s (refuse_sound z s sound) _ _ (λ _. by_place P s (refuse_sound z s sound) _ _ (λ place is.
      place_sound flags place (resolve_place z s.objects sound.well_formed.forest path place are is) place.object refl))

  pub close_sound : (fd : ℕ) → P (close_step s fd)
  close_sound fd = by_handle P s (refuse_sound z s sound) _ _ (λ handle _. record {
    sound = record {
      well_formed = handle_closed z s sound.well_formed fd;
      fit = fits_less z s.objects _ (prune_less z (record s { handles = map.remove s.handles fd })) sound.fit;
    };
  })

  moved : (fd : ℕ) (handle : Handle) (offset : ℕ) (reply : Reply) → map.get s.handles fd ≡ Some handle → offset ≤ offset_limit → P (answer (with_offset s fd handle offset) reply)
  moved fd handle offset reply is le = record { sound = record { well_formed = offset_moved z s sound.well_formed fd handle offset is le; fit = sound.fit } }

  read_end : (bytes : List ℕ) (offset count : ℕ) → length bytes ≤ greatest_length z → offset ≤ offset_limit → offset + length (take count (drop offset bytes)) ≤ offset_limit
  read_end bytes offset count short low = omega (arith, length-take count (drop offset bytes), length-drop offset bytes, greatest_length_few z sizes)

  pub read_sound : (fd count : ℕ) → P (read_step s fd count)
  read_sound fd count = by_handle P s (refuse_sound z s sound) _ _ (λ handle is. by_unless P s (refuse_sound z s sound) _ _ (λ _. by_file P s (refuse_sound z s sound) _ _ _ (λ m bytes there.
      moved fd handle _ _ is (read_end bytes handle.offset count (bytes_of handle.object m bytes there).1 (sound.well_formed.handles fd handle is).offset))))

  write_file_sound : (fd : ℕ) (handle : Handle) (m : ℕ) (bytes new : List ℕ) → map.get s.handles fd ≡ Some handle → map.get s.objects handle.object ≡ Some (File m bytes) → AreBytes new
      → P (write_file z moment s fd handle new bytes)
  write_file_sound fd handle m bytes new is there are = by_unless P s (refuse_sound z s sound) _ _ (λ tests.
      let offset = write_offset handle bytes in
      let k = write_count z moment s handle bytes new in
      let old = bytes_of handle.object m bytes there in
      let most = greatest_cases (λ k. fits z (objects_written moment s handle bytes new k)) (min (length new) (min (most_written z) (greatest_length z - offset))) in
      let some : k ≢ 0 = eqb-false k 0 tests.1.0 in
      let low : offset < greatest_length z = leb-false (greatest_length z) offset tests.0 in
      let within : k ≤ min (length new) (min (most_written z) (greatest_length z - offset)) = most.0 in
      let ends : offset + k ≤ greatest_length z = omega arith in
      let all : length (take k new) ≡ k = omega (arith, length-take k new) in
      let put = bytes_changed z s sound.well_formed moment handle.object (written bytes offset (take k new)) (m, bytes, there) small
      (written_bytes bytes offset (take k new) old.0 (All-take (λ b. b < 256) k new are))
      (written_length bytes offset (take k new) (greatest_length z) old.1 (omega arith)) in
      record {
        sound = record {
          well_formed = offset_moved z (record s { objects = objects_written moment s handle bytes new k }) put fd handle (offset + k) is (omega (arith, greatest_length_few z sizes));
          fit = elim most.1 [ inl none ↦ absurd (some none) | inr fit ↦ fit ];
        };
      })

  write_bytes_sound : (fd : ℕ) (handle : Handle) (new : List ℕ) → map.get s.handles fd ≡ Some handle → AreBytes new → P (write_bytes z moment s fd handle new)
  write_bytes_sound fd handle [] is are = same _
  write_bytes_sound fd handle (byte ∷ bytes) is are = by_file P s (refuse_sound z s sound) _ _ _ (λ m old there. write_file_sound fd handle m old (byte ∷ bytes) is there are)

  pub write_sound : (fd : ℕ) (new : List ℕ) → AreBytes new → P (write_step z moment s fd new)
  write_sound fd new are = by_handle P s (refuse_sound z s sound) _ _ (λ handle is. by_unless P s (refuse_sound z s sound) _ _ (λ _. write_bytes_sound fd handle new is are))

  seek_to_sound : (fd : ℕ) (handle : Handle) (offset : ℤ) → map.get s.handles fd ≡ Some handle → P (seek_to s fd handle offset)
  seek_to_sound fd handle (pos n) is = by_unless P s (refuse_sound z s sound) _ _ (λ tests. moved fd handle n _ is (ltb-false offset_limit n tests.0))
  seek_to_sound fd handle (negsuc n) is = refuse_sound z s sound _

  pub seek_sound : (fd : ℕ) (offset : ℤ) (whence : Whence) → P (seek_step s fd offset whence)
  seek_sound fd offset whence = by_handle P s (refuse_sound z s sound) _ _ (λ handle is. by_file P s (refuse_sound z s sound) _ _ _ (λ m bytes there. seek_to_sound fd handle _ is))

  truncate_to_sound : (handle : Handle) (length : ℤ) → P (truncate_to z moment s handle length)
  truncate_to_sound handle (pos n) = by_unless P s (refuse_sound z s sound) _ _ (λ tests. by_file P s (refuse_sound z s sound) _ _ _ (λ m bytes there.
      let old = bytes_of handle.object m bytes there in
      by_change P s (refuse_sound z s sound) z _ _ (λ fit. record {
        sound = record {
          well_formed = bytes_changed z s sound.well_formed moment handle.object (resized bytes n) (m, bytes, there) small (resized_bytes bytes n old.0)
              (omega (arith, length-resized bytes n, ltb-false (greatest_length z) n tests.0));
          fit = fit;
        };
      })))
  truncate_to_sound handle (negsuc n) = refuse_sound z s sound _

  pub truncate_sound : (fd : ℕ) (length : ℤ) → P (truncate_step z moment s fd length)
  truncate_sound fd length = by_handle P s (refuse_sound z s sound) _ _ (λ handle is. by_unless P s (refuse_sound z s sound) _ _ (λ _. truncate_to_sound handle length))

  pub fsync_sound : (fd : ℕ) → P (fsync_step s fd)
  fsync_sound fd = by_handle P s (refuse_sound z s sound) _ _ (λ handle is. same _)
