-- Small cases of whole commands, worked out on a volume that was just formatted.
use Rattle.std.specs.Prelude.{◌≡◌, ℕ, Bool, true, false, [], ◌∷◌, cond, ◌+◌, ◌-◌, ◌^◌, Some, None, pos, negsuc, not}
use Rattle.std.proofs.Common.{refl, sym, ◌∙◌, ap}
use Rattle.std.specs.Ordering.{nat_cmp, eq_by_cmp}
use Rattle.std.specs.Cmp.{nat_cmp_total}
use Rattle.std.specs.Cmp.Lexicographic.{slice_cmp, nat_list_cmp_total}
use Rattle.std.specs.FinMap as map
use Rattle.std.specs.FinMap.Entries.{put, where_key}
use Rattle.std.proofs.lemmas.List.{nil_from_length}
use Rattle.posix_profile.specs.State.{Name, Entries, Object, File, Dir, Objects, Handle, Handles, State}
use Rattle.posix_profile.specs.Paths.{resolve}
use Rattle.posix_profile.specs.Outcomes.{unless, change_to, at_place}
use Rattle.posix_profile.specs.HandleSteps.{at_handle, at_file, at_descriptor}
use Rattle.posix_profile.specs.NameSteps.{at_object}
use Rattle.posix_profile.specs.laws.Fresh.{fresh}
use Rattle.posix_profile.specs.laws.Map.{get_retained, entries-retain_keys, entries-remove}
use Rattle.posix_profile.specs.laws.Name.{name_same}
use Rattle.posix_profile.specs.Steps.{step_at}
use Rattle.posix_profile.proofs.Checks.{small_sizes}
use Rattle.posix_profile.specs.declared.command.Command.TheVariants as commands
use Rattle.posix_profile.specs.declared.command.Access.TheVariants as access
use Rattle.posix_profile.specs.declared.command.Whence.TheVariants as whence
use Rattle.posix_profile.specs.declared.command.OpenFlags.{OpenFlags}
use Rattle.posix_profile.specs.declared.reply.Kind.TheVariants as kinds
use Rattle.posix_profile.specs.declared.reply.Reply.TheVariants as replies
use Rattle.posix_profile.specs.declared.reply.Errno.TheVariants as errors

no_objects : map.entries (map.empty {X = Object} {R = nat_cmp}) ≡ []
no_objects = nil_from_length _ (sym (map.len-entries (map.empty {X = Object} {R = nat_cmp})) ∙ map.len-empty nat_cmp Object)

no_entries : map.len (map.empty {X = ℕ} {R = slice_cmp nat_cmp}) ≡ 0
no_entries = map.len-empty (slice_cmp nat_cmp) ℕ

no_values : map.entries (map.empty {X = ℕ} {R = slice_cmp nat_cmp}) ≡ []
no_values = nil_from_length _ (sym (map.len-entries (map.empty {X = ℕ} {R = slice_cmp nat_cmp})) ∙ no_entries)

root_alone : map.entries fresh.objects ≡ (1, Dir 0 map.empty) ∷ []
root_alone = map.entries-insert nat_cmp_total (map.empty {X = Object} {R = nat_cmp}) 1 (Dir 0 map.empty) ∙ ap (λ es. put nat_cmp 1 (Dir 0 map.empty) es) no_objects

space : (step_at small_sizes false fresh 0 commands.Space).reply ≡ replies.SpaceInfo (record { unit = 512; total = 144; free = 143 })
unfolding step_at
space = simp (root_alone, no_entries)

-- how the maps of a small state compute
put_objects : (m : Objects) (k : ℕ) (v : Object) → map.entries (map.insert m k v) ≡ put nat_cmp k v (map.entries m)
put_objects = map.entries-insert nat_cmp_total

get_objects : (m : Objects) (k : ℕ) (v : Object) (q : ℕ) → map.get (map.insert m k v) q ≡ cond (eq_by_cmp nat_cmp q k) (Some v) (map.get m q)
get_objects = map.get-insert nat_cmp_total

len_objects : (m : Objects) (k : ℕ) (v : Object) → map.len (map.insert m k v) ≡ cond (map.contains_key m k) (map.len m) (map.len m + 1)
len_objects = map.len-insert nat_cmp_total

len_entries : (m : Entries) (k : Name) (v : ℕ) → map.len (map.insert m k v) ≡ cond (map.contains_key m k) (map.len m) (map.len m + 1)
len_entries = map.len-insert nat_list_cmp_total

no_object : (q : ℕ) → map.get (map.empty {X = Object} {R = nat_cmp}) q ≡ None
no_object = map.get-empty nat_cmp

no_name : (q : Name) → map.get (map.empty {X = ℕ} {R = slice_cmp nat_cmp}) q ≡ None
no_name = map.get-empty (slice_cmp nat_cmp)

no_len : map.len (map.empty {X = Object} {R = nat_cmp}) ≡ 0
no_len = map.len-empty nat_cmp Object

no_handle : (q : ℕ) → map.get (map.empty {X = Handle} {R = nat_cmp}) q ≡ None
no_handle = map.get-empty nat_cmp

put_names : (m : Entries) (k : Name) (v : ℕ) → map.entries (map.insert m k v) ≡ put (slice_cmp nat_cmp) k v (map.entries m)
put_names = map.entries-insert nat_list_cmp_total

get_names : (m : Entries) (k : Name) (v : ℕ) (q : Name) → map.get (map.insert m k v) q ≡ cond (eq_by_cmp (slice_cmp nat_cmp) q k) (Some v) (map.get m q)
get_names = map.get-insert nat_list_cmp_total

put_handles : (m : Handles) (k : ℕ) (v : Handle) → map.entries (map.insert m k v) ≡ put nat_cmp k v (map.entries m)
put_handles = map.entries-insert nat_cmp_total

get_handles : (m : Handles) (k : ℕ) (v : Handle) (q : ℕ) → map.get (map.insert m k v) q ≡ cond (eq_by_cmp nat_cmp q k) (Some v) (map.get m q)
get_handles = map.get-insert nat_cmp_total

keep_objects : (m : Objects) (p : ℕ → Bool) → map.entries (map.retain_keys m p) ≡ where_key nat_cmp p (map.entries m)
keep_objects = entries-retain_keys nat_cmp_total map.nat_cmp-IsAntisymmetric

committed_object : (m : Objects) (p : ℕ → Bool) (q : ℕ) → map.get (map.retain_keys m p) q ≡ cond (p q) (map.get m q) None
committed_object = get_retained nat_cmp_total map.nat_cmp-IsAntisymmetric

left_names : (m : Entries) (k : Name) → map.entries (map.remove m k) ≡ where_key (slice_cmp nat_cmp) (λ x. not (eq_by_cmp (slice_cmp nat_cmp) k x)) (map.entries m)
left_names = entries-remove nat_list_cmp_total name_same

left_name : (m : Entries) (k q : Name) → map.get (map.remove m k) q ≡ cond (eq_by_cmp (slice_cmp nat_cmp) q k) None (map.get m q)
left_name = map.get-remove nat_list_cmp_total

left_len : (m : Entries) (k : Name) → map.len (map.remove m k) ≡ cond (map.contains_key m k) (map.len m - 1) (map.len m)
left_len = map.len-remove nat_list_cmp_total

no_handles : map.entries (map.empty {X = Handle} {R = nat_cmp}) ≡ []
no_handles = nil_from_length _ (sym (map.len-entries (map.empty {X = Handle} {R = nat_cmp})) ∙ map.len-empty nat_cmp Handle)

ruleset computes = (put_handles, no_handles, keep_objects, committed_object, left_names, left_name, left_len, put_objects, put_names, get_objects, get_names, get_handles, len_objects, len_entries, no_objects, no_values, no_entries, no_object, no_name, no_len, no_handle)

abbrev both : Bool → Bool → Bool → OpenFlags
both create excl trunc = record { access = access.Both; create = create; excl = excl; trunc = trunc; append = false }

abbrev reading : OpenFlags
reading = record { access = access.Read; create = false; excl = false; trunc = true; append = false }

mkdir : (step_at small_sizes false fresh 7 (commands.Mkdir (47 ∷ 100 ∷ []))).reply ≡ replies.Done
unfolding step_at resolve unless change_to at_place
mkdir = simp computes

open_new : (step_at small_sizes false fresh 7 (commands.Open (47 ∷ 97 ∷ []) (both true false false))).reply ≡ replies.Fd 0
unfolding step_at resolve unless change_to at_place at_descriptor
open_new = simp computes

open_absent : (step_at small_sizes false fresh 7 (commands.Open (47 ∷ 97 ∷ []) (both false true false))).reply ≡ replies.Error errors.ENOENT
unfolding step_at resolve unless change_to at_place at_descriptor
open_absent = simp computes

open_root : (step_at small_sizes false fresh 7 (commands.Open (47 ∷ []) (both false false false))).reply ≡ replies.Error errors.EISDIR
unfolding step_at resolve unless change_to at_place at_descriptor
open_root = simp computes

open_to_cut : (step_at small_sizes false fresh 7 (commands.Open [] reading)).reply ≡ replies.Error errors.EINVAL
unfolding step_at resolve unless change_to at_place at_descriptor
open_to_cut = refl

rmdir_root : (step_at small_sizes false fresh 7 (commands.Rmdir (47 ∷ []))).reply ≡ replies.Error errors.EBUSY
unfolding step_at resolve unless change_to at_place
rmdir_root = refl

read_only_mkdir : (step_at small_sizes true fresh 7 (commands.Mkdir (47 ∷ 99 ∷ []))).reply ≡ replies.Error errors.EROFS
unfolding step_at resolve unless change_to at_place
read_only_mkdir = simp computes

stat_root : (step_at small_sizes false fresh 7 (commands.Stat (47 ∷ 46 ∷ 46 ∷ []))).reply ≡ replies.Info (record { kind = kinds.Directory; object = 1; links = 2; size = 0; moment = 0 })
unfolding step_at resolve unless change_to at_place at_object
stat_root = simp computes

-- a directory `/d`, and a file of five bytes under `/f` and `/g`, open for reading and writing at the greatest offset
abbrev three : State
three = record {
  objects = map.insert (map.insert (map.insert map.empty 1
      (Dir 3 (map.insert (map.insert (map.insert map.empty (102 ∷ []) 3) (100 ∷ []) 2) (103 ∷ []) 3)))
      2 (Dir 4 map.empty))
      3 (File 5 (104 ∷ 101 ∷ 108 ∷ 108 ∷ 111 ∷ []));
  handles = map.insert map.empty 0 (record { object = 3; flags = both true false false; offset = 2 ^ 63 - 1 });
}

rename_below : (step_at small_sizes false three 7 (commands.Rename (47 ∷ 100 ∷ []) (47 ∷ 100 ∷ 47 ∷ 101 ∷ []))).reply ≡ replies.Error errors.EINVAL
unfolding step_at resolve unless change_to at_place at_object
rename_below = simp computes

rename_onto_directory : (step_at small_sizes false three 7 (commands.Rename (47 ∷ 102 ∷ []) (47 ∷ 100 ∷ []))).reply ≡ replies.Error errors.EISDIR
unfolding step_at resolve unless change_to at_place at_object
rename_onto_directory = simp computes

rename_onto_file : (step_at small_sizes false three 7 (commands.Rename (47 ∷ 100 ∷ []) (47 ∷ 102 ∷ []))).reply ≡ replies.Error errors.ENOTDIR
unfolding step_at resolve unless change_to at_place at_object
rename_onto_file = simp computes

rename_same : (step_at small_sizes false three 7 (commands.Rename (47 ∷ 102 ∷ []) (47 ∷ 103 ∷ []))).reply ≡ replies.Done
unfolding step_at resolve unless change_to at_place at_object
rename_same = simp computes

rename_root : (step_at small_sizes false three 7 (commands.Rename (47 ∷ []) (47 ∷ 113 ∷ []))).reply ≡ replies.Error errors.EBUSY
unfolding step_at resolve unless change_to at_place at_object
rename_root = simp computes

rename_to_slash : (step_at small_sizes false three 7 (commands.Rename (47 ∷ 102 ∷ []) (47 ∷ 113 ∷ 47 ∷ []))).reply ≡ replies.Error errors.ENOTDIR
unfolding step_at resolve unless change_to at_place at_object
rename_to_slash = simp computes

rmdir_dot : (step_at small_sizes false three 7 (commands.Rmdir (47 ∷ 100 ∷ 47 ∷ 46 ∷ []))).reply ≡ replies.Error errors.EINVAL
unfolding step_at resolve unless change_to at_place at_object
rmdir_dot = simp computes

rmdir_dot_dot : (step_at small_sizes false three 7 (commands.Rmdir (47 ∷ 100 ∷ 47 ∷ 46 ∷ 46 ∷ []))).reply ≡ replies.Error errors.ENOTEMPTY
unfolding step_at resolve unless change_to at_place at_object
rmdir_dot_dot = simp computes

unlink_directory : (step_at small_sizes false three 7 (commands.Unlink (47 ∷ 100 ∷ []))).reply ≡ replies.Error errors.EPERM
unfolding step_at resolve unless change_to at_place at_object
unlink_directory = simp computes

link_to_slash : (step_at small_sizes false three 7 (commands.Link (47 ∷ 102 ∷ []) (47 ∷ 107 ∷ 47 ∷ []))).reply ≡ replies.Error errors.ENOENT
unfolding step_at resolve unless change_to at_place at_object
link_to_slash = simp computes

stat_linked : (step_at small_sizes false three 7 (commands.Stat (47 ∷ 103 ∷ []))).reply ≡ replies.Info (record { kind = kinds.File; object = 3; links = 2; size = 5; moment = 5 })
unfolding step_at resolve unless change_to at_place at_object
stat_linked = simp computes

stat_top : (step_at small_sizes false three 7 (commands.Stat (47 ∷ []))).reply ≡ replies.Info (record { kind = kinds.Directory; object = 1; links = 3; size = 0; moment = 3 })
unfolding step_at resolve unless change_to at_place at_object
stat_top = simp computes

list_top : (step_at small_sizes false three 7 (commands.List (47 ∷ []))).reply ≡ replies.Names ((100 ∷ []) ∷ (102 ∷ []) ∷ (103 ∷ []) ∷ [])
unfolding step_at resolve unless change_to at_place at_object
list_top = simp computes

space_left : (step_at small_sizes false three 7 commands.Space).reply ≡ replies.SpaceInfo (record { unit = 512; total = 144; free = 137 })
unfolding step_at
space_left = simp computes

write_far : (step_at small_sizes false three 7 (commands.Write 0 (120 ∷ []))).reply ≡ replies.Error errors.EFBIG
unfolding step_at unless at_handle at_file
write_far = simp computes

write_nothing : (step_at small_sizes false three 7 (commands.Write 0 [])).reply ≡ replies.Wrote 0
unfolding step_at unless at_handle at_file
write_nothing = simp computes

seek_far : (step_at small_sizes false three 7 (commands.Seek 0 (pos 1) whence.Cur)).reply ≡ replies.Error errors.EOVERFLOW
unfolding step_at unless at_handle at_file
seek_far = simp computes

seek_end : (step_at small_sizes false three 7 (commands.Seek 0 (negsuc 1) whence.End)).reply ≡ replies.At 3
unfolding step_at unless at_handle at_file
seek_end = simp computes

truncate_before : (step_at small_sizes false three 7 (commands.Truncate 0 (negsuc 0))).reply ≡ replies.Error errors.EINVAL
unfolding step_at unless at_handle at_file
truncate_before = simp computes

fsync_closed : (step_at small_sizes false three 7 (commands.Fsync 64)).reply ≡ replies.Error errors.EBADF
unfolding step_at at_handle
fsync_closed = simp computes

-- a directory made at moment 7 gives the root that moment
made_then_reported : (step_at small_sizes false (step_at small_sizes false fresh 7 (commands.Mkdir (47 ∷ 100 ∷ []))).state 9 (commands.Stat (47 ∷ []))).reply
    ≡ replies.Info (record { kind = kinds.Directory; object = 1; links = 3; size = 0; moment = 7 })
unfolding step_at resolve unless change_to at_place at_object
made_then_reported = simp computes

-- a file made at moment 9 and written at 12
opened_then_wrote : (step_at small_sizes false (step_at small_sizes false (step_at small_sizes false fresh 9 (commands.Open (47 ∷ 102 ∷ []) (both true false false))).state 12 (commands.Write 0 (97 ∷ []))).state 20 (commands.Stat (47 ∷ 102 ∷ []))).reply
    ≡ replies.Info (record { kind = kinds.File; object = 2; links = 1; size = 1; moment = 12 })
unfolding step_at resolve unless change_to at_place at_object at_descriptor at_handle at_file
opened_then_wrote = simp computes

-- a name goes: the other one stays, and the directory has the moment
unlinked_file : (step_at small_sizes false (step_at small_sizes false three 9 (commands.Unlink (47 ∷ 102 ∷ []))).state 20 (commands.Stat (47 ∷ 103 ∷ []))).reply
    ≡ replies.Info (record { kind = kinds.File; object = 3; links = 1; size = 5; moment = 5 })
unfolding step_at resolve unless change_to at_place at_object
unlinked_file = simp computes

unlinked_root : (step_at small_sizes false (step_at small_sizes false three 9 (commands.Unlink (47 ∷ 102 ∷ []))).state 20 (commands.Stat (47 ∷ []))).reply
    ≡ replies.Info (record { kind = kinds.Directory; object = 1; links = 3; size = 0; moment = 9 })
unfolding step_at resolve unless change_to at_place at_object
unlinked_root = simp computes

-- a directory moves, and keeps its own moment
renamed_list : (step_at small_sizes false (step_at small_sizes false three 9 (commands.Rename (47 ∷ 100 ∷ []) (47 ∷ 104 ∷ []))).state 20 (commands.List (47 ∷ []))).reply
    ≡ replies.Names ((102 ∷ []) ∷ (103 ∷ []) ∷ (104 ∷ []) ∷ [])
unfolding step_at resolve unless change_to at_place at_object
renamed_list = simp computes

renamed_directory : (step_at small_sizes false (step_at small_sizes false three 9 (commands.Rename (47 ∷ 100 ∷ []) (47 ∷ 104 ∷ []))).state 20 (commands.Stat (47 ∷ 104 ∷ []))).reply
    ≡ replies.Info (record { kind = kinds.Directory; object = 2; links = 2; size = 0; moment = 4 })
unfolding step_at resolve unless change_to at_place at_object
renamed_directory = simp computes

-- a directory goes, and its unit is free again
removed_space : (step_at small_sizes false (step_at small_sizes false three 9 (commands.Rmdir (47 ∷ 100 ∷ []))).state 20 commands.Space).reply
    ≡ replies.SpaceInfo (record { unit = 512; total = 144; free = 139 })
unfolding step_at resolve unless change_to at_place at_object
removed_space = simp computes

-- the file is cut, and the other name reports it
cut_file : (step_at small_sizes false (step_at small_sizes false three 9 (commands.Truncate 0 (pos 2))).state 20 (commands.Stat (47 ∷ 103 ∷ []))).reply
    ≡ replies.Info (record { kind = kinds.File; object = 3; links = 2; size = 2; moment = 9 })
unfolding step_at resolve unless change_to at_place at_object at_handle at_file
cut_file = simp computes

-- a write past the end reads as zeros before it
gap : (step_at small_sizes false (step_at small_sizes false (step_at small_sizes false three 9 (commands.Seek 0 (pos 7) whence.Set)).state 9 (commands.Write 0 (120 ∷ []))).state 20 (commands.Stat (47 ∷ 103 ∷ []))).reply
    ≡ replies.Info (record { kind = kinds.File; object = 3; links = 2; size = 8; moment = 9 })
unfolding step_at resolve unless change_to at_place at_object at_handle at_file
gap = simp computes
