-- A row worked out: `mkdir /z` and `sync`, power lost in the sync; a mount in which power is lost; then `list /`.
use Rattle.std.specs.Prelude.{◌≡◌, ◌⊎◌, ◌≤◌, ◌+◌, ℕ, zero, suc, Bool, true, false, List, [], ◌∷◌, cond, Some, None}
use Rattle.std.proofs.Common.{refl, sym, ◌∙◌, ap, subst, inl, inr, arith}
use Rattle.std.proofs.lemmas.Option.{slice_get_within}
use Rattle.std.specs.Ordering.{nat_cmp, eq_by_cmp}
use Rattle.std.specs.Cmp.{nat_cmp_total}
use Rattle.std.specs.Cmp.Lexicographic.{slice_cmp, nat_list_cmp_total}
use Rattle.std.specs.FinMap as map
use Rattle.std.specs.FinMap.Entries.{put, where_key}
use Rattle.std.proofs.lemmas.List.{nil_from_length}
use Rattle.volume_terms.specs.Sizes.{Sizes}
use Rattle.posix_profile.specs.State.{Name, Entries, Object, Objects, Handle, State}
use Rattle.posix_profile.specs.Names.{settle}
use Rattle.posix_profile.specs.Paths.{resolve}
use Rattle.posix_profile.specs.Outcomes.{unless, change_to, at_place}
use Rattle.posix_profile.specs.NameSteps.{at_object}
use Rattle.posix_profile.specs.Losses.{is_synced, IsSyncDone, settled_after}
use Rattle.posix_profile.specs.Steps.{step_at, step}
use Rattle.posix_profile.specs.laws.Fresh.{fresh, fresh_well_formed}
use Rattle.posix_profile.specs.laws.Map.{get_retained, entries-retain_keys}
use Rattle.posix_profile.specs.laws.Prune.{prune_same}
use Rattle.posix_profile.specs.declared.command.Command.TheVariants as commands
use Rattle.posix_profile.specs.declared.command.Stamped.{Stamped}
use Rattle.posix_profile.specs.declared.reply.Errno.TheVariants as errors
use Rattle.posix_profile.specs.declared.reply.Reply.{Reply}
use Rattle.posix_profile.specs.declared.reply.Reply.TheVariants as replies
use Rattle.lives.specs.Lives.{Mounted, Gone, SessionRecord, at_mount, IsSessionFrom, IsLife}
use Rattle.lives.specs.laws.Sessions.{serves_mounted, stays_unmounted, synced_whole}

abbrev small_sizes : Sizes
small_sizes = record { page_bytes = 512; block_pages = 32; blocks = 8; spare_blocks = 1 }

-- how the maps of a small state compute
put_objects : (m : Objects) (k : ℕ) (v : Object) → map.entries (map.insert m k v) ≡ put nat_cmp k v (map.entries m)
put_objects = map.entries-insert nat_cmp_total

get_objects : (m : Objects) (k : ℕ) (v : Object) (q : ℕ) → map.get (map.insert m k v) q ≡ cond (eq_by_cmp nat_cmp q k) (Some v) (map.get m q)
get_objects = map.get-insert nat_cmp_total

put_names : (m : Entries) (k : Name) (v : ℕ) → map.entries (map.insert m k v) ≡ put (slice_cmp nat_cmp) k v (map.entries m)
put_names = map.entries-insert nat_list_cmp_total

get_names : (m : Entries) (k : Name) (v : ℕ) (q : Name) → map.get (map.insert m k v) q ≡ cond (eq_by_cmp (slice_cmp nat_cmp) q k) (Some v) (map.get m q)
get_names = map.get-insert nat_list_cmp_total

len_entries : (m : Entries) (k : Name) (v : ℕ) → map.len (map.insert m k v) ≡ cond (map.contains_key m k) (map.len m) (map.len m + 1)
len_entries = map.len-insert nat_list_cmp_total

len_objects : (m : Objects) (k : ℕ) (v : Object) → map.len (map.insert m k v) ≡ cond (map.contains_key m k) (map.len m) (map.len m + 1)
len_objects = map.len-insert nat_cmp_total

keep_objects : (m : Objects) (p : ℕ → Bool) → map.entries (map.retain_keys m p) ≡ where_key nat_cmp p (map.entries m)
keep_objects = entries-retain_keys nat_cmp_total map.nat_cmp-IsAntisymmetric

committed_object : (m : Objects) (p : ℕ → Bool) (q : ℕ) → map.get (map.retain_keys m p) q ≡ cond (p q) (map.get m q) None
committed_object = get_retained nat_cmp_total map.nat_cmp-IsAntisymmetric

no_object : (q : ℕ) → map.get (map.empty {X = Object} {R = nat_cmp}) q ≡ None
no_object = map.get-empty nat_cmp

no_name : (q : Name) → map.get (map.empty {X = ℕ} {R = slice_cmp nat_cmp}) q ≡ None
no_name = map.get-empty (slice_cmp nat_cmp)

no_len : map.len (map.empty {X = Object} {R = nat_cmp}) ≡ 0
no_len = map.len-empty nat_cmp Object

no_entries : map.len (map.empty {X = ℕ} {R = slice_cmp nat_cmp}) ≡ 0
no_entries = map.len-empty (slice_cmp nat_cmp) ℕ

no_objects : map.entries (map.empty {X = Object} {R = nat_cmp}) ≡ []
no_objects = nil_from_length _ (sym (map.len-entries (map.empty {X = Object} {R = nat_cmp})) ∙ no_len)

no_values : map.entries (map.empty {X = ℕ} {R = slice_cmp nat_cmp}) ≡ []
no_values = nil_from_length _ (sym (map.len-entries (map.empty {X = ℕ} {R = slice_cmp nat_cmp})) ∙ no_entries)

no_handles : map.entries (map.empty {X = Handle} {R = nat_cmp}) ≡ []
no_handles = nil_from_length _ (sym (map.len-entries (map.empty {X = Handle} {R = nat_cmp})) ∙ map.len-empty nat_cmp Handle)

ruleset computes = (put_objects, put_names, get_objects, get_names, len_objects, len_entries, keep_objects, committed_object, no_objects, no_values, no_entries, no_object, no_name, no_len, no_handles)

abbrev make : Stamped
make = record { moment = 7; command = commands.Mkdir (47 ∷ 122 ∷ []) }

abbrev sync : Stamped
sync = record { moment = 8; command = commands.Sync }

abbrev list_root : Stamped
list_root = record { moment = 9; command = commands.List (47 ∷ []) }

-- the tree with `/z`
abbrev made : Objects
made = (settle (step small_sizes false (at_mount fresh.objects) make).state).objects

-- the sync ends by the loss of power, or is done
abbrev first_session : Reply → SessionRecord
first_session reply = record { mounted = Mounted; commands = make ∷ sync ∷ []; begun = 2; replies = replies.Done ∷ reply ∷ []; unmounted = None; cut = true }

-- power is lost in the mount
abbrev second_session : SessionRecord
second_session = record { mounted = Gone; commands = list_root ∷ []; begun = 0; replies = []; unmounted = None; cut = true }

-- these names are reported
abbrev third_session : List Name → SessionRecord
third_session names = record { mounted = Mounted; commands = list_root ∷ []; begun = 1; replies = replies.Names names ∷ []; unmounted = Some replies.Done; cut = false }

make_done : (step small_sizes false (at_mount fresh.objects) make).reply ≡ replies.Done
unfolding step_at resolve unless change_to at_place
make_done = simp computes

lists_none : (step small_sizes false (at_mount fresh.objects) list_root).reply ≡ replies.Names []
unfolding step_at resolve unless change_to at_place at_object
lists_none = simp computes

lists_made : (step small_sizes false (at_mount made) list_root).reply ≡ replies.Names ((122 ∷ []) ∷ [])
unfolding step_at resolve unless change_to at_place at_object
lists_made = simp computes

abbrev lost : Reply
lost = replies.Error errors.EIO

abbrev row : Reply → List Name → List SessionRecord
row reply names = first_session reply ∷ second_session ∷ third_session names ∷ []

-- the tree after so many of the first session's commands
abbrev tree_at : Reply → ℕ → Objects
tree_at reply k = settled_after small_sizes false (at_mount fresh.objects) (make ∷ sync ∷ []) (replies.Done ∷ reply ∷ []) k

fresh_again : tree_at lost 0 ≡ fresh.objects
fresh_again = ap (λ (s : State). s.objects) (prune_same small_sizes fresh (fresh_well_formed small_sizes))

-- it is the one before, or has `/z`
tree_case : (k : ℕ) → k ≤ 2 → (tree_at lost k ≡ fresh.objects) ⊎ (tree_at lost k ≡ made)
tree_case zero le = inl fresh_again
tree_case (suc zero) le = inr refl
tree_case (suc (suc zero)) le = inr refl
tree_case (suc (suc (suc k))) le = absurd (omega (arith, le))

-- the sync that ended by the loss of power is not done
nothing_synced : (i : ℕ) → IsSyncDone (make ∷ sync ∷ []) (replies.Done ∷ lost ∷ []) i → ⊥
nothing_synced zero (command, reply, there, reported, done) =
    let one : Some make ≡ Some command = there in
    let same : make ≡ command = cc in
    let two : false ≡ true = ap (λ (c : Stamped). is_synced c.command reply) same ∙ done in
    absurd cc
nothing_synced (suc zero) (command, reply, there, reported, done) =
    let one : Some lost ≡ Some reply = reported in
    let same : lost ≡ reply = cc in
    let at : Some sync ≡ Some command = there in
    let that : sync ≡ command = cc in
    let two : false ≡ true = ap (λ (r : Reply). is_synced sync.command r) same ∙ ap (λ (c : Stamped). is_synced c.command reply) that ∙ done in
    absurd cc
nothing_synced (suc (suc i)) (command, reply, there, reported, done) = let two : None ≡ Some command = there in absurd cc

first_from : (k : ℕ) → k ≤ 2 → IsSessionFrom small_sizes fresh.objects (first_session lost) (tree_at lost k)
first_from k le = record {
  ends = inr (record {
    mounted = refl;
    answered = refl;
    run = (inl (sym make_done), (λ stop. let two : false ≡ true = stop in absurd cc), (inr (inr refl), (λ _. tt), tt));
    begun = inl refl;
    unmounted = λ reply is. let two : None ≡ Some reply = is in absurd cc;
    keeps = record { count = k; covers = λ i done. absurd (nothing_synced i done); within = le; unmounted = λ is. (let two : None ≡ Some replies.Done = is in absurd cc); tree = refl };
  });
  cuts = record { mount = λ _. refl; commands = λ _. refl; unmount = λ _. refl };
}

second_from : (t : Objects) → IsSessionFrom small_sizes t second_session t
second_from t = record { ends = inl (record { mounted = inr refl; begun = refl; replies = refl; unmounted = refl; tree = refl }); cuts = record { mount = λ _. refl; commands = λ _. refl; unmount = λ _. refl } }

third_from : (t : Objects) (names : List Name) → (step small_sizes false (at_mount t) list_root).reply ≡ replies.Names names
    → IsSessionFrom small_sizes t (third_session names) (settled_after small_sizes false (at_mount t) (list_root ∷ []) (replies.Names names ∷ []) 1)
third_from t names reports = record {
  ends = inr (record {
    mounted = refl;
    answered = refl;
    run = (inl (sym reports), (λ _. tt), tt);
    begun = inl refl;
    unmounted = λ reply is. let one : Some replies.Done ≡ Some reply = is in let same : reply ≡ replies.Done = cc in inl same;
    keeps = record { count = 1; covers = λ i (command, reply, there, reported, done). slice_get_within (list_root ∷ []) i command there; within = omega arith; unmounted = λ is. refl; tree = refl };
  });
  cuts = record {
    mount = λ is. let two : Mounted ≡ Gone = is in absurd cc;
    commands = λ is. let two : false ≡ true = is in absurd cc;
    unmount = λ is. let two : Some replies.Done ≡ Some lost = is in absurd cc;
  };
}

-- the directory may be there
with_z : (last : Objects) × IsLife small_sizes fresh.objects (row lost ((122 ∷ []) ∷ [])) last
with_z = (_, (made, first_from 1 (omega arith), (made, second_from made, (_, third_from made ((122 ∷ []) ∷ []) lists_made, refl))))

-- or not
without_z : (last : Objects) × IsLife small_sizes fresh.objects (row lost []) last
without_z =
    let first : IsSessionFrom small_sizes fresh.objects (first_session lost) fresh.objects = subst (λ (t : Objects). IsSessionFrom small_sizes fresh.objects (first_session lost) t) fresh_again (first_from 0 (omega arith)) in
    (_, (fresh.objects, first, (fresh.objects, second_from fresh.objects, (_, third_from fresh.objects [] lists_none, refl))))

-- what the third session reports is the list of the tree that the first left
reported_of : (t last : Objects) (names : List Name) → IsLife small_sizes t (second_session ∷ third_session names ∷ []) last → replies.Names names ≡ (step small_sizes false (at_mount t) list_root).reply
reported_of t last names (u, second, (v, third, end)) =
    let same : u ≡ t = stays_unmounted small_sizes t second_session u second (λ is. let two : Gone ≡ Mounted = is in absurd cc) in
    let serves = serves_mounted small_sizes u (third_session names) v third refl in
    elim serves.run.0 [
      | inl reports ↦ reports ∙ ap (λ (o : Objects). (step small_sizes false (at_mount o) list_root).reply) same
      | inr (inl none) ↦ let two : false ≡ true = none.0 in absurd cc
      | inr (inr stop) ↦ let two : false ≡ true = stop in absurd cc
    ]

-- nothing else is reported
one_of_both : (names : List Name) (last : Objects) → IsLife small_sizes fresh.objects (row lost names) last → (names ≡ []) ⊎ (names ≡ (122 ∷ []) ∷ [])
one_of_both names last (t, first, rest) =
    let keeps = (serves_mounted small_sizes fresh.objects (first_session lost) t first refl).keeps in
    let reports = reported_of t last names rest in
    let list : Objects → Reply = λ (o : Objects). (step small_sizes false (at_mount o) list_root).reply in
    elim (tree_case keeps.count keeps.within) [
      | inl none ↦ let one : replies.Names names ≡ replies.Names [] = reports ∙ ap list (keeps.tree ∙ none) ∙ lists_none in let same : names ≡ [] = cc in inl same
      | inr there ↦ let one : replies.Names names ≡ replies.Names ((122 ∷ []) ∷ []) = reports ∙ ap list (keeps.tree ∙ there) ∙ lists_made in let same : names ≡ (122 ∷ []) ∷ [] = cc in inr same
    ]

synced_tree : tree_at replies.Done 2 ≡ made
unfolding step_at
synced_tree = refl

-- where the sync was done the directory is there
synced_z : (names : List Name) (last : Objects) → IsLife small_sizes fresh.objects (row replies.Done names) last → names ≡ (122 ∷ []) ∷ []
synced_z names last (t, first, rest) =
    let whole : t ≡ tree_at replies.Done 2 = synced_whole small_sizes fresh.objects t (first_session replies.Done) first (record { at = 1; synced = (sync, replies.Done, refl, refl, refl); last = refl }) in
    let list : Objects → Reply = λ (o : Objects). (step small_sizes false (at_mount o) list_root).reply in
    let one : replies.Names names ≡ replies.Names ((122 ∷ []) ∷ []) = reported_of t last names rest ∙ ap list (whole ∙ synced_tree) ∙ lists_made in
    cc
