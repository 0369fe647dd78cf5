use Rattle.std.proofs.Common.{◌≡◌, ◌∙◌, ℕ, [], sym, ap, map as list_map}
use Rattle.std.specs.FinMap as map
use Rattle.std.specs.Ordering.{nat_cmp}
use Rattle.std.specs.Cmp.Lexicographic.{slice_cmp}
use Rattle.std.proofs.lemmas.List.{nil_from_length}
use Rattle.posix_profile.specs.State.{Name, entries_of}
use Rattle.plain_volume.proofs.objects.names.names_at.Goals as goal

no_names : map.keys (map.empty {X = ℕ} {R = slice_cmp nat_cmp}) ≡ []
no_names = ap (list_map (λ (e : Name × ℕ). e.0)) (nil_from_length (map.entries (map.empty {X = ℕ} {R = slice_cmp nat_cmp})) (sym (map.len-entries (map.empty {X = ℕ} {R = slice_cmp nat_cmp})) ∙ map.len-empty (slice_cmp nat_cmp) ℕ))

pub returns-in-Some-File : goal.returns-in-Some-File
returns-in-Some-File c =
    let is = rw c.in-Some-File.field-0-is at c.in-Some-File.ensures in
    c.new.ensures.items ∙ sym no_names ∙ ap (λ x. map.keys (entries_of x)) is

pub returns-in-None : goal.returns-in-None
returns-in-None c = c.new-in-None.ensures.items ∙ sym no_names ∙ ap (λ x. map.keys (entries_of x)) c.in-None.ensures
