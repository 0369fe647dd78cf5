use Rattle.std.proofs.Common.{◌≡◌, ◌<◌, ◌+◌, ◌-◌, ◌^◌, ◌∙◌, [], ◌∷◌, min, ℕ, suc, List, length, take, slice_index, ap, arith}
use Rattle.std.specs.Prelude.{sum_by}
use Rattle.std.proofs.Math.Seq.{take-suc}
use Rattle.std.proofs.lemmas.List.{take_all}
use Rattle.std.proofs.lemmas.List.Sums.{sum_by-append, sum_by-cons}
use Rattle.volume_terms.specs.Sizes.{Sizes}
use Rattle.volume_terms.specs.VolumeSizes.{sizes_of}
use Rattle.flash_tree.specs.Tree.{IsPageSize}
use Rattle.tree_walk.specs.Trees.{objects_listed}
use Rattle.tree_walk.specs.Units.{reported_cost}
use Rattle.tree_walk.proofs.Reported.{charged}
use Rattle.tree_walk.proofs.units.charge.Goals as goal

-- one more number adds its units
grown : (f : ℕ → ℕ) (list : List ℕ) (n : ℕ) → n < length list → sum_by f (take (n + 1) list) ≡ sum_by f (take n list) + f (slice_index list n)
grown f list n lt =
    let one : n + 1 ≡ suc n = omega arith in
    let longer : sum_by f (take (n + 1) list) ≡ sum_by f (take n list) + sum_by f (slice_index list n ∷ []) =
    ap (λ k. sum_by f (take k list)) one ∙ ap (sum_by f) (take-suc list n 0 lt) ∙ sum_by-append f (take n list) (slice_index list n ∷ []) in
    omega (arith, longer, sum_by-cons f (slice_index list n) [])

pub loop-place-preserved : goal.loop-place-preserved
loop-place-preserved c =
    let list : List ℕ = objects_listed c.args.tree.now in
    let n : ℕ = c.loop-place.place in
    let f : ℕ → ℕ = reported_cost (sizes_of c.args.sizes) c.args.tree.now in
    let same : c.objects-objects.result.now ≡ list = c.objects-objects.ensures in
    let lt : n < length list = omega (arith, c.loop-place-test.true, ap length same) in
    let reported : c.reported_units.result ≡ min (f (slice_index list n)) (2 ^ 64 - 1) = c.reported_units.ensures ∙ ap (λ (xs : List ℕ). min (f (slice_index xs n)) (2 ^ 64 - 1)) same in
    omega (arith, c.saturating_add-units.ensures, reported, c.loop-place.invariant, grown f list n lt)

pub returns : goal.returns
returns c = λ m objects tree shows.
    let z : Sizes = sizes_of c.args.sizes in
    let list : List ℕ = objects_listed c.args.tree.now in
    let f : ℕ → ℕ = reported_cost z c.args.tree.now in
    let same : length c.objects-objects.result.now ≡ length list = ap length c.objects-objects.ensures in
    let whole : take c.loop-place.place list ≡ list = take_all c.loop-place.place list (omega (arith, c.loop-place-test.false, same)) in
    let size : IsPageSize z.page_bytes = record { least = omega (arith, c.args.sizes.least_page); most = omega (arith, c.args.sizes.greatest_page) } in
    c.loop-place.invariant ∙ ap (λ (xs : List ℕ). min (sum_by f xs) (2 ^ 64 - 1)) whole ∙ ap (λ n. min n (2 ^ 64 - 1)) (charged z size m c.args.tree.now objects tree shows)
