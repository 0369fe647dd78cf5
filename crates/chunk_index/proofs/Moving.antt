-- What the copy of a key's page does to what an index reports.
use Rattle.std.proofs.Common.{◌≡◌, ℕ, ◌<◌, Option, Some, None, IfSome, is_some, refl, sym, ap, subst, ◌∙◌, arith}
use Rattle.std.specs.Option.{option_map}
use Rattle.block_state.specs.Table.{Table}
use Rattle.chunk_index.specs.declared.form.PagePlace.{PagePlace}
use Rattle.chunk_index.specs.declared.form.CommittedPage.{CommittedPage}
use Rattle.chunk_index.specs.declared.form.Present.TheVariants as presents
use Rattle.chunk_index.specs.declared.entry.KeyEntry.{KeyEntry}
use Rattle.chunk_index.specs.declared.entry.State.{State}
use Rattle.chunk_index.specs.declared.entry.State.TheVariants as states
use Rattle.chunk_index.specs.declared.index.Index.{Index}
use Rattle.chunk_index.specs.Entries.{committed_of, present_of, present_by, stays_of, same_of, one_at, counted_at, weight}
use Rattle.chunk_index.specs.Shelves.{ObjectMap, look, total, AltersKey}
use Rattle.chunk_index.specs.Counts.{Recounts, Tallies}
use Rattle.chunk_index.specs.Maps.{Copies, moved_page, moved_to}
use Rattle.chunk_index.specs.Moved.{moved, moved_of, MayMove, RecountsMoved}
use Rattle.chunk_index.proofs.Counting.{entry_room, recounts_here}

-- the page of an entry may be copied, where the counts agree
pub may_move : (place : PagePlace) (m : ObjectMap) (o c : ℕ) (t : Table) → place.block < t.geometry.blocks → place.page < t.geometry.pages → Tallies t m
    → (size : ℕ) → total (λ (e : KeyEntry). 1) m ≡ size → size < 4294967296 → IfSome (look m o c) (λ e. MayMove place e t)
may_move place m o c t block page tallies size totaled within_limit = go (look m o c) refl where
  go : (v : Option KeyEntry) → look m o c ≡ v → IfSome v (λ e. MayMove place e t)
  go None is = tt
  go (Some e) is = record { block = block; page = page; room = entry_room t m o c e is tallies size totaled within_limit }

pub counts_moved : (place : PagePlace) (v : Option KeyEntry) (e to : KeyEntry) (t u : Table) → v ≡ Some e → to ≡ moved place e → Recounts (one_at e.committed) (one_at to.committed) t u → RecountsMoved place v t u
counts_moved place v e to t u is by counts = subst (λ w. RecountsMoved place w t u) (sym is) (subst (λ (x : KeyEntry). Recounts (one_at e.committed) (one_at x.committed) t u) by counts)

pub counts_unmoved : (place : PagePlace) (v : Option KeyEntry) (t : Table) → v ≡ None → RecountsMoved place v t t
counts_unmoved place v t none = subst (λ w. RecountsMoved place w t t) (sym none) (recounts_here (λ b. refl))

-- ---- what stays the same of the entry

pub moved_same : (place : PagePlace) (v : Option KeyEntry) → same_of (moved_of place v) ≡ same_of v
moved_same place None = refl
moved_same place (Some e) = refl

pub moved_stays : (place : PagePlace) (v : Option KeyEntry) → stays_of (moved_of place v) ≡ stays_of v
moved_stays place None = refl
moved_stays place (Some e) = refl

pub moved_there : (place : PagePlace) (v : Option KeyEntry) → is_some (moved_of place v) ≡ is_some v
moved_there place None = refl
moved_there place (Some e) = refl

-- ---- what changes

moved_committed : (place : PagePlace) (v : Option KeyEntry) → committed_of (moved_of place v) ≡ option_map (moved_page place) (committed_of v)
moved_committed place None = refl
moved_committed place (Some e) = refl

shown_by_state : (place : PagePlace) (was : CommittedPage) (p : Option CommittedPage) (s : State) → p ≡ Some was → present_by (option_map (moved_page place) p) s ≡ moved_to (moved_page place was) (present_by p s)
shown_by_state place was None s is = absurd cc
shown_by_state place was (Some q) states.Same is = let same : q ≡ was = cc in ap (λ k. presents.OnFlash (moved_page place k)) same
shown_by_state place was (Some q) (states.Buffered i) is = refl
shown_by_state place was (Some q) states.Dropped is = refl
shown_by_state place was (Some q) states.Vacant is = refl

moved_shown : (place : PagePlace) (was : CommittedPage) (v : Option KeyEntry) → committed_of v ≡ Some was → present_of (moved_of place v) ≡ moved_to (moved_page place was) (present_of v)
moved_shown place was None is = absurd cc
moved_shown place was (Some e) is = shown_by_state place was e.committed e.state is

reported_count : (v : Option KeyEntry) (b : ℕ) → weight (counted_at b) v ≡ one_at (committed_of v) b
reported_count None b = refl
reported_count (Some e) b = refl

pub copies_of : (place : PagePlace) (was : CommittedPage) (x y : Index) (o c : ℕ) → AltersKey o c (moved_of place (look x.shelf.objects o c)) x.shelf.objects y.shelf.objects
    → committed_of (look x.shelf.objects o c) ≡ Some was → Copies o c place was x y
copies_of place was x y o c alters is =
    let v = look x.shelf.objects o c in
    let to : committed_of (moved_of place v) ≡ Some (moved_page place was) = moved_committed place v ∙ ap (option_map (moved_page place)) is in
    record {
      committed_here = ap committed_of alters.here ∙ to;
      present_here = ap present_of alters.here ∙ moved_shown place was v is;
      committed_elsewhere = λ k l differs. ap committed_of (alters.others k l differs);
      present_elsewhere = λ k l differs. ap present_of (alters.others k l differs);
      counts = λ b.
          let sum = alters.weighs (counted_at b) in
          let old : weight (counted_at b) v ≡ one_at (Some was) b = reported_count v b ∙ ap (λ p. one_at p b) is in
          let new : weight (counted_at b) (moved_of place v) ≡ one_at (Some (moved_page place was)) b = reported_count (moved_of place v) b ∙ ap (λ p. one_at p b) to in
          omega (arith, sum, old, new);
    }
