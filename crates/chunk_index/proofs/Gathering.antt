-- What is reported of the keys of an object, and what is in the count, where each of its entries becomes another of its chunk or goes.
use Rattle.std.proofs.Common.{◌≡◌, ◌≢◌, ℕ, zero, suc, ◌+◌, ◌-◌, ◌<◌, ◌≤◌, List, [], ◌∷◌, ◌++◌, length, get_or, take, drop, set, Option, Some, None, filter_map, refl, sym, ap, subst, ◌∙◌, arith, inl, inr}
use Rattle.std.specs.Option.{option_and_then}
use Rattle.std.specs.List.{cons_option, swap}
use Rattle.std.proofs.lemmas.Bool.{cases_eq}
use Rattle.std.proofs.lemmas.Bool.Decides.{nat_tests}
use Rattle.std.proofs.lemmas.List.{take_more, take_more_set, length-set, take-set-le, get_or-set_same, get_or-set_other, append-nil, take_all, take-append-drop, length-drop, length-take-le}
use Rattle.std.proofs.lemmas.List.Edits.{swap_is, length-swap}
use Rattle.std.proofs.lemmas.List.Elements.{filter_map-append}
use Rattle.std.proofs.lemmas.List.Sums.{sum_by-cons, sum_by_more, sum_by_more_le, sum_by-append}
use Rattle.block_state.specs.Table.{Table}
use Rattle.chunk_index.specs.declared.entry.KeyEntry.{KeyEntry}
use Rattle.chunk_index.specs.Lists.{find_by, Rises}
use Rattle.chunk_index.specs.Entries.{chunk, committed_of, weigh, one_at, counted_at}
use Rattle.chunk_index.specs.Counts.{Recounts, HasCounted, HasRoom}
use Rattle.chunk_index.proofs.Counting.{one_most}
use Rattle.chunk_index.proofs.Finding.{find_absent}

-- ---- the entries that are left of an object

-- each has a chunk above a number
abbrev Above : ℕ → List KeyEntry → Type 0
Above n es = (j : ℕ) (d : KeyEntry) → j < length es → n < chunk (get_or es j d)

rises_tail : (e : KeyEntry) (es : List KeyEntry) → Rises chunk (e ∷ es) → Rises chunk es
rises_tail e es rises i j d lt within = rises (suc i) (suc j) d (omega (arith, lt)) (omega (arith, within))

rises_above : (e : KeyEntry) (es : List KeyEntry) → Rises chunk (e ∷ es) → Above (chunk e) es
rises_above e es rises j d within = rises 0 (suc j) d (omega arith) (omega (arith, within))

above_cons : (n : ℕ) (e : KeyEntry) (es : List KeyEntry) → n < chunk e → Above n es → Above n (e ∷ es)
above_cons n e es lt above zero d within = lt
above_cons n e es lt above (suc j) d within = above j d (omega (arith, within))

rises_cons : (e : KeyEntry) (es : List KeyEntry) → Above (chunk e) es → Rises chunk es → Rises chunk (e ∷ es)
rises_cons e es above rises zero zero d lt within = absurd (omega (arith, lt))
rises_cons e es above rises zero (suc j) d lt within = above j d (omega (arith, within))
rises_cons e es above rises (suc i) zero d lt within = absurd (omega (arith, lt))
rises_cons e es above rises (suc i) (suc j) d lt within = rises i j d (omega (arith, lt)) (omega (arith, within))

above_tail : (n : ℕ) (e : KeyEntry) (es : List KeyEntry) → Above n (e ∷ es) → Above n es
above_tail n e es above j d within = above (suc j) d (omega (arith, within))

module _ (left : KeyEntry → Option KeyEntry) (keeps : (e x : KeyEntry) → left e ≡ Some x → chunk x ≡ chunk e) where
  above_left : (n : ℕ) (es : List KeyEntry) → Above n es → Above n (filter_map left es)
  above_left n [] above = above
  above_left n (e ∷ es) above = go (above_left n es (above_tail n e es above)) (left e) refl where
    go : Above n (filter_map left es) → (v : Option KeyEntry) → left e ≡ v → Above n (cons_option v (filter_map left es))
    go rest None is = rest
    go rest (Some x) is =
        let lt : n < chunk e = above 0 e (omega arith) in
        let same = keeps e x is in
        above_cons n x (filter_map left es) (omega (arith, lt, same)) rest

  -- the chunks of those that are left still rise
  pub rises_left : (es : List KeyEntry) → Rises chunk es → Rises chunk (filter_map left es)
  rises_left [] rises = rises
  rises_left (e ∷ es) rises = go (rises_left es (rises_tail e es rises)) (left e) refl where
    go : Rises chunk (filter_map left es) → (v : Option KeyEntry) → left e ≡ v → Rises chunk (cons_option v (filter_map left es))
    go rest None is = rest
    go rest (Some x) is =
        let same = keeps e x is in
        rises_cons x (filter_map left es) (above_left (chunk x) es (subst (λ n. Above n es) (sym same) (rises_above e es rises))) rest

  -- and each is found where it was
  pub find_left : (es : List KeyEntry) → Rises chunk es → (c : ℕ) → find_by chunk (filter_map left es) c ≡ option_and_then left (find_by chunk es c)
  find_left [] rises c = refl
  find_left (e ∷ es) rises c = go (find_left es (rises_tail e es rises) c) where
    absent : chunk e ≡ c → find_by chunk es c ≡ None
    absent is = find_absent chunk es c (λ j d lt same. let above : chunk e < chunk (get_or es j d) = rises_above e es rises j d lt in omega (arith, above, same, is))

    first : find_by chunk (filter_map left es) c ≡ option_and_then left (find_by chunk es c) → (w : Option KeyEntry) → left e ≡ w → chunk e ≡ c → find_by chunk (cons_option w (filter_map left es)) c ≡ w
    first rest None is at = rest ∙ ap (option_and_then left) (absent at)
    first rest (Some x) is at = let same : chunk x ≡ c = keeps e x is ∙ at in grind (arith, nat_tests, same)

    other : (w : Option KeyEntry) → left e ≡ w → chunk e ≢ c → find_by chunk (cons_option w (filter_map left es)) c ≡ find_by chunk (filter_map left es) c
    other None is ne = refl
    other (Some x) is ne = let apart : chunk x ≢ c = λ same. ne (sym (keeps e x is) ∙ same) in grind (arith, nat_tests, apart)

    go : find_by chunk (filter_map left es) c ≡ option_and_then left (find_by chunk es c) → find_by chunk (cons_option (left e) (filter_map left es)) c ≡ option_and_then left (find_by chunk (e ∷ es) c)
    go rest = elim (cases_eq (chunk e) c) [
      | inl at ↦
          let here : find_by chunk (e ∷ es) c ≡ Some e = grind (arith, nat_tests, at) in
          first rest (left e) refl at ∙ sym (ap (option_and_then left) here)
      | inr ne ↦
          let there : find_by chunk (e ∷ es) c ≡ find_by chunk es c = grind (arith, nat_tests, ne) in
          other (left e) refl ne ∙ rest ∙ sym (ap (option_and_then left) there)
    ]

-- no more are left than there were
pub left_fewer : (left : KeyEntry → Option KeyEntry) (es : List KeyEntry) → length (filter_map left es) ≤ length es
left_fewer left [] = omega arith
left_fewer left (e ∷ es) = go (left e) (left_fewer left es) where
  go : (v : Option KeyEntry) → length (filter_map left es) ≤ length es → length (cons_option v (filter_map left es)) ≤ length (e ∷ es)
  go None rest = omega (arith, rest)
  go (Some x) rest = omega (arith, rest)

-- ---- the entries that are gathered in front

-- the second list is what is left of the first
abbrev pub IsLeft : (KeyEntry → Option KeyEntry) → List KeyEntry → List KeyEntry → Type 0
IsLeft left xs ys = ys ≡ filter_map left xs

-- what the next entry becomes is left after what was
pub left_more : (left : KeyEntry → Option KeyEntry) (first : List KeyEntry) (n : ℕ) (e : KeyEntry) → n < length first → e ≡ get_or first n e → (front : List KeyEntry) (v : Option KeyEntry) → v ≡ left e
    → IsLeft left (take n first) front → IsLeft left (take (n + 1) first) (front ++ cons_option v [])
left_more left first n e lt at front v is was = sym
    (ap (filter_map left) (take_more first n e lt ∙ ap (λ x. take n first ++ x ∷ []) (sym at))
    ∙ filter_map-append left (take n first) (e ∷ [])
    ∙ ap (λ xs. xs ++ cons_option (left e) []) (sym was)
    ∙ ap (λ w. front ++ cons_option w []) (sym is))

-- Of the first n entries those that are left stand in front, as a relation tells, the others from n on are as they were, and so many
-- pages are in the count.
pub record Gathers (Left : List KeyEntry → List KeyEntry → Type 0) (first : List KeyEntry) (n : ℕ) (now : List KeyEntry) (committed : ℕ) (t u : Table) : Type 0 where
  pub long : length now ≡ length first
  pub front : committed ≤ n
  pub left : Left (take n first) (take committed now)
  pub rest : (k : ℕ) (d : KeyEntry) → n ≤ k → get_or now k d ≡ get_or first k d
  pub counts : Recounts (λ b. weigh (counted_at b) (take n first)) (λ b. weigh (counted_at b) (take committed now)) t u

-- as many stay as they are at first
pub gathers_from : (Left : List KeyEntry → List KeyEntry → Type 0) (first : List KeyEntry) (n : ℕ) (t : Table) → Left (take n first) (take n first) → Gathers Left first n first n t t
gathers_from Left first n t left = record {
  long = refl;
  front = omega arith;
  left = left;
  rest = λ k d le. refl;
  counts = record { committed = λ b. refl; outside = λ b le. refl; bad = λ b. refl; seq = λ b. refl; next = λ b. refl; geometry = refl; open_block = refl; checkpoint = refl; next_seq = refl; next_group = refl };
}

-- what entries add to the count of a block, each 1 at most
pub weigh_most : (b : ℕ) (es : List KeyEntry) → weigh (counted_at b) es ≤ length es
weigh_most b [] = omega arith
weigh_most b (e ∷ es) =
    let all : weigh (counted_at b) (e ∷ es) ≡ counted_at b e + weigh (counted_at b) es = sum_by-cons (counted_at b) e es in
    let one : counted_at b e ≤ 1 = one_most e.committed b in
    let rest = weigh_most b es in
    omega (arith, all, one, rest)

-- an element is written in its place, and then changes places with one before it
module _ (xs : List KeyEntry) (i n : ℕ) (x : KeyEntry) (before : i < n) (within : n < length xs) where
  swapped_is : swap (set xs n x) i n ≡ set (set (set xs n x) i x) n (get_or (set xs n x) i x)
  swapped_is =
      let put = set xs n x in
      let long : length put ≡ length xs = length-set xs n x in
      let is : set (set put i (get_or put n x)) n (get_or put i x) ≡ swap put i n = swap_is put i n x (omega (arith, long)) (omega (arith, long)) in
      sym is ∙ ap (λ y. set (set put i y) n (get_or put i x)) (get_or-set_same xs n x x within)

  swapped_front : take (i + 1) (swap (set xs n x) i n) ≡ take i xs ++ x ∷ []
  swapped_front =
      let put = set xs n x in
      let long : length put ≡ length xs = length-set xs n x in
      ap (take (i + 1)) swapped_is ∙ take-set-le (i + 1) (set put i x) n (get_or put i x) (omega arith)
      ∙ take_more_set put i x (omega (arith, long)) ∙ ap (λ ys. ys ++ x ∷ []) (take-set-le i xs n x (omega arith))

  swapped_rest : (k : ℕ) (d : KeyEntry) → n + 1 ≤ k → get_or (swap (set xs n x) i n) k d ≡ get_or xs k d
  swapped_rest k d le =
      let put = set xs n x in
      ap (λ ys. get_or ys k d) swapped_is
      ∙ get_or-set_other (set put i x) n k (get_or put i x) d (λ same. omega (arith, le, same))
      ∙ get_or-set_other put i k x d (λ same. omega (arith, before, le, same)) ∙ get_or-set_other xs n k x d (λ same. omega (arith, le, same))

module _ (Left : List KeyEntry → List KeyEntry → Type 0) (first : List KeyEntry) (n : ℕ) (now : List KeyEntry) (committed : ℕ) (t u : Table) (was : Gathers Left first n now committed t u) (lt : n < length first) (e : KeyEntry) (here : e ≡ get_or now n e) where
  pub at_first : e ≡ get_or first n e
  at_first = here ∙ was.rest n e (omega arith)

  -- the page of the next entry is in the count
  pub next_counted : HasCounted t (λ b. weigh (counted_at b) first) → HasCounted u (one_at e.committed)
  next_counted totaled = record {
    sufficient = λ b.
        let all : weigh (counted_at b) first ≤ (t.entry b).committed = totaled.sufficient b in
        let most = sum_by_more_le (counted_at b) first n e lt in
        let one : counted_at b (get_or first n e) ≡ one_at e.committed b = ap (counted_at b) (sym at_first) in
        let is : (u.entry b).committed + weigh (counted_at b) (take n first) ≡ (t.entry b).committed + weigh (counted_at b) (take committed now) = was.counts.committed b in
        omega (arith, all, most, one, is);
    within = λ b le.
        let none : weigh (counted_at b) first ≡ 0 = totaled.within b (subst (λ (x : _). x.blocks ≤ b) was.counts.geometry le) in
        let most = sum_by_more_le (counted_at b) first n e lt in
        let one : counted_at b (get_or first n e) ≡ one_at e.committed b = ap (counted_at b) (sym at_first) in
        omega (arith, none, most, one);
  }

  -- and another can be in the count in its place, where that is so of all
  pub next_room : HasRoom t (λ b. weigh (counted_at b) first) (length first) → HasRoom u (one_at e.committed) 1
  next_room all =
      let counted = next_counted (record { sufficient = all.sufficient; within = all.within }) in
      record {
        sufficient = counted.sufficient;
        room = λ b.
            let room : (t.entry b).committed + length first ≤ 4294967295 + weigh (counted_at b) first = all.room b in
            let is : (u.entry b).committed + weigh (counted_at b) (take n first) ≡ (t.entry b).committed + weigh (counted_at b) (take committed now) = was.counts.committed b in
            let one : counted_at b (get_or first n e) ≡ one_at e.committed b = ap (counted_at b) (sym at_first) in
            let sum : weigh (counted_at b) (take (n + 1) first) ≡ weigh (counted_at b) (take n first) + counted_at b (get_or first n e) = sum_by_more (counted_at b) first n e lt in
            let parts : weigh (counted_at b) first ≡ weigh (counted_at b) (take (n + 1) first) + weigh (counted_at b) (drop (n + 1) first) =
            ap (weigh (counted_at b)) (sym (take-append-drop (n + 1) first)) ∙ sum_by-append (counted_at b) (take (n + 1) first) (drop (n + 1) first) in
            let rest = weigh_most b (drop (n + 1) first) in
            let few : length (drop (n + 1) first) ≡ length first - (n + 1) = length-drop (n + 1) first in
            let front = weigh_most b (take committed now) in
            let short : length (take committed now) ≡ committed = length-take-le committed now (omega (arith, was.front, was.long, lt)) in
            omega (arith, room, is, one, sum, parts, rest, few, front, short, was.front, lt);
        within = counted.within;
      }

  counts_more : (v : Option KeyEntry) (w : Table) (front : List KeyEntry) → front ≡ take committed now ++ cons_option v [] → Recounts (one_at e.committed) (one_at (committed_of v)) u w
      → Recounts (λ b. weigh (counted_at b) (take (n + 1) first)) (λ b. weigh (counted_at b) front) t w
  counts_more v w front is counts = record {
    committed = λ b.
        let all : (u.entry b).committed + weigh (counted_at b) (take n first) ≡ (t.entry b).committed + weigh (counted_at b) (take committed now) = was.counts.committed b in
        let one : (w.entry b).committed + one_at e.committed b ≡ (u.entry b).committed + one_at (committed_of v) b = counts.committed b in
        let sum : weigh (counted_at b) (take (n + 1) first) ≡ weigh (counted_at b) (take n first) + counted_at b (get_or first n e) = sum_by_more (counted_at b) first n e lt in
        let same : counted_at b (get_or first n e) ≡ one_at e.committed b = ap (counted_at b) (sym at_first) in
        let left : weigh (counted_at b) front ≡ weigh (counted_at b) (take committed now) + one_at (committed_of v) b = ap (weigh (counted_at b)) is ∙ weigh_more b (take committed now) v in
        omega (arith, all, one, sum, same, left);
    outside = λ b le. counts.outside b (subst (λ (x : _). x.blocks ≤ b) (sym was.counts.geometry) le) ∙ was.counts.outside b le;
    bad = λ b. counts.bad b ∙ was.counts.bad b;
    seq = λ b. counts.seq b ∙ was.counts.seq b;
    next = λ b. counts.next b ∙ was.counts.next b;
    geometry = counts.geometry ∙ was.counts.geometry;
    open_block = counts.open_block ∙ was.counts.open_block;
    checkpoint = counts.checkpoint ∙ was.counts.checkpoint;
    next_seq = counts.next_seq ∙ was.counts.next_seq;
    next_group = counts.next_group ∙ was.counts.next_group;
  } where
    weigh_more : (b : ℕ) (xs : List KeyEntry) (v : Option KeyEntry) → weigh (counted_at b) (xs ++ cons_option v []) ≡ weigh (counted_at b) xs + one_at (committed_of v) b
    weigh_more b xs None = ap (weigh (counted_at b)) (append-nil xs) ∙ omega arith
    weigh_more b xs (Some x) =
        let two = sum_by-append (counted_at b) xs (x ∷ []) in
        let one : weigh (counted_at b) (x ∷ []) ≡ counted_at b x + 0 = sum_by-cons (counted_at b) x [] in
        omega (arith, two, one)

  -- the next entry is left behind those in front, whatever stands between it and those to come
  gathers_front : (x : KeyEntry) (w : Table) (after : List KeyEntry) → length after ≡ length now → take (committed + 1) after ≡ take committed now ++ x ∷ [] → ((k : ℕ) (d : KeyEntry) → n + 1 ≤ k → get_or after k d ≡ get_or now k d)
      → (Left (take n first) (take committed now) → Left (take (n + 1) first) (take committed now ++ x ∷ [])) → Recounts (one_at e.committed) (one_at (committed_of (Some x))) u w → Gathers Left first (n + 1) after (committed + 1) t w
  gathers_front x w after long front rest more counts = record {
    long = long ∙ was.long;
    front = omega (arith, was.front);
    left = subst (Left (take (n + 1) first)) (sym front) (more was.left);
    rest = λ k d le. rest k d le ∙ was.rest k d (omega (arith, le));
    counts = counts_more (Some x) w (take (committed + 1) after) front counts;
  }

  -- so it is where it is written there
  pub gathers_left : (x : KeyEntry) (w : Table) → (Left (take n first) (take committed now) → Left (take (n + 1) first) (take committed now ++ x ∷ [])) → Recounts (one_at e.committed) (one_at (committed_of (Some x))) u w
      → Gathers Left first (n + 1) (set now committed x) (committed + 1) t w
  gathers_left x w = gathers_front x w (set now committed x) (length-set now committed x) (take_more_set now committed x (omega (arith, was.front, was.long, lt))) (λ k d le. get_or-set_other now committed k x d (λ same. omega (arith, was.front, le, same)))

  -- and where it is written in its place, and then changes places with the one that is there
  pub gathers_swapped : (x : KeyEntry) (w : Table) → committed < n → (Left (take n first) (take committed now) → Left (take (n + 1) first) (take committed now ++ x ∷ [])) → Recounts (one_at e.committed) (one_at (committed_of (Some x))) u w
      → Gathers Left first (n + 1) (swap (set now n x) committed n) (committed + 1) t w
  gathers_swapped x w before = gathers_front x w (swap (set now n x) committed n) (length-swap (set now n x) committed n ∙ length-set now n x) (swapped_front now committed n x before within) (swapped_rest now committed n x before within) where
    within : n < length now
    within = omega (arith, was.long, lt)

  -- or it went
  pub gathers_gone : (w : Table) → (Left (take n first) (take committed now) → Left (take (n + 1) first) (take committed now ++ [])) → Recounts (one_at e.committed) (one_at None) u w → Gathers Left first (n + 1) now committed t w
  gathers_gone w more counts = record {
    long = was.long;
    front = omega (arith, was.front);
    left = subst (Left (take (n + 1) first)) (append-nil (take committed now)) (more was.left);
    rest = λ k d le. was.rest k d (omega (arith, le));
    counts = counts_more None w (take committed now) (sym (append-nil (take committed now))) counts;
  }

-- at the end they are all that are left
pub gathers_items : (Left : List KeyEntry → List KeyEntry → Type 0) (first : List KeyEntry) (n : ℕ) (now : List KeyEntry) (committed : ℕ) (t u : Table) → Gathers Left first n now committed t u → length first ≤ n → Left first (take committed now)
gathers_items Left first n now committed t u was le = subst (λ xs. Left xs (take committed now)) (take_all n first le) was.left

pub gathers_counts : (Left : List KeyEntry → List KeyEntry → Type 0) (first : List KeyEntry) (n : ℕ) (now : List KeyEntry) (committed : ℕ) (t u : Table) → Gathers Left first n now committed t u → length first ≤ n
    → (new : List KeyEntry) → new ≡ take committed now → Recounts (λ b. weigh (counted_at b) first) (λ b. weigh (counted_at b) new) t u
gathers_counts Left first n now committed t u was le new is = subst (λ xs. Recounts (λ b. weigh (counted_at b) first) (λ b. weigh (counted_at b) xs) t u) (sym is) (subst (λ xs. Recounts (λ b. weigh (counted_at b) xs) (λ b. weigh (counted_at b) (take committed now)) t u) (take_all n first le) was.counts)
