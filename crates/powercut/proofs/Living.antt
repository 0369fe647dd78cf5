-- Sessions in turn.
use Rattle.std.specs.Prelude.{◌≡◌, ◌⊎◌, ◌≤◌, ◌+◌, ◌-◌, ◌++◌, ℕ, Bool, List, [], count_by}
use Rattle.std.specs.List.{range_with_len}
use Rattle.std.proofs.Common.{refl, sym, ◌∙◌, ap, subst, inl, inr, arith}
use Rattle.nand_model.specs.Flash.{Flash}
use Rattle.nand_model.specs.Calls.{Device}
use Rattle.nand_model.specs.declared.geometry.Geometry.{Geometry}
use Rattle.flash_tree.specs.Newest.{Numbers, AreGreatest}
use Rattle.flash_tree.specs.Mount.{sizes_of, bad_blocks}
use Rattle.flash_tree.specs.Sound.{IsSoundFlash}
use Rattle.lives.specs.Lives.{SessionRecord, IsLife}
use Rattle.lives.specs.laws.LifeLaws.{life_append}
use Rattle.page_store.specs.Checked.{IsConsistent}
use Rattle.pages.specs.Stores.{bad_on}
use Rattle.powercut.specs.Limits.{StaysWithin, NumbersLast}
use Rattle.powercut.specs.Living.{HasSame, AreWithin, TrulyLived, HasLived}
use Rattle.powercut.specs.laws.SameFlash.{same_on, sound_same, within_same, greatest_same, bad_more}
use Rattle.powercut.specs.laws.SameSummaries.{consistent_same}

-- the greatest numbers are within what all are within, the versions within the groups
pub greatest_within : (f : Flash) (n : Numbers) (group seq : ℕ) → AreGreatest f n → AreWithin f group seq → (n.version ≤ group) × (n.group ≤ group) × (n.seq ≤ seq)
greatest_within f n group seq greatest within =
    greatest.least (record { version = group; group = group; seq = seq }) (λ b p t good has.
    let at = within b p t good has in
    let valid = has.valid.version.1 in
    (omega (arith, at.0, valid), at.0, at.1))

-- and all are within the greatest
pub within_greatest : (f : Flash) (n : Numbers) → AreGreatest f n → AreWithin f n.group n.seq
within_greatest f n greatest b p t good has = let at = greatest.above b p t good has in (at.1, at.2)

-- where marks and failures are the same no block became bad
pub none_marked : (a b : Device) → b.geometry ≡ a.geometry → b.failures ≡ a.failures → b.flash.bad ≡ a.flash.bad → bad_on b + a.failures ≤ bad_on a + b.failures
none_marked a b geometry failures bad =
    let same : bad_on b ≡ bad_on a = ap (λ (g : Geometry). bad_blocks g b.flash) geometry ∙ ap (λ (p : ℕ → Bool). count_by p (range_with_len 0 a.geometry.blocks)) bad in
    omega (arith, same, failures)

-- two parts in turn
pub marked_on : (a b c : Device) → bad_on b + a.failures ≤ bad_on a + b.failures → bad_on c + b.failures ≤ bad_on b + c.failures → bad_on c + a.failures ≤ bad_on a + c.failures
marked_on a b c first then = omega (arith, first, then)

-- a device that is not changed has lived through nothing
pub lived_still : (a b : Device) → b.geometry ≡ a.geometry → b.changes ≡ a.changes → b.failures ≡ a.failures → HasSame a.flash b.flash → HasLived a b []
lived_still a b geometry changes failures same = record {
  geometry = geometry;
  changes = omega (arith, changes);
  marks = λ k is. ap (λ bad. bad k) same.bad ∙ is;
  answered = none_marked a b geometry failures same.bad;
  truly = λ truth. record {
    truth = subst (λ (g : Geometry). IsConsistent g b.flash) (sym geometry) (consistent_same a.geometry a.flash b.flash same truth);
    numbers = λ group seq more within e.
        let none : more ≡ 0 = omega (arith, changes, e) in
        subst (λ n. AreWithin b.flash (group + n) (seq + n)) (sym none) (λ k p t good has. let at = within_same a.flash b.flash same group seq within k p t good has in (omega (arith, at.0), omega (arith, at.1)));
    known = inl same;
    life = λ spare tree sound within. (tree, refl, subst (λ (g : Geometry). IsSoundFlash g b.flash spare tree) (sym geometry) (sound_same a.geometry a.flash b.flash same spare tree sound));
  };
}

module _ (a b c : Device) (xs ys : List SessionRecord) (first : HasLived a b xs) (then : HasLived b c ys) where
  -- the limits of the whole are committed in the earlier sessions
  earlier : (spare : ℕ) → StaysWithin spare a c → StaysWithin spare a b
  earlier spare within =
      let more = then.changes in
      let fewer : bad_blocks b.geometry b.flash ≤ bad_blocks b.geometry c.flash = bad_more b.geometry b.flash c.flash then.marks in
      let within_limit : bad_blocks b.geometry c.flash ≤ spare = subst (λ (g : Geometry). bad_blocks g c.flash ≤ spare) then.geometry within.few_bad in
      record {
        few_bad = omega (arith, fewer, within_limit);
        numbers = record {
          versions = λ n greatest. let lt = within.numbers.versions n greatest in omega (arith, lt, more);
          groups = λ n greatest. let lt = within.numbers.groups n greatest in omega (arith, lt, more);
          seqs = λ n greatest. let lt = within.numbers.seqs n greatest in omega (arith, lt, more);
        };
      }

  module _ (early : TrulyLived a b xs) (late : TrulyLived b c ys) where
    -- and in the later ones
    numbers_later : NumbersLast a c → NumbersLast b c
    numbers_later last = elim early.known [
      | inl same ↦
          let rose = first.changes in record {
            versions = λ n greatest. let lt = last.versions n (greatest_same b.flash a.flash (record { page = sym same.page; bad = sym same.bad }) n greatest) in omega (arith, lt, rose);
            groups = λ n greatest. let lt = last.groups n (greatest_same b.flash a.flash (record { page = sym same.page; bad = sym same.bad }) n greatest) in omega (arith, lt, rose);
            seqs = λ n greatest. let lt = last.seqs n (greatest_same b.flash a.flash (record { page = sym same.page; bad = sym same.bad }) n greatest) in omega (arith, lt, rose);
          }
      | inr m ↦
          let rose = first.changes in
          let group = last.groups m.0 m.1 in
          let seq = last.seqs m.0 m.1 in
          let all = early.numbers m.0.group m.0.seq (b.changes - a.changes) (within_greatest a.flash m.0 m.1) (omega (arith, rose)) in record {
            versions = λ n greatest. let at = (greatest_within b.flash n _ _ greatest all).0 in omega (arith, at, group, rose);
            groups = λ n greatest. let at = (greatest_within b.flash n _ _ greatest all).1 in omega (arith, at, group, rose);
            seqs = λ n greatest. let at = (greatest_within b.flash n _ _ greatest all).2 in omega (arith, at, seq, rose);
          }
    ]

    later : (spare : ℕ) → StaysWithin spare a c → StaysWithin spare b c
    later spare within = record { few_bad = within.few_bad; numbers = numbers_later within.numbers }

    known_on : HasSame a.flash c.flash ⊎ ((n : Numbers) × AreGreatest a.flash n)
    known_on = elim early.known [
      | inl same ↦ elim late.known [
        | inl again ↦ inl (same_on a.flash b.flash c.flash same again)
        | inr m ↦ inr (m.0, greatest_same b.flash a.flash (record { page = sym same.page; bad = sym same.bad }) m.0 m.1)
      ]
      | inr m ↦ inr m
    ]

    truly_on : TrulyLived a c (xs ++ ys)
    truly_on = record {
      truth = late.truth;
      numbers = λ group seq more within e.
          let one = first.changes in
          let two = then.changes in
          let mid = early.numbers group seq (b.changes - a.changes) within (omega (arith, one)) in
          let end = late.numbers (group + (b.changes - a.changes)) (seq + (b.changes - a.changes)) (c.changes - b.changes) mid (omega (arith, two)) in
          λ k p t good has. let at = end k p t good has in (omega (arith, at.0, e, one, two), omega (arith, at.1, e, one, two));
      known = known_on;
      life = λ spare tree sound within.
          let before = early.life spare tree sound (earlier spare within) in
          let after = late.life spare before.0 before.2 (later spare within) in (
            after.0,
            life_append (sizes_of a.geometry spare) tree before.0 after.0 xs ys before.1 (subst (λ (g : Geometry). IsLife (sizes_of g spare) before.0 ys after.0) first.geometry after.1),
            after.2,
          );
    }

  -- sessions in turn
  pub lived_on : HasLived a c (xs ++ ys)
  lived_on = record {
    geometry = then.geometry ∙ first.geometry;
    changes = let one = first.changes in let two = then.changes in omega (arith, one, two);
    marks = λ k is. then.marks k (first.marks k is);
    answered = marked_on a b c first.answered then.answered;
    truly = λ truth. let early = first.truly truth in truly_on early (then.truly early.truth);
  }

-- as many blocks as are bad at first, and one more for each failure, are enough to spare
pub few_from : (a c : Device) (spare listed : ℕ) → bad_on c + a.failures ≤ bad_on a + c.failures → c.failures ≤ a.failures + listed → bad_on a + listed ≤ spare → bad_on c ≤ spare
few_from a c spare listed marked failed within_limit = omega (arith, marked, failed, within_limit)

pub lived_here : (a : Device) → HasLived a a []
lived_here a = lived_still a a refl refl refl (record { page = refl; bad = refl })
