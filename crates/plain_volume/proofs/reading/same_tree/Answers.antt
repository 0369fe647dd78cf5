use Rattle.std.proofs.Common.{◌<◌, length, refl, arith}
use Rattle.std.proofs.lemmas.Bool.{false≢true}
use Rattle.std.proofs.Common.{map as list_map}
use Rattle.plain_volume.specs.Items.{item_of}
use Rattle.plain_volume.proofs.TreesAlike.{at_place, length_map, same_more, same_all, same_at}
use Rattle.plain_volume.proofs.reading.same_tree.Goals as goal

pub loop-place-init : goal.loop-place-init
loop-place-init c = record { same = refl }

pub loop-place-preserved : goal.loop-place-preserved
loop-place-preserved c =
    let less : c.loop-place.place < length c.args.others.now = omega (arith, c.loop-place-test.true, c.if-entries-others.false) in
    record {
      same = same_more (list_map item_of c.args.entries.now) (list_map item_of c.args.others.now) c.loop-place.place (item_of c.index-entries-place.result) (item_of c.index-others-place.result)
          (omega (arith, c.loop-place-test.true, length_map item_of c.args.entries.now)) (omega (arith, less, length_map item_of c.args.others.now))
          (at_place item_of c.args.entries.now c.loop-place.place c.index-entries-place.result c.loop-place-test.true c.index-entries-place.is) (at_place item_of c.args.others.now c.loop-place.place c.index-others-place.result less c.index-others-place.is)
          (c.if-not-same_entry.ensures.0 refl) c.loop-place.invariant.same;
    }

pub returns-then-not-same_entry : goal.returns-then-not-same_entry
returns-then-not-same_entry c =
    let less : c.loop-place.place < length c.args.others.now = omega (arith, c.loop-place-test.true, c.if-entries-others.false) in (
      λ no'. absurd (false≢true no'),
      λ same. c.if-not-same_entry.ensures.1 (same_at (list_map item_of c.args.entries.now) (list_map item_of c.args.others.now) c.loop-place.place (item_of c.index-entries-place.result) (item_of c.index-others-place.result)
          (omega (arith, c.loop-place-test.true, length_map item_of c.args.entries.now))
          (at_place item_of c.args.entries.now c.loop-place.place c.index-entries-place.result c.loop-place-test.true c.index-entries-place.is) (at_place item_of c.args.others.now c.loop-place.place c.index-others-place.result less c.index-others-place.is) same),
    )

pub returns : goal.returns
returns c = (
  λ _. same_all (list_map item_of c.args.entries.now) (list_map item_of c.args.others.now) c.loop-place.place
      (omega (arith, c.loop-place-test.false, c.loop-place.auto.place-end, length_map item_of c.args.entries.now))
      (omega (arith, c.loop-place-test.false, c.loop-place.auto.place-end, c.if-entries-others.false, length_map item_of c.args.others.now)) c.loop-place.invariant.same,
  λ _. refl,
)
