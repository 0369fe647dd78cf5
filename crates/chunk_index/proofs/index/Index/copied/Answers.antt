use Rattle.std.proofs.Common.{is_some, sym, ◌∙◌}
use Rattle.block_state.specs.TableOf.{table}
use Rattle.chunk_index.specs.Entries.{same_of, stays_of}
use Rattle.chunk_index.proofs.Counting.{tallies_altered, recounts_altered}
use Rattle.chunk_index.proofs.Mapping.{reported_same}
use Rattle.chunk_index.proofs.Moving.{may_move, moved_same, moved_stays, moved_there, copies_of}
use Rattle.chunk_index.proofs.index.Index.copied.Goals as goal

pub copied-requires : goal.copied-requires
copied-requires c =
    let shelf = c.args.self.now.shelf in
    may_move c.args.place shelf.objects c.args.key.object c.args.key.chunk (table c.args.blocks.now) c.requires.block c.requires.page (record { counts = c.requires.agree.counts; within = c.requires.agree.within }) shelf.size shelf.totaled shelf.bounded

pub invariant_of-self : goal.invariant_of-self
invariant_of-self c =
    let reported = reported_same c.copied.ensures.alters same_of (moved_same c.args.place _) in
    record { noted = λ k l not. c.args.self.now.noted k l (sym (reported k l) ∙ not) }

pub returns-clause-copies : goal.returns-clause-copies
returns-clause-copies c = λ was is. copies_of c.args.place was _ _ c.args.key.object c.args.key.chunk c.copied.ensures.alters is

pub returns-clause-prepared : goal.returns-clause-prepared
returns-clause-prepared c = λ k l was. reported_same c.copied.ensures.alters is_some (moved_there c.args.place _) k l ∙ was

pub returns-clause-has_room : goal.returns-clause-has_room
returns-clause-has_room c = λ k l was. reported_same c.copied.ensures.alters stays_of (moved_stays c.args.place _) k l ∙ was

pub returns-clause-agree : goal.returns-clause-agree
returns-clause-agree c =
    let tallies = tallies_altered _ _ _ _ c.args.key.object c.args.key.chunk _ c.copied.ensures.alters c.copied.ensures.counts (record { counts = c.requires.agree.counts; within = c.requires.agree.within }) in
    record { counts = tallies.counts; within = tallies.within }

pub returns-clause-counts : goal.returns-clause-counts
returns-clause-counts c = recounts_altered _ _ _ _ c.args.key.object c.args.key.chunk _ c.copied.ensures.alters c.copied.ensures.counts
