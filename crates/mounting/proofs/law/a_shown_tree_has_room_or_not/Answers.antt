use Rattle.flash_tree.specs.Mount.{sizes_of}
use Rattle.mounting.proofs.Room.{too_full, scarce, with_room}
use Rattle.mounting.proofs.law.a_shown_tree_has_room_or_not.Goals as goal

pub returns-clause-full : goal.returns-clause-full
returns-clause-full c = too_full

pub returns-clause-scarce : goal.returns-clause-scarce
returns-clause-scarce c = λ g flash m spare objects x t is volume shown at agree marks keeps.
    scarce g flash m spare objects x t is volume shown at agree marks keeps (c.the_counts_are_of_the_keys.ensures.zero x)
    (c.blocks_without_committed_pages_are_free.ensures.bad t flash marks)

pub returns-clause-room : goal.returns-clause-room
returns-clause-room c = λ g flash m spare objects x t is volume shown at agree marks keeps.
    with_room g flash m spare objects x t is volume shown at agree marks keeps
    (λ count tree. c.blocks_without_committed_pages_are_free.ensures.free x t flash (sizes_of t.geometry spare) objects (record { counts = agree; marks = marks; tree = tree }) count)
    (c.blocks_without_committed_pages_are_free.ensures.bad t flash marks)
