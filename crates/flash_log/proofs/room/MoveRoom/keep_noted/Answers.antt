use Rattle.std.proofs.Common.{◌≡◌, length, map, ◌∙◌, arith}
use Rattle.std.proofs.lemmas.Bool.{eqb-true}
use Rattle.std.proofs.lemmas.List.{length-map}
use Rattle.chunk_index.specs.Maps.{count_committed_in}
use Rattle.flash_log.proofs.NotedPages.{each_committed, keys_once, key_of, noted_lists}
use Rattle.flash_log.proofs.room.MoveRoom.keep_noted.Goals as goal

pub returns-clause-lists : goal.returns-clause-lists
returns-clause-lists c is =
    let x = c.args.index.now in
    let es = c.keep_committed.new.entries.items in
    let rising = c.keep_committed.ensures.rising in
    let same : c.len.result ≡ c.args.count = eqb-true c.len.result c.args.count is in
    let count : length es ≡ count_committed_in x c.args.block = omega (arith, c.len.ensures, same, c.requires) in
    noted_lists x c.args.block es rising
    (c.a_list_as_long_as_the_count_is_whole.ensures x c.args.block (map key_of es) (each_committed x c.args.block es rising) (keys_once x c.args.block es rising)
    (length-map es key_of ∙ count))
