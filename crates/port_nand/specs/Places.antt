-- The read or write of a file that a request is: its offset, and the answer by the count that is returned.
use Rattle.std.specs.Prelude.{ℕ, ◌+◌, ◌*◌, ◌^◌, ◌==◌, if◌then◌else◌}
use Rattle.port_nand.specs.declared.request.Answer.{Answer}
use Rattle.port_nand.specs.declared.request.Answer.TheVariants as answers
use Rattle.port_nand.specs.declared.request.Request.{Request}
use Rattle.port_nand.specs.declared.request.Request.TheVariants as requests

-- an operation, a block and a page as one number
abbrev pub place_of : ℕ → ℕ → ℕ → ℕ
place_of operation block page = operation * 2 ^ 56 + block * 2 ^ 24 + page

-- the offset of a request
abbrev pub place : Request → ℕ
place requests.Sizes = place_of 0 0 0
place (requests.IsMarked block) = place_of 1 block 0
place (requests.ReadTag block page) = place_of 2 block page
place (requests.ReadPage block page) = place_of 3 block page
place (requests.LastTag block page) = place_of 4 block page
place (requests.NextTag block page) = place_of 5 block page
place (requests.Program block page) = place_of 6 block page
place (requests.Erase block) = place_of 7 block 0
place (requests.MarkBad block) = place_of 8 block 0

-- the answer that a count is
abbrev pub answer_of : ℕ → Answer
answer_of count = if count == 0 then answers.Zero else (if count == 1 then answers.One else (if count == 2 then answers.Two else answers.Lost))
