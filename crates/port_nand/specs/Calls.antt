-- The calls of a port, and what their answers say.
use Rattle.std.specs.Prelude.{ℕ, ◌+◌, ◌==◌, ◌||◌, if◌then◌else◌, Bool, true, false, Option, Some, None, Result, Ok, Err, List, [], ◌∷◌}
use Rattle.nand_model.specs.declared.nand.EraseFault.{EraseFault}
use Rattle.nand_model.specs.declared.nand.EraseFault.TheVariants as erase_faults
use Rattle.nand_model.specs.declared.nand.Gone.{Gone}
use Rattle.nand_model.specs.declared.nand.PageKind.{PageKind}
use Rattle.nand_model.specs.declared.nand.PageKind.TheVariants as kinds
use Rattle.nand_model.specs.declared.nand.ProgramFault.{ProgramFault}
use Rattle.nand_model.specs.declared.nand.ProgramFault.TheVariants as program_faults
use Rattle.port_nand.specs.declared.request.Answer.{Answer}
use Rattle.port_nand.specs.declared.request.Answer.TheVariants as answers
use Rattle.port_nand.specs.declared.request.Request.{Request}
use Rattle.port_nand.specs.declared.request.Request.TheVariants as requests

-- a call: the request, the bytes that were sent or came, and the answer
pub record Call : Type 0 where
  pub request : Request
  pub bytes : List ℕ
  pub answer : Answer

abbrev pub call : Request → List ℕ → Answer → Call
call request bytes answer = record { request = request; bytes = bytes; answer = answer }

-- with a request for the sizes a device is opened, and what was called before is past
abbrev pub session_with : Request → Call → List Call → List Call
session_with requests.Sizes c cs = []
session_with request c cs = c ∷ cs

-- the calls since the device was opened, the newest first, as all lists of calls
abbrev pub session : List Call → List Call
session [] = []
session (c ∷ cs) = session_with c.request c (session cs)

-- whether an answer is none to this request, and so a loss of power
abbrev pub cuts : Request → Answer → Bool
cuts request answers.Zero = false
cuts (requests.IsMarked block) answers.One = false
cuts (requests.ReadTag block page) answers.One = false
cuts (requests.ReadPage block page) answers.One = false
cuts (requests.Program block page) answers.One = false
cuts (requests.Erase block) answers.One = false
cuts (requests.ReadTag block page) answers.Two = false
cuts (requests.ReadPage block page) answers.Two = false
cuts request answer = true

-- whether power is gone after the calls
abbrev pub is_gone : List Call → Bool
is_gone [] = false
is_gone (c ∷ cs) = cuts c.request c.answer || is_gone cs

-- whether a block is marked bad by this answer
abbrev pub marks : Request → Answer → ℕ → Bool
marks (requests.IsMarked block) answers.One b = block == b
marks (requests.MarkBad block) answers.Zero b = block == b
marks request answer b = false

-- whether a block is marked bad after the calls
abbrev pub is_marked : List Call → ℕ → Bool
is_marked [] b = false
is_marked (c ∷ cs) b = marks c.request c.answer b || is_marked cs b

-- the next page of a block whose page was programmed, by the answer
abbrev pub programmed_next : ℕ → Answer → Option ℕ
programmed_next page answers.Zero = Some (page + 1)
programmed_next page answer = None

-- the next page of a block that was erased, by the answer
abbrev pub erased_next : Answer → Option ℕ
erased_next answers.Zero = Some 0
erased_next answer = None

-- the next page of a block by this answer, and by what it was
abbrev pub next_with : Request → Answer → ℕ → Option ℕ → Option ℕ
next_with (requests.NextTag block page) answer b was = if block == b then None else was
next_with (requests.Program block page) answer b was = if block == b then programmed_next page answer else was
next_with (requests.Erase block) answer b was = if block == b then erased_next answer else was
next_with request answer b was = was

-- the next page of a block after the calls: the one after the last that was programmed since its erase, as long as all was done
abbrev pub next_page : List Call → ℕ → Option ℕ
next_page [] b = None
next_page (c ∷ cs) b = next_with c.request c.answer b (next_page cs b)

-- how many of the calls are such
abbrev pub count_of : (Request → Answer → Bool) → List Call → ℕ
count_of is [] = 0
count_of is (c ∷ cs) = if is c.request c.answer then count_of is cs + 1 else count_of is cs

-- whether it is a read of a page, or of its tag alone
abbrev pub is_read : Request → Answer → Bool
is_read (requests.ReadTag block page) answer = true
is_read (requests.ReadPage block page) answer = true
is_read request answer = false

-- whether a change begins by it: a program begins with the tag
abbrev pub is_change : Request → Answer → Bool
is_change (requests.NextTag block page) answer = true
is_change (requests.Erase block) answer = true
is_change (requests.MarkBad block) answer = true
is_change request answer = false

-- whether it is a program or an erase that is answered as failed
abbrev pub is_failure : Request → Answer → Bool
is_failure (requests.Program block page) answers.One = true
is_failure (requests.Erase block) answers.One = true
is_failure request answer = false

-- what a read returns
abbrev pub kind_result : Answer → Result PageKind Gone
kind_result answers.Zero = Ok kinds.Erased
kind_result answers.One = Ok kinds.Written
kind_result answers.Two = Ok kinds.Uncorrectable
kind_result answers.Lost = Err (record {})

-- what a program returns
abbrev pub program_result : Answer → Result (Unit {0}) ProgramFault
program_result answers.Zero = Ok tt
program_result answers.One = Err program_faults.Failed
program_result answer = Err program_faults.Gone

-- what an erase returns
abbrev pub erase_result : Answer → Result (Unit {0}) EraseFault
erase_result answers.Zero = Ok tt
erase_result answers.One = Err erase_faults.Failed
erase_result answer = Err erase_faults.Gone

-- what a mark returns
abbrev pub mark_result : Answer → Result (Unit {0}) Gone
mark_result answers.Zero = Ok tt
mark_result answer = Err (record {})
