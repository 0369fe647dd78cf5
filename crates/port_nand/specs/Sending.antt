-- What each call of a device asks of its driver. All words are of the calls before and after it, the newest first.
use Rattle.std.specs.Prelude.{◌≡◌, ℕ, false, true, Result, List, [], ◌∷◌}
use Rattle.nand_model.specs.declared.nand.Gone.{Gone}
use Rattle.nand_model.specs.declared.nand.PageKind.{PageKind}
use Rattle.nand_model.specs.declared.nand.ProgramFault.{ProgramFault}
use Rattle.port_nand.specs.Calls.{Call, call, session, is_gone, kind_result, program_result}
use Rattle.port_nand.specs.declared.request.Answer.{Answer}
use Rattle.port_nand.specs.declared.request.Answer.TheVariants as answers
use Rattle.port_nand.specs.declared.request.Request.{Request}
use Rattle.port_nand.specs.declared.request.Request.TheVariants as requests

-- One request, and the result is what its call says. Once power is gone there is none, and the result is as if power was lost.
pub record Issues {R : Type 0} (request : Request) (result_of : Call → R) (old new : List Call) (result : R) : Type 0 where
  pub gone : is_gone (session old) ≡ true → (new ≡ old) × (result ≡ result_of (call request [] answers.Lost))
  pub issued : is_gone (session old) ≡ false → (c : Call) × (new ≡ c ∷ old) × (c.request ≡ request) × (result ≡ result_of c)

-- the buffer of a tag after a read: it is filled where the page is written
abbrev pub tag_with : List ℕ → List ℕ → Answer → List ℕ
tag_with was bytes answers.One = bytes
tag_with was bytes answer = was

-- what a read of a tag returns, and the buffer
abbrev pub tag_read : List ℕ → Call → Result PageKind Gone × List ℕ
tag_read was c = (kind_result c.answer, tag_with was c.bytes c.answer)

-- a page that is read: where it is, its data and tag in the buffers, and what was in that of the tag
pub record Reading : Type 0 where
  pub block : ℕ
  pub page : ℕ
  pub bytes : List ℕ
  pub tag : List ℕ
  pub was : List ℕ

abbrev pub reading : ℕ → ℕ → List ℕ → List ℕ → List ℕ → Reading
reading block page bytes tag was = record { block = block; page = page; bytes = bytes; tag = tag; was = was }

-- the request for the data of a page, which came into a buffer, with its answer
abbrev pub data_call : ℕ → ℕ → List ℕ → Answer → Call
data_call block page bytes answer = call (requests.ReadPage block page) bytes answer

-- A read of the data of a page alone: one request, and the result is what its answer says. Once power is gone no request is sent.
pub record IssuesData (asked : Answer → Call) (old new : List Call) (result : Result PageKind Gone) : Type 0 where
  pub gone : is_gone (session old) ≡ true → (new ≡ old) × (result ≡ kind_result answers.Lost)
  pub issued : is_gone (session old) ≡ false → (answer : Answer) × (new ≡ asked answer ∷ old) × (result ≡ kind_result answer)

-- the request for the data
abbrev pub asks_data : Reading → Answer → Call
asks_data r answer = data_call r.block r.page r.bytes answer

-- what a read of a page returns by the answer to the request for its tag
abbrev pub tag_reported : Answer → Result PageKind Gone
tag_reported answers.Zero = kind_result answers.One
tag_reported answer = kind_result answers.Lost

-- the buffer of a tag by the answer to the request for it
abbrev pub reported_tag : List ℕ → List ℕ → Answer → List ℕ
reported_tag was bytes answers.Zero = bytes
reported_tag was bytes answer = was

-- after the data the tag is read, where the page is written
abbrev pub ReadsOn : Reading → Answer → List Call → List Call → Result PageKind Gone → Type 0
ReadsOn r answers.One old new result = (bytes : List ℕ) × (last : Answer)
    × (new ≡ call (requests.LastTag r.block r.page) bytes last ∷ asks_data r answers.One ∷ old) × (result ≡ tag_reported last)
    × (r.tag ≡ reported_tag r.was bytes last)
ReadsOn r answer old new result = (new ≡ asks_data r answer ∷ old) × (result ≡ kind_result answer) × (r.tag ≡ r.was)

-- A read of a page: its data, and of a page that is written its tag. Once power is gone no request is sent.
pub record IssuesPage (r : Reading) (old new : List Call) (result : Result PageKind Gone) : Type 0 where
  pub gone : is_gone (session old) ≡ true → (new ≡ old) × (result ≡ kind_result answers.Lost) × (r.tag ≡ r.was)
  pub issued : is_gone (session old) ≡ false → (answer : Answer) × ReadsOn r answer old new result

-- a page that is programmed: where it is, its data and its tag
pub record Programming : Type 0 where
  pub block : ℕ
  pub page : ℕ
  pub bytes : List ℕ
  pub tag : List ℕ

abbrev pub programming : ℕ → ℕ → List ℕ → List ℕ → Programming
programming block page bytes tag = record { block = block; page = page; bytes = bytes; tag = tag }

-- the request with the tag
abbrev pub sends_tag : Programming → Answer → Call
sends_tag p answer = call (requests.NextTag p.block p.page) p.tag answer

-- after the tag the data is sent, where the tag was taken
abbrev pub SendsOn : Programming → Answer → List Call → List Call → Result (Unit {0}) ProgramFault → Type 0
SendsOn p answers.Zero old new result = (last : Answer)
    × (new ≡ call (requests.Program p.block p.page) p.bytes last ∷ sends_tag p answers.Zero ∷ old) × (result ≡ program_result last)
SendsOn p answer old new result = (new ≡ sends_tag p answer ∷ old) × (result ≡ program_result answers.Lost)

-- A program: its tag, and then its data. Once power is gone nothing is sent.
pub record SendsPage (p : Programming) (old new : List Call) (result : Result (Unit {0}) ProgramFault) : Type 0 where
  pub gone : is_gone (session old) ≡ true → (new ≡ old) × (result ≡ program_result answers.Lost)
  pub sent : is_gone (session old) ≡ false → (answer : Answer) × SendsOn p answer old new result
