-- The bytes of a summary, part by part.
use Rattle.std.specs.Prelude.{◌≡◌, ◌<◌, ◌≤◌, ℕ, zero, suc, ◌+◌, ◌-◌, ◌*◌, List, [], ◌∷◌, ◌++◌, length, take, drop, replicate, flat_map, slice_get, Some}
use Rattle.std.specs.Int.{div_ceil}
use Rattle.std.proofs.Common.{refl, sym, ◌∙◌, ap, ap₂, arith, length-append, length-drop, length-take, drop-drop, take-add, append_assoc}
use Rattle.std.proofs.lemmas.List.{take_at, drop_at, take-append-drop, length-replicate}
use Rattle.std.proofs.lemmas.List.Concat.{flat_map-append}
use Rattle.std.proofs.lemmas.List.FromFn.{length-map-range_with_len, get_or-map-range_with_len}
use Rattle.std.proofs.lemmas.Option.{slice_get_within, get_or_from_slice_get}
use Rattle.volume_terms.specs.Rounding.{ceiling}
use Rattle.volume_terms.specs.laws.Rounding.{ceiling_is, parts_reach}
use Rattle.volume_terms.specs.laws.Same.{same_lists}
use Rattle.nand_model.specs.declared.geometry.Geometry.{Geometry}
use Rattle.page_tags.specs.Headers.{IsBytes}
use Rattle.page_tags.specs.laws.Byte.{IsBytes-drop, IsBytes-take}
use Rattle.page_tags.specs.laws.Check.{all_at, entry_read, entry_said}
use Rattle.page_tags.specs.laws.Summary.{head_read}
use Rattle.page_tags.specs.Checks.{check_entry_bytes, check_entry_in}
use Rattle.page_tags.specs.Summaries.{IsHead, head_bytes, head_in, summary_bytes}
use Rattle.page_tags.specs.declared.check.CheckEntry.{CheckEntry}
use Rattle.page_tags.specs.declared.summary_head.SummaryHead.{SummaryHead}
use Rattle.flash_tree.specs.Summaries.{IsEntryIn}
use Rattle.mount_scan.specs.SummaryContents.{AreListed, BeginsWith, Says, entry_at, entries_in}
use Rattle.mount_scan.proofs.SummaryEntries.{few_listed, entries_more}

length-head : (h : SummaryHead) → length (head_bytes h) ≡ 32
unfolding head_bytes
length-head h = omega arith

length-entry : (e : CheckEntry) → length (check_entry_bytes e) ≡ 32
unfolding check_entry_bytes
length-entry e = omega arith

length-entries : (es : List CheckEntry) → length (flat_map check_entry_bytes es) ≡ 32 * length es
length-entries [] = refl
length-entries (e ∷ es) = omega (arith, length-append (check_entry_bytes e) (flat_map check_entry_bytes es), length-entry e, length-entries es)

-- two heads with the same bytes are one
pub one_head : (h k : SummaryHead) → IsHead h → IsHead k → head_bytes h ≡ head_bytes k → h ≡ k
one_head h k valid valid' same = sym (head_read h valid) ∙ ap head_in same ∙ head_read k valid'

-- bytes begin with one head
pub one_begin : (g : Geometry) (count : ℕ) (bytes : List ℕ) (h k : SummaryHead) → BeginsWith g count bytes h → BeginsWith g count bytes k → h ≡ k
one_begin g count bytes h k is is' = one_head h k is.valid is'.valid (sym is.said ∙ is'.said)

-- what takes so many pages has room in them
pub has_room : (n d count size : ℕ) → 0 < d → count ≡ ceiling n d → size ≡ count * d → n ≤ size
has_room n d count size some is len =
    let up : div_ceil n d ≡ ceiling n d = ceiling_is n d some in
    let reach : n ≤ count * d = parts_reach n d count some (omega (arith, up, is)) in
    omega (arith, reach, len)

-- a part of what entries are in a row
part_at : (es : List CheckEntry) (rest : List ℕ) (k : ℕ) (e : CheckEntry) → slice_get es k ≡ Some e → take 32 (drop (32 * k) (flat_map check_entry_bytes es ++ rest)) ≡ check_entry_bytes e
part_at [] rest k e is = absurd cc
part_at (x ∷ xs) rest zero e is =
    let same : x ≡ e = cc in
    ap (take 32) (append_assoc (check_entry_bytes x) (flat_map check_entry_bytes xs) rest) ∙ take_at (check_entry_bytes x) (flat_map check_entry_bytes xs ++ rest) 32 (length-entry x) ∙ ap check_entry_bytes same
part_at (x ∷ xs) rest (suc k) e is =
    let at : 32 * suc k ≡ 32 + 32 * k = omega arith in
    ap (λ bytes. take 32 (drop (32 * suc k) bytes)) (append_assoc (check_entry_bytes x) (flat_map check_entry_bytes xs) rest)
    ∙ ap (λ n. take 32 (drop n (check_entry_bytes x ++ (flat_map check_entry_bytes xs ++ rest)))) at
    ∙ ap (take 32) (sym (drop-drop (32 * k) 32 (check_entry_bytes x ++ (flat_map check_entry_bytes xs ++ rest))))
    ∙ ap (λ bytes. take 32 (drop (32 * k) bytes)) (drop_at (check_entry_bytes x) (flat_map check_entry_bytes xs ++ rest) 32 (length-entry x))
    ∙ part_at xs rest k e is

-- ---- what bytes of a summary begin with

module _ (size : ℕ) (head : SummaryHead) (es : List CheckEntry) where
  abbrev zeros : List ℕ
  zeros = replicate (size - 32 * (1 + length es)) 0

  abbrev behind : List ℕ
  behind = flat_map check_entry_bytes es ++ zeros

  parted : summary_bytes size head es ≡ head_bytes head ++ behind
  parted = append_assoc (head_bytes head) (flat_map check_entry_bytes es) zeros

  head_of_bytes : take 32 (summary_bytes size head es) ≡ head_bytes head
  head_of_bytes = ap (take 32) parted ∙ take_at (head_bytes head) behind 32 (length-head head)

  behind_head : drop 32 (summary_bytes size head es) ≡ behind
  behind_head = ap (drop 32) parted ∙ drop_at (head_bytes head) behind 32 (length-head head)

  part_of_bytes : (k : ℕ) (e : CheckEntry) → slice_get es k ≡ Some e → take 32 (drop (32 * (1 + k)) (summary_bytes size head es)) ≡ check_entry_bytes e
  part_of_bytes k e is =
      let at : 32 * (1 + k) ≡ 32 + 32 * k = omega arith in
      ap (λ n. take 32 (drop n (summary_bytes size head es))) at ∙ ap (take 32) (sym (drop-drop (32 * k) 32 (summary_bytes size head es)))
      ∙ ap (λ bytes. take 32 (drop (32 * k) bytes)) behind_head ∙ part_at es zeros k e is

  rest_of_bytes : drop (32 * (1 + length es)) (summary_bytes size head es) ≡ zeros
  rest_of_bytes =
      let at : 32 * (1 + length es) ≡ 32 + 32 * length es = omega arith in
      ap (λ n. drop n (summary_bytes size head es)) at ∙ sym (drop-drop (32 * length es) 32 (summary_bytes size head es)) ∙ ap (drop (32 * length es)) behind_head
      ∙ drop_at (flat_map check_entry_bytes es) zeros (32 * length es) (length-entries es)

  pub length-summary : 32 * (1 + length es) ≤ size → length (summary_bytes size head es) ≡ size
  length-summary room =
      omega (arith, room, ap length parted, length-append (head_bytes head) behind, length-head head, length-append (flat_map check_entry_bytes es) zeros, length-entries es, length-replicate {A = ℕ} (size - 32 * (1 + length es)) 0)

-- ---- bytes that are those of a summary

module _ (g : Geometry) (count : ℕ) (bytes : List ℕ) (len : length bytes ≡ count * g.bytes) (head : SummaryHead) (es : List CheckEntry) (says : Says g count bytes head es) where
  pub room_said : 32 * (1 + length es) ≤ length bytes
  room_said = has_room (32 * (1 + length es)) g.bytes count (length bytes) (omega (arith, g.least_bytes)) says.size len

  -- they begin with its head
  pub head_said : BeginsWith g count bytes head
  head_said = record {
    valid = says.valid;
    said = ap (take 32) says.is ∙ head_of_bytes (length bytes) head es;
    block = says.block;
    within_limit = omega (arith, says.number, few_listed g head es says.listed);
    size = says.size ∙ ap (λ n. ceiling (32 * (1 + n)) g.bytes) (sym says.number);
  }

  -- its entries are those in them
  pub entries_said : es ≡ entries_in bytes head.entries
  entries_said =
      same_lists es (entries_in bytes head.entries) (sym says.number ∙ sym (length-map-range_with_len (entry_at bytes) 0 head.entries)) (λ k e f is is'.
      let lt = slice_get_within es k e is in
      let at : f ≡ entry_at bytes k =
      sym (get_or_from_slice_get (entries_in bytes head.entries) k f f is') ∙ get_or-map-range_with_len (entry_at bytes) 0 head.entries k k f (omega (arith, lt, says.number)) (omega arith) in
      let part : take 32 (drop (32 * (1 + k)) bytes) ≡ check_entry_bytes e = ap (λ xs. take 32 (drop (32 * (1 + k)) xs)) says.is ∙ part_of_bytes (length bytes) head es k e is in
      let read : check_entry_in (check_entry_bytes e) ≡ e = entry_read e (all_at (IsEntryIn g head) es k e says.listed.each is).entry in
      sym (at ∙ ap check_entry_in part ∙ read))

  -- and behind them are zeros
  pub zeros_said : drop (32 * (1 + head.entries)) bytes ≡ replicate (length (drop (32 * (1 + head.entries)) bytes)) 0
  zeros_said =
      let n : ℕ = length bytes - 32 * (1 + length es) in
      let all : drop (32 * (1 + head.entries)) bytes ≡ replicate n 0 =
      ap (λ k. drop (32 * (1 + k)) bytes) says.number ∙ ap (drop (32 * (1 + length es))) says.is ∙ rest_of_bytes (length bytes) head es in
      let many : length (drop (32 * (1 + head.entries)) bytes) ≡ n = ap length all ∙ length-replicate n 0 in
      all ∙ ap (λ k. replicate k 0) (sym many)

-- ---- bytes that were decoded

-- the entries in bytes are their parts
parts_in : (bytes : List ℕ) → IsBytes bytes → (n : ℕ) → 32 * (1 + n) ≤ length bytes → flat_map check_entry_bytes (entries_in bytes n) ≡ take (32 * n) (drop 32 bytes)
parts_in bytes are zero room = refl
parts_in bytes are (suc n) room =
    let next : suc n ≡ n + 1 = omega arith in
    let part : List ℕ = take 32 (drop (32 * (1 + n)) bytes) in
    let size : length part ≡ 32 = omega (arith, length-take 32 (drop (32 * (1 + n)) bytes), length-drop (32 * (1 + n)) bytes, room) in
    let said : check_entry_bytes (entry_at bytes n) ≡ part = entry_said part size (IsBytes-take 32 (drop (32 * (1 + n)) bytes) (IsBytes-drop (32 * (1 + n)) bytes are)) in
    let last : flat_map check_entry_bytes (entry_at bytes n ∷ []) ≡ take 32 (drop (32 * n) (drop 32 bytes)) =
    append-nil' (check_entry_bytes (entry_at bytes n)) ∙ said ∙ ap (λ k. take 32 (drop k bytes)) (let z : 32 * (1 + n) ≡ 32 + 32 * n = omega arith in z) ∙ ap (take 32) (sym (drop-drop (32 * n) 32 bytes)) in
    ap (λ k. flat_map check_entry_bytes (entries_in bytes k)) next ∙ ap (flat_map check_entry_bytes) (entries_more bytes n) ∙ flat_map-append check_entry_bytes (entries_in bytes n) (entry_at bytes n ∷ [])
    ∙ ap₂ ◌++◌ (parts_in bytes are n (omega (arith, room))) last ∙ sym (take-add (32 * n) 32 (drop 32 bytes)) ∙ ap (λ k. take k (drop 32 bytes)) (let z : 32 * n + 32 ≡ 32 * suc n = omega arith in z) where
      append-nil' : (xs : List ℕ) → xs ++ [] ≡ xs
      append-nil' [] = refl
      append-nil' (x ∷ xs) = ap (λ ys. x ∷ ys) (append-nil' xs)

-- Bytes that begin with a head, have its entries, and zeros behind them, are those of a summary.
module _
    (g : Geometry) (count : ℕ) (bytes : List ℕ) (head : SummaryHead) (es : List CheckEntry) (len : length bytes ≡ count * g.bytes) (are : IsBytes bytes) (begins : BeginsWith g count bytes head)
    (all : es ≡ entries_in bytes head.entries) (may : AreListed g head es) (zeros' : drop (32 * (1 + head.entries)) bytes ≡ replicate (length (drop (32 * (1 + head.entries)) bytes)) 0) where
  count_in : head.entries ≡ length es
  count_in = sym (length-map-range_with_len (entry_at bytes) 0 head.entries) ∙ ap length (sym all)

  room_in : 32 * (1 + head.entries) ≤ length bytes
  room_in = has_room (32 * (1 + head.entries)) g.bytes count (length bytes) (omega (arith, g.least_bytes)) begins.size len

  row_in : take (32 * head.entries) (drop 32 bytes) ≡ flat_map check_entry_bytes es
  row_in = sym (parts_in bytes are head.entries room_in) ∙ ap (flat_map check_entry_bytes) (sym all)

  rest_in : drop (32 * head.entries) (drop 32 bytes) ≡ replicate (length bytes - 32 * (1 + length es)) 0
  rest_in =
      drop-drop (32 * head.entries) 32 bytes ∙ ap (λ k. drop k bytes) (let z : 32 + 32 * head.entries ≡ 32 * (1 + head.entries) = omega arith in z) ∙ zeros'
      ∙ ap (λ k. replicate k 0) (length-drop (32 * (1 + head.entries)) bytes) ∙ ap (λ k. replicate (length bytes - 32 * (1 + k)) 0) count_in

  pub says_so : Says g count bytes head es
  says_so = record {
    valid = begins.valid;
    number = count_in;
    block = begins.block;
    size = begins.size ∙ ap (λ n. ceiling (32 * (1 + n)) g.bytes) count_in;
    listed = may;
    is = sym (take-append-drop 32 bytes) ∙ ap₂ ◌++◌ begins.said (sym (take-append-drop (32 * head.entries) (drop 32 bytes)) ∙ ap₂ ◌++◌ row_in rest_in) ∙ sym (parted (length bytes) head es);
  }
