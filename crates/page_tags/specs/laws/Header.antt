-- A page is the encoding of one header, or it has a first fault, and never both.
use Rattle.std.proofs.Common.{◌≡◌, ◌≢◌, ◌<◌, ◌≤◌, ℕ, ◌-◌, ◌*◌, ◌^◌, List, [], ◌∷◌, ◌++◌, length, take, drop, get_or, replicate, refl, sym, ap, ap₂, ◌∙◌, inl, inr, ⊎_elim, ◌⊎◌, true, subst, arith, length-drop, take-append-drop, drop-cons}
use Rattle.std.proofs.lemmas.Nat.{mul-le}
use Rattle.std.proofs.lemmas.Bool.{cases_eq, cases_lt, cases_order, false≢true}
use Rattle.byteorder.specs.Endian.{little_bytes, little_number}
use Rattle.byteorder.specs.Numbers.{little_number-reads_back, little_from-lt}
use Rattle.page_tags.specs.declared.header.Format.{Format}
use Rattle.page_tags.specs.declared.header.Format.TheVariants as formats
use Rattle.page_tags.specs.declared.header.ObjectKind.{ObjectKind}
use Rattle.page_tags.specs.declared.header.ObjectKind.TheVariants as kinds
use Rattle.page_tags.specs.declared.header.HeaderFault.{HeaderFault}
use Rattle.page_tags.specs.declared.header.HeaderFault.TheVariants as faults
use Rattle.page_tags.specs.Headers.{Fields, magic, format_number, kind_number, header_bytes, is_present, IsBytes, greatest_recorded, MayBeSet, IsHeader, IsHeaderOf, length_in, moment_in, HasFault, rank, IsFirstFault}
use Rattle.page_tags.specs.laws.Byte.{joined, little_bytes_at, IsBytes-drop}
use Rattle.volume_terms.specs.laws.List.{same_or_not}
use Rattle.page_tags.specs.HeaderParts.{HasFormat, HasNonePast, HasPast, IsSoundHeader, fields_in, last_chunk}
use Rattle.page_tags.specs.laws.Bit.{past_or_none}

-- ---- what is in the bytes of a header

pub magic_at : (f : Fields) → take 4 (header_bytes f) ≡ magic
unfolding header_bytes
magic_at f = refl

pub format_at : (f : Fields) → get_or (header_bytes f) 4 0 ≡ format_number f.format
unfolding header_bytes
format_at f = refl

pub kind_at : (f : Fields) → get_or (header_bytes f) 5 0 ≡ kind_number f.kind
unfolding header_bytes
kind_at f = refl

pub zeros_at : (f : Fields) → take 8 (drop 24 (header_bytes f)) ≡ replicate 8 0
unfolding header_bytes
zeros_at f = refl

pub bits_at : (f : Fields) → drop 32 (header_bytes f) ≡ f.bits
unfolding header_bytes
bits_at f = refl

pub spare_at : (f : Fields) → f.spare < 2 ^ 16 → little_number 2 (drop 6 (header_bytes f)) ≡ f.spare
unfolding header_bytes
spare_at f fits = little_number-reads_back 2 f.spare (little_bytes 8 f.length ++ (little_bytes 8 f.moment ++ (replicate 8 0 ++ f.bits))) (omega arith)

pub length_at : (f : Fields) → f.length < 2 ^ 64 → length_in (header_bytes f) ≡ f.length
unfolding header_bytes
length_at f fits = little_number-reads_back 8 f.length (little_bytes 8 f.moment ++ (replicate 8 0 ++ f.bits)) (omega arith)

pub moment_at : (f : Fields) → f.moment < 2 ^ 64 → moment_in (header_bytes f) ≡ f.moment
unfolding header_bytes
moment_at f fits = little_number-reads_back 8 f.moment (replicate 8 0 ++ f.bits) (omega arith)

-- no length over pages of at most 4096 bytes needs more than 64 bits
pub length_small : (d : ℕ) (kind : ObjectKind) (n : ℕ) → d ≤ 4096 → n ≤ greatest_recorded d kind → n < 2 ^ 64
length_small d kinds.File n within_limit fits = omega (arith, mul-le (8 * (d - 32)) d (8 * 4096) 4096 (omega arith) within_limit)
length_small d kinds.Directory n within_limit fits = omega arith

-- ---- two headers

pub same_format : (a b : Format) → format_number a ≡ format_number b → a ≡ b
same_format formats.One formats.One e = refl
same_format formats.One formats.Two e = absurd (omega arith)
same_format formats.Two formats.One e = absurd (omega arith)
same_format formats.Two formats.Two e = refl

pub same_kind : (a b : ObjectKind) → kind_number a ≡ kind_number b → a ≡ b
same_kind kinds.File kinds.File e = refl
same_kind kinds.File kinds.Directory e = absurd (omega arith)
same_kind kinds.Directory kinds.File e = absurd (omega arith)
same_kind kinds.Directory kinds.Directory e = refl

-- no two headers have the same bytes
pub same_fields : (d : ℕ) (f g : Fields) → d ≤ 4096 → IsHeader d f → IsHeader d g → header_bytes f ≡ header_bytes g → f ≡ g
same_fields d f g within_limit h k e =
    let format : f.format ≡ g.format = same_format f.format g.format (sym (format_at f) ∙ ap (λ bs. get_or bs 4 0) e ∙ format_at g) in
    let kind : f.kind ≡ g.kind = same_kind f.kind g.kind (sym (kind_at f) ∙ ap (λ bs. get_or bs 5 0) e ∙ kind_at g) in
    let spare : f.spare ≡ g.spare = sym (spare_at f h.spare) ∙ ap (λ bs. little_number 2 (drop 6 bs)) e ∙ spare_at g k.spare in
    let len : f.length ≡ g.length = sym (length_at f (length_small d f.kind f.length within_limit h.length_fits)) ∙ ap length_in e ∙ length_at g (length_small d g.kind g.length within_limit k.length_fits) in
    let moment : f.moment ≡ g.moment = sym (moment_at f h.moment) ∙ ap moment_in e ∙ moment_at g k.moment in
    let bits : f.bits ≡ g.bits = sym (bits_at f) ∙ ap (drop 32) e ∙ bits_at g in
    λ i. record { format = format i; kind = kind i; spare = spare i; length = len i; moment = moment i; bits = bits i }

-- a page is the encoding of one header at most
pub one_header : (page : List ℕ) (f g : Fields) → length page ≤ 4096 → IsHeaderOf page f → IsHeaderOf page g → f ≡ g
one_header page f g within_limit h k = same_fields (length page) f g within_limit h.valid k.valid (sym h.encodes ∙ k.encodes)

-- ---- a page without fault is a header

-- such a page is put together from its parts
from_parts : (page : List ℕ) (format : Format) (kind : ObjectKind) → 32 ≤ length page → IsBytes page → IsSoundHeader page format kind → header_bytes (fields_in page format kind) ≡ page
unfolding header_bytes
from_parts page format kind least bytes sound =
    let two : format_number format ∷ kind_number kind ∷ [] ≡ take 2 (drop 4 page) =
    ap₂ (λ a b. a ∷ b ∷ []) (sym sound.begins.format_next) (sym sound.kind_next)
    ∙ sym (ap (take 2) (drop-cons page 4 0 (omega arith) ∙ ap (λ rest. get_or page 4 0 ∷ rest) (drop-cons page 5 0 (omega arith)))) in
    let to_6 : magic ++ (format_number format ∷ kind_number kind ∷ []) ≡ take 6 page = joined 4 2 page (sym sound.begins.magic_first) two in
    let to_8 = joined 6 2 page to_6 (little_bytes_at 2 6 page (omega arith) bytes) in
    let to_16 = joined 8 8 page to_8 (little_bytes_at 8 8 page (omega arith) bytes) in
    let to_24 = joined 16 8 page to_16 (little_bytes_at 8 16 page (omega arith) bytes) in
    let to_32 = joined 24 8 page to_24 (sym sound.zeros) in
    ap (λ front. front ++ drop 32 page) to_32 ∙ take-append-drop 32 page

-- a page with nothing wrong is the encoding of what it says
pub header_from_sound : (page : List ℕ) (format : Format) (kind : ObjectKind) → 32 ≤ length page → IsBytes page → IsSoundHeader page format kind → IsHeaderOf page (fields_in page format kind)
header_from_sound page format kind least bytes sound = record {
  valid = record {
    spare = little_from-lt 0 2 (drop 6 page) (IsBytes-drop 6 page bytes);
    length_fits = sound.length_fits;
    moment = little_from-lt 0 8 (drop 16 page) (IsBytes-drop 16 page bytes);
    no_moment = sound.no_moment;
    room = length-drop 32 page;
    bytes = IsBytes-drop 32 page bytes;
    within = sound.within;
  };
  encodes = sym (from_parts page format kind least bytes sound);
}

-- ---- a header has nothing wrong

format_range : (a : Format) → (1 ≤ format_number a) × (format_number a ≤ 2)
format_range formats.One = (omega arith, omega arith)
format_range formats.Two = (omega arith, omega arith)

kind_known : (a : ObjectKind) → (kind_number a ≢ 1) × (kind_number a ≢ 2) → ⊥
kind_known kinds.File unknown = unknown.0 refl
kind_known kinds.Directory unknown = unknown.1 refl

no_magic_fault : (page : List ℕ) (format : Format) → HasFormat page format → HasFault page faults.Magic → ⊥
no_magic_fault page format begins (inl other) = other begins.magic_first
no_magic_fault page format begins (inr zero_format) = omega (arith, format_range format, begins.format_next)

no_newer_fault : (page : List ℕ) (format : Format) (n : ℕ) → HasFormat page format → HasFault page (faults.Newer n) → ⊥
no_newer_fault page format n begins newer = omega (arith, format_range format, begins.format_next)

no_kind_fault : (page : List ℕ) (kind : ObjectKind) → get_or page 5 0 ≡ kind_number kind → HasFault page faults.Kind → ⊥
no_kind_fault page kind is unknown = kind_known kind (λ e. unknown.0 (is ∙ e), λ e. unknown.1 (is ∙ e))

no_length_fault : (page : List ℕ) (kind : ObjectKind) → get_or page 5 0 ≡ kind_number kind → length_in page ≤ greatest_recorded (length page) kind → HasFault page faults.Length → ⊥
no_length_fault page kind is fits long =
    let greatest = ap (greatest_recorded (length page)) (same_kind long.0 kind (sym long.1 ∙ is)) in
    omega (arith, long.2)

no_pad_fault : (page : List ℕ) (format : Format) (kind : ObjectKind) → IsSoundHeader page format kind → HasFault page faults.Pad → ⊥
no_pad_fault page format kind sound (inl dated) = dated.1 (sound.no_moment (same_format format formats.One (sym sound.begins.format_next ∙ dated.0)))
no_pad_fault page format kind sound (inr (inl other)) = other sound.zeros
no_pad_fault page format kind sound (inr (inr past)) =
    past.5 (subst (λ k. MayBeSet (length page) k (length_in page) past.1) (same_kind kind past.0 (sym sound.kind_next ∙ past.2)) (sound.within past.1 past.3 past.4))

pub sound_or_fault : (page : List ℕ) (format : Format) (kind : ObjectKind) (fault : HeaderFault) → IsSoundHeader page format kind → HasFault page fault → ⊥
sound_or_fault page format kind faults.Magic sound = no_magic_fault page format sound.begins
sound_or_fault page format kind (faults.Newer n) sound = no_newer_fault page format n sound.begins
sound_or_fault page format kind faults.Kind sound = no_kind_fault page kind sound.kind_next
sound_or_fault page format kind faults.Length sound = no_length_fault page kind sound.kind_next sound.length_fits
sound_or_fault page format kind faults.Pad sound = no_pad_fault page format kind sound

sound_from_header : (page : List ℕ) (f : Fields) → length page ≤ 4096 → IsHeaderOf page f → IsSoundHeader page f.format f.kind
sound_from_header page f within_limit h =
    let len : length_in page ≡ f.length = ap length_in h.encodes ∙ length_at f (length_small (length page) f.kind f.length within_limit h.valid.length_fits) in
    let bits : drop 32 page ≡ f.bits = ap (drop 32) h.encodes ∙ bits_at f in
    record {
      begins = record { magic_first = ap (take 4) h.encodes ∙ magic_at f; format_next = ap (λ bs. get_or bs 4 0) h.encodes ∙ format_at f };
      kind_next = ap (λ bs. get_or bs 5 0) h.encodes ∙ kind_at f;
      length_fits = omega (arith, h.valid.length_fits);
      no_moment = λ one. ap moment_in h.encodes ∙ moment_at f h.valid.moment ∙ h.valid.no_moment one;
      zeros = ap (λ bs. take 8 (drop 24 bs)) h.encodes ∙ zeros_at f;
      within = λ c some set. subst (λ n. MayBeSet (length page) f.kind n c) (sym len) (h.valid.within c some (ap (λ bs. is_present bs c) (sym bits) ∙ set));
    }

-- no page is a header and has a fault
pub header_or_fault : (page : List ℕ) (f : Fields) (fault : HeaderFault) → length page ≤ 4096 → IsHeaderOf page f → HasFault page fault → ⊥
header_or_fault page f fault within_limit h = sound_or_fault page f.format f.kind fault (sound_from_header page f within_limit h)

-- ---- the first fault, by what the tests before it said

pub magic_first : (page : List ℕ) → HasFault page faults.Magic → IsFirstFault page faults.Magic
magic_first page fault = record { here = fault; first = λ other before _. omega arith }

before_newer : (page : List ℕ) (other : HeaderFault) → take 4 page ≡ magic → (get_or page 4 0 ≡ 0 → ⊥) → rank other < 1 → HasFault page other → ⊥
before_newer page faults.Magic magical some before (inl other) = other magical
before_newer page faults.Magic magical some before (inr zero_format) = some zero_format
before_newer page (faults.Newer n) magical some before fault = omega arith
before_newer page faults.Kind magical some before fault = omega arith
before_newer page faults.Length magical some before fault = omega arith
before_newer page faults.Pad magical some before fault = omega arith

pub newer_first : (page : List ℕ) (n : ℕ) → take 4 page ≡ magic → HasFault page (faults.Newer n) → IsFirstFault page (faults.Newer n)
newer_first page n magical fault = record { here = fault; first = λ other. before_newer page other magical (λ e. omega (arith, fault.0, fault.1)) }

before_kind : (page : List ℕ) (format : Format) (other : HeaderFault) → HasFormat page format → rank other < 2 → HasFault page other → ⊥
before_kind page format faults.Magic begins before = no_magic_fault page format begins
before_kind page format (faults.Newer n) begins before = no_newer_fault page format n begins
before_kind page format faults.Kind begins before = λ fault. omega arith
before_kind page format faults.Length begins before = λ fault. omega arith
before_kind page format faults.Pad begins before = λ fault. omega arith

pub kind_first : (page : List ℕ) (format : Format) → HasFormat page format → HasFault page faults.Kind → IsFirstFault page faults.Kind
kind_first page format begins fault = record { here = fault; first = λ other. before_kind page format other begins }

before_length : (page : List ℕ) (format : Format) (kind : ObjectKind) (other : HeaderFault) → HasFormat page format → get_or page 5 0 ≡ kind_number kind → rank other < 3 → HasFault page other → ⊥
before_length page format kind faults.Magic begins is before = no_magic_fault page format begins
before_length page format kind (faults.Newer n) begins is before = no_newer_fault page format n begins
before_length page format kind faults.Kind begins is before = no_kind_fault page kind is
before_length page format kind faults.Length begins is before = λ fault. omega arith
before_length page format kind faults.Pad begins is before = λ fault. omega arith

pub length_first : (page : List ℕ) (format : Format) (kind : ObjectKind) → HasFormat page format → get_or page 5 0 ≡ kind_number kind → HasFault page faults.Length → IsFirstFault page faults.Length
length_first page format kind begins is fault = record { here = fault; first = λ other. before_length page format kind other begins is }

before_pad : (page : List ℕ) (format : Format) (kind : ObjectKind) (other : HeaderFault) → HasFormat page format → get_or page 5 0 ≡ kind_number kind → length_in page ≤ greatest_recorded (length page) kind → rank other < 4 → HasFault page other → ⊥
before_pad page format kind faults.Magic begins is fits before = no_magic_fault page format begins
before_pad page format kind (faults.Newer n) begins is fits before = no_newer_fault page format n begins
before_pad page format kind faults.Kind begins is fits before = no_kind_fault page kind is
before_pad page format kind faults.Length begins is fits before = no_length_fault page kind is fits
before_pad page format kind faults.Pad begins is fits before = λ fault. omega arith

pub pad_first : (page : List ℕ) (format : Format) (kind : ObjectKind) → HasFormat page format → get_or page 5 0 ≡ kind_number kind → length_in page ≤ greatest_recorded (length page) kind → HasFault page faults.Pad → IsFirstFault page faults.Pad
pad_first page format kind begins is fits fault = record { here = fault; first = λ other. before_pad page format kind other begins is fits }

-- ---- there is one first fault

same_rank : (page : List ℕ) (a b : HeaderFault) → rank a ≡ rank b → HasFault page a → HasFault page b → a ≡ b
same_rank page faults.Magic faults.Magic e here there = refl
same_rank page (faults.Newer m) (faults.Newer n) e here there = ap faults.Newer (sym here.0 ∙ there.0)
same_rank page faults.Kind faults.Kind e here there = refl
same_rank page faults.Length faults.Length e here there = refl
same_rank page faults.Pad faults.Pad e here there = refl
same_rank page a b e here there = absurd (omega arith)

pub one_first_fault : (page : List ℕ) (a b : HeaderFault) → IsFirstFault page a → IsFirstFault page b → a ≡ b
one_first_fault page a b h k = elim (cases_order (rank a) (rank b)) [
  | inl same ↦ same_rank page a b same h.here k.here
  | inr (inl before) ↦ absurd (k.first a before h.here)
  | inr (inr after) ↦ absurd (h.first b after k.here)
]

-- ---- a page is a header or has a first fault

pub may_be_set : (d : ℕ) (kind : ObjectKind) (n c : ℕ) → 1 ≤ c → c ≤ last_chunk d kind n → MayBeSet d kind n c
may_be_set d kinds.File n c some within = within
may_be_set d kinds.Directory n c some within = omega arith

pub not_past_last : (d : ℕ) (kind : ObjectKind) (n c : ℕ) → MayBeSet d kind n c → c ≤ last_chunk d kind n
not_past_last d kinds.File n c may = may
not_past_last d kinds.Directory n c may = absurd may

-- by a set bit past the last chunk
pub pad_from_past : (page : List ℕ) (kind : ObjectKind) → get_or page 5 0 ≡ kind_number kind → HasPast (drop 32 page) (last_chunk (length page) kind (length_in page)) → HasFault page faults.Pad
pad_from_past page kind is past = inr (inr (kind, past.0, is, omega (arith, past.1), past.2, λ may. omega (arith, past.1, not_past_last (length page) kind (length_in page) past.0 may)))

-- and with none
pub within_from_none : (page : List ℕ) (kind : ObjectKind) → HasNonePast (drop 32 page) (last_chunk (length page) kind (length_in page)) → (c : ℕ) → 1 ≤ c → is_present (drop 32 page) c ≡ true → MayBeSet (length page) kind (length_in page) c
within_from_none page kind none c some set = elim (cases_lt (last_chunk (length page) kind (length_in page)) c) [
  | inl past ↦ absurd (false≢true (sym (none c past) ∙ set))
  | inr within ↦ may_be_set (length page) kind (length_in page) c some within
]

moment_or_fault : (page : List ℕ) (format : Format) → get_or page 4 0 ≡ format_number format → HasFault page faults.Pad ⊎ (format ≡ formats.One → moment_in page ≡ 0)
moment_or_fault page formats.One is = elim (cases_eq (moment_in page) 0) [
  | inl none ↦ inr (λ _. none)
  | inr some ↦ inl (inl (is, some))
]
moment_or_fault page formats.Two is = inr (λ e. absurd (two_not_one e))
  where
    two_not_one : formats.Two ≡ formats.One → ⊥
    two_not_one e = cc

-- from the length of the page on
sound_or_first : (page : List ℕ) (format : Format) (kind : ObjectKind) → HasFormat page format → get_or page 5 0 ≡ kind_number kind → IsSoundHeader page format kind ⊎ ((fault : HeaderFault) × IsFirstFault page fault)
sound_or_first page format kind begins is = elim (cases_lt (greatest_recorded (length page) kind) (length_in page)) [
  | inl long ↦ inr (faults.Length, length_first page format kind begins is (kind, is, long))
  | inr fits ↦
      let pad : HasFault page faults.Pad → (fault : HeaderFault) × IsFirstFault page fault = λ fault. (faults.Pad, pad_first page format kind begins is fits fault) in
      elim (moment_or_fault page format begins.format_next) [
        | inl dated ↦ inr (pad dated)
        | inr no_moment ↦ elim (same_or_not (take 8 (drop 24 page)) (replicate 8 0)) [
          | inr other ↦ inr (pad (inr (inl other)))
          | inl zeros ↦ elim (past_or_none (drop 32 page) (last_chunk (length page) kind (length_in page))) [
            | inl past ↦ inr (pad (pad_from_past page kind is past))
            | inr none ↦ inl (record {
              begins = begins;
              kind_next = is;
              length_fits = fits;
              no_moment = no_moment;
              zeros = zeros;
              within = within_from_none page kind none;
            })
          ]
        ]
      ]
]

-- a page whose padding is right is sound
pub sound_from_no_pad_fault :
    (page : List ℕ) (format : Format) (kind : ObjectKind) → HasFormat page format → get_or page 5 0 ≡ kind_number kind
    → length_in page ≤ greatest_recorded (length page) kind → (HasFault page faults.Pad → ⊥) → IsSoundHeader page format kind
sound_from_no_pad_fault page format kind begins is fits right = record {
  begins = begins;
  kind_next = is;
  length_fits = fits;
  no_moment = λ one. elim (cases_eq (moment_in page) 0) [
    | inl none ↦ none
    | inr some ↦ absurd (right (inl (begins.format_next ∙ ap format_number one, some)))
  ];
  zeros = elim (same_or_not (take 8 (drop 24 page)) (replicate 8 0)) [
    | inl zeros ↦ zeros
    | inr other ↦ absurd (right (inr (inl other)))
  ];
  within = elim (past_or_none (drop 32 page) (last_chunk (length page) kind (length_in page))) [
    | inl past ↦ absurd (right (pad_from_past page kind is past))
    | inr none ↦ within_from_none page kind none
  ];
}

-- from the kind on
kind_or_first : (page : List ℕ) (format : Format) → HasFormat page format → ((kind : ObjectKind) × IsSoundHeader page format kind) ⊎ ((fault : HeaderFault) × IsFirstFault page fault)
kind_or_first page format begins = elim (cases_eq (get_or page 5 0) 1) [
  | inl file ↦ ⊎_elim (λ sound. inl (kinds.File, sound)) inr (sound_or_first page format kinds.File begins file)
  | inr not_file ↦ elim (cases_eq (get_or page 5 0) 2) [
    | inl directory ↦ ⊎_elim (λ sound. inl (kinds.Directory, sound)) inr (sound_or_first page format kinds.Directory begins directory)
    | inr not_directory ↦ inr (faults.Kind, kind_first page format begins (not_file, not_directory))
  ]
]

-- what is found of a page with the right magic and a format
from_format : (page : List ℕ) (format : Format) → 32 ≤ length page → IsBytes page → HasFormat page format → ((f : Fields) × IsHeaderOf page f) ⊎ ((fault : HeaderFault) × IsFirstFault page fault)
from_format page format least bytes begins =
    ⊎_elim (λ sound. inl (fields_in page format sound.0, header_from_sound page format sound.0 least bytes sound.1)) inr (kind_or_first page format begins)

pub header_or_first_fault : (page : List ℕ) → 32 ≤ length page → IsBytes page → ((f : Fields) × IsHeaderOf page f) ⊎ ((fault : HeaderFault) × IsFirstFault page fault)
header_or_first_fault page least bytes = elim (same_or_not (take 4 page) magic) [
  | inr other ↦ inr (faults.Magic, magic_first page (inl other))
  | inl magical ↦ elim (cases_eq (get_or page 4 0) 0) [
    | inl zero_format ↦ inr (faults.Magic, magic_first page (inr zero_format))
    | inr some ↦ elim (cases_eq (get_or page 4 0) 1) [
      | inl one ↦ from_format page formats.One least bytes (record { magic_first = magical; format_next = one })
      | inr not_one ↦ elim (cases_eq (get_or page 4 0) 2) [
        | inl two ↦ from_format page formats.Two least bytes (record { magic_first = magical; format_next = two })
        | inr not_two ↦ inr (faults.Newer (get_or page 4 0), newer_first page (get_or page 4 0) magical (refl, omega arith))
      ]
    ]
  ]
]
