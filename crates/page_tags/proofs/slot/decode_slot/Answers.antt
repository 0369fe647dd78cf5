use Rattle.std.proofs.Common.{◌≡◌, ℕ, ◌-◌, List, length, take, drop, sym, ap₂, ◌∙◌, arith, refl}
use Rattle.std.proofs.lemmas.Bool.{false≢true}
use Rattle.std.proofs.lemmas.List.{take_rest}
use Rattle.page_tags.specs.SlotEntry.{entry_of}
use Rattle.page_tags.specs.laws.Slot.{name_length_in, no_slot_by_object, no_slot_by_length, no_slot_by_name, no_slot_by_rest, slot_from_parts}
use Rattle.page_tags.proofs.Ranges.{IsBytes-from_fits}
use Rattle.page_tags.proofs.slot.decode_slot.Goals as goal
use Rattle.page_tags.proofs.slot.decode_slot.Goals.{then-object-lt2-via-then-object-lt2, then-object-lt2-via-else-object-lt2+then-length-gt-NAME_LIMIT, else-is_name-via-then-is_name+else-are_zero, else-is_name-via-else-is_name}

-- the two parts behind the numbers, by the length that was read
name_part : (bytes name : List ℕ) (n m : ℕ) → n ≡ m → name ≡ take n (take (length bytes - 10) (drop 10 bytes)) → name ≡ take m (drop 10 bytes)
name_part bytes name n m same is = is ∙ ap₂ take same (take_rest bytes 10)

rest_part : (bytes rest : List ℕ) (n m : ℕ) → n ≡ m → rest ≡ drop n (take (length bytes - 10) (drop 10 bytes)) → rest ≡ drop m (drop 10 bytes)
rest_part bytes rest n m same is = is ∙ ap₂ drop same (take_rest bytes 10)

pub returns-then-object-lt2-clause-none : goal.returns-then-object-lt2-clause-none
returns-then-object-lt2-clause-none c =
    elim c.then-object-lt2.branch [
      | then-object-lt2-via-then-object-lt2 w ↦ no_slot_by_object c.args.bytes.now (omega (arith, c.u64_at-object.ensures))
      | then-object-lt2-via-else-object-lt2+then-length-gt-NAME_LIMIT w ↦ no_slot_by_length c.args.bytes.now (omega (arith, c.from-length.ensures, c.u16_at.ensures))
    ]

pub returns-then-are_zero-clause-found : goal.returns-then-are_zero-clause-found
returns-then-are_zero-clause-found c =
    let bytes = c.args.bytes.now in
    let n : c.from-length.result ≡ name_length_in bytes = c.from-length.ensures ∙ c.u16_at.ensures in
    let name = name_part bytes c.split_at.result.0.now c.from-length.result (name_length_in bytes) n c.split_at.ensures.front in
    let rest = rest_part bytes c.split_at.result.1.now c.from-length.result (name_length_in bytes) n c.split_at.ensures.back in
    slot_from_parts bytes c.requires (IsBytes-from_fits bytes c.type_inv.bytes) (omega (arith, c.u64_at-object.ensures)) (omega arith)
    c.split_at.result.0.now c.split_at.result.1.now name rest (c.is_name.ensures.0 c.if-is_name.true) (c.are_zero.ensures.0 c.if-are_zero.true)
    (entry_of record { object = c.u64_at-object.result; name = c.split_at.result.0 }) c.u64_at-object.ensures refl

pub returns-else-is_name-clause-none : goal.returns-else-is_name-clause-none
returns-else-is_name-clause-none c =
    let bytes = c.args.bytes.now in
    let n : c.from-length.result ≡ name_length_in bytes = c.from-length.ensures ∙ c.u16_at.ensures in
    let name = name_part bytes c.split_at.result.0.now c.from-length.result (name_length_in bytes) n c.split_at.ensures.front in
    let rest = rest_part bytes c.split_at.result.1.now c.from-length.result (name_length_in bytes) n c.split_at.ensures.back in
    elim c.else-is_name.branch [
      | else-is_name-via-then-is_name+else-are_zero w ↦ no_slot_by_rest bytes c.split_at.result.1.now rest (λ zeros. false≢true (sym w.if-are_zero.false ∙ w.are_zero.ensures.1 zeros))
      | else-is_name-via-else-is_name w ↦ no_slot_by_name bytes c.split_at.result.0.now name (λ is_name. false≢true (sym w.if-is_name.false ∙ c.is_name.ensures.1 is_name))
    ]
