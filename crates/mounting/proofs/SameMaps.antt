-- Maps with the same pages are gone through in the same way, whatever they have of chunks that no tree looks up.
use Rattle.std.specs.Prelude.{ℕ, ◌<◌, ◌≤◌, ◌+◌, ◌-◌, ◌^◌, List, [], ◌∷◌}
use Rattle.std.proofs.Common.{sym, subst, inl, inr, arith}
use Rattle.std.proofs.lemmas.Option.{slice_get_within}
use Rattle.nand_model.specs.declared.geometry.Geometry.{Geometry}
use Rattle.page_tags.specs.Headers.{Fields, IsHeader}
use Rattle.page_tags.specs.Slots.{Entry}
use Rattle.page_tags.specs.declared.header.HeaderFault.{HeaderFault}
use Rattle.page_tags.specs.declared.header.HeaderFault.TheVariants as faults
use Rattle.volume_terms.specs.Sizes.{Sizes, page_slots, root_number}
use Rattle.flash_tree.specs.Tree.{IsPageSize, NewestMap, HasHeader, SlotIs, LooksUp}
use Rattle.flash_tree.specs.Mount.{Wrong, HasNone, HasHeaderFault, HasChunks, LacksChunk, AreSlots, LacksSlots, Finding, Stops, Leads, LacksContent, Finds, with_new, ListEnd, Wholly, GoesThrough, ends, stops, goes, sizes_of, IsVolume, IsNoVolume, HasWrongRoot, IsSlotIn, NamesTwice}
use Rattle.flash_tree.specs.declared.place.Key.{Key}
use Rattle.tree_walk.specs.Broken.{Breaks, BreaksSlots, ComesTo, IsFirstBroken, IsSlotAt, comes_after, comes_here}
use Rattle.tree_walk.specs.declared.broken.Broken.{Broken}
use Rattle.tree_walk.specs.declared.broken.Rule.{Rule}
use Rattle.tree_walk.specs.declared.broken.Rule.TheVariants as rules
use Rattle.pages.specs.laws.Low.{first_low, present_low, place_low, slots_few}

-- what the one has of the chunks that a tree may look up the other has too
abbrev pub HasAll : NewestMap → NewestMap → Type 0
HasAll m n = (o c : ℕ) (xs : List ℕ) → c < 2 ^ 32 → m o c xs → n o c xs

-- a chunk that is looked up is one of those that a tree may look up
looks_low : (z : Sizes) (f : Fields) (c : ℕ) → IsPageSize z.page_bytes → IsHeader z.page_bytes f → LooksUp z f c → c < 2 ^ 32
looks_low z f c size valid (inl zero_is) = subst (λ k. k < 2 ^ 32) (sym zero_is) first_low
looks_low z f c size valid (inr (inl (kind, from, present))) = present_low z.page_bytes size f c valid from present
looks_low z f c size valid (inr (inr (kind, (i, lt, chunk)))) =
    let within_limit = slots_few z.page_bytes f valid kind in
    subst (λ k. k < 2 ^ 32) (sym chunk) (place_low i (page_slots z) (omega (arith, lt, within_limit)))

-- so is one whose slots break a rule
slot_low : (z : Sizes) (count chunk place i : ℕ) → count ≤ 2 ^ 32 - 1 → IsSlotAt z count chunk place i → chunk < 2 ^ 32
slot_low z count chunk place i within_limit at = subst (λ c. c < 2 ^ 32) (sym at.in_chunk) (place_low i (page_slots z) (let lt = at.within in omega (arith, lt, within_limit)))

-- and one that breaks any rule
pub breaks_low : (z : Sizes) → IsPageSize z.page_bytes → (m : NewestMap) (key : Key) (rule : Rule) → Breaks z m key rule → key.chunk < 2 ^ 32
breaks_low z size m key rules.HeaderMissing (chunk, none) = subst (λ c. c < 2 ^ 32) (sym chunk) first_low
breaks_low z size m key (rules.NoHeader fault) (chunk, faulty) = subst (λ c. c < 2 ^ 32) (sym chunk) first_low
breaks_low z size m key rules.RootIsFile (root, is) = subst (λ (k : Key). k.chunk < 2 ^ 32) (sym root) first_low
breaks_low z size m key (rules.TooManySpare spare) (root, is) = subst (λ (k : Key). k.chunk < 2 ^ 32) (sym root) first_low
breaks_low z size m key rules.ChunkMissing (none, (f, there, looks)) = looks_low z f key.chunk size there.1 looks
breaks_low z size m key (rules.NoSlot place) (f, there, kind, (i, at, lacks)) = slot_low z f.length key.chunk place i (slots_few z.page_bytes f there.1 kind) at
breaks_low z size m key (rules.NameTwice place) (f, there, kind, (i, at, e)) = slot_low z f.length key.chunk place i (slots_few z.page_bytes f there.1 kind) at
breaks_low z size m key rules.DirectoryTwice (chunk, again) = subst (λ c. c < 2 ^ 32) (sym chunk) first_low

module _ (m n : NewestMap) (to : HasAll m n) (back : HasAll n m) where
  none_too : (o c : ℕ) → c < 2 ^ 32 → HasNone m o c → HasNone n o c
  none_too o c low none page is = none page (back o c page low is)

  fault_too : (o : ℕ) (fault : HeaderFault) → HasHeaderFault m o fault → HasHeaderFault n o fault
  fault_too o fault (page, there, first) = (page, to o 0 page first_low there, first)

  pub header_too : (z : Sizes) (o : ℕ) (f : Fields) → HasHeader z m o f → HasHeader z n o f
  header_too z o f (there, valid) = (to o 0 _ first_low there, valid)

  chunks_too : (z : Sizes) (o : ℕ) (f : Fields) → IsPageSize z.page_bytes → IsHeader z.page_bytes f → HasChunks m o f → HasChunks n o f
  chunks_too z o f size valid chunks c some present = let p = chunks c some present in (p.0, to o c p.0 (present_low z.page_bytes size f c valid some present) p.1)

  lacks_chunk_too : (z : Sizes) (o : ℕ) (f : Fields) → IsPageSize z.page_bytes → IsHeader z.page_bytes f → LacksChunk m o f → LacksChunk n o f
  lacks_chunk_too z o f size valid (c, some, present, none) = (c, some, present, none_too o c (present_low z.page_bytes size f c valid some present) none)

  slot_too : (z : Sizes) (o i : ℕ) (entry : Entry) → i < 2 ^ 32 - 1 → SlotIs z m o i entry → SlotIs z n o i entry
  slot_too z o i entry lt (page, there, valid, bytes) = (page, to o _ page (place_low i (page_slots z) lt) there, valid, bytes)

  slot_back : (z : Sizes) (o i : ℕ) (entry : Entry) → i < 2 ^ 32 - 1 → SlotIs z n o i entry → SlotIs z m o i entry
  slot_back z o i entry lt (page, there, valid, bytes) = (page, back o _ page (place_low i (page_slots z) lt) there, valid, bytes)

  slots_too : (z : Sizes) (o count : ℕ) (slots : List Entry) → count ≤ 2 ^ 32 - 1 → AreSlots z m o count slots → AreSlots z n o count slots
  slots_too z o count slots within_limit are = record {
    size = are.size;
    each = λ i entry is. slot_too z o i entry (let within = slice_get_within slots i entry is in omega (arith, within, within_limit, are.size)) (are.each i entry is);
    once = are.once;
  }

  lacks_slots_too : (z : Sizes) (o count : ℕ) → count ≤ 2 ^ 32 - 1 → LacksSlots z m o count → LacksSlots z n o count
  lacks_slots_too z o count within_limit (inl (i, lt, none)) = inl (i, lt, λ entry is. none entry (slot_back z o i entry (omega (arith, lt, within_limit)) is))
  lacks_slots_too z o count within_limit (inr (i, j, before, lt, a, b, first, second, same)) =
      inr (i, j, before, lt, a, b, slot_too z o i a (omega (arith, before, lt, within_limit)) first, slot_too z o j b (omega (arith, lt, within_limit)) second, same)

  lacks_content_too : (z : Sizes) (o : ℕ) → IsPageSize z.page_bytes → LacksContent z m o → LacksContent z n o
  lacks_content_too z o size (f, there, inl (kind, lacks)) = (f, header_too z o f there, inl (kind, lacks_chunk_too z o f size there.1 lacks))
  lacks_content_too z o size (f, there, inr (kind, lacks)) = (f, header_too z o f there, inr (kind, lacks_slots_too z o f.length (slots_few z.page_bytes f there.1 kind) lacks))

  -- what is found of an object
  pub finds_too : (z : Sizes) (o : ℕ) (finding : Finding) → IsPageSize z.page_bytes → Finds z m o finding → Finds z n o finding
  finds_too z o (Leads named) size (inl (f, there, kind, chunks, none)) = inl (f, header_too z o f there, kind, chunks_too z o f size there.1 chunks, none)
  finds_too z o (Leads named) size (inr (f, there, kind, slots, are, is)) =
      inr (f, header_too z o f there, kind, slots, slots_too z o f.length slots (slots_few z.page_bytes f there.1 kind) are, is)
  finds_too z o (Stops wrong) size (inl (is, none)) = inl (is, none_too o 0 first_low none)
  finds_too z o (Stops wrong) size (inr (inl (fault, faulty, is))) = inr (inl (fault, fault_too o fault faulty, is))
  finds_too z o (Stops wrong) size (inr (inr (is, lacks))) = inr (inr (is, lacks_content_too z o size lacks))

  -- going through a list
  pub through_too : (z : Sizes) (list : List ℕ) (k : ℕ) (end : ListEnd) → IsPageSize z.page_bytes → GoesThrough z m list k end → GoesThrough z n list k end
  through_too z list k end size (ends len) = ends len
  through_too z list k end size (stops o wrong is lookups) = stops o wrong is (finds_too z o (Stops wrong) size lookups)
  through_too z list k end size (goes o named is lookups on) = goes o named is (finds_too z o (Leads named) size lookups) (through_too z (with_new list named) (k + 1) end size on)

  slot_in_too : (z : Sizes) (list : List ℕ) (directory i : ℕ) (entry : Entry) → IsSlotIn z m list directory i entry → IsSlotIn z n list directory i entry
  slot_in_too z list directory i entry s = record {
    place = s.place;
    listed = s.listed;
    fields = s.fields;
    has = header_too z directory s.fields s.has;
    kind = s.kind;
    within = s.within;
    slot = slot_too z directory i entry (let within_limit = slots_few z.page_bytes s.fields s.has.1 s.kind in let within = s.within in omega (arith, within, within_limit)) s.slot;
  }

  pub twice_too : (z : Sizes) (list : List ℕ) → NamesTwice z m list → NamesTwice z n list
  twice_too z list t = record {
    named = t.named;
    fields = t.fields;
    has = header_too z t.named t.fields t.has;
    kind = t.kind;
    directory = t.directory;
    other = t.other;
    i = t.i;
    j = t.j;
    entry = t.entry;
    other_entry = t.other_entry;
    first = slot_in_too z list t.directory t.i t.entry t.first;
    second = slot_in_too z list t.other t.j t.other_entry t.second;
    leads = t.leads;
    other_leads = t.other_leads;
    apart = t.apart;
  }

  -- a rule that is broken
  breaks_slots_too : (z : Sizes) (count : ℕ) (key : Key) (rule : Rule) → count ≤ 2 ^ 32 - 1 → BreaksSlots z m count key rule → BreaksSlots z n count key rule
  breaks_slots_too z count key rules.ChunkMissing within_limit (none, (i, lt, chunk)) =
      (none_too key.object key.chunk (subst (λ c. c < 2 ^ 32) (sym chunk) (place_low i (page_slots z) (omega (arith, lt, within_limit)))) none, (i, lt, chunk))
  breaks_slots_too z count key (rules.NoSlot place) within_limit (i, at, lacks) = (
    i,
    at,
    record {
      page = lacks.page;
      there = to key.object key.chunk lacks.page (subst (λ c. c < 2 ^ 32) (sym at.in_chunk) (place_low i (page_slots z) (let lt = at.within in omega (arith, lt, within_limit)))) lacks.there;
      none = λ entry is. lacks.none entry (slot_back z key.object i entry (let lt = at.within in omega (arith, lt, within_limit)) is);
    },
  )
  breaks_slots_too z count key (rules.NameTwice place) within_limit (i, at, e) = (
    i,
    at,
    record {
      j = e.j;
      earlier = e.earlier;
      first = e.first;
      second = e.second;
      first_is = slot_too z key.object e.j e.first (let lt = at.within in let before = e.earlier in omega (arith, lt, before, within_limit)) e.first_is;
      second_is = slot_too z key.object i e.second (let lt = at.within in omega (arith, lt, within_limit)) e.second_is;
      same = e.same;
    },
  )
  breaks_slots_too z count key rules.HeaderMissing within_limit b = absurd b
  breaks_slots_too z count key (rules.NoHeader fault) within_limit b = absurd b
  breaks_slots_too z count key rules.RootIsFile within_limit b = absurd b
  breaks_slots_too z count key (rules.TooManySpare spare) within_limit b = absurd b
  breaks_slots_too z count key rules.DirectoryTwice within_limit b = absurd b

  pub breaks_too : (z : Sizes) → IsPageSize z.page_bytes → (key : Key) (rule : Rule) → Breaks z m key rule → Breaks z n key rule
  unfolding twice_too
  breaks_too z size key rules.HeaderMissing (chunk, none) = (chunk, none_too key.object 0 first_low none)
  breaks_too z size key (rules.NoHeader fault) (chunk, faulty) = (chunk, fault_too key.object fault faulty)
  breaks_too z size key rules.RootIsFile (root, (f, there, kind)) = (root, (f, header_too z root_number f there, kind))
  breaks_too z size key (rules.TooManySpare spare) (root, (f, there, kind, is, within_limit)) = (root, (f, header_too z root_number f there, kind, is, within_limit))
  breaks_too z size key rules.ChunkMissing (none, (f, there, looks)) =
      (none_too key.object key.chunk (looks_low z f key.chunk size there.1 looks) none, (f, header_too z key.object f there, looks))
  breaks_too z size key (rules.NoSlot place) (f, there, kind, breaks) =
      (f, header_too z key.object f there, kind, breaks_slots_too z f.length key (rules.NoSlot place) (slots_few z.page_bytes f there.1 kind) breaks)
  breaks_too z size key (rules.NameTwice place) (f, there, kind, breaks) =
      (f, header_too z key.object f there, kind, breaks_slots_too z f.length key (rules.NameTwice place) (slots_few z.page_bytes f there.1 kind) breaks)
  breaks_too z size key rules.DirectoryTwice (chunk, again) = (
    chunk,
    record {
      list = again.list;
      through = through_too z (root_number ∷ []) 0 (Wholly again.list) size again.through;
      twice = twice_too z again.list again.twice;
      named = again.named;
    },
  )

  comes_too : (z : Sizes) → IsPageSize z.page_bytes → (list : List ℕ) (k o : ℕ) → ComesTo z m list k o → ComesTo z n list k o
  comes_too z size list k o (comes_here is) = comes_here is
  comes_too z size list k o (comes_after before named is lookups after) =
      comes_after before named is (finds_too z before (Leads named) size lookups) (comes_too z size (with_new list named) (k + 1) o after)

  pub first_too : (z : Sizes) → IsPageSize z.page_bytes → (broken : Broken) → IsFirstBroken z m broken → IsFirstBroken z n broken
  first_too z size broken (breaks, inl twice) = (breaks_too z size broken.key broken.rule breaks, inl twice)
  first_too z size broken (breaks, inr comes) = (breaks_too z size broken.key broken.rule breaks, inr (comes_too z size (root_number ∷ []) 0 broken.key.object comes))

  -- the root
  pub no_volume_too : IsNoVolume m → IsNoVolume n
  no_volume_too (inl none) = inl (none_too root_number 0 first_low none)
  no_volume_too (inr magic) = inr (fault_too root_number faults.Magic magic)

  pub wrong_root_too : (g : Geometry) (wrong : Wrong) → HasWrongRoot g m wrong → HasWrongRoot g n wrong
  wrong_root_too g wrong (inl (fault, faulty, ne, is)) = inl (fault, fault_too root_number fault faulty, ne, is)
  wrong_root_too g wrong (inr (is, f, there, amiss)) = inr (is, f, header_too (sizes_of g 0) root_number f there, amiss)

  pub volume_too : (g : Geometry) (spare : ℕ) → IsVolume g m spare → IsVolume g n spare
  volume_too g spare v = record {
    fields = v.fields;
    has = header_too (sizes_of g spare) root_number v.fields v.has;
    kind = v.kind;
    spare_is = v.spare_is;
    room = v.room;
  }
