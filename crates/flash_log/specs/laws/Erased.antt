-- What keeps a table's knowledge of blocks that begin with an erased page.
use Rattle.std.proofs.Common.{◌≡◌, ◌≢◌, ◌<◌, ◌≤◌, ℕ, ◌+◌, Bool, true, false, if◌then◌else◌, List, Option, Some, None, Result, Ok, Err, refl, sym, ap, subst, ◌∙◌, arith, inl, inr}
use Rattle.std.proofs.lemmas.Bool.{cases_Bool, cases_eq}
use Rattle.nand_model.specs.Flash.{Flash, Erased, Written}
use Rattle.nand_model.specs.Calls.{Device, Lasts, Erases, MarkEnds, MarkLeaves, Marks}
use Rattle.nand_model.specs.declared.geometry.Geometry.{Geometry}
use Rattle.nand_model.specs.declared.nand.EraseFault.{EraseFault}
use Rattle.nand_model.specs.declared.nand.Gone.{Gone}
use Rattle.nand_model.specs.laws.Calls.{lasts_on}
use Rattle.nand_model.specs.laws.Changes.{shrinks-erase}
use Rattle.page_tags.specs.Tags.{tag_bytes}
use Rattle.page_tags.specs.declared.tag.Tag.{Tag}
use Rattle.flash_tree.specs.Fading.{Fades}
use Rattle.flash_tree.specs.Groups.{HasTag}
use Rattle.flash_tree.specs.ErasedBlocks.{BeginsErased, OnlyFirstHasTags, GoesFirst}
use Rattle.flash_tree.specs.Summarizing.{WritesIn}
use Rattle.flash_tree.specs.laws.Fading.{fades_erase, fades_mark, good_before, loses_fading}
use Rattle.flash_tree.specs.laws.Newest.{has_before}
use Rattle.flash_tree.specs.laws.Place.{had_power}
use Rattle.flash_tree.specs.laws.Summarizing.{erased_before, good_stays, tag_elsewhere}
use Rattle.block_state.specs.declared.blocks.BlockEntry.{BlockEntry}
use Rattle.block_state.specs.Table.{Table, other_than}
use Rattle.block_state.specs.laws.Checkpoint.{other_is_other}
use Rattle.transactions.specs.Groups.{AddsPages, GroupsAfter, OkTable, TableEnds, TakesPages, WritesOpen, closed, next_group}
use Rattle.transactions.specs.Marking.{NotesMark}
use Rattle.transactions.specs.Opening.{Opens}
use Rattle.transactions.specs.Ready.{IsReady}
use Rattle.transactions.specs.Written.{tag_in}
use Rattle.transactions.specs.declared.group.GroupFault.{GroupFault}
use Rattle.transactions.specs.declared.group.GroupFault.TheVariants as groups
use Rattle.transactions.specs.declared.group.Placed.{Placed}
use Rattle.transactions.specs.declared.source.PageName.{PageName}
use Rattle.flash_log.specs.Erased.{IsBlank, IsUnwritten, KnowsErased, LeadsErased, KeepsErased}

-- ---- of the blocks that begin erased the first alone has tags

pub only_goes : (flash : Flash) (b : ℕ) → GoesFirst flash b → OnlyFirstHasTags flash
only_goes flash b goes a k l u lt begins begins' has = elim (cases_eq k b) [
  | inr ne ↦ (goes k ne begins').1 l u has
  | inl e ↦
      let ne : a ≢ b = λ same. absurd (omega (arith, lt, e, same)) in
      let less = (goes a ne begins).0 in
      absurd (omega (arith, lt, e, less))
]

-- ---- no block begins erased that did not

-- each block that begins erased did so before, and its tags are no others
abbrev pub ErasesNone : Flash → Flash → Type 0
ErasesNone old new = (k : ℕ) → BeginsErased new k → BeginsErased old k × ((l : ℕ) (u : Tag) → HasTag new k l u → HasTag old k l u)

pub goes_on : (old new : Flash) (b : ℕ) → ErasesNone old new → GoesFirst old b → GoesFirst new b
goes_on old new b none goes k ne begins =
    let was = none k begins in
    let first = goes k ne was.0 in
    (first.0, λ l u has. first.1 l u (was.1 l u has))

pub knows_on : (old new : Flash) (t : Table) → ErasesNone old new → KnowsErased old t → KnowsErased new t
knows_on old new t none knows = record {
  unwritten = λ b within begins. knows.unwritten b within (none b begins).0;
  torn = λ b l u begins has. let was = none b begins in knows.torn b l u was.0 (was.1 l u has);
  aged = knows.aged;
}

pub leads_on : (old new : Flash) (t : Table) → ErasesNone old new → LeadsErased old t → LeadsErased new t
leads_on old new t none leads = record {
  noted = λ c is. goes_on old new c none (leads.noted c is);
  opened = λ o is next. goes_on old new o none (leads.opened o is next);
}

pub only_on : (old new : Flash) → ErasesNone old new → OnlyFirstHasTags old → OnlyFirstHasTags new
only_on old new none only a k l u lt begins begins' has =
    let was = none k begins' in
    only a k l u lt (none a begins).0 was.0 (was.1 l u has)

-- a mark
pub none_marked : (v : ℕ) (d e : Device) (result : Result (Unit {0}) Gone) → d.honest ≡ true → Marks v d e result → ErasesNone d.flash e.flash
none_marked v d e result honest marks k begins =
    let fades = fades_mark v d e result honest marks in (
      (good_before v d.flash e.flash fades k begins.0, ap (λ f. f k 0) (sym (marks.page honest)) ∙ begins.1),
      λ l u has. has_before v d.flash e.flash (loses_fading v d.flash e.flash fades) k l u has,
    )

-- pages of one block are written
pub none_written : (o number seq : ℕ) (old new : Flash) → WritesIn o number seq old new → ErasesNone old new
none_written o number seq old new writes k begins = (
  (good_stays o number seq old new writes k begins.0, erased_before old new writes.grows k 0 begins.1),
  λ l u has. elim (cases_eq k o) [
    | inl e ↦ absurd (writes.begun l u (subst (λ n. HasTag new n l u) e has) (ap (λ n. new.page n 0) (sym e) ∙ begins.1))
    | inr ne ↦ tag_elsewhere o number seq old new writes k l u ne has
  ],
)

-- ---- another table

-- Nothing of the table is other but marks, and counts of blocks that do not begin erased.
pub record LeavesBlank (flash : Flash) (old new : Table) : Type 0 where
  pub geometry : new.geometry ≡ old.geometry
  pub next : (b : ℕ) → (new.entry b).next ≡ (old.entry b).next
  pub seq : (b : ℕ) → (new.entry b).seq ≡ (old.entry b).seq
  pub committed : (b : ℕ) → BeginsErased flash b → (old.entry b).committed ≡ 0 → (new.entry b).committed ≡ 0
  pub marks : (b : ℕ) → (old.entry b).bad ≡ true → (new.entry b).bad ≡ true
  pub noted : (c : ℕ) → new.checkpoint ≡ Some c → old.checkpoint ≡ Some c
  pub opened : (o : ℕ) → new.open_block ≡ Some o → old.open_block ≡ Some o

-- a block that was good is blank where it is
good_was : (x y : Bool) → (x ≡ true → y ≡ true) → y ≡ false → x ≡ false
good_was false y still is = refl
good_was true y still is = let two : true ≡ false = sym (still refl) ∙ is in absurd cc

pub knows_as : (flash : Flash) (t u : Table) → LeavesBlank flash t u → KnowsErased flash t → KnowsErased flash u
knows_as flash t u leaves knows = record {
  unwritten = λ b within begins.
      let was = knows.unwritten b (subst (λ (g : Geometry). b < g.blocks) leaves.geometry within) begins in
      record { next = leaves.next b ∙ was.next; committed = leaves.committed b begins was.committed };
  torn = λ b l x begins has.
      let was = knows.torn b l x begins has in
      record { within = subst (λ (g : Geometry). b < g.blocks) (sym leaves.geometry) was.within; lowest = λ j blank. was.lowest j (blank_was j blank) };
  aged = λ b some. let next = leaves.next b in let seq = leaves.seq b in let was = knows.aged b (omega (arith, next, some)) in omega (arith, seq, was);
} where
  blank_was : (j : ℕ) → IsBlank u j → IsBlank t j
  blank_was j blank = record {
    within = subst (λ (g : Geometry). j < g.blocks) leaves.geometry blank.within;
    good = good_was (t.entry j).bad (u.entry j).bad (leaves.marks j) blank.good;
    next = sym (leaves.next j) ∙ blank.next;
  }

pub leads_as : (flash : Flash) (t u : Table) → LeavesBlank flash t u → LeadsErased flash t → LeadsErased flash u
leads_as flash t u leaves leads = record {
  noted = λ c is. leads.noted c (leaves.noted c is);
  opened = λ o is next. leads.opened o (leaves.opened o is) (sym (leaves.next o) ∙ next);
}

-- no block is open, and numbers are other
pub leaves_closed : (flash : Flash) (t u : Table) → u.entry ≡ t.entry → u.geometry ≡ t.geometry → u.checkpoint ≡ t.checkpoint → u.open_block ≡ None → LeavesBlank flash t u
leaves_closed flash t u entry geometry checkpoint none = record {
  geometry = geometry;
  next = λ b. ap (λ (f : ℕ → BlockEntry). (f b).next) entry;
  seq = λ b. ap (λ (f : ℕ → BlockEntry). (f b).seq) entry;
  committed = λ b begins is. ap (λ (f : ℕ → BlockEntry). (f b).committed) entry ∙ is;
  marks = λ b is. ap (λ (f : ℕ → BlockEntry). (f b).bad) entry ∙ is;
  noted = λ c is. sym checkpoint ∙ is;
  opened = λ o is. let two : None ≡ Some o = sym none ∙ is in absurd cc;
}

-- what is noted of a mark may be noted before
noted_before : (v c : ℕ) (x : Option ℕ) (bad : Bool) → (if bad then other_than v x else x) ≡ Some c → x ≡ Some c
noted_before v c x true is = (other_is_other v c x is).0
noted_before v c x false is = is

pub leaves_marked : (v : ℕ) (d e : Device) (t u : Table) (result : Result (Unit {0}) Gone) → ((t.entry v).bad ≡ true → e.flash.bad v ≡ true) → Marks v d e result → NotesMark v e.flash t u → LeavesBlank e.flash t u
leaves_marked v d e t u result still marks notes = record {
  geometry = notes.sets.geometry;
  next = λ b. elim (cases_eq b v) [
    | inl is ↦ ap (λ k. (u.entry k).next) is ∙ ap (λ (x : BlockEntry). x.next) notes.sets.here ∙ ap (λ k. (t.entry k).next) (sym is)
    | inr ne ↦ ap (λ (x : BlockEntry). x.next) (notes.sets.others b ne)
  ];
  seq = λ b. elim (cases_eq b v) [
    | inl is ↦ ap (λ k. (u.entry k).seq) is ∙ ap (λ (x : BlockEntry). x.seq) notes.sets.here ∙ ap (λ k. (t.entry k).seq) (sym is)
    | inr ne ↦ ap (λ (x : BlockEntry). x.seq) (notes.sets.others b ne)
  ];
  committed = λ b begins none. elim (cases_eq b v) [
    | inl is ↦ ap (λ k. (u.entry k).committed) is ∙ ap (λ (x : BlockEntry). x.committed) notes.sets.here ∙ ap (λ k. (t.entry k).committed) (sym is) ∙ none
    | inr ne ↦ ap (λ (x : BlockEntry). x.committed) (notes.sets.others b ne) ∙ none
  ];
  marks = λ b bad. elim (cases_eq b v) [
    | inl is ↦ ap (λ k. (u.entry k).bad) is ∙ ap (λ (x : BlockEntry). x.bad) notes.sets.here ∙ still (ap (λ k. (t.entry k).bad) (sym is) ∙ bad)
    | inr ne ↦ ap (λ (x : BlockEntry). x.bad) (notes.sets.others b ne) ∙ bad
  ];
  noted = λ c is. noted_before v c t.checkpoint (e.flash.bad v) (sym notes.checkpoint ∙ is);
  opened = λ o is. sym notes.open_block ∙ is;
}

-- pages of the open block are taken, and its page 0 is written
pub knows_taken : (flash : Flash) (t u : Table) (o count : ℕ) → t.open_block ≡ Some o → 1 ≤ (t.entry o).seq → 1 ≤ count → flash.page o 0 ≢ Erased → TakesPages count t u
    → KnowsErased flash t → KnowsErased flash u
knows_taken flash t u o count opened seq some begun takes knows = record {
  unwritten = λ b within begins.
      let ne : b ≢ o = λ is. begun (ap (λ n. flash.page n 0) (sym is) ∙ begins.1) in
      let was = knows.unwritten b (subst (λ (g : Geometry). b < g.blocks) takes.geometry within) begins in
      record { next = ap (λ (x : BlockEntry). x.next) (same b ne) ∙ was.next; committed = ap (λ (x : BlockEntry). x.committed) (same b ne) ∙ was.committed };
  torn = λ b l x begins has.
      let was = knows.torn b l x begins has in
      record { within = subst (λ (g : Geometry). b < g.blocks) (sym takes.geometry) was.within; lowest = λ j blank. was.lowest j (blank_was j blank) };
  aged = λ b more. elim (cases_eq b o) [
    | inl is ↦
        let here : (u.entry b).seq ≡ (t.entry o).seq = ap (λ n. (u.entry n).seq) is ∙ ap (λ (x : BlockEntry). x.seq) (takes.here o opened) in
        omega (arith, here, seq)
    | inr ne ↦
        let next : (u.entry b).next ≡ (t.entry b).next = ap (λ (x : BlockEntry). x.next) (same b ne) in
        let age : (u.entry b).seq ≡ (t.entry b).seq = ap (λ (x : BlockEntry). x.seq) (same b ne) in
        let was = knows.aged b (omega (arith, next, more)) in
        omega (arith, age, was)
  ];
} where
  same : (b : ℕ) → b ≢ o → u.entry b ≡ t.entry b
  same b ne = takes.others b (λ at. let both : Some o ≡ Some b = sym opened ∙ at in let is : o ≡ b = cc in ne (sym is))

  more_there : (u.entry o).next ≡ (t.entry o).next + count
  more_there = ap (λ (x : BlockEntry). x.next) (takes.here o opened)

  blank_was : (j : ℕ) → IsBlank u j → IsBlank t j
  blank_was j blank =
      let ne : j ≢ o = λ is. let there : (u.entry o).next ≡ 0 = ap (λ n. (u.entry n).next) (sym is) ∙ blank.next in absurd (omega (arith, there, more_there, some)) in
      record {
        within = subst (λ (g : Geometry). j < g.blocks) takes.geometry blank.within;
        good = ap (λ (x : BlockEntry). x.bad) (sym (same j ne)) ∙ blank.good;
        next = ap (λ (x : BlockEntry). x.next) (sym (same j ne)) ∙ blank.next;
      }

pub leads_taken : (flash : Flash) (t u : Table) (o count : ℕ) → t.open_block ≡ Some o → 1 ≤ count → TakesPages count t u → LeadsErased flash t → LeadsErased flash u
leads_taken flash t u o count opened some takes leads = record {
  noted = λ c is. leads.noted c (sym takes.checkpoint ∙ is);
  opened = λ k is none.
      let both : Some o ≡ Some k = sym opened ∙ sym takes.open_block ∙ is in
      let at : o ≡ k = cc in
      let there : (u.entry o).next ≡ 0 = ap (λ n. (u.entry n).next) at ∙ none in
      let more : (u.entry o).next ≡ (t.entry o).next + count = ap (λ (x : BlockEntry). x.next) (takes.here o opened) in
      absurd (omega (arith, there, more, some));
}

-- one in which no block is open, and none may have a checkpoint but one that goes first
pub leads_one : (flash : Flash) (t : Table) (b : ℕ) → t.open_block ≡ None → ((c : ℕ) → t.checkpoint ≡ Some c → c ≡ b) → GoesFirst flash b → LeadsErased flash t
leads_one flash t b closed one goes = record {
  noted = λ c is. subst (GoesFirst flash) (sym (one c is)) goes;
  opened = λ o is next. let two : None ≡ Some o = sym closed ∙ is in absurd cc;
}

-- ---- calls

pub erased_here : (d : Device) (t : Table) → KeepsErased d d t t
erased_here d t honest was = was

-- the table alone changes
pub erased_as : (d : Device) (t u : Table) → LeavesBlank d.flash t u → KeepsErased d d t u
erased_as d t u leaves honest was = record { first = was.first; leads = leads_as d.flash t u leaves was.leads; known = λ power. knows_as d.flash t u leaves (was.known power) }

pub erased_on : (a b c : Device) (t u v : Table) → b.honest ≡ a.honest → KeepsErased a b t u → KeepsErased b c u v → KeepsErased a c t v
erased_on a b c t u v same first later honest was = later (same ∙ honest) (first honest was)

-- no block begins erased that did not
pub erased_none : (d e : Device) (t u : Table) → Lasts d e → (d.honest ≡ true → ErasesNone d.flash e.flash)
    → (d.honest ≡ true → LeadsErased e.flash t → LeadsErased e.flash u)
    → (d.honest ≡ true → e.gone ≡ false → KnowsErased d.flash t → KnowsErased e.flash t → KnowsErased e.flash u) → KeepsErased d e t u
erased_none d e t u lasts none leads after honest was = record {
  first = only_on d.flash e.flash (none honest) was.first;
  leads = leads honest (leads_on d.flash e.flash t (none honest) was.leads);
  known = λ power. let knows = was.known (had_power d e lasts power) in after honest power knows (knows_on d.flash e.flash t (none honest) knows);
}

-- it is enough to say what a device with power keeps
pub erased_with_power : (d e : Device) (t u : Table) → Lasts d e → (d.gone ≡ true → LeadsErased d.flash t → LeadsErased d.flash u)
    → (d.honest ≡ true → KnowsErased d.flash t → LeadsErased d.flash t → OnlyFirstHasTags e.flash × LeadsErased e.flash u × (e.gone ≡ false → KnowsErased e.flash u)) → KeepsErased d e t u
erased_with_power d e t u lasts leads step honest was = elim (cases_Bool d.gone) [
  | inl gone ↦ record {
    first = subst (λ (x : Device). OnlyFirstHasTags x.flash) (sym (lasts.gone gone)) was.first;
    leads = subst (λ (x : Device). LeadsErased x.flash u) (sym (lasts.gone gone)) (leads gone was.leads);
    known = λ power. let two : true ≡ false = sym gone ∙ had_power d e lasts power in absurd cc;
  }
  | inr power ↦ let after = step honest (was.known power) was.leads in record { first = after.0; leads = after.1; known = after.2 }
]

-- a mark of any block
pub erased_marked : (v : ℕ) (d e : Device) (t u : Table) (result : Result (Unit {0}) Gone) → ((t.entry v).bad ≡ true → e.flash.bad v ≡ true) → Marks v d e result → NotesMark v e.flash t u → KeepsErased d e t u
erased_marked v d e t u result still marks notes =
    erased_none d e t u marks.lasts (λ honest. none_marked v d e result honest marks) (λ honest. leads_as e.flash t u (leaves_marked v d e t u result still marks notes))
    (λ honest power was. knows_as e.flash t u (leaves_marked v d e t u result still marks notes))

-- ---- a block that goes first is taken

-- where it is erased, however that ends, it goes first still
pub goes_faded : (b : ℕ) (old new : Flash) → Fades b old new → GoesFirst old b → GoesFirst new b
goes_faded b old new fades goes k ne begins =
    let first = goes k ne (sym (fades.other_marks k ne) ∙ begins.0, sym (fades.other_pages k 0 ne) ∙ begins.1) in
    (first.0, λ l u has. first.1 l u (has_before b old new (loses_fading b old new fades) k l u has))

pub goes_erased : (b : ℕ) (d e : Device) (result : Result (Unit {0}) EraseFault) → d.honest ≡ true → Erases b d e result → GoesFirst d.flash b → GoesFirst e.flash b
goes_erased b d e result honest does = goes_faded b d.flash e.flash (fades_erase b d.flash e.flash (shrinks-erase b d e result honest does))

-- a cut of its erase
pub erased_cut : (b : ℕ) (d e : Device) (t u : Table) (result : Result (Unit {0}) EraseFault) → (d.honest ≡ true → KnowsErased d.flash t → LeadsErased d.flash t → GoesFirst d.flash b)
    → ((c : ℕ) → t.checkpoint ≡ Some c → c ≡ b) → t.open_block ≡ None → u ≡ t → Erases b d e result → e.gone ≡ true → KeepsErased d e t u
erased_cut b d e t u result goes noted closed same does gone = erased_with_power d e t u does.lasts (λ _. subst (LeadsErased d.flash) (sym same)) (λ honest knows leads.
    let first = goes_erased b d e result honest does (goes honest knows leads) in (
      only_goes e.flash b first,
      subst (LeadsErased e.flash) (sym same) (leads_one e.flash t b closed noted first),
      λ still. let two : true ≡ false = sym gone ∙ still in absurd cc,
    ))

-- of all but one block nothing is other, and that one has no tag or is bad
module _ (b : ℕ) (old new : Flash) (t u : Table) (goes : GoesFirst new b) (bads : (k : ℕ) → k ≢ b → new.bad k ≡ old.bad k) (pages : (k l : ℕ) → k ≢ b → new.page k l ≡ old.page k l)
    (others : (k : ℕ) → k ≢ b → u.entry k ≡ t.entry k) (geometry : u.geometry ≡ t.geometry) (knows : KnowsErased old t) where
  was_known : (k : ℕ) → k ≢ b → k < u.geometry.blocks → BeginsErased new k → IsUnwritten u k
  was_known k ne within begins =
      let was = knows.unwritten k (subst (λ (g : Geometry). k < g.blocks) geometry within) (sym (bads k ne) ∙ begins.0, sym (pages k 0 ne) ∙ begins.1) in
      record { next = ap (λ (x : BlockEntry). x.next) (others k ne) ∙ was.next; committed = ap (λ (x : BlockEntry). x.committed) (others k ne) ∙ was.committed }

  was_aged : (k : ℕ) → k ≢ b → 1 ≤ (u.entry k).next → 1 ≤ (u.entry k).seq
  was_aged k ne some =
      let next : (u.entry k).next ≡ (t.entry k).next = ap (λ (x : BlockEntry). x.next) (others k ne) in
      let seq : (u.entry k).seq ≡ (t.entry k).seq = ap (λ (x : BlockEntry). x.seq) (others k ne) in
      let was = knows.aged k (omega (arith, next, some)) in
      omega (arith, seq, was)

  -- it is open and erased
  pub knows_opened : (t.entry b).committed ≡ 0 → Opens b t u → ((l : ℕ) → new.page b l ≡ Erased) → KnowsErased new u
  knows_opened none opens blank = record {
    unwritten = λ k within begins. elim (cases_eq k b) [
      | inl is ↦ record {
        next = ap (λ n. (u.entry n).next) is ∙ ap (λ (x : BlockEntry). x.next) opens.sets.here;
        committed = ap (λ n. (u.entry n).committed) is ∙ ap (λ (x : BlockEntry). x.committed) opens.sets.here ∙ none;
      }
      | inr ne ↦ was_known k ne within begins
    ];
    torn = λ k l x begins has. elim (cases_eq k b) [
      | inl is ↦
          let two : Erased ≡ Written has.bytes (tag_bytes x) = sym (blank l) ∙ ap (λ n. new.page n l) (sym is) ∙ has.page in
          absurd cc
      | inr ne ↦ absurd ((goes k ne begins).1 l x has)
    ];
    aged = λ k some. elim (cases_eq k b) [
      | inl is ↦
          let zero_there : (u.entry k).next ≡ 0 = ap (λ n. (u.entry n).next) is ∙ ap (λ (x : BlockEntry). x.next) opens.sets.here in
          absurd (omega (arith, zero_there, some))
      | inr ne ↦ was_aged k ne some
    ];
  }

  pub leads_opened : Opens b t u → LeadsErased new u
  leads_opened opens = record {
    noted = λ c at. let two : None ≡ Some c = sym opens.checkpoint ∙ at in absurd cc;
    opened = λ o at next.
        let both : Some b ≡ Some o = sym opens.open_block ∙ at in
        let same : b ≡ o = cc in
        subst (GoesFirst new) same goes;
  }

  -- it is marked
  pub knows_marked : new.bad b ≡ true → ((u.entry b).next ≡ (t.entry b).next) → ((u.entry b).seq ≡ (t.entry b).seq) → KnowsErased new u
  knows_marked bad next seq = record {
    unwritten = λ k within begins. elim (cases_eq k b) [
      | inl is ↦ let two : true ≡ false = sym bad ∙ ap new.bad (sym is) ∙ begins.0 in absurd cc
      | inr ne ↦ was_known k ne within begins
    ];
    torn = λ k l x begins has. elim (cases_eq k b) [
      | inl is ↦ let two : true ≡ false = sym bad ∙ ap new.bad (sym is) ∙ begins.0 in absurd cc
      | inr ne ↦ absurd ((goes k ne begins).1 l x has)
    ];
    aged = λ k some. elim (cases_eq k b) [
      | inl is ↦
          let here : (u.entry k).next ≡ (t.entry b).next = ap (λ n. (u.entry n).next) is ∙ next in
          let age : (u.entry k).seq ≡ (t.entry b).seq = ap (λ n. (u.entry n).seq) is ∙ seq in
          let was = knows.aged b (omega (arith, here, some)) in
          omega (arith, age, was)
      | inr ne ↦ was_aged k ne some
    ];
  }

-- its erase is done, and it is opened
pub erased_opened : (b : ℕ) (d e : Device) (t u : Table) (done : Unit {0}) → (d.honest ≡ true → KnowsErased d.flash t → LeadsErased d.flash t → GoesFirst d.flash b) → (t.entry b).committed ≡ 0
    → Erases b d e (Ok done) → Opens b t u → KeepsErased d e t u
erased_opened b d e t u done goes none does opens = erased_with_power d e t u does.lasts (λ gone. let two : true ≡ false = sym gone ∙ does.ends.was in absurd cc) (λ honest knows leads.
    let first = goes_erased b d e (Ok done) honest does (goes honest knows leads) in (
      only_goes e.flash b first,
      leads_opened b d.flash e.flash t u first (λ k ne. ap (λ f. f k) does.bad) (does.other_blocks honest) opens.sets.others opens.sets.geometry knows opens,
      λ still. knows_opened b d.flash e.flash t u first (λ k ne. ap (λ f. f k) does.bad) (does.other_blocks honest) opens.sets.others opens.sets.geometry knows none opens (does.pages honest),
    ))

-- its erase failed, and it is marked
pub erased_failed : (b : ℕ) (d m e : Device) (t u : Table) (erase : Result (Unit {0}) EraseFault) (result : Result (Unit {0}) Gone)
    → (d.honest ≡ true → KnowsErased d.flash t → LeadsErased d.flash t → GoesFirst d.flash b)
    → ((c : ℕ) → t.checkpoint ≡ Some c → c ≡ b) → t.open_block ≡ None → Erases b d m erase → Marks b m e result → NotesMark b e.flash t u → KeepsErased d e t u
erased_failed b d m e t u erase result goes noted closed does marks notes = erased_with_power d e t u (lasts_on d m e does.lasts marks.lasts) lost go where
  same : (c : ℕ) → u.checkpoint ≡ Some c → t.checkpoint ≡ Some c
  same c is = noted_before b c t.checkpoint (e.flash.bad b) (sym notes.checkpoint ∙ is)

  still_closed : u.open_block ≡ None
  still_closed = notes.open_block ∙ closed

  lost : d.gone ≡ true → LeadsErased d.flash t → LeadsErased d.flash u
  lost gone leads = record {
    noted = λ c is. leads.noted c (same c is);
    opened = λ o is. let two : None ≡ Some o = sym still_closed ∙ is in absurd cc;
  }

  go : d.honest ≡ true → KnowsErased d.flash t → LeadsErased d.flash t → OnlyFirstHasTags e.flash × LeadsErased e.flash u × (e.gone ≡ false → KnowsErased e.flash u)
  go honest knows leads = (only_goes e.flash b first, leads_one e.flash u b still_closed (λ c is. noted c (same c is)) first, after result marks.ends marks.bad) where
    known : m.honest ≡ true
    known = does.lasts.honest ∙ honest

    first : GoesFirst e.flash b
    first = goes_faded b m.flash e.flash (fades_mark b m e result known marks) (goes_erased b d m erase honest does (goes honest knows leads))

    after : (r : Result (Unit {0}) Gone) → MarkEnds m e r → MarkLeaves r (m.flash.bad b) (e.flash.bad b) → e.gone ≡ false → KnowsErased e.flash u
    after (Err gone) ends leaves still = let two : true ≡ false = sym ends.is ∙ still in absurd cc
    after (Ok done) ends bad still = knows_marked b d.flash e.flash t u first
        (λ k ne. marks.other_bads k ne ∙ ap (λ f. f k) does.bad)
        (λ k l ne. ap (λ f. f k l) (marks.page known) ∙ does.other_blocks honest k l ne)
        notes.sets.others notes.sets.geometry knows bad (ap (λ (x : BlockEntry). x.next) notes.sets.here) (ap (λ (x : BlockEntry). x.seq) notes.sets.here)

-- ---- a group is written in the open block

module _ (d e : Device) (t : Table) (o count : ℕ) (name : ℕ → PageName) (bytes : ℕ → List ℕ) (can_write : IsReady d t) (opened : t.open_block ≡ Some o) (lasts : Lasts d e)
    (writes : d.honest ≡ true → WritesOpen t d.flash e.flash) where
  none : d.honest ≡ true → ErasesNone d.flash e.flash
  none honest = none_written o t.next_group (t.entry o).seq d.flash e.flash ((writes honest).within o opened)

  -- as long as the table stays, or another is reported of the pages
  pub erased_pages : (u : Table) → KeepsErased d e u u
  erased_pages u = erased_none d e u u lasts none (λ honest leads. leads) (λ honest power was knows. knows)

  -- where a group is added the first page of the block is written
  pub begun : d.honest ≡ true → AddsPages (next_group t count o) name bytes d.flash e.flash → (1 ≤ count) × (e.flash.page o 0 ≢ Erased)
  begun honest adds =
      let some : 1 ≤ count = ((adds.group (next_group t count o)).1 (inr refl)).some in
      let page = adds.pages 0 (omega (arith, some)) in
      (some, ((writes honest).within o opened).begun ((t.entry o).next + 0) (tag_in (next_group t count o) name 0) (record { bytes = bytes 0; page = page.0; valid = page.1 }))

  knows_closed : (u : Table) → u ≡ closed t → KnowsErased e.flash t → KnowsErased e.flash u
  knows_closed u is = knows_as e.flash t u (leaves_closed e.flash t u (ap (λ (x : Table). x.entry) is) (ap (λ (x : Table). x.geometry) is) (ap (λ (x : Table). x.checkpoint) is) (ap (λ (x : Table). x.open_block) is))

  knows_ok : (u : Table) → d.honest ≡ true → AddsPages (next_group t count o) name bytes d.flash e.flash → (suspect : Bool) → OkTable suspect count t u → KnowsErased e.flash t → KnowsErased e.flash u
  knows_ok u honest adds true is = knows_closed u is
  knows_ok u honest adds false takes =
      let at = begun honest adds in
      knows_taken e.flash t u o count opened (can_write.open_block o opened).seq.0 at.0 at.1 takes

  knows_ends : (u : Table) (result : Result Placed GroupFault) → d.honest ≡ true → GroupsAfter (next_group t count o) name bytes d.flash e.flash result → TableEnds count t u result
      → KnowsErased e.flash t → KnowsErased e.flash u
  knows_ends u (Ok placed) honest adds table = knows_ok u honest adds placed.suspect table
  knows_ends u (Err groups.NoRoom) honest same table = subst (KnowsErased e.flash) (sym table)
  knows_ends u (Err groups.Failed) honest same table = knows_closed u table
  knows_ends u (Err groups.Lost) honest same table = knows_closed u table
  knows_ends u (Err groups.Gone) honest same table = knows_closed u table

  leads_closed : (u : Table) → u ≡ closed t → LeadsErased e.flash t → LeadsErased e.flash u
  leads_closed u is = leads_as e.flash t u (leaves_closed e.flash t u (ap (λ (x : Table). x.entry) is) (ap (λ (x : Table). x.geometry) is) (ap (λ (x : Table). x.checkpoint) is) (ap (λ (x : Table). x.open_block) is))

  leads_ends : (u : Table) (result : Result Placed GroupFault) → d.honest ≡ true → GroupsAfter (next_group t count o) name bytes d.flash e.flash result → TableEnds count t u result
      → LeadsErased e.flash t → LeadsErased e.flash u
  leads_ends u (Ok placed) honest adds table = go placed.suspect table where
    go : (suspect : Bool) → OkTable suspect count t u → LeadsErased e.flash t → LeadsErased e.flash u
    go true is = leads_closed u is
    go false takes = leads_taken e.flash t u o count opened (begun honest adds).0 takes
  leads_ends u (Err groups.NoRoom) honest same table = subst (LeadsErased e.flash) (sym table)
  leads_ends u (Err groups.Failed) honest same table = leads_closed u table
  leads_ends u (Err groups.Lost) honest same table = leads_closed u table
  leads_ends u (Err groups.Gone) honest same table = leads_closed u table

  -- however it ends
  pub erased_written : (u : Table) (result : Result Placed GroupFault) → (d.honest ≡ true → GroupsAfter (next_group t count o) name bytes d.flash e.flash result) → TableEnds count t u result
      → KeepsErased d e t u
  erased_written u result after table = erased_none d e t u lasts none (λ honest. leads_ends u result honest (after honest) table) (λ honest power was. knows_ends u result honest (after honest) table)

  -- and once its block is noted, where no page was written in it before
  pub erased_noted : (u v : Table) (result : Result Placed GroupFault) → (d.honest ≡ true → GroupsAfter (next_group t count o) name bytes d.flash e.flash result) → TableEnds count t u result
      → (d.honest ≡ true → (t.entry o).next ≡ 0) → v ≡ record u { open_block = None; checkpoint = Some o } → KeepsErased d e t v
  erased_noted u v result after table first is = erased_none d e t v lasts none leads
      (λ honest power was knows. subst (KnowsErased e.flash) (sym is) (noted (knows_ends u result honest (after honest) table knows))) where
        leads : d.honest ≡ true → LeadsErased e.flash t → LeadsErased e.flash v
        leads honest was = leads_one e.flash v o (ap (λ (x : Table). x.open_block) is)
            (λ c at. let both : Some o ≡ Some c = ap (λ (x : Table). x.checkpoint) (sym is) ∙ at in let same : o ≡ c = cc in sym same)
            (was.opened o opened (first honest))

        noted : KnowsErased e.flash u → KnowsErased e.flash (record u { open_block = None; checkpoint = Some o })
        noted ends = record {
          unwritten = λ b within begins. let was = ends.unwritten b within begins in record { next = was.next; committed = was.committed };
          torn = λ b l x begins has.
              let was = ends.torn b l x begins has in
              record { within = was.within; lowest = λ j blank. was.lowest j (record { within = blank.within; good = blank.good; next = blank.next }) };
          aged = ends.aged;
        }
