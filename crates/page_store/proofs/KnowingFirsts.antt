-- What a table of an honest device knows once the first pages of its blocks were noted.
use Rattle.std.specs.Prelude.{◌≡◌, ◌≢◌, ◌<◌, ◌≤◌, ◌⊎◌, ℕ, ◌+◌, true, false, List, Some, None, slice_get}
use Rattle.std.proofs.Common.{refl, sym, ◌∙◌, ap, subst, inl, inr, arith}
use Rattle.std.proofs.lemmas.Bool.{cases_lt, false≢true}
use Rattle.volume_terms.specs.laws.List.{slice_get_there}
use Rattle.nand_model.specs.Flash.{Flash, Page, Erased, Written, Uncorrectable}
use Rattle.nand_model.specs.Calls.{Device}
use Rattle.nand_model.specs.declared.geometry.Geometry.{Geometry}
use Rattle.page_tags.specs.declared.tag.Tag.{Tag}
use Rattle.flash_tree.specs.Checkpoints.{Checkpoint}
use Rattle.flash_tree.specs.ErasedBlocks.{BeginsErased}
use Rattle.flash_tree.specs.Groups.{HasTag}
use Rattle.flash_tree.specs.Newest.{AreAbove}
use Rattle.flash_tree.specs.Numbering.{AreBelow}
use Rattle.flash_tree.specs.laws.Newest.{one_tag}
use Rattle.flash_tree.specs.laws.Place.{no_tag, tag_placed}
use Rattle.block_state.specs.declared.blocks.BlockEntry.{BlockEntry}
use Rattle.block_state.specs.Table.{Table}
use Rattle.chunk_index.specs.Counts.{Recounts}
use Rattle.mount_scan.specs.FirstPages.{IsFirstPage, AreNoted, first_tag}
use Rattle.mount_scan.specs.FoundCheckpoint.{HasForm}
use Rattle.mount_scan.specs.declared.first_page.FirstPage.{FirstPage}
use Rattle.mount_scan.specs.declared.first_page.FirstPage.TheVariants as firsts
use Rattle.transactions.specs.laws.Ready.{above_below}
use Rattle.flash_log.specs.Erased.{KnowsErased, TracksErased}
use Rattle.page_store.specs.Checked.{numbers_at}
use Rattle.page_store.specs.KnownFirsts.{KnowsFirsts, MayKnowErased, IsUnwrittenOf, AreUnwritten, NotesFirsts, number_of_first}
use Rattle.page_store.specs.Opened.{AreLeft, IsTableOf, OnlySeqs}
use Rattle.page_store.specs.laws.KnownFirsts.{known_counted}
use Rattle.page_store.proofs.Noting.{number_or_none, one_first}

-- ---- one block

module _ (flash : Flash) (b : ℕ) where
  -- a block that begins erased gets no number
  erased_number : (first : FirstPage) → BeginsErased flash b → IsFirstPage flash b first → number_of_first first ≡ None
  erased_number firsts.Bad begins is = refl
  erased_number firsts.Erased begins is = refl
  erased_number firsts.Untagged begins is = absurd (is.1 begins.1)
  erased_number (firsts.Tagged seq) begins is = absurd (no_tag flash b 0 is.0 begins.1 is.1.1)
  erased_number (firsts.Summary count number seq) begins is = absurd (no_tag flash b 0 (first_tag count number seq) begins.1 is.1)

  -- one that does not gets one that was handed out
  written_number : (first : FirstPage) (group next : ℕ) → flash.bad b ≡ false → flash.page b 0 ≢ Erased → AreBelow flash group next → 1 < next → IsFirstPage flash b first
      → (seq : ℕ) × (number_of_first first ≡ Some seq) × (1 ≤ seq) × (seq < next)
  written_number firsts.Bad group next good not below some is = absurd (false≢true (sym good ∙ is))
  written_number firsts.Erased group next good not below some is = absurd (not is.1)
  written_number firsts.Untagged group next good not below some is = (1, refl, omega arith, some)
  written_number (firsts.Tagged seq) group next good not below some is =
      let same : is.0.seq ≡ seq = is.2 in
      let valid = is.1.1.valid.seq in
      let lt = (below b 0 is.0 good is.1.1).2 in
      (seq, refl, omega (arith, same, valid), omega (arith, same, lt))
  written_number (firsts.Summary count number seq) group next good not below some is =
      let valid = is.1.valid.seq in
      let lt = (below b 0 (first_tag count number seq) good is.1).2 in
      (seq, refl, omega (arith, valid), omega (arith, lt))

  -- that of its tag, where it has one
  tagged_number : (first : FirstPage) (u : Tag) → flash.bad b ≡ false → HasTag flash b 0 u → IsFirstPage flash b first → number_of_first first ≡ Some u.seq
  tagged_number firsts.Bad u good has is = absurd (false≢true (sym good ∙ is))
  tagged_number firsts.Erased u good has is = absurd (no_tag flash b 0 u is.1 has)
  tagged_number firsts.Untagged u good has is = absurd (is.2 u has)
  tagged_number (firsts.Tagged seq) u good has is = ap Some (sym is.2 ∙ ap (λ (t : Tag). t.seq) (one_tag flash b 0 is.0 u is.1.1 has))
  tagged_number (firsts.Summary count number seq) u good has is = ap (λ (t : Tag). Some t.seq) (one_tag flash b 0 (first_tag count number seq) u is.1 has)

  -- and no number is 0
  some_number : (first : FirstPage) (seq : ℕ) → number_of_first first ≡ Some seq → IsFirstPage flash b first → 1 ≤ seq
  some_number firsts.Bad seq number is = absurd cc
  some_number firsts.Erased seq number is = absurd cc
  some_number firsts.Untagged seq number is = let same : 1 ≡ seq = cc in omega (arith, same)
  some_number (firsts.Tagged k) seq number is =
      let same : k ≡ seq = cc in
      let of : is.0.seq ≡ k = is.2 in
      let valid = is.1.1.valid.seq in
      omega (arith, same, of, valid)
  some_number (firsts.Summary count n k) seq number is =
      let same : k ≡ seq = cc in
      let valid = is.1.valid.seq in
      omega (arith, same, valid)

-- ---- all blocks

module _ (d : Device) (pages : List FirstPage) (t t' : Table) (read : AreNoted d d.geometry.blocks pages) (is : IsUnwrittenOf d t) (only : OnlySeqs t t') (notes : NotesFirsts pages t.geometry.blocks t t') where
  page_at : (b : ℕ) → b < t.geometry.blocks → (first : FirstPage) × (slice_get pages b ≡ Some first) × IsFirstPage d.flash b first
  page_at b lt =
      let at = slice_get_there pages b (omega (arith, lt, ap (λ (g : Geometry). g.blocks) is.geometry, read.len)) in
      (at.0, at.1, read.noted is.honest b at.0 at.1)

  -- a block without a number stays as it was
  stays : (b : ℕ) (first : FirstPage) → slice_get pages b ≡ Some first → number_of_first first ≡ None → t'.entry b ≡ t.entry b
  stays b first at none = notes.others b (λ seq is.
      let two : None ≡ Some seq = sym none ∙ ap number_of_first (one_first pages b first is.first at is.there) ∙ is.number in
      absurd cc)

  unwritten : (b : ℕ) → t'.entry b ≡ t.entry b → ((t'.entry b).next ≡ 0) × ((t'.entry b).seq ≡ 0)
  unwritten b same = (ap (λ (e : BlockEntry). e.next) same ∙ (is.unwritten b).0, ap (λ (e : BlockEntry). e.seq) same ∙ (is.unwritten b).1)

  within : (b : ℕ) → b < t'.geometry.blocks → b < t.geometry.blocks
  within b lt = subst (λ (g : Geometry). b < g.blocks) only.geometry lt

  aged_at : (b : ℕ) → 1 ≤ (t'.entry b).next → b < t.geometry.blocks → 1 ≤ (t'.entry b).seq
  aged_at b le lt =
      let at = page_at b lt in
      elim (number_or_none (number_of_first at.0)) [
        | inl none ↦ let next = (unwritten b (stays b at.0 at.1 none)).0 in absurd (omega (arith, le, next))
        | inr (k, number) ↦ elim (cases_lt k t.next_seq) [
          | inl below ↦
              let seq = (notes.numbered b k (record { within = lt; first = at.0; there = at.1; number = number; below = below })).0 in
              let some = some_number d.flash b at.0 k number at.2 in
              omega (arith, seq, some)
          | inr above ↦
              let same = notes.others b (λ seq is.
              let two : Some k ≡ Some seq = sym number ∙ ap number_of_first (one_first pages b at.0 is.first at.1 is.there) ∙ is.number in
              let one : k ≡ seq = cc in
              let below = is.below in
              absurd (omega (arith, one, below, above))) in
              let next = (unwritten b same).0 in
              absurd (omega (arith, le, next))
        ]
      ]

  pub knows_firsts : KnowsFirsts d.flash t'
  knows_firsts = record {
    erased = λ b lt begins.
        let at = page_at b (within b lt) in
        unwritten b (stays b at.0 at.1 (erased_number d.flash b at.0 begins at.2));
    written = λ b lt good not.
        let at = page_at b (within b lt) in
        let (seq, number, some, below) = written_number d.flash b at.0 t.next_group t.next_seq good not is.handed is.some at.2 in
        let noted = notes.numbered b seq (record { within = within b lt; first = at.0; there = at.1; number = number; below = below }) in
        let pages_there = t.geometry.least_pages in
        let next_is = noted.1 in
        let seq_is = noted.0 in
        (omega (arith, next_is, pages_there), omega (arith, seq_is, some));
    tagged = λ b u lt good has.
        let at = page_at b (within b lt) in
        (notes.numbered b u.seq (record { within = within b lt; first = at.0; there = at.1; number = tagged_number d.flash b at.0 u good has at.2; below = (is.handed b 0 u good has).2 })).0;
    aged = λ b le. elim (cases_lt b t.geometry.blocks) [
      | inl lt ↦ aged_at b le lt
      | inr ge ↦
          let next = (unwritten b (notes.others b (λ seq is. let lt = is.within in absurd (omega (arith, lt, ge))))).0 in
          absurd (omega (arith, le, next))
    ];
  }

-- ---- the table of a checkpoint

module _ (d : Device) (c : Checkpoint) (t0 t1 t2 t3 : Table) (form : HasForm d c) (is : IsTableOf d (numbers_at c) t0) (unwritten : AreUnwritten t0) (knows : IsUnwrittenOf d t0 → KnowsFirsts d.flash t1)
    (after : ℕ → ℕ) (recounts : Recounts (λ b. 0) after t1 t2) (last : t3 ≡ record t2 { checkpoint = Some c.block }) where
  unwritten_of : d.honest ≡ true → AreAbove d.flash (numbers_at c) → AreLeft (numbers_at c) → IsUnwrittenOf d t0
  unwritten_of honest above left = record {
    honest = honest;
    geometry = is.geometry;
    unwritten = unwritten;
    handed = subst (λ k. AreBelow d.flash k t0.next_seq) (sym (is.group left)) (subst (λ k. AreBelow d.flash (c.number + 1) k) (sym (is.seq left)) (above_below d.flash (numbers_at c) above));
    some = let some = form.tag.seq in let next = is.seq left in omega (arith, some, next);
  }

  pub committed_firsts : d.honest ≡ true → AreAbove d.flash (numbers_at c) → AreLeft (numbers_at c) → KnowsFirsts d.flash t3
  committed_firsts honest above left =
      let totaled = known_counted d.flash (λ b. 0) after t1 t2 recounts (knows (unwritten_of honest above left)) in
      subst (KnowsFirsts d.flash) (sym last) (record { erased = totaled.erased; written = totaled.written; tagged = totaled.tagged; aged = totaled.aged })

-- ---- the blocks that begin erased

erased_or : (p : Page) → (p ≡ Erased) ⊎ (p ≢ Erased)
erased_or Erased = inl refl
erased_or (Written bytes tag) = inr (λ same. absurd cc)
erased_or Uncorrectable = inr (λ same. absurd cc)

knows_erased : (d : Device) (t : Table) → KnowsFirsts d.flash t → MayKnowErased d t → KnowsErased d.flash t
knows_erased d t known may = record {
  unwritten = λ b lt begins. record { next = (known.erased b lt begins).0; committed = may.committed b begins };
  torn = λ b l u begins has. record {
    within =
        let lt = (tag_placed d.geometry.pages d.geometry.blocks d.flash b l u may.within has).0 in
        omega (arith, lt, ap (λ (g : Geometry). g.blocks) may.geometry);
    lowest = λ j blank. elim (cases_lt j b) [
      | inr le ↦ le
      | inl lt ↦
          let good : d.flash.bad j ≡ false = sym (may.marks j) ∙ blank.good in
          elim (erased_or (d.flash.page j 0)) [
            | inl erased ↦ absurd (may.first j b l u lt (good, erased) begins has)
            | inr not ↦
                let next = (known.written j blank.within good not).0 in
                let none = blank.next in
                absurd (omega (arith, next, none))
          ]
    ];
  };
  aged = known.aged;
}

-- and those go first that are next to be erased or written
pub tracks_erased : (d : Device) (t : Table) → KnowsFirsts d.flash t → MayKnowErased d t → TracksErased d t
tracks_erased d t known may = record {
  first = may.first;
  leads = record { noted = may.noted; opened = λ o at. let two : None ≡ Some o = sym may.closed ∙ at in absurd cc };
  known = λ power. knows_erased d t known may;
}
