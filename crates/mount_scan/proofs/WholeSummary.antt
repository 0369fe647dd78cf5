-- The summary that the pages of a block and their bytes make.
use Rattle.std.specs.Prelude.{◌≡◌, ◌<◌, ◌≤◌, ℕ, ◌+◌, ◌*◌, true, false, List, length}
use Rattle.std.proofs.Common.{refl, sym, ◌∙◌, ap, subst, inl, inr, arith}
use Rattle.std.proofs.lemmas.Bool.{cases_eq, cases_lt}
use Rattle.nand_model.specs.Flash.{Written, IsWithin}
use Rattle.nand_model.specs.Calls.{Device}
use Rattle.page_tags.specs.declared.tag.Tag.{Tag}
use Rattle.page_tags.specs.declared.check.CheckEntry.{CheckEntry}
use Rattle.page_tags.specs.declared.summary_head.SummaryHead.{SummaryHead}
use Rattle.page_tags.specs.Tags.{IsTag, tag_bytes}
use Rattle.page_tags.specs.Summaries.{summary_bytes}
use Rattle.flash_tree.specs.Groups.{HasTag}
use Rattle.flash_tree.specs.laws.Newest.{one_tag}
use Rattle.flash_tree.specs.laws.Place.{tag_placed}
use Rattle.flash_tree.specs.Summaries.{Summary, HasSummaryForm, IsWholeSummary, BeginsSummary, summary_tag, summary_page}
use Rattle.mount_scan.specs.SummaryContents.{Says, SaysNone}
use Rattle.mount_scan.specs.FoundSummary.{HasNoSummary}
use Rattle.mount_scan.specs.SummaryGroups.{page_tag, page_in, MayBegin, IsTagged, HasPages, LacksPage}
use Rattle.mount_scan.proofs.SummaryBytes.{has_room, length-summary}
use Rattle.mount_scan.proofs.SummaryRows.{same_pages}

-- each page of the summary has a valid tag
page_tag_valid : (t : Tag) (i : ℕ) → IsTag t → i < t.count → IsTag (page_tag t i)
page_tag_valid t i valid lt = record {
  count = valid.count;
  index = lt;
  object = omega arith;
  chunk = omega (arith, lt, valid.count);
  version = omega (arith, valid.version);
  group = valid.group;
  seq = valid.seq;
}

-- ---- what is found

module _ (d : Device) (block : ℕ) (first : Tag) (head : SummaryHead) (es : List CheckEntry) (bytes : List ℕ) (says : Says d.geometry first.count bytes head es) where
  -- the summary with this head and these entries
  abbrev pub made : Summary
  made = record { block = block; size = first.count; number = first.group; seq = first.seq; head = head; entries = es }

  pub form_made : HasSummaryForm d.geometry made
  form_made = record { size = says.size; head = says.valid; count = says.number; block = says.block; each = says.listed.each; rise = says.listed.rise }

  pub whole_made : d.flash.bad block ≡ false → IsTag first → length bytes ≡ first.count * d.geometry.bytes → HasPages d block first first.count bytes → d.honest ≡ true → IsWholeSummary d.geometry d.flash made
  whole_made good valid len tagged honest = record {
    good = good;
    form = form_made;
    pages = λ i lt. (
      let at : 0 + i ≡ i = omega arith in
          let all : bytes ≡ summary_bytes (first.count * d.geometry.bytes) head es = says.is ∙ ap (λ n. summary_bytes n head es) len in
          ap (d.flash.page block) at ∙ tagged i lt honest ∙ ap (λ xs. Written (page_in d.geometry.bytes xs i) (tag_bytes (page_tag first i))) all,
      page_tag_valid first i valid lt,
    );
  }

-- ---- a block whose page 0 has this tag, and a whole summary that lies in it

module _ (d : Device) (block : ℕ) (first : Tag) (has : HasTag d.flash block 0 first) (s : Summary) (whole : IsWholeSummary d.geometry d.flash s) (at : s.block ≡ block) where
  abbrev bytes_there : List ℕ
  bytes_there = summary_bytes (s.size * d.geometry.bytes) s.head s.entries

  room_there : 32 * (1 + length s.entries) ≤ s.size * d.geometry.bytes
  room_there = has_room (32 * (1 + length s.entries)) d.geometry.bytes s.size (s.size * d.geometry.bytes) (omega (arith, d.geometry.least_bytes)) whole.form.size refl

  some_pages : 0 < s.size
  some_pages = elim (cases_eq s.size 0) [
    | inl none ↦ let no_bytes : s.size * d.geometry.bytes ≡ 0 = ap (λ n. n * d.geometry.bytes) none ∙ omega arith in absurd (omega (arith, room_there, no_bytes))
    | inr some ↦ omega (arith, some)
  ]

  tag_there : (i : ℕ) → i < s.size → HasTag d.flash s.block (0 + i) (summary_tag s i)
  tag_there i lt = record { bytes = summary_page d.geometry.bytes s i; page = (whole.pages i lt).0; valid = (whole.pages i lt).1 }

  same_tags : summary_tag s 0 ≡ first
  same_tags = one_tag d.flash block 0 (summary_tag s 0) first (subst (λ b. HasTag d.flash b 0 (summary_tag s 0)) at (tag_there 0 some_pages)) has

  same_size : s.size ≡ first.count
  same_size = ap (λ (t : Tag). t.count) same_tags

  -- its first page has this tag
  pub may_there : IsWithin d.geometry.pages d.geometry.blocks d.flash → MayBegin d.geometry.pages first
  may_there within = record {
    begins = subst BeginsSummary same_tags (refl, refl, refl);
    version = sym (ap (λ (t : Tag). t.version) same_tags) ∙ ap (λ (t : Tag). t.group) same_tags;
    room = elim (cases_lt d.geometry.pages first.count) [
      | inr le ↦ le
      | inl less ↦
          let last = tag_there d.geometry.pages (omega (arith, less, same_size)) in
          let placed = (tag_placed d.geometry.pages d.geometry.blocks d.flash s.block (0 + d.geometry.pages) (summary_tag s d.geometry.pages) within last).1 in
          absurd (omega (arith, placed))
    ];
  }

  -- and each page the tag that it has by that
  page_there : (i : ℕ) → i < first.count → IsTagged d.flash block first i (page_in d.geometry.bytes bytes_there i)
  page_there i lt =
      let from_0 : i ≡ 0 + i = omega arith in
      ap (λ b. d.flash.page b i) (sym at) ∙ ap (d.flash.page s.block) from_0 ∙ (whole.pages i (omega (arith, lt, same_size))).0
      ∙ ap (λ t. Written (page_in d.geometry.bytes bytes_there i) (tag_bytes (page_tag t i))) same_tags

  pub lacks_none : d.honest ≡ true → LacksPage d block first → ⊥
  lacks_none honest lacks = let l = lacks honest in l.2 (page_in d.geometry.bytes bytes_there l.0) (page_there l.0 l.1)

  -- so the bytes that were read are its own
  pub says_there : (bytes : List ℕ) → length bytes ≡ first.count * d.geometry.bytes → HasPages d block first first.count bytes → d.honest ≡ true → Says d.geometry first.count bytes s.head s.entries
  says_there bytes len tagged honest = record {
    valid = whole.form.head;
    number = whole.form.count;
    block = whole.form.block;
    size = sym same_size ∙ whole.form.size;
    listed = record { each = whole.form.each; rise = whole.form.rise };
    is = same ∙ ap (λ n. summary_bytes n s.head s.entries) (ap (λ n. n * d.geometry.bytes) same_size ∙ sym len);
  } where
    page_same : (i : ℕ) → i < first.count → page_in d.geometry.bytes bytes i ≡ page_in d.geometry.bytes bytes_there i
    page_same i lt =
        let two : Written (page_in d.geometry.bytes bytes i) (tag_bytes (page_tag first i)) ≡ Written (page_in d.geometry.bytes bytes_there i) (tag_bytes (page_tag first i)) = sym (tagged i lt honest) ∙ page_there i lt in
        cc

    same : bytes ≡ bytes_there
    same = same_pages d.geometry.bytes first.count bytes bytes_there len (length-summary (s.size * d.geometry.bytes) s.head s.entries room_there ∙ ap (λ n. n * d.geometry.bytes) same_size) page_same

-- ---- what is not found

module _ (d : Device) (block : ℕ) (first : Tag) where
  -- a tag that begins no summary
  pub none_begins : IsWithin d.geometry.pages d.geometry.blocks d.flash → (MayBegin d.geometry.pages first → ⊥) → HasNoSummary d block first
  none_begins within not honest has s whole at = not (may_there d block first has s whole at within)

  -- pages one of which has another tag
  pub none_lacking : LacksPage d block first → HasNoSummary d block first
  none_lacking lacks honest has s whole at = lacks_none d block first has s whole at honest lacks

  -- bytes that are those of none
  pub none_said : (bytes : List ℕ) → length bytes ≡ first.count * d.geometry.bytes → HasPages d block first first.count bytes → SaysNone d.geometry first.count bytes → HasNoSummary d block first
  none_said bytes len tagged none honest has s whole at = none s.head s.entries (says_there d block first has s whole at bytes len tagged honest)
