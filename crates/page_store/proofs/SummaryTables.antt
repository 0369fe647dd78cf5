-- The tables of what was found by the summaries of blocks.
use Rattle.std.specs.Prelude.{◌≡◌, ◌<◌, ◌≤◌, ◌^◌, ℕ, ◌+◌, true, false, List, length, Some, None, All}
use Rattle.std.proofs.Common.{refl, sym, ◌∙◌, subst, arith}
use Rattle.std.proofs.lemmas.List.Elements.{All-contains}
use mathlib.Core.Logic.{∥∥₁_elim}
use denote.Struct.Props.{props}
use Rattle.nand_model.specs.Flash.{Flash}
use Rattle.nand_model.specs.Calls.{Device}
use Rattle.nand_model.specs.Changes.{OnlyReads}
use Rattle.nand_model.specs.Trusting.{trusted_as}
use Rattle.nand_model.specs.declared.geometry.Geometry.{Geometry}
use Rattle.nand_model.specs.laws.Trusted.{trusted_of}
use Rattle.flash_tree.specs.Mount.{sizes_of}
use Rattle.flash_tree.specs.MountableFlash.{IsMountableFlash}
use Rattle.flash_tree.specs.Newest.{Spot, IsNewest, HasNewest, Numbers, AreAbove, AreGreatest}
use Rattle.flash_tree.specs.Numbering.{AreBelow}
use Rattle.flash_tree.specs.Places.{numbers_of}
use Rattle.flash_tree.specs.Summaries.{IsSummarized, AreFindable}
use Rattle.flash_tree.specs.Tree.{InFootprint}
use Rattle.flash_tree.specs.laws.Place.{same_flash}
use Rattle.pages.specs.laws.Low.{looked_low}
use Rattle.mount_scan.specs.Copies.{HasValidName}
use Rattle.mount_scan.specs.FirstPages.{AreNoneAbove}
use Rattle.mount_scan.specs.Scanned.{AreCopiesPlaced, ListsNewest}
use Rattle.mount_scan.specs.Summarized.{HasSummarizedFlash, FindsEach, FindsNeeded, IsKey}
use Rattle.mount_scan.specs.declared.page_copy.PageCopy.{PageCopy}
use Rattle.block_state.specs.Table.{Table}
use Rattle.block_state.specs.TableOf.{table}
use Rattle.chunk_index.specs.Counts.{Recounts}
use Rattle.chunk_index.specs.Maps.{committed_pages, count_committed_in, CountsAgree}
use Rattle.chunk_index.specs.Newest.{Indexes}
use Rattle.chunk_index.specs.declared.index.Index.{Index}
use Rattle.transactions.specs.laws.Ready.{above_below}
use Rattle.page_store.specs.Checked.{IsConsistent, HasTrueFlash}
use Rattle.page_store.specs.FoundTables.{FindsItsTree, KnowsItsFirsts}
use Rattle.page_store.specs.KnownFirsts.{AreUnwritten, IsUnwrittenOf, KnowsFirsts}
use Rattle.page_store.specs.Opened.{HaveNames, AreLeft, IsTableOf, IsOpenedBy, OnlySeqs, committed_at}
use Rattle.page_store.specs.declared.opening.Opened.{Opened}
use Rattle.page_store.specs.laws.KnownFirsts.{known_counted}
use Rattle.page_store.proofs.Tables.{contains_at, listed_committed, opened}

-- ---- once the device was read

module _ (a b : Device) (reads : OnlyReads a b) where
  -- what is so of an honest device's flash is so still
  on_read : (P : Geometry → Flash → Type 0) → b.honest ≡ true → P a.geometry a.flash → P b.geometry b.flash
  on_read P honest is =
      subst (λ g. P g b.flash) (sym reads.lasts.geometry) (subst (λ f. P a.geometry f) (sym (same_flash a b reads (sym reads.lasts.honest ∙ honest))) is)

  -- and what is known of it is known still
  pub finds_read : (list : List PageCopy) → FindsNeeded a list → FindsNeeded b list
  finds_read list lookups = record {
    placed = subst (λ (g : Geometry). AreCopiesPlaced g.blocks g.pages list) (sym reads.lasts.geometry) lookups.placed;
    low = lookups.low;
    named = lookups.named;
    order = lookups.order;
    found = λ summarized o c. on_read (λ g f. IsSummarized g f → AreFindable g f (IsKey o c) → FindsEach f (IsKey o c) list) summarized.0
        (λ is. lookups.found (sym reads.lasts.honest ∙ summarized.0, is) o c) summarized.1;
    versions = λ summarized. on_read (λ g f. IsSummarized g f → (n : Numbers) → AreAbove f n → All (λ (p : PageCopy). p.version ≤ n.group) list) summarized.0
        (λ is. lookups.versions (sym reads.lasts.honest ∙ summarized.0, is)) summarized.1;
  }

  pub summarized_read : (n : Numbers) → (HasSummarizedFlash a → AreGreatest a.flash n) → HasSummarizedFlash b → AreGreatest b.flash n
  summarized_read n greatest summarized = on_read (λ g f. IsSummarized g f → AreGreatest f n) summarized.0 (λ is. greatest (sym reads.lasts.honest ∙ summarized.0, is)) summarized.1

  -- numbers that none are above are the greatest
  greatest_above : (n : Numbers) → (a.honest ≡ true → AreNoneAbove a.flash n) → b.honest ≡ true → AreAbove b.flash n → AreGreatest b.flash n
  greatest_above n least honest above = record {
    above = above;
    least = λ m is. let most = on_read (λ g f. AreNoneAbove f n) honest (least (sym reads.lasts.honest ∙ honest)) m is in (most.version, most.group, most.seq);
  }

  module _ (n : Numbers) (t0 t1 t2 : Table) (is : IsTableOf b n t0) (unwritten : AreUnwritten t0) (knows : IsUnwrittenOf a t0 → KnowsFirsts a.flash t1) (after : ℕ → ℕ) (recounts : Recounts (λ b. 0) after t1 t2) where
    -- the table knows the first pages that were noted
    first_pages : b.honest ≡ true → AreAbove b.flash n → AreLeft n → 1 ≤ n.seq → KnowsFirsts b.flash t2
    first_pages honest above left some =
        let flash = same_flash a b reads (sym reads.lasts.honest ∙ honest) in
        let next = is.seq left in
        let below : AreBelow b.flash (n.group + 1) (n.seq + 1) = above_below b.flash n above in
        let known = knows (record {
          honest = sym reads.lasts.honest ∙ honest;
          geometry = is.geometry ∙ reads.lasts.geometry;
          unwritten = unwritten;
          handed = subst (λ f. AreBelow f t0.next_group t0.next_seq) flash (subst (λ k. AreBelow b.flash k t0.next_seq) (sym (is.group left)) (subst (λ k. AreBelow b.flash (n.group + 1) k) (sym next) below));
          some = omega (arith, next, some);
        }) in
        known_counted b.flash (λ b. 0) after t1 t2 recounts (subst (λ f. KnowsFirsts f t1) (sym flash) known)

-- what is known of the first pages
pub knows_firsts :
    (a b : Device) (reads : OnlyReads a b) (found : Opened) (t0 t1 : Table) → (a.honest ≡ true → AreNoneAbove a.flash (numbers_of found.numbers)) → IsTableOf b (numbers_of found.numbers) t0 → AreUnwritten t0
    → (IsUnwrittenOf a t0 → KnowsFirsts a.flash t1) → (after : ℕ → ℕ) → Recounts (λ b. 0) after t1 (table found.blocks) → b.honest ≡ true → KnowsItsFirsts b found
knows_firsts a b reads found t0 t1 least is unwritten knows after recounts honest = record {
  greatest = greatest_above a b reads (numbers_of found.numbers) least honest;
  firsts = first_pages a b reads (numbers_of found.numbers) t0 t1 (table found.blocks) is unwritten knows after recounts honest;
}

-- ---- the tables of any device

-- of a device that is not trusted nothing is said but where pages lie
reports_untrusted : (d : Device) (list : List PageCopy) → FindsNeeded d list → ListsNewest (trusted_as false d) list
reports_untrusted d list lookups = record {
  placed = lookups.placed;
  low = lookups.low;
  order = lookups.order;
  exact = λ honest. absurd (let no : false ≡ true = trusted_of d.honest false honest in cc);
}

-- a table in which first pages were noted is one of the device still
table_noted : (d : Device) (n : Numbers) (t t' : Table) → IsTableOf d n t → OnlySeqs t t' → IsTableOf (trusted_as false d) n t'
table_noted d n t t' is only = record {
  geometry = only.geometry ∙ is.geometry;
  closed = only.open_block ∙ is.closed;
  checkpoint = only.checkpoint ∙ is.checkpoint;
  none = λ b. only.committed b ∙ is.none b;
  good = λ b good. only.bad b ∙ is.good b good;
  marks = λ left b. only.bad b ∙ is.marks left b;
  group = λ left. only.next_group ∙ is.group left;
  seq = λ left. only.next_seq ∙ is.seq left;
}

pub opened_untrusted :
    (d : Device) (list : List PageCopy) (x : Index) (t0 t1 t2 : Table) (n : Numbers) → FindsNeeded d list → HaveNames n.group list → IsTableOf d n t0 → OnlySeqs t0 t1
    → Indexes list (length list) x → CountsAgree t2 x → Recounts (λ b. 0) (count_committed_in x) t1 t2 → IsOpenedBy None (trusted_as false d) t2 x n
opened_untrusted d list x t0 t1 t2 n lookups names is only indexes counts recounts =
    (opened (trusted_as false d) list x t1 t2 n (reports_untrusted d list lookups) (λ honest. absurd (let no : false ≡ true = trusted_of d.honest false honest in cc)) names (table_noted d n t0 t1 is only) indexes counts recounts).tables

-- ---- those of a true flash

greatest_prop : (f : Flash) (n : Numbers) → IsProp (AreGreatest f n)
greatest_prop f n = Prim.hlevel props

module _ (d : Device) (list : List PageCopy) (n : Numbers) (lookups : FindsNeeded d list) (greatest : HasSummarizedFlash d → AreGreatest d.flash n) where
  -- what is found may be named in a group of the greatest number
  names_there : HasSummarizedFlash d → HaveNames n.group list
  names_there summarized i f at =
      let has = contains_at list i f at in
      let named : HasValidName f = All-contains HasValidName list f lookups.named has in
      let low : f.chunk < 2 ^ 32 = All-contains (λ (p : PageCopy). p.chunk < 2 ^ 32) list f lookups.low has in
      let version : f.version ≤ n.group = All-contains (λ (p : PageCopy). p.version ≤ n.group) list f (lookups.versions summarized n (greatest summarized).above) has in
      record { object = (named.0, named.1); chunk = omega (arith, low); version = (named.2, version) }

  -- so where it may not the flash is not true
  pub not_true_flash : (HaveNames n.group list → ⊥) → HasTrueFlash d → ⊥
  not_true_flash not (honest, is) = ∥∥₁_elim is.mountable (let p : IsProp ⊥ = Prim.hlevel props in p) (λ (m : IsMountableFlash d.geometry d.flash). not (names_there (honest, m.summarized)))

  module _ (x : Index) (indexes : Indexes list (length list) x) (honest : d.honest ≡ true) (is : IsConsistent d.geometry d.flash) where
    -- the newest page of each key that is looked up is committed
    looked_up : IsMountableFlash d.geometry d.flash → (o c : ℕ) (s : Spot) → InFootprint (sizes_of d.geometry is.spare) (HasNewest d.flash) is.objects o c → IsNewest d.flash o c s
        → committed_pages x o c ≡ Some (committed_at s)
    looked_up m o c s foot newest =
        let low : c < 2 ^ 32 =
        looked_low (sizes_of d.geometry is.spare) (record { least = let least = d.geometry.least_bytes in omega (arith, least); most = d.geometry.most_bytes }) foot.fields c foot.has.1 foot.looks in
        listed_committed list x indexes o c s newest.holds.object newest.holds.chunk (lookups.found (honest, m.summarized) o c (m.found is.spare is.objects is.volume is.shows o c foot) o c s (refl, refl) low newest)

pub finds_tree : (d : Device) (list : List PageCopy) (found : Opened) → FindsNeeded d list → (HasSummarizedFlash d → AreGreatest d.flash (numbers_of found.numbers)) → Indexes list (length list) found.index
    → HasTrueFlash d → FindsItsTree d found
finds_tree d list found lookups greatest indexes (honest, is) = record {
  spare = is.spare;
  objects = is.objects;
  volume = is.volume;
  shows = is.shows;
  all = λ o c s foot newest.
      ∥∥₁_elim is.mountable (let p : IsProp (committed_pages found.index o c ≡ Some (committed_at s)) = Prim.hlevel props in p)
      (λ (m : IsMountableFlash d.geometry d.flash). looked_up d list (numbers_of found.numbers) lookups greatest found.index indexes honest is m o c s foot newest);
  numbers = ∥∥₁_elim is.mountable (greatest_prop d.flash (numbers_of found.numbers)) (λ (m : IsMountableFlash d.geometry d.flash). greatest (honest, m.summarized));
}
