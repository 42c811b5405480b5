-- The laws of a whole file: reading and writing agree on what a sheet carries. Assumes nothing.
use Rattle.std.proofs.Common.{Some}
use mathlib.Core.Path.{◌≡◌, refl, sym, ap, ◌∙◌}
use mathlib.Core.Bool.{true}
use mathlib.Core.List.{List}
use mathlib.Core.Logic.{◌↔◌}
use Prim.Native.Nat.{ℕ, ◌≤◌}
use Rattle.sheet.specs.declared.Sheet.{Sheet}
use Rattle.sheet.specs.Sheets.{sheet_of}
use Rattle.sheet.proofs.Laws as sheets
use Rattle.sheet.proofs.Laws.{Sane}
use Rattle.paper.specs.Days.{real_day}
use Rattle.paper.specs.Batch.{Batch, Header, Thing, things, batch_of}
use Rattle.paper.specs.Lines.{lines_of}
use Rattle.paper.specs.Spells.{dues}
use Rattle.paper.specs.Judge.{Accepted, judge}
use Rattle.paper.specs.Rows.{rows_in, things_in}
use Rattle.paper.specs.Canonical.{canon}
use Rattle.paper.specs.Writing.{drafted, Refuses, draft_of, draft}
use Rattle.paper.specs.Rewriting.{rewritten}
use Rattle.exact.proofs.Main.{exact}
use Rattle.roundtrip.specs.whole.Carries.{FourParts, Passes, Carries, head_read, past_warnings, Exactly}
use Rattle.roundtrip.proofs.whole.Lines.{each-exactly}
use Rattle.roundtrip.proofs.whole.Trees.{things-batch}
use Rattle.roundtrip.proofs.whole.Headers.{head-off, canon-read, passes-read, passes-written}
use Rattle.roundtrip.proofs.whole.Whole.{spelled-carries, spelled-header, spelled-warnings, carries-spells}
use Rattle.roundtrip.proofs.whole.Drafts.{by-draft, not-both, draft-only, draft-also, draft-batch, rows_four, draft-known}

-- ---- what reading accepts

module _ (sh : Sheet) (sane : Sane sh) (today : ℕ) (f : List ℕ) (h : Header) (b : Batch) (w : ℕ) (e : judge sh today f ≡ Accepted h b w) where
  -- What reading accepts, writing does not refuse.
  pub sound : Carries sh today h b
  sound = spelled-carries sh today h b f w sane ((exact sh today f h b w).0 e)

  -- On a sheet without a header reading gives none.
  pub sound-header : head_read sh h ≡ h
  sound-header = spelled-header sh today h b f w sane ((exact sh today f h b w).0 e)

  -- A file gives at least the warnings that the canonical file of what it says gives.
  pub sound-warnings : past_warnings sh today b ≤ w
  sound-warnings = spelled-warnings sh today h b f w sane ((exact sh today f h b w).0 e)

-- Where a total that differs is refused (K, S, P), every line says its entry exactly, a group's line the sum of its items.
pub strict-totals : (sh : Sheet) → sh.strict ≡ true → (today : ℕ) (f : List ℕ) (h : Header) (b : Batch) (w : ℕ)
    → judge sh today f ≡ Accepted h b w → Exactly sh today (lines_of 0 f) (dues h b)
strict-totals sh on today f h b w e = each-exactly sh today on (lines_of 0 f) (dues h b) w ((exact sh today f h b w).0 e).lines

-- ---- what writing does not refuse

module _ (sh : Sheet) (sane : Sane sh) (today : ℕ) where
  -- The canonical file of what a sheet carries is read as that batch, with that header where the sheet has one; it gives one warning for
  -- each group due on a past day, where the sheet warns of it.
  pub back : (h : Header) (b : Batch) → Carries sh today h b → judge sh today (canon sh h b) ≡ Accepted (head_read sh h) b (past_warnings sh today b)
  back h b p =
      let g = head_read sh h in
      let s = carries-spells sh today g b sane (passes-read sh sane today h (things b) p) (λ off. head-off sh off h) in
      rw (canon-read sh h b) at ((exact sh today (canon sh g b) g b (past_warnings sh today b)).1 s)

  -- A sheet carries a batch with a header exactly if some file is read as them.
  pub carried : (h : Header) (b : Batch) → Carries sh today h b ↔ ((f : List ℕ) × (w : ℕ) × (judge sh today f ≡ Accepted (head_read sh h) b w))
  carried h b = (
    λ p. (canon sh h b, past_warnings sh today b, back h b p),
    λ (f, w, e). passes-written sh sane today h (things b) (sound sh sane today f (head_read sh h) b w e),
  )

  -- ---- the same of the answer that writing gives

  -- What is written is the canonical file of the batch that the rows hold, and it is read as that batch.
  pub written : (h : Header) (ts : List Thing) → FourParts ts → (s : List ℕ) → draft_of sh today h ts ≡ drafted s
      → (things (batch_of ts) ≡ ts) × (s ≡ canon sh h (batch_of ts)) × (judge sh today s ≡ Accepted (head_read sh h) (batch_of ts) (past_warnings sh today (batch_of ts)))
  written h ts four s e =
      let (p, c) = draft-only sh today h ts four s e in
      let t : things (batch_of ts) ≡ ts = things-batch ts p.rows-proper in
      let q : Passes sh today h (things (batch_of ts)) = rw t p in
      (t, c, rw c (back h (batch_of ts) q))

  -- Writing refuses exactly if no file at all is read as a batch that has these rows, with this header.
  pub refused : (h : Header) (ts : List Thing) → FourParts ts
      → Refuses (draft_of sh today h ts) ↔ ((b : Batch) (f : List ℕ) (w : ℕ) → things b ≡ ts → judge sh today f ≡ Accepted (head_read sh h) b w → ⊥)
  refused h ts four = (
    λ r b f w t e. not-both (draft_of sh today h ts) (canon sh h (batch_of ts)) (draft-also sh today h ts (rw t at ((carried h b).1 (f, w, e)))) r,
    λ none.
        by-draft (draft_of sh today h ts)
        (λ s e. let (t, c, j) = written h ts four s e in absurd (none (batch_of ts) s (past_warnings sh today (batch_of ts)) t j))
        (λ r. r),
  )

  -- ---- rewriting

  module _ (f : List ℕ) (h : Header) (b : Batch) (w : ℕ) (e : judge sh today f ≡ Accepted h b w) where
    -- What was read can be written,
    pub rewrites : draft_of sh today h (things b) ≡ drafted (canon sh h b)
    rewrites = draft-batch sh today h b (sound sh sane today f h b w e)

    -- the file written is read as the same header and batch,
    pub again : judge sh today (canon sh h b) ≡ Accepted h b (past_warnings sh today b)
    again =
        back h b (sound sh sane today f h b w e)
        ∙ ap (λ (x : Header). Accepted x b (past_warnings sh today b)) (sound-header sh sane today f h b w e)

    -- and written again as it stands.
    pub idempotent : rewritten sh (judge sh today (rewritten sh (judge sh today f))) ≡ rewritten sh (judge sh today f)
    unfolding rewritten
    idempotent = rw e (rw again refl)

  -- Different batches that the sheet carries have different canonical files.
  pub same-batch : (h h' : Header) (b b' : Batch) → Carries sh today h b → Carries sh today h' b' → canon sh h b ≡ canon sh h' b'
      → (head_read sh h ≡ head_read sh h') × (b ≡ b')
  same-batch h h' b b' p p' e = let i = back h b p in let j = back h' b' p' in ((cc), (cc))

-- ---- lent rows, on a sheet that has a number and on a real day

module _ (sheet : ℕ) (sh : Sheet) (named : sheet_of sheet ≡ Some sh) (today : ℕ) (day : real_day today ≡ true) (h : Header) (rows texts : List ℕ) where
  abbrev said : List Thing
  said = things_in texts (rows_in rows)

  pub rows_written : (s : List ℕ) → draft sheet today h rows texts ≡ drafted s
      → (b : Batch) × (things b ≡ said) × (s ≡ canon sh h b) × (judge sh today s ≡ Accepted (head_read sh h) b (past_warnings sh today b))
  rows_written s e =
      let d : draft_of sh today h said ≡ drafted s = sym (draft-known sheet sh named today day h rows texts) ∙ e in
      let (t, c, j) = written sh (sheets.sane sheet sh named) today h said (rows_four texts (rows_in rows)) s d in
      (batch_of said, t, c, j)

  pub rows-refused : Refuses (draft sheet today h rows texts)
      ↔ ((b : Batch) (f : List ℕ) (w : ℕ) → things b ≡ said → judge sh today f ≡ Accepted (head_read sh h) b w → ⊥)
  rows-refused =
      rw (draft-known sheet sh named today day h rows texts)
      (refused sh (sheets.sane sheet sh named) today h said (rows_four texts (rows_in rows)))
