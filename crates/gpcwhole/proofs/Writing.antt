-- What writing drafts, answers and puts into the output, by what the rows hold. Assumes nothing.
use mathlib.Core.Path.{◌≡◌, refl, sym, ap, ◌∙◌}
use mathlib.Core.List.{List, ◌++◌}
use mathlib.Core.Logic.{◌↔◌}
use Prim.Native.Nat.{ℕ, suc, ◌*◌, ◌/◌, ◌≤◌, ◌<◌}
use native.Mathlib.Omega.{arith}
use lib.ListN.{length, take, drop}
use lib.Seq.{take_at}
use borrow.Author.Tests.{lt-ltb, le-ltb}
use Rattle.base.proofs.Cases.{by-lt, pick_true, pick-false}
use Rattle.paper.specs.Writing.{Draft, drafted, refusal, Refuses, WriteAnswer, written_in, output_after}
use Rattle.gpc.specs.Records.{record_size}
use Rattle.gpc.specs.Statements.{Statement, things, row_spots, refused}
use Rattle.gpc.specs.Spelled.{Spells}
use Rattle.gpc.specs.FirstFault.{FirstFault}
use Rattle.gpc.specs.Canonical.{canon}
use Rattle.gpc.specs.StatementRows.{statement_row, things_in, testeds}
use Rattle.gpc.specs.Answers.{row_count, draft_of, judge_rows, statement_draft}
use Rattle.gpcback.proofs.Many.{spells-length}
use Rattle.gpcexact.proofs.Named.{rows_named, rows_row}
use Rattle.gpcwhole.specs.Outcomes.{Hold, ReadsAs, WritesAs}
use Rattle.gpcwhole.proofs.Judged.{by-judged, spelled-proper, accepted-rows, held-accepted, refused-rows}
use Rattle.gpcwhole.proofs.Reading.{reads}

-- no draft is both
not-both : {A : Type 0} {s : List ℕ} {n row field : ℕ} → drafted s ≡ refusal n row field → A
not-both e = absurd (let z : ◌≡◌ {A = ℕ} 0 1 = cc in omega arith)

-- the canonical file of statements that a file spells has 130 bytes for each of their rows
pub canon-length : (f : List ℕ) (ss : List Statement) → Spells f ss → length (canon ss) ≡ record_size * row_count ss
unfolding canon
canon-length f ss s = spells-length (things ss) (spelled-proper f ss s)

-- Rows that hold the same statements are drafted alike.
pub one-file : (rows rows' : List ℕ) (ss : List Statement) → Hold rows ss → Hold rows' ss → statement_draft rows ≡ statement_draft rows'
unfolding statement_draft judge_rows
one-file rows rows' ss p q = rw (p, q) refl

module _ (rows : List ℕ) where
  -- ---- the draft, in each of two cases

  drafts-refused : (n k off : ℕ) → judge_rows rows ≡ refused n k off → statement_draft rows ≡ refusal n (suc k) off
  unfolding statement_draft draft_of
  drafts-refused n k off e = rw e refl

  pub drafts-held : (f : List ℕ) (ss : List Statement) → Hold rows ss → Spells f ss → statement_draft rows ≡ drafted (canon ss)
  unfolding statement_draft draft_of
  drafts-held f ss held s = rw (held-accepted rows f ss held s) refl

  by-draft : {P : Type 0}
      → ((n k off : ℕ) → judge_rows rows ≡ refused n k off → P) → ((ss : List Statement) → Hold rows ss → Spells (canon ss) ss → P) → P
  by-draft wrong fine = by-judged (judge_rows rows) (λ ss e. let (held, s) = accepted-rows rows ss e in fine ss held s) wrong

  -- a refusal is that of the judged rows, whose row counts from 1
  refusal-judged : (n row field : ℕ) → statement_draft rows ≡ refusal n row field
      → (k : ℕ) × (row ≡ suc k) × (judge_rows rows ≡ refused n k field)
  refusal-judged n row field e =
      by-draft
      (λ n' k off j.
      let q : refusal n' (suc k) off ≡ refusal n row field = sym (drafts-refused n' k off j) ∙ e in
      let number : n' ≡ n = cc in
      let line : suc k ≡ row = cc in
      let word : off ≡ field = cc in
      (k, sym line, rw (← number, ← word) j))
      (λ ss held s. not-both (sym (drafts-held (canon ss) ss held s) ∙ e))

  -- ---- refusals

  -- Writing is refused exactly if no file spells the statements that the rows hold, if they hold any,
  pub refused-exactly : Refuses (statement_draft rows) ↔ ((ss : List Statement) (f : List ℕ) → Hold rows ss → Spells f ss → ⊥)
  refused-exactly = (
    λ (n, row, field, e) ss f held s. not-both (sym (drafts-held f ss held s) ∙ e),
    λ none. by-draft (λ n k off e. (n, suc k, off, drafts-refused n k off e)) (λ ss held s. absurd (none ss (canon ss) held s)),
  )

  -- with the number, the row and the word exactly of the first fault,
  pub write-refuses : (n k off : ℕ) → statement_draft rows ≡ refusal n (suc k) off ↔ FirstFault row_spots (testeds (things_in rows)) n k off
  write-refuses n k off = (
    λ e.
        let (k', same, j) = refusal-judged n (suc k) off e in
        let before : k' ≡ k = omega arith in
        (refused-rows rows n k off).0 (rw (← before) j),
    λ o. drafts-refused n k off ((refused-rows rows n k off).1 o),
  )

  -- which is one of 50 to 53, at a row that counts from 1 and one of its eight numbers,
  pub refused-by : (n row field : ℕ) → statement_draft rows ≡ refusal n row field → (50 ≤ n) × (n ≤ 53) × (1 ≤ row) × (field ≤ 7)
  refused-by n row field e =
      let (k, same, j) = refusal-judged n row field e in
      let (least, most, word) = rows_named rows n k field j in
      (least, most, omega arith, word)

  -- and that row is one of the lent ones, or the one that is missing behind them.
  pub refused-row : (n row field : ℕ) → statement_draft rows ≡ refusal n row field → row ≤ suc (length (things_in rows))
  refused-row n row field e = let (k, same, j) = refusal-judged n row field e in omega (arith, rows_row rows n k field j)

  -- ---- the answer, by the room

  module _ (room : ℕ) where
    says-refused : (n k off : ℕ) → judge_rows rows ≡ refused n k off
        → written_in room (statement_draft rows) ≡ record { number = n; row = suc k; field = off; bytes = 0 }
    unfolding written_in
    says-refused n k off e = ap (λ (d : Draft). written_in room d) (drafts-refused n k off e)

    module _ (f : List ℕ) (ss : List Statement) (held : Hold rows ss) (s : Spells f ss) where
      says-needs : room < length (canon ss)
          → written_in room (statement_draft rows) ≡ record { number = 16; row = 0; field = 0; bytes = length (canon ss) }
      unfolding written_in
      says-needs l = rw (drafts-held f ss held s) (pick_true _ _ (lt-ltb room (length (canon ss)) l))

      says-written : length (canon ss) ≤ room
          → written_in room (statement_draft rows) ≡ record { number = 0; row = 0; field = 0; bytes = length (canon ss) }
      unfolding written_in
      says-written l = rw (drafts-held f ss held s) (pick-false _ _ (le-ltb room (length (canon ss)) l))

    -- 16 is given exactly if the rows hold statements that some file spells, and there is less room than for them,
    pub write-16 : (written_in room (statement_draft rows)).number ≡ 16
        ↔ ((ss : List Statement) × (f : List ℕ) × Hold rows ss × Spells f ss × (room < record_size * row_count ss))
    write-16 = (
      λ r. by-draft
          (λ n k off e. absurd (
          let z : n ≡ 16 = ap (λ (a : WriteAnswer). a.number) (sym (says-refused n k off e)) ∙ r in
          omega (arith, rows_named rows n k off e)
          ))
          (λ ss held s. by-lt room (length (canon ss))
          (λ l. (ss, canon ss, held, s, omega (arith, canon-length (canon ss) ss s)))
          (λ l. absurd (
          let z : 0 ≡ 16 = ap (λ (a : WriteAnswer). a.number) (sym (says-written (canon ss) ss held s l)) ∙ r in
          omega arith
          ))),
      λ (ss, f, held, s, l). ap (λ (a : WriteAnswer). a.number) (says-needs f ss held s (omega (arith, canon-length f ss s))),
    )

    -- and then so many bytes are needed.
    pub bytes-16 : (f : List ℕ) (ss : List Statement) → Hold rows ss → Spells f ss → room < record_size * row_count ss
        → (written_in room (statement_draft rows)).bytes ≡ record_size * row_count ss
    bytes-16 f ss held s l =
        let long = canon-length f ss s in
        ap (λ (a : WriteAnswer). a.bytes) (says-needs f ss held s (omega arith)) ∙ long

  -- ---- the output

  -- statements that rows hold and some file spells are written where there is room
  held-written : (f : List ℕ) (ss : List Statement) → Hold rows ss → Spells f ss
      → (out : List ℕ) → length (canon ss) ≤ length out → WritesAs rows out (canon ss)
  unfolding output_after
  held-written f ss held s out l =
      let file = canon ss in
      record {
        answer = says-written (length out) f ss held s l;
        stands = rw (drafts-held f ss held s)
            (ap (λ (o : List ℕ). take (length file) o) (pick-false out (file ++ drop (length file) out) (le-ltb (length out) (length file) l))
            ∙ take_at file (drop (length file) out) (length file) refl);
      }

  -- and the answer 0 is given for nothing else
  pub written-only : (out : List ℕ) → (written_in (length out) (statement_draft rows)).number ≡ 0
      → (ss : List Statement) × Hold rows ss × Spells (canon ss) ss × WritesAs rows out (canon ss)
  written-only out r =
      by-draft
      (λ n k off e. absurd (
      let z : n ≡ 0 = ap (λ (a : WriteAnswer). a.number) (sym (says-refused (length out) n k off e)) ∙ r in
      omega (arith, rows_named rows n k off e)
      ))
      (λ ss held s. by-lt (length out) (length (canon ss))
      (λ l. absurd (
      let z : 16 ≡ 0 = ap (λ (a : WriteAnswer). a.number) (sym (says-needs (length out) (canon ss) ss held s l)) ∙ r in
      omega arith
      ))
      (λ l. (ss, held, s, held-written (canon ss) ss held s out l)))

  -- what is written is one file
  one_written : (out s t : List ℕ) → WritesAs rows out s → WritesAs rows out t → s ≡ t
  one_written out s t w v =
      let long : length s ≡ length t = ap (λ (a : WriteAnswer). a.bytes) (sym w.answer ∙ v.answer) in
      sym w.stands ∙ ap (λ (n : ℕ). take n (output_after out (statement_draft rows))) long ∙ v.stands

  -- What is written is the canonical file of the statements that the rows hold.
  pub canonical : (out s : List ℕ) → WritesAs rows out s → (ss : List Statement) × Hold rows ss × (s ≡ canon ss)
  canonical out s w =
      let (ss, held, _, v) = written-only out (ap (λ (a : WriteAnswer). a.number) w.answer) in
      (ss, held, one_written out s (canon ss) w v)

  -- Where writing is not refused, the canonical file is written wherever there is room, and spells the statements,
  pub otherwise-written : (Refuses (statement_draft rows) → ⊥)
      → (ss : List Statement) × Hold rows ss × ((out : List ℕ) → length (canon ss) ≤ length out → WritesAs rows out (canon ss)) × Spells (canon ss) ss
  otherwise-written not =
      by-draft
      (λ n k off e. absurd (not (n, suc k, off, drafts-refused n k off e)))
      (λ ss held s. (ss, held, held-written (canon ss) ss held s, s))

  -- and with room for its rows it is read back as just these.
  pub read_back : (Refuses (statement_draft rows) → ⊥)
      → (ss : List Statement) × Hold rows ss × ((lent : List ℕ) → row_count ss ≤ length lent / statement_row → ReadsAs (canon ss) lent ss)
  read_back not =
      let (ss, held, _, s) = otherwise-written not in
      (ss, held, λ lent l. (reads (canon ss) lent ss l).1 s)
