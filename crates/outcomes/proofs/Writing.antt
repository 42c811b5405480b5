-- What writing answers, by its draft; and that a draft is refused with 1, 2, 20 or 21 only. Assumes nothing.
use Rattle.std.proofs.Common.{Option, Some, None}
use mathlib.Core.Path.{◌≡◌, refl, sym, ap, ◌∙◌}
use mathlib.Core.List.{List, ◌++◌}
use mathlib.Core.Logic.{◌↔◌}
use Prim.Native.Nat.{ℕ, ◌≤◌}
use native.Mathlib.Omega.{arith}
use lib.ListN.{length, take, drop}
use lib.Seq.{take_at}
use Rattle.base.specs.Pick.{pick}
use Rattle.base.proofs.Cases.{by-lt, either, pick_true, pick-false}
use borrow.Author.Tests.{lt-ltb, le-ltb}
use Rattle.sheet.specs.declared.Sheet.{Sheet}
use Rattle.sheet.specs.Sheets.{sheet_of}
use Rattle.paper.specs.Days.{real_day}
use Rattle.paper.specs.Rows.{rows_in, things_in}
use Rattle.paper.specs.Batch.{Header, Thing, batch_of}
use Rattle.paper.specs.Proper.{Verdict, fine, wrong, header_proper, batch_proper}
use Rattle.paper.specs.Carried.{header_carried, batch_carried}
use Rattle.paper.specs.Canonical.{canon}
use Rattle.paper.specs.Writing.{Draft, drafted, refusal, on_verdict, draft_of, draft_with, draft, WriteAnswer, written_in, output_after}
use Rattle.outcomes.specs.Outcomes.{WritesAs}

-- ---- 20 and 21

-- a draft that is a file, or is refused with 20 or 21
abbrev Late : Draft → Type 0
Late (drafted s) = Unit {0}
Late (refusal n row field) = (20 ≤ n) × (n ≤ 21)

verdict-late : (n : ℕ) (v : Verdict) (rest : Draft) → 20 ≤ n → n ≤ 21 → Late rest → Late (on_verdict n v rest)
unfolding on_verdict
verdict-late n fine rest l m r = r
verdict-late n (wrong row field) rest l m r = (l, m)

draft-is-late : (sh : Sheet) (today : ℕ) (h : Header) (ts : List Thing) → Late (draft_of sh today h ts)
unfolding draft_of
draft-is-late sh today h ts =
    verdict-late 20 (pick sh.header (header_proper h) fine) _ (omega arith) (omega arith)
    (verdict-late 20 (batch_proper ts) _ (omega arith) (omega arith)
    (verdict-late 21 (pick sh.header (header_carried sh.interval h) fine) _ (omega arith) (omega arith)
    (verdict-late 21 (batch_carried sh today h ts) (drafted (canon sh h (batch_of ts))) (omega arith) (omega arith) tt)))

-- On a known sheet and a real day, no other number is given.
pub draft-late : (sh : Sheet) (today : ℕ) (h : Header) (ts : List Thing) (n row field : ℕ)
    → draft_of sh today h ts ≡ refusal n row field → (20 ≤ n) × (n ≤ 21)
draft-late sh today h ts n row field e = rw e at (draft-is-late sh today h ts)

-- ---- a refusal has a number

-- a draft that is a file, or is refused with some number
abbrev pub Numbered : Draft → Type 0
Numbered (drafted s) = Unit {0}
Numbered (refusal n row field) = 1 ≤ n

late-numbered : (d : Draft) → Late d → Numbered d
late-numbered (drafted s) l = tt
late-numbered (refusal n row field) (l, m) = omega arith

known-numbered : (k : Option Sheet) (today : ℕ) (h : Header) (ts : List Thing) → Numbered (draft_with k today h ts)
unfolding draft_with
known-numbered None today h ts = omega arith
known-numbered (Some sh) today h ts =
    either Numbered (real_day today) (λ e. late-numbered (draft_of sh today h ts) (draft-is-late sh today h ts)) (λ e. omega arith)

pub draft-numbered : (sheet today : ℕ) (h : Header) (rows texts : List ℕ) → Numbered (draft sheet today h rows texts)
unfolding draft
draft-numbered sheet today h rows texts = known-numbered (sheet_of sheet) today h (things_in texts (rows_in rows))

-- ---- with room

module _ (sheet today : ℕ) (h : Header) (rows texts out s : List ℕ) where
  -- what is drafted is written where there is room for it,
  pub writes-also : draft sheet today h rows texts ≡ drafted s → length s ≤ length out → WritesAs sheet today h rows texts out s
  unfolding written_in output_after
  writes-also e room =
      let f = le-ltb (length out) (length s) room in
      record {
        answer = rw e (pick-false _ _ f);
        stands = rw e (ap (λ (o : List ℕ). take (length s) o) (pick-false out (s ++ drop (length s) out) f) ∙ take_at s (drop (length s) out) (length s) refl);
      }

  -- and nothing else is written.
  same_bytes : (t : List ℕ) → draft sheet today h rows texts ≡ drafted t → length t ≤ length out → WritesAs sheet today h rows texts out s → t ≡ s
  unfolding written_in output_after
  same_bytes t e room w =
      let f = le-ltb (length out) (length t) room in
      let n : length t ≡ length s =
      ap (λ (a : WriteAnswer). a.bytes) (sym (ap (λ (d : Draft). written_in (length out) d) e ∙ pick-false _ _ f) ∙ w.answer) in
      let o : output_after out (draft sheet today h rows texts) ≡ t ++ drop (length t) out = ap (λ (d : Draft). output_after out d) e ∙ pick-false _ _ f in
      sym (take_at t (drop (length t) out) (length s) n) ∙ ap (λ (x : List ℕ). take (length s) x) (sym o) ∙ w.stands

  writes-only : (d : Draft) → draft sheet today h rows texts ≡ d → WritesAs sheet today h rows texts out s → draft sheet today h rows texts ≡ drafted s
  unfolding written_in
  writes-only (refusal n row field) e w =
      absurd (
      let z : n ≡ 0 = ap (λ (a : WriteAnswer). a.number) (sym (ap (λ (d : Draft). written_in (length out) d) e) ∙ w.answer) in
      let one : 1 ≤ n = rw e at (draft-numbered sheet today h rows texts) in
      omega arith
      )
  writes-only (drafted t) e w =
      by-lt (length out) (length t)
      (λ l. absurd (
      let z : 16 ≡ 0 =
      ap (λ (a : WriteAnswer). a.number) (sym (ap (λ (d : Draft). written_in (length out) d) e ∙ pick_true _ _ (lt-ltb (length out) (length t) l)) ∙ w.answer) in
      omega arith
      ))
      (λ l. e ∙ ap drafted (same_bytes t e l w))

  -- Where there is room, the file that is written is the draft's.
  pub writes : length s ≤ length out → WritesAs sheet today h rows texts out s ↔ draft sheet today h rows texts ≡ drafted s
  writes room = (writes-only (draft sheet today h rows texts) refl, λ e. writes-also e room)
