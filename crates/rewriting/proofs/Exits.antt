-- How the functions of rewriting end, with what the code knows at each. Assumes nothing.
use Rattle.std.proofs.Common.{Some, Result, Ok, Err}
use Rattle.refusal.specs.declared.Refusal.{Refusal}
use Rattle.refusal.specs.Numbers.{number_of}
use mathlib.Core.Path.{◌≡◌, sym, ap, ◌∙◌}
use mathlib.Core.Bool.{true}
use mathlib.Core.List.{List}
use Prim.Native.Nat.{ℕ, ◌*◌, ◌-◌, ◌≤◌}
use native.Mathlib.Omega.{arith}
use lib.ListN.{length, take, drop, length-drop}
use Rattle.base.specs.Put.{Wrote}
use Rattle.base.proofs.Lists.{rest-whole}
use Rattle.sheet.specs.declared.Sheet.{Sheet}
use Rattle.sheet.specs.Sheets.{sheet_of}
use Rattle.paper.specs.Days.{real_day}
use Rattle.paper.specs.Judge.{judge}
use Rattle.paper.specs.Reading.{read_answer, rows_after}
use Rattle.paper.specs.Explaining.{refused_line}
use Rattle.paper.specs.Writing.{drafted, draft}
use Rattle.paper.specs.Rewriting.{rewritten, rewriting}
use Rattle.read.specs.declared.AboAnswer.{AboAnswer}
use Rattle.read.specs.Told.{told_header, told}
use Rattle.rewriting.specs.declared.request.Request.{Request}
use Rattle.rewriting.specs.request.Asked.{answer, Sound}
use Rattle.bounds.specs.Most.{most_input, most_rows, most_output}
use Rattle.numeral.specs.counted.Counted.{Counted}
use Rattle.numeral.proofs.counted.Laws.{counted-wrote}
use Rattle.verdict.proofs.Wording.{refused-most}
use Rattle.rewriting.proofs.Front.{wrote-same}
use Rattle.rewriting.proofs.Read.{Outcome, refuses, accepts, outcome}

-- a refusal's line has room, so that what was counted was written
pub line_wrote : (n l p : ℕ) {o o' : List ℕ} {r : ℕ} → most_output ≤ length o → Counted o 0 (refused_line n l p) o' r → Wrote o 0 (refused_line n l p) o' r
line_wrote n l p h w = counted-wrote w (omega (arith, refused-most n l p)) (omega (arith, refused-most n l p))

-- ---- rewrite_file: a is what read_file answered, left the rows behind it

module _ (sh : Sheet) (today : ℕ) (f : List ℕ)
    (known : (sheet_of sh.number ≡ Some sh) × (real_day today ≡ true) × (length f ≤ most_input))
    (lent : List ℕ) (room : 192 * most_rows ≤ length lent)
    (a : AboAnswer) (g : told a ≡ read_answer sh.number today f lent) (left : List ℕ) (i : left ≡ rows_after sh.number today f lent) where
  out : Outcome sh today f left (told a)
  out = outcome sh known.0 today known.1 f lent known.2 room (told a) left g i

  few : a.number ≡ 0 → Outcome sh today f left (told a) → a.rows ≤ most_rows
  few z (refuses n e) = absurd (n z)
  few z (accepts n r l e) = r

  pub rows_few : a.number ≡ 0 → a.rows ≤ 1024
  rows_few z = few z out

  module _ (o o' : List ℕ) (r : ℕ) (most : most_output ≤ length o) where
    -- what write_back did with the rows that were read
    back : a.number ≡ 0 → Outcome sh today f left (told a)
        → ((s : List ℕ) → draft sh.number today (told_header a.header) (take (192 * a.rows) left) f ≡ drafted s → length s ≤ length o → Wrote o 0 s o' r)
        → Wrote o 0 (rewritten sh (judge sh today f)) o' r
    back z (refuses n e) w = absurd (n z)
    back z (accepts n q l e) w = w (rewritten sh (judge sh today f)) e (omega arith)

    pub written_back : a.number ≡ 0
        → ((s : List ℕ) → draft sh.number today (told_header a.header) (take (192 * a.rows - 0) (drop 0 left)) f ≡ drafted s → length s ≤ length o → Wrote o 0 s o' r)
        → Wrote o 0 (rewritten sh (judge sh today f)) o' r
    written_back z w =
        let n : 192 * a.rows - 0 ≡ 192 * a.rows = omega arith in
        let part : take (192 * a.rows - 0) left ≡ take (192 * a.rows) left = ap (λ (m : ℕ). take m left) n in
        back z out (λ s e l. w s (ap (λ (p : List ℕ). draft sh.number today (told_header a.header) p f) part ∙ e) l)

    line : (a.number ≡ 0 → ⊥) → Outcome sh today f left (told a) → Wrote o 0 (refused_line a.number a.line a.byte) o' r
        → Wrote o 0 (rewritten sh (judge sh today f)) o' r
    line z (refuses n e) w = wrote-same o (refused_line a.number a.line a.byte) (rewritten sh (judge sh today f)) o' r (sym e) w
    line z (accepts n q l e) w = absurd (z n)

    pub refused-line : (a.number ≡ 0 → ⊥) → Wrote o 0 (refused_line a.number a.line a.byte) o' r → Wrote o 0 (rewritten sh (judge sh today f)) o' r
    refused-line z w = line z out w

pub ruleset files = (line_wrote, rows_few, written_back, refused-line)

-- ---- rewrite: q is the request

module _ (f : List ℕ) (q : Result Request Refusal) (g : answer f q ≡ rewriting f) (sound : Sound f q) where
  -- n is the number of the refusal
  pub no-file : (x : Refusal) → q ≡ Err x → (n : ℕ) → n ≡ number_of x → (o o' : List ℕ) (r : ℕ) → Wrote o 0 (refused_line n 0 0) o' r → Wrote o 0 (rewriting f) o' r
  no-file x e n i o o' r w =
      let h : answer f (Err x) ≡ rewriting f = rw e at g in
      wrote-same o (refused_line n 0 0) (rewriting f) o' r (ap (λ (m : ℕ). refused_line m 0 0) i ∙ h) w

  module _ (x : Request) (e : q ≡ Ok x) where
    said : Sound f (Ok x)
    said = rw e at sound

    pub file-place : x.at ≤ length f
    file-place = said.2

    pub file-sheet : sheet_of x.sh.number ≡ Some x.sh
    file-sheet = said.0

    pub file-day : real_day x.today ≡ true
    file-day = said.1

    pub file-small : length (take (length f - x.at) (drop x.at f)) ≤ most_input
    file-small = rw (rest-whole f x.at) (let l : length f ≤ 8192 = said.3 in omega (arith, l, length-drop x.at f))

    pub file-rewritten : (o o' : List ℕ) (r : ℕ) → Wrote o 0 (rewritten x.sh (judge x.sh x.today (take (length f - x.at) (drop x.at f)))) o' r → Wrote o 0 (rewriting f) o' r
    file-rewritten o o' r w =
        let h : answer f (Ok x) ≡ rewriting f = rw e at g in
        let v : Wrote o 0 (rewritten x.sh (judge x.sh x.today (drop x.at f))) o' r = rw (rest-whole f x.at) at w in
        wrote-same o (rewritten x.sh (judge x.sh x.today (drop x.at f))) (rewriting f) o' r h v

pub ruleset requests = (line_wrote, no-file, file-place, file-sheet, file-day, file-small, file-rewritten)
