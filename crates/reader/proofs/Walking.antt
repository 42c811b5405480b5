-- A reader that passes line after line: what it knows where it stands, what it knows a line further on, and that it ends at the line of the number
-- asked for. Assumes nothing.
use Rattle.std.proofs.Common.{◌≢◌, Option, Some, None}
use Rattle.std.specs.Borrow.{Bor}
use Rattle.std.specs.Option.{is_some}
use mathlib.Core.Path.{◌≡◌, refl, sym, ap, subst, ◌∙◌}
use mathlib.Core.Bool.{true, false}
use mathlib.Core.List.{List, [], ◌∷◌, ◌++◌}
use Prim.Native.Nat.{ℕ, ◌+◌, ◌-◌, ◌≤◌, ◌<◌, ◌^◌}
use native.Mathlib.Omega.{arith}
use lib.ListN.{length, take, drop, length-drop}
use lib.Seq.{length-take-le}
use borrow.Author.Tests.{ne_eqb}
use Rattle.base.specs.Pick.{pick}
use Rattle.paper.specs.Lines.{Line, lines_from}
use Rattle.scan.proofs.line.Lines.{lines_none}
use Rattle.reader.specs.declared.Found.{Found}
use Rattle.reader.specs.declared.LineReader.{LineReader}
use Rattle.reader.specs.Named.{LineAnswer, no_line, nth, end_line, places, line_answer}
use Rattle.reader.specs.Finding.{Finds, reader_at, behind, answer_at}

-- The reader stands in the file where the line of number k starts (the file's end is a line more); the line asked for is among those from there on.
pub record Stands (f : List ℕ) (number : ℕ) (d : LineReader) (k : ℕ) : Type 0 where
  pub same_file : d.file.now ≡ f
  pub inside : d.at ≤ length f
  pub counted : (1 ≤ k) × (k ≤ number)
  pub goes : nth (number + 1 - k) (lines_from f d.at ++ (end_line f ∷ [])) ≡ line_answer number f

nth-zero : (ts : List Line) → nth 0 ts ≡ no_line
unfolding nth pick
nth-zero [] = refl
nth-zero (t ∷ ts) = nth-zero ts

-- lines count from 1
pub none_zero : (f : List ℕ) (number : ℕ) → number ≡ 0 → no_line ≡ line_answer number f
unfolding line_answer
none_zero f number e = rw e (sym (nth-zero (places f)))

abbrev place_at : ℕ → ℕ → LineAnswer
place_at a n = record { found = 1; at = a; len = n }

pub starts-at : (file : Bor (List ℕ)) (number : ℕ) (d : LineReader) → number ≢ 0 → d ≡ reader_at file 0 → Stands file.now number d 1
unfolding line_answer places lines_from
starts-at file number d h e =
    let n : number + 1 - 1 ≡ number = omega arith in
    rw e (record { same_file = refl; inside = omega arith; counted = (omega arith, omega arith); goes = rw n })

module _ (f : List ℕ) (number : ℕ) (d : LineReader) (k : ℕ) (t : Stands f number d k) where
  -- the lines from there on, and the file's end
  abbrev left : List Line
  left = lines_from f d.at ++ (end_line f ∷ [])

  -- a number is as small as the one asked for
  pub fits : number < 2 ^ 64 → k < 2 ^ 64
  fits h = let m = t.counted in omega (arith, m.1)

  -- in the file itself
  there : (found : Option Found) → Finds d.file.now d.at found → Finds f d.at found
  there found h = subst (λ (x : List ℕ). Finds x d.at found) t.same_file h

  module _ (m : k < number) where
    not_yet : number + 1 - k ≢ 1
    not_yet e = omega arith

    -- a line further on
    pub passes_on : (found : Option Found) (e : LineReader) → is_some found ≡ true → Finds d.file.now d.at found
        → e ≡ reader_at d.file (behind d.at found) → Stands f number e (k + 1)
    unfolding nth pick
    passes_on None e q h moved = cc
    passes_on (Some r) e q h moved =
        let c = (there (Some r) h).1 in
        let n : number + 1 - (k + 1) ≡ number + 1 - k - 1 = omega arith in
        rw moved
        (record {
          same_file = t.same_file;
          inside = c.inside;
          counted = (omega arith, omega arith);
          goes = rw n (sym (rw (c.lines, ne_eqb (number + 1 - k) 1 not_yet) refl) ∙ t.goes);
        })

    -- the file has ended before the line that is asked for
    pub beyond : (found : Option Found) → is_some found ≡ false → Finds d.file.now d.at found → no_line ≡ line_answer number f
    unfolding nth pick
    beyond (Some r) q h = cc
    beyond None q h =
        let b : nth (number + 1 - k) left ≡ no_line = rw (there None h, ne_eqb (number + 1 - k) 1 not_yet) in
        sym b ∙ t.goes

  module _ (m : number ≤ k) where
    one : number + 1 - k ≡ 1
    one = let c = t.counted in omega (arith, c.1)

    -- the line that is asked for
    at-line : (r : Found) → Finds f d.at (Some r) → answer_at (Some r) d.at ≡ line_answer number f
    unfolding nth pick
    at-line r (s, c) =
        let to = c.to in
        let inside = c.inside in
        let n : r.start + r.len - d.at ≡ r.len = omega arith in
        let long : length (take (r.start + r.len - d.at) (drop d.at f)) ≡ r.len = rw n (length-take-le r.len (drop d.at f) (omega (arith, length-drop d.at f))) in
        let b : nth (number + 1 - k) left ≡ place_at d.at _ = rw (one, c.lines) in
        ap (λ (x : ℕ). place_at x r.len) s ∙ (ap (place_at d.at) (sym long) ∙ (sym b ∙ t.goes))

    -- the file's end
    at_none : lines_from f d.at ≡ [] → answer_at None d.at ≡ line_answer number f
    unfolding nth pick lines_from
    at_none h =
        let e = ap length (lines_none d.at (drop d.at f) h) in
        let i = t.inside in
        let last : d.at ≡ length f = omega (arith, length-drop d.at f) in
        let b : nth (number + 1 - k) left ≡ place_at (length f) 0 = rw (one, h) in
        ap (λ (x : ℕ). place_at x 0) last ∙ (sym b ∙ t.goes)

    pub ends : (found : Option Found) → Finds d.file.now d.at found → answer_at found (behind d.at found) ≡ line_answer number f
    ends (Some r) h = at-line r (there (Some r) h)
    ends None h = at_none (there None h)
