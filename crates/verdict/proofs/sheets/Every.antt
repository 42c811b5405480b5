-- A sheet's line, and its bit, say that the file is accepted exactly if the file spells some batch on that sheet that day. Assumes nothing.
use Rattle.std.proofs.Common.{Some}
use mathlib.Core.Path.{◌≡◌, refl, sym, ap, ◌∙◌}
use mathlib.Core.Bool.{Bool, true, false}
use mathlib.Core.List.{List, [], ◌∷◌, ◌++◌}
use mathlib.Core.Logic.{◌↔◌}
use Prim.Native.Nat.{ℕ, zero, suc, ◌+◌, ◌-◌, ◌*◌, ◌/◌, ◌%◌, ◌^◌, ◌≤◌}
use native.Mathlib.Nat.{pow-suc, add-mul, mul_assoc}
use native.Mathlib.Numerals.{one-add}
use native.Mathlib.Omega.{arith}
use lib.ListN.{length, drop, get_or}
use lib.Seq.{drop-nil}
use lib.Pow.{shr-shr}
use Rattle.base.specs.Pick.{pick}
use Rattle.base.proofs.Cases.{either}
use Rattle.sheet.specs.declared.Sheet.{Sheet}
use Rattle.sheet.specs.Sheets.{sheets, sheet_of}
use Rattle.paper.specs.Bytes.{bytes}
use Rattle.paper.specs.Days.{real_day}
use Rattle.paper.specs.Batch.{Batch, Header}
use Rattle.paper.specs.Spells.{Spells}
use Rattle.paper.specs.Judge.{Answer, Refused, Accepted, judge}
use Rattle.paper.specs.Reading.{read_with}
use Rattle.tally.specs.Short.{brief}
use Rattle.tally.proofs.Short.{tally-is}
use Rattle.exact.proofs.Main.{exact}
use Rattle.exact.proofs.named.Main.{judge-named}
use Rattle.why.specs.Finding.{accepts}
use Rattle.verdict.specs.declared.Verdict.{Verdict}
use Rattle.verdict.specs.Sheets.{accepted_words, refused_words, verdict_words, sheet_line, accepting_on, accepting}
use Rattle.verdict.proofs.Laws.{in_brief, day-verdict}
use Rattle.verdict.proofs.sheets.Following.{follow, number, others, sheets-follow, here}
use borrow.Author.Tests.{ne_eqb}

-- some batch is spelled
abbrev pub SpellsSome : Sheet → ℕ → List ℕ → Type 0
SpellsSome sh today f = (h : Header) × (b : Batch) × (w : ℕ) × Spells sh today f h b w

-- ---- the line

-- `Sheet K: accepted, warnings W.` and LF
abbrev pub accepted_on : Sheet → ℕ → List ℕ
accepted_on sh w = bytes "Sheet " ++ (sh.letter ∷ accepted_words w)

-- the line of a sheet
abbrev pub line_on : Sheet → ℕ → List ℕ → List ℕ
line_on sh today f = sheet_line sh.letter (read_with (Some sh) today f (length f))

module _ (sh : Sheet) (today : ℕ) (f : List ℕ) where
  module _ (real : real_day today ≡ true) where
    line-is : (a : Answer) → judge sh today f ≡ a → line_on sh today f ≡ bytes "Sheet " ++ (sh.letter ∷ verdict_words (in_brief (brief a)))
    unfolding sheet_line
    line-is a e =
        ap (λ (v : Verdict). bytes "Sheet " ++ (sh.letter ∷ verdict_words v))
        (day-verdict sh today f real ∙ ap in_brief (tally-is sh today f) ∙ ap (λ (x : Answer). in_brief (brief x)) e)

    accepted-is : (h : Header) (b : Batch) (w : ℕ) → judge sh today f ≡ Accepted h b w → line_on sh today f ≡ accepted_on sh w
    unfolding verdict_words brief pick
    accepted-is h b w e = line-is (Accepted h b w) e

    refused-is : (n l p : ℕ) → judge sh today f ≡ Refused n l p → line_on sh today f ≡ bytes "Sheet " ++ (sh.letter ∷ refused_words n l p)
    unfolding verdict_words brief pick
    refused-is n l p e =
        line-is (Refused n l p) e ∙ rw (ne_eqb n 0 (λ z. omega (arith, (judge-named sh today f n l p e).0)))

    -- the tenth byte tells them apart
    apart : (w n l p : ℕ) → bytes "Sheet " ++ (sh.letter ∷ refused_words n l p) ≡ accepted_on sh w → ⊥
    unfolding accepted_words refused_words
    apart w n l p e = let z : ◌≡◌ {A = ℕ} 114 97 = ap (λ (s : List ℕ). get_or s 9 0) e in omega (arith, z)

    told : (w : ℕ) (a : Answer) → judge sh today f ≡ a → line_on sh today f ≡ accepted_on sh w → SpellsSome sh today f
    told w (Refused n l p) e z = absurd (apart w n l p (sym (refused-is n l p e) ∙ z))
    told w (Accepted h b w') e z = (h, b, w', (exact sh today f h b w').0 e)

    -- A file that spells a batch with w warnings is said to be accepted with w warnings,
    pub spelled-said : (h : Header) (b : Batch) (w : ℕ) → Spells sh today f h b w → line_on sh today f ≡ accepted_on sh w
    spelled-said h b w s = accepted-is h b w ((exact sh today f h b w).1 s)

    -- and no other file is said to be accepted.
    pub every-sheet : ((w : ℕ) × (line_on sh today f ≡ accepted_on sh w)) ↔ SpellsSome sh today f
    every-sheet = (λ s. told s.0 (judge sh today f) refl s.1, λ s. (s.2, spelled-said s.0 s.1 s.2 s.3))

-- ---- the bit

-- 1 for an accepted file, else 0
abbrev digit : Answer → ℕ
digit a = pick (accepts a) 1 0

module _ (sh : Sheet) (today : ℕ) (f : List ℕ) where
  one : (a : Answer) → judge sh today f ≡ a → digit a ≡ 1 → SpellsSome sh today f
  unfolding accepts pick
  one (Refused n l p) e z = absurd (omega (arith, z))
  one (Accepted h b w) e z = (h, b, w, (exact sh today f h b w).0 e)

  one-also : SpellsSome sh today f → digit (judge sh today f) ≡ 1
  unfolding accepts pick
  one-also s = rw ((exact sh today f s.0 s.1 s.2).1 s.3)

digit-most : (a : Answer) → digit a ≤ 1
digit-most a = either (λ (n : ℕ). n ≤ 1) (accepts a) (λ _. omega arith) (λ _. omega arith)

weighed : (t : Bool) (p : ℕ) → pick t p 0 ≡ pick t 1 0 * p
unfolding pick
weighed true p = omega arith
weighed false p = omega arith

module _ (today : ℕ) (f : List ℕ) where
  -- the bits of some sheets, that of the first as the lowest
  unfoldable bits : List Sheet → ℕ
  bits [] = 0
  bits (sh ∷ shs) = digit (judge sh today f) + 2 * bits shs

  weights : (j : ℕ) (shs : List Sheet) → follow (suc j) shs ≡ true → accepting_on today f shs ≡ bits shs * 2 ^ j
  unfolding bits accepting_on
  weights j [] w = omega arith
  weights j (a ∷ shs) w =
      let place : a.number - 1 ≡ j = omega (arith, number a shs (suc j) w) in
      let t = accepts (judge a today f) in
      let d = digit (judge a today f) in
      let low : pick t (2 ^ (a.number - 1)) 0 ≡ d * 2 ^ j = ap (λ (n : ℕ). pick t (2 ^ n) 0) place ∙ weighed t (2 ^ j) in
      let up : bits shs * 2 ^ suc j ≡ bits shs * 2 ^ j * 2 = rw (pow-suc, ← mul_assoc) in
      omega (arith, low, up, weights (suc j) shs (others a shs (suc j) w), add-mul d (2 * bits shs) (2 ^ j), mul_assoc 2 (bits shs) (2 ^ j))

  nth-bit : (i : ℕ) (shs rest : List Sheet) (sh : Sheet) → drop i shs ≡ sh ∷ rest → bits shs / 2 ^ i % 2 ≡ digit (judge sh today f)
  unfolding bits
  nth-bit i [] rest sh e = absurd (let z : 0 ≡ suc (length rest) = ap length (sym (drop-nil i) ∙ e) in omega (arith, z))
  nth-bit zero (a ∷ shs) rest sh e =
      let same : a ≡ sh = cc in
      let d = digit (judge a today f) in
      let low : (d + 2 * bits shs) / 1 % 2 ≡ d = omega (arith, digit-most (judge a today f)) in
      low ∙ ap (λ (x : Sheet). digit (judge x today f)) same
  nth-bit (suc i) (a ∷ shs) rest sh e =
      let n = digit (judge a today f) + 2 * bits shs in
      let half : n / 2 ≡ bits shs = omega (arith, digit-most (judge a today f)) in
      let up : n / 2 ^ suc i ≡ bits shs / 2 ^ i = ap (λ (k : ℕ). n / 2 ^ k) (sym (one-add i)) ∙ sym (shr-shr n 1 i) ∙ ap (λ (k : ℕ). k / 2 ^ i) half in
      ap (λ (k : ℕ). k % 2) up ∙ nth-bit i shs rest sh e

  -- Bit n is set exactly if the file spells some batch on the sheet n + 1.
  pub every-bit : (n : ℕ) (sh : Sheet) → sheet_of (n + 1) ≡ Some sh → accepting today f / 2 ^ n % 2 ≡ 1 ↔ SpellsSome sh today f
  unfolding accepting
  every-bit n sh named =
      let all : accepting today f ≡ bits sheets = omega (arith, weights 0 sheets sheets-follow) in
      let bit : accepting today f / 2 ^ n % 2 ≡ digit (judge sh today f) =
      ap (λ (k : ℕ). k / 2 ^ n % 2) all ∙ nth-bit n sheets _ sh (here n (sheet_of (n + 1)) refl sh named).rest in
      (λ z. one sh today f (judge sh today f) refl (sym bit ∙ z), λ s. bit ∙ one-also sh today f s)
