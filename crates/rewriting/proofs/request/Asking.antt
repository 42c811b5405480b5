-- What the first line asks for, at each return of the functions that read it. Assumes nothing.
use Rattle.std.proofs.Common.{Option, Some, None, Result, Ok, Err}
use Rattle.refusal.specs.declared.Refusal.{Refusal}
use Rattle.refusal.specs.Numbers.{number_of}
use mathlib.Core.Path.{◌≡◌, refl, sym, ap, ◌∙◌}
use mathlib.Core.Bool.{true, false}
use mathlib.Core.List.{List, [], ◌∷◌}
use Prim.Native.Nat.{ℕ, zero, suc, ◌-◌, ◌≤◌, ◌<◌}
use native.Mathlib.Omega.{arith}
use lib.Dec.{eqb, leb}
use lib.ListN.{length, get_or, take, drop}
use lib.Seq.{take_all}
use borrow.Author.Tests.{leb-true, lt-ltb, le-ltb, eq-eqb, ne_eqb}
use Rattle.base.specs.Pick.{pick}
use Rattle.base.proofs.Cases.{by-test, pick_true, pick-false}
use Rattle.sheet.specs.declared.Sheet.{Sheet}
use Rattle.sheet.specs.Sheets.{sheet_of, sheet_by}
use Rattle.sheet.proofs.Laws.{every-letter, sheet-letter, number_same}
use Rattle.paper.specs.Read.{value, fault}
use Rattle.paper.specs.Days.{real_day, read_day, short_day}
use Rattle.paper.specs.Judge.{judge}
use Rattle.paper.specs.Explaining.{refused_line}
use Rattle.paper.specs.Rewriting.{first_line, behind_first, rewritten, on_day, day_field, on_sheet, on_letter, rewriting}
use Rattle.numeral.specs.Told.{told}
use Rattle.calendar.proofs.Sound.{day-sound}
use Rattle.scan.specs.declared.line.Cut.{Cut}
use Rattle.scan.specs.line.Cutting.{Cuts}
use Rattle.rewriting.proofs.request.First.{plain-first, first-cut}

-- ---- the day

day-short : (s : List ℕ) → read_day false s ≡ short_day s
unfolding read_day pick
day-short s = refl

module _ (s : List ℕ) where
  pub today-none : length s ≡ 0 → fault 2 ≡ day_field s
  unfolding day_field
  today-none = none s
    where
      none : (t : List ℕ) → length t ≡ 0 → fault 2 ≡ day_field t
      none [] e = refl
      none (x ∷ t) e = absurd (omega arith)

  pub today-other : (length s ≡ 0 → ⊥) → (get_or s 0 0 ≡ 32 → ⊥) → fault 2 ≡ day_field s
  unfolding day_field
  today-other = other s
    where
      other : (t : List ℕ) → (length t ≡ 0 → ⊥) → (get_or t 0 0 ≡ 32 → ⊥) → fault 2 ≡ day_field t
      other [] some n = absurd (some refl)
      other (x ∷ t) some n = sym (pick-false _ _ (ne_eqb x 32 n))

  -- n is what read_day answered for what stands behind the space
  pub today-read : (length s ≡ 0 → ⊥) → get_or s 0 0 ≡ 32 → (n : Result ℕ Refusal) → told n ≡ read_day false (take (length s - 1) (drop 1 s)) → told n ≡ day_field s
  unfolding day_field
  today-read = read s
    where
      read : (t : List ℕ) → (length t ≡ 0 → ⊥) → get_or t 0 0 ≡ 32 → (n : Result ℕ Refusal) → told n ≡ read_day false (take (length t - 1) (drop 1 t)) → told n ≡ day_field t
      read [] some e n g = absurd (some refl)
      read (x ∷ t) some e n g =
          let all : take (length (x ∷ t) - 1) t ≡ t = take_all (length (x ∷ t) - 1) t (omega arith) in
          g ∙ ap (read_day false) all ∙ day-short t ∙ sym (pick_true _ _ (eq-eqb x 32 e))

pub ruleset todays = (today-none, today-other, today-read)

-- a day that was read is real
pub today-real : (s : List ℕ) (d : ℕ) → day_field s ≡ value d → real_day d ≡ true
unfolding day_field
today-real [] d e = absurd (let z : ◌≡◌ {A = ℕ} 0 1 = cc in omega arith)
today-real (x ∷ s) d e =
    by-test (eqb x 32)
    (λ t. day-sound false s d (day-short s ∙ (sym (pick_true _ _ t) ∙ e)))
    (λ t. absurd (let q : fault 2 ≡ value d = sym (pick-false _ _ t) ∙ e in let z : ◌≡◌ {A = ℕ} 0 1 = cc in omega arith))

-- ---- the letter

letter-high : (b : ℕ) (sh : Sheet) → sheet_by b ≡ Some sh → 14 ≤ b
letter-high b sh e =
    let h = leb-true 14 sh.letter (every-letter b sh e (λ x. leb 14 x.letter) refl) in
    omega (arith, h, sheet-letter b sh e)

letter-first : (b : ℕ) (s : List ℕ) → 14 ≤ b → first_line (b ∷ s) ≡ b ∷ first_line s
letter-first b s h = plain-first b (ne_eqb b 10 (λ q. omega (arith, q, h))) (ne_eqb b 13 (λ q. omega (arith, q, h))) s

on-letter : (b : ℕ) (s : List ℕ) (sh : Sheet) → sheet_by b ≡ Some sh → rewriting (b ∷ s) ≡ on_day sh (b ∷ s) (day_field (first_line s))
unfolding rewriting on_letter on_sheet
on-letter b s sh e = rw (letter-first b s (letter-high b sh e), e) refl

-- the part of the line behind the letter
behind-letter : (b : ℕ) (s : List ℕ) (stop : ℕ) → 14 ≤ b → take stop (b ∷ s) ≡ first_line (b ∷ s) → (1 ≤ stop) × (take (stop - 1) s ≡ first_line s)
behind-letter b s zero h e = absurd (let q : [] ≡ b ∷ first_line s = e ∙ letter-first b s h in let z : ◌≡◌ {A = ℕ} 0 1 = cc in omega arith)
behind-letter b s (suc k) h e =
    let q : b ∷ take k s ≡ b ∷ first_line s = e ∙ letter-first b s h in
    let r : take k s ≡ first_line s = cc in
    let m : suc k - 1 ≡ k = omega arith in
    (omega arith, ap (λ (n : ℕ). take n s) m ∙ r)

record Asked (f : List ℕ) (sh : Sheet) (r : Cut) : Type 0 where
  by_day : rewriting f ≡ on_day sh f (day_field (take (r.stop - 1) (drop 1 f)))
  rest : drop r.next f ≡ behind_first f
  letter : 1 ≤ r.stop

asked : (f : List ℕ) (sh : Sheet) (r : Cut) → 0 < length f → sheet_by (get_or f 0 0) ≡ Some sh → Cuts f 0 r → Asked f sh r
asked [] sh r l e c = absurd (omega arith)
asked (b ∷ s) sh r l e c =
    let (front, rest) = first-cut (b ∷ s) r l c in
    let (some, day) = behind-letter b s r.stop (letter-high b sh e) front in
    record { by_day = on-letter b s sh e ∙ ap (λ (t : List ℕ). on_day sh (b ∷ s) (day_field t)) (sym day); rest = rest; letter = some }

-- ---- on_sheet: r is the cut

module _ (f : List ℕ) (sh : Sheet) (r : Cut) (some : 0 < length f) (named : sheet_by (get_or f 0 0) ≡ Some sh) (cut : Cuts f 0 r) where
  pub ask-start : 1 ≤ r.stop
  ask-start = (asked f sh r some named cut).letter

  pub ask-sub : r.stop ≤ length f
  ask-sub = let a = cut.to in let b = cut.inside in omega arith

  pub ask-inside : r.next ≤ length f
  ask-inside = cut.inside

  pub ask-known : sheet_of sh.number ≡ Some sh
  ask-known = number_same (get_or f 0 0) sh named

  -- n is what read_today answered
  module _ (n : Result ℕ Refusal) (g : told n ≡ day_field (take (r.stop - 1) (drop 1 f))) where
    pub ask-no-day : (e : Refusal) → n ≡ Err e → refused_line 2 0 0 ≡ rewriting f
    unfolding on_day
    ask-no-day e q =
        let d : day_field (take (r.stop - 1) (drop 1 f)) ≡ fault (number_of e) = sym g ∙ ap told q in
        sym ((asked f sh r some named cut).by_day ∙ ap (on_day sh f) d)

    module _ (today : ℕ) (q : n ≡ Ok today) where
      day : day_field (take (r.stop - 1) (drop 1 f)) ≡ value today
      day = sym g ∙ ap told q

      pub ask-long : 8192 < length f → refused_line 16 0 0 ≡ rewriting f
      unfolding on_day
      ask-long l = sym ((asked f sh r some named cut).by_day ∙ ap (on_day sh f) day ∙ pick_true _ _ (lt-ltb 8192 (length f) l))

      pub ask-file : length f ≤ 8192 → rewritten sh (judge sh today (drop r.next f)) ≡ rewriting f
      unfolding on_day
      ask-file l =
          ap (λ (t : List ℕ). rewritten sh (judge sh today t)) (asked f sh r some named cut).rest
          ∙ sym ((asked f sh r some named cut).by_day ∙ ap (on_day sh f) day ∙ pick-false _ _ (le-ltb 8192 (length f) l))

      pub ask-real : real_day today ≡ true
      ask-real = today-real (take (r.stop - 1) (drop 1 f)) today day

pub ruleset asks = (ask-start, ask-sub, ask-inside, ask-known, ask-no-day, ask-long, ask-file, ask-real)

-- ---- read_request

end-lf : (b : ℕ) (s : List ℕ) → eqb b 10 ≡ true → first_line (b ∷ s) ≡ []
unfolding first_line
end-lf b s e = pick_true _ _ e

end-cr : (b : ℕ) (s : List ℕ) → eqb b 10 ≡ false → eqb b 13 ≡ true → first_line (b ∷ s) ≡ []
unfolding first_line
end-cr b s e f = pick-false _ _ e ∙ pick_true _ _ f

-- the line is empty, or it begins with a byte that is no sheet's letter
no-letter : (b : ℕ) (s : List ℕ) → sheet_by b ≡ None → rewriting (b ∷ s) ≡ refused_line 1 0 0
unfolding rewriting on_letter on_sheet
no-letter b s e =
    let on : List ℕ → List ℕ = λ t. on_letter t (b ∷ s) in
    by-test (eqb b 10)
    (λ lf. ap on (end-lf b s lf))
    (λ no-lf. by-test (eqb b 13)
    (λ cr. ap on (end-cr b s no-lf cr))
    (λ no-cr. ap on (plain-first b no-lf no-cr s) ∙ ap (λ (k : Option Sheet). on_sheet k (first_line s) (b ∷ s)) e))

module _ (f : List ℕ) where
  pub ask-empty : length f ≡ 0 → refused_line 1 0 0 ≡ rewriting f
  unfolding rewriting first_line on_letter
  ask-empty = empty f
    where
      empty : (t : List ℕ) → length t ≡ 0 → refused_line 1 0 0 ≡ rewriting t
      empty [] e = refl
      empty (x ∷ t) e = absurd (omega arith)

  pub ask-some : (length f ≡ 0 → ⊥) → 0 < length f
  ask-some n = omega arith

  -- k is what sheet_by answered
  pub ask-nothing : (length f ≡ 0 → ⊥) → (k : Option Sheet) → k ≡ sheet_by (get_or f 0 0) → k ≡ None → refused_line 1 0 0 ≡ rewriting f
  ask-nothing = nothing f
    where
      nothing : (t : List ℕ) → (length t ≡ 0 → ⊥) → (k : Option Sheet) → k ≡ sheet_by (get_or t 0 0) → k ≡ None → refused_line 1 0 0 ≡ rewriting t
      nothing [] some k g e = absurd (some refl)
      nothing (b ∷ t) some k g e = sym (no-letter b t (sym g ∙ e))

  pub ask-named : (k : Option Sheet) → k ≡ sheet_by (get_or f 0 0) → (sh : Sheet) → k ≡ Some sh → sheet_by (get_or f 0 0) ≡ Some sh
  ask-named k g sh e = sym g ∙ e

pub ruleset requests = (ask-empty, ask-some, ask-nothing, ask-named)

pub ruleset exits = (todays, asks, requests)
