-- The line of a number among lines that are kept last one first. Assumes nothing.
use mathlib.Core.Path.{◌≡◌, refl, ◌∙◌}
use mathlib.Core.List.{List, [], ◌∷◌, ◌++◌}
use Prim.Native.Nat.{ℕ, suc, ◌+◌, ◌-◌, ◌≤◌}
use native.Mathlib.Omega.{arith}
use lib.ListN.{length}
use borrow.Author.Tests.{ne_eqb}
use Rattle.base.specs.Pick.{pick}
use Rattle.paper.specs.Lines.{Line}
use Rattle.paper.specs.Judge.{rev_on}
use Rattle.reader.specs.Named.{is_line, nth}
use Rattle.reader.specs.shown.Holding.{Holds}

-- the byte p is one of the line t, or stands right behind its last one
abbrev pub Inside : Line → ℕ → Type 0
Inside t p = (t.start ≤ p) × (p ≤ t.start + length t.bytes)

-- so it is of line number l of these, last one first
pub data Among : List Line → ℕ → ℕ → Type 0 where
  here : {t : Line} {ts : List Line} {p : ℕ} → Inside t p → Among (t ∷ ts) (suc (length ts)) p
  there : {t : Line} {ts : List Line} {l p : ℕ} → Among ts l p → Among (t ∷ ts) l p

nth-rev : (before ts : List Line) (n : ℕ) → nth (length before + suc n) (rev_on before ts) ≡ nth (suc n) ts
unfolding nth pick
nth-rev [] ts n = let e : 0 + suc n ≡ suc n = omega arith in rw e
nth-rev (u ∷ before) ts n =
    let e : length (u ∷ before) + suc n ≡ length before + suc (suc n) = omega arith in
    let m : suc (suc n) - 1 ≡ suc n = omega arith in
    rw e (nth-rev before (u ∷ ts) (suc n) ∙ rw (ne_eqb (suc (suc n)) 1 (λ z. absurd (omega arith)), m))

-- the line behind `before`
pub nth-behind : (before : List Line) (t : Line) (ts : List Line) → nth (suc (length before)) (rev_on before (t ∷ ts)) ≡ is_line t
unfolding nth pick
nth-behind before t ts = let e : length before + 1 ≡ suc (length before) = omega arith in rw e at (nth-rev before (t ∷ ts) 0)

pub rev-append : (before ts us : List Line) → rev_on before ts ++ us ≡ rev_on before (ts ++ us)
rev-append [] ts us = refl
rev-append (u ∷ before) ts us = rev-append before (u ∷ ts) us

-- ---- a place in one of the lines lies in the line of its number

pub holds-behind : (before : List Line) (t : Line) (ts : List Line) (p : ℕ) → Inside t p → Holds (nth (suc (length before)) (rev_on before (t ∷ ts))) p
holds-behind before t ts p i = rw (nth-behind before t ts) (refl, i.0, i.1)

pub holds-among : {before : List Line} {l p : ℕ} → Among before l p → (ts : List Line) → Holds (nth l (rev_on before ts)) p
holds-among (here {t = t} {ts = before} {p = p} i) ts = holds-behind before t ts p i
holds-among (there {t = t} a) ts = holds-among a (t ∷ ts)
