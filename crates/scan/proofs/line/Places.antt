-- A line's bytes stand in the file where the line starts: so a text's place in its line is a place in the file. Assumes nothing.
use mathlib.Core.Path.{◌≡◌, refl, sym, ap, ◌∙◌}
use mathlib.Core.List.{List, [], ◌∷◌}
use Prim.Native.Nat.{ℕ, zero, suc, ◌+◌, ◌-◌, ◌≤◌, ◌<◌}
use native.Mathlib.Omega.{arith}
use lib.ListN.{length, take, drop, length-drop}
use Rattle.base.proofs.Cases.{either}
use Rattle.base.proofs.Lists.{empty-cons}
use Rattle.paper.specs.Lines.{Line, first, ended, behind, lines_of}

-- the line t stands in f
pub record Stands (f : List ℕ) (t : Line) : Type 0 where
  pub here : take (length t.bytes) (drop t.start f) ≡ t.bytes
  pub room : t.start + length t.bytes ≤ length f

-- every line of ts does
abbrev pub Stand : List ℕ → List Line → Type 0
Stand f [] = Unit {0}
Stand f (t ∷ ts) = Stands f t × Stand f ts

-- the first of ts, if there is one, starts at i
abbrev From : ℕ → List Line → Type 0
From i [] = Unit {0}
From i (t ∷ ts) = t.start ≡ i

record Good (f : List ℕ) (i : ℕ) (ts : List Line) : Type 0 where
  stand : Stand f ts
  from : From i ts

drop-next : (f : List ℕ) (i b : ℕ) (s : List ℕ) → drop i f ≡ b ∷ s → drop (suc i) f ≡ s
drop-next [] zero b s e = empty-cons e
drop-next [] (suc i) b s e = empty-cons e
drop-next (x ∷ f) zero b s e = cc
drop-next (x ∷ f) (suc i) b s e = drop-next f i b s e

module _ (f : List ℕ) (i b : ℕ) (s : List ℕ) (e : drop i f ≡ b ∷ s) where
  inside : i < length f
  inside = let n : length f - i ≡ suc (length s) = sym (length-drop i f) ∙ ap length e in omega arith

  good-first : (ts : List Line) → Good f (suc i) ts → Good f i (first i b ts)
  good-first [] g = record { stand = (record { here = rw e refl; room = omega (arith, inside) }, tt); from = refl }
  good-first (t ∷ ts) g =
      let h = g.stand.0.here in
      let l = g.stand.0.room in
      record {
        stand = (
          record {
            here = rw e (ap (λ (l : List ℕ). b ∷ l) (rw (g.from, drop-next f i b s e) at h));
            room = omega (arith, g.from);
          },
          g.stand.1,
        );
        from = refl;
      }

  good-ended : (ts : List Line) → Stand f ts → Good f i (ended i ts)
  good-ended ts g = record { stand = (record { here = refl; room = omega (arith, inside) }, g); from = refl }

  good-behind : (ts : List Line) → Good f (suc i) ts → Good f i (behind i ts)
  good-behind [] g = record { stand = tt; from = tt }
  good-behind (t ∷ ts) g = good-ended ts g.stand.1

lines-good : (f s : List ℕ) (i : ℕ) → drop i f ≡ s → Good f i (lines_of i s)
unfolding lines_of
lines-good f [] i e = record { stand = tt; from = tt }
lines-good f (b ∷ s) i e =
    let g = lines-good f s (suc i) (drop-next f i b s e) in
    either (Good f i) _ (λ _. good-ended f i b s e _ g.stand)
    (λ _. either (Good f i) _ (λ _. either (Good f i) _ (λ _. good-behind f i b s e _ g) (λ _. good-ended f i b s e _ g.stand)) (λ _. good-first f i b s e _ g))

pub lines-stand : (f : List ℕ) → Stand f (lines_of 0 f)
lines-stand f = (lines-good f f 0 refl).stand
