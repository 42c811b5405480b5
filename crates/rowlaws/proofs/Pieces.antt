-- The places of a text's pieces: each stands in its line where the reading says. Assumes nothing.
use mathlib.Core.Path.{◌≡◌, refl, ap}
use mathlib.Core.List.{List, [], ◌∷◌, map}
use Prim.Native.Nat.{ℕ, zero, suc, ◌+◌}
use lib.Dec.{eqb}
use lib.ListN.{length, take, drop}
use Rattle.base.specs.Seek.{seek, before}
use Rattle.base.proofs.Cases.{either}
use Rattle.sheet.specs.declared.Style.{Style}
use Rattle.paper.specs.Read.{Field, value, fault}
use Rattle.paper.specs.Bytes.{bar, null}
use Rattle.paper.specs.Texts.{Piece, piece, Noted, others, divide, cut, pad, fitted, finish, message_end, message, marked, read_text}
use Rattle.rowlaws.specs.Places.{Here, Lies, Lie, Placed}
use Rattle.rowlaws.proofs.Here.{here-take, here-drop}

-- what is read has its pieces in their places
pub data Outcome (w : List ℕ) : Field Noted → Type 0 where
  of_value : {x : Noted} → Placed w x → Outcome w (value x)
  of_fault : {n : ℕ} → Outcome w (fault n)

pub outcome-value : {w : List ℕ} {x : Noted} → Outcome w (value x) → Placed w x
outcome-value (of_value p) = p

module _ (w : List ℕ) where
  lies-cut : (p : Piece) → Lies w p → Lies w (cut p)
  unfolding cut
  lies-cut p h = either (Lies w) (null p.bytes) (λ _. refl) (λ _. here-take w p.place p.bytes h 35)

  lie_cut : (ps : List Piece) → Lie w ps → Lie w (map cut ps)
  lie_cut [] h = tt
  lie_cut (p ∷ ps) h = (lies-cut p h.0, lie_cut ps h.1)

  lie-pad : (n : ℕ) (ps : List Piece) → Lie w ps → Lie w (pad n ps)
  unfolding pad
  lie-pad zero ps h = tt
  lie-pad (suc n) [] h = (refl, lie-pad n [] tt)
  lie-pad (suc n) (p ∷ ps) h = (h.0, lie-pad n ps h.1)

  pad-length : (n : ℕ) (ps : List Piece) → length (pad n ps) ≡ n
  unfolding pad
  pad-length zero ps = refl
  pad-length (suc n) [] = ap suc (pad-length n [])
  pad-length (suc n) (p ∷ ps) = ap suc (pad-length n ps)

  lie-others : (at : ℕ) (s : List ℕ) → Here w at s → Lie w (others at s)
  unfolding others
  lie-others at [] h = tt
  lie-others at (x ∷ s) h =
      let r : Here w (at + 1) s = here-drop w at (x ∷ s) h 1 in
      either (Lie w) (eqb x 124) {a = piece (at + 1) (before bar s) ∷ others (at + 1) s} {b = others (at + 1) s}
      (λ _. (here-take w (at + 1) s r (seek bar s), lie-others (at + 1) s r))
      (λ _. lie-others (at + 1) s r)

  lie-divide : (at : ℕ) (s : List ℕ) → Here w at s → Lie w (divide at s)
  lie-divide at s h = (here-take w at s h (seek bar s), lie-others at s h)

  module _ (y : Style) where
    fits : (ps : List Piece) (n : Piece) → Lie w ps → Lies w n → Outcome w (fitted y ps n)
    unfolding fitted
    fits ps n h i =
        either (Outcome w) _ (λ _. of_fault)
        (λ _. either (Outcome w) _
        (λ _. of_value (record { four = pad-length 4 (map cut ps); parts = lie-pad 4 (map cut ps) (lie_cut ps h); name = lies-cut n i }))
        (λ _. of_fault))

    finished : (ps : List Piece) (n : Piece) → Lie w ps → Lies w n → Outcome w (finish y ps n)
    unfolding finish
    finished ps n h i = either (Outcome w) _ (λ _. fits ps n h i) (λ _. of_fault)

    messaged : (at : ℕ) (m : List ℕ) → Here w at m → Outcome w (message y at m)
    unfolding message
    messaged at m h =
        finished (divide at (take (message_end y m) m)) (piece (at + (message_end y m + 4)) (drop (message_end y m + 4) m))
        (lie-divide at (take (message_end y m) m) (here-take w at m h (message_end y m)))
        (here-drop w at m h (message_end y m + 4))

    marked-so : (at : ℕ) (t : List ℕ) → Here w at t → Outcome w (marked y at t)
    unfolding marked
    marked-so at t h =
        either (Outcome w) _ (λ _. finished (piece at [] ∷ []) (piece (at + 3) (drop 3 t)) (refl, tt) (here-drop w at t h 3))
        (λ _. either (Outcome w) _ (λ _. messaged (at + 3) (drop 3 t) (here-drop w at t h 3))
        (λ _. either (Outcome w) _ (λ _. messaged at t h) (λ _. of_fault)))

    -- whatever line a text stands in
    pub text-outcome : (at : ℕ) (t : List ℕ) → Here w at t → Outcome w (read_text y at t)
    unfolding read_text
    text-outcome at t h =
        either (Outcome w) _
        (λ _. either (Outcome w) _ (λ _. either (Outcome w) _ (λ _. marked-so at t h) (λ _. of_fault)) (λ _. messaged at t h))
        (λ _. of_fault)

    -- the pieces of an accepted text stand where it says
    pub text-places : (at : ℕ) (t : List ℕ) (x : Noted) → Here w at t → read_text y at t ≡ value x → Placed w x
    text-places at t x h e = outcome-value (rw e at (text-outcome at t h))
