-- What a text warns of, by the parts and the name that are kept of it and their places in the line. Assumes nothing.
use mathlib.Core.Path.{◌≡◌, refl, sym, ap, ◌∙◌}
use mathlib.Core.List.{List, [], ◌∷◌, ◌++◌, map}
use mathlib.Core.Logic.{◌⊎◌, inl, inr, ⊎_elim}
use Prim.Native.Nat.{ℕ, zero, suc, ◌+◌, ◌≤◌}
use native.Mathlib.Omega.{arith}
use lib.Dec.{ltb, eqb}
use lib.ListN.{length, take, drop, length-take, length-map}
use lib.Seq.{drop-drop, take-nil}
use borrow.Author.Tests.{lt-ltb, le-ltb, ltb-false}
use Rattle.base.specs.Pick.{pick}
use Rattle.base.specs.Seek.{seek, before, starts}
use Rattle.base.proofs.Cases.{by-test, by-lt, either, pick_true, pick-false}
use Rattle.sheet.specs.declared.Style.{Style}
use Rattle.paper.specs.Read.{Field, value, fault}
use Rattle.paper.specs.Warnings.{Warning, long_part, long_name, Notice, notice}
use Rattle.paper.specs.Bytes.{bar, mark, null}
use Rattle.paper.specs.Texts.{Piece, piece, Noted, others, cut, over, overs, cuts, pad, finish, fitted, message_end, message, marked, read_text}
use Rattle.why.specs.Warned.{part_from}

-- ---- one piece

-- a notice of a kept piece of 35 bytes, if the n bytes that stand at its place are more
unfoldable pub over_at : Warning → ℕ → Piece → List Notice
over_at v n p = pick (ltb (length p.bytes) 35) [] (pick (ltb 35 n) (notice v p.place ∷ []) [])

-- n says how many stand where
over-cut : (v : Warning) (n : ℕ → ℕ) (at : ℕ) (b : List ℕ) → (1 ≤ length b → length b ≡ n at) → over_at v (n (cut (piece at b)).place) (cut (piece at b)) ≡ over v (piece at b)
unfolding over_at cut over null pick
over-cut v n at [] h = refl
over-cut v n at (x ∷ b) h =
    by-lt (length (x ∷ b)) 35
    (λ l. pick_true _ _ (lt-ltb (length (take 35 (x ∷ b))) 35 (omega (arith, length-take 35 (x ∷ b)))) ∙ sym (pick-false _ _ (le-ltb 35 (length (x ∷ b)) (omega arith))))
    (λ l.
    pick-false _ _ (le-ltb (length (take 35 (x ∷ b))) 35 (omega (arith, length-take 35 (x ∷ b))))
    ∙ ap (λ (m : ℕ). pick (ltb 35 m) (notice v at ∷ []) []) (sym (h (omega arith))))

module _ (y : Style) (w : List ℕ) where
  abbrev pub part_at : Piece → List Notice
  part_at p = over_at long_part (length (part_from y (drop p.place w))) p

  abbrev pub name_at : Piece → List Notice
  name_at p = over_at long_name (length (drop p.place w)) p

  -- of each of several parts
  unfoldable pub parts_at : List Piece → List Notice
  parts_at [] = []
  parts_at (p ∷ ps) = part_at p ++ parts_at ps

  -- ---- what is kept of pieces that were found in the line

  -- a part that has bytes stands at its place, as long as it was found
  abbrev Right : Piece → Type 0
  Right p = 1 ≤ length p.bytes → length p.bytes ≡ length (part_from y (drop p.place w))

  -- .. and so does a name, to the line's end
  abbrev RightName : Piece → Type 0
  RightName p = 1 ≤ length p.bytes → length p.bytes ≡ length (drop p.place w)

  data Rights : List Piece → Type 0 where
    none : Rights []
    more : {p : Piece} {ps : List Piece} → Right p → Rights ps → Rights (p ∷ ps)

  parts_cut : {ps : List Piece} → Rights ps → parts_at (map cut ps) ≡ overs ps
  unfolding parts_at overs
  parts_cut none = refl
  parts_cut (more {p = p} {ps = ps} h r) =
      rw (over-cut long_part (λ k. length (part_from y (drop k w))) p.place p.bytes h, parts_cut r)

  parts-pad : (n : ℕ) (ps : List Piece) → length ps ≤ n → parts_at (pad n ps) ≡ parts_at ps
  unfolding parts_at pad over_at pick
  parts-pad zero [] h = refl
  parts-pad zero (p ∷ ps) h = absurd (omega arith)
  parts-pad (suc n) [] h = parts-pad n [] (omega arith)
  parts-pad (suc n) (p ∷ ps) h = ap (λ (l : List Notice). part_at p ++ l) (parts-pad n ps (omega arith))

  cuts_are : (ps : List Piece) (n : Piece) → Rights ps → RightName n → length ps ≤ 4 → cuts ps n ≡ parts_at (pad 4 (map cut ps)) ++ name_at (cut n)
  cuts_are ps n r s l =
      rw (parts-pad 4 (map cut ps) (omega (arith, length-map ps cut)), parts_cut r, over-cut long_name (λ k. length (drop k w)) n.place n.bytes s)

  -- ---- the parts of a message

  end_step : (x : ℕ) (s : List ℕ) → (message_end y (x ∷ s) ≡ 0) ⊎ (message_end y (x ∷ s) ≡ suc (message_end y s))
  unfolding message_end seek pick
  end_step x s = by-test y.names (λ e. by-test (starts mark (x ∷ s)) (λ f. inl (rw (e, f))) (λ f. inr (rw (e, f)))) (λ e. inr (rw e))

  -- what stands before the first `|` of the message m at `at`
  first-right : (at : ℕ) (m : List ℕ) → drop at w ≡ m → Right (piece at (before bar (take (message_end y m) m)))
  unfolding part_from
  first-right at m e h = rw e

  next_place : (at x : ℕ) (s : List ℕ) → drop at w ≡ x ∷ s → drop (at + 1) w ≡ s
  next_place at x s e = sym (drop-drop 1 at w) ∙ ap (drop 1) e

  others-right : (at : ℕ) (m : List ℕ) → drop at w ≡ m → Rights (others at (take (message_end y m) m))
  unfolding others
  others-right at [] e = rw (take-nil {A = ℕ} (message_end y [])) none
  others-right at (x ∷ s) e =
      let d = next_place at x s e in
      ⊎_elim
      (λ z. rw z none)
      (λ z. rw z (either Rights (eqb x 124) (λ _. more (first-right (at + 1) s d) (others-right (at + 1) s d)) (λ _. others-right (at + 1) s d)))
      (end_step x s)

  name-right : (at k : ℕ) (m : List ℕ) → drop at w ≡ m → RightName (piece (at + k) (drop k m))
  name-right at k m e h = rw (← e, drop-drop k at w)

  -- ---- a text that is read

  -- its warnings are those of the pieces that are kept
  pub data Kept : Field Noted → Type 0 where
    kept : {x : Noted} → x.warnings ≡ parts_at x.parts ++ name_at x.name → Kept (value x)
    refused : {n : ℕ} → Kept (fault n)

  pub kept-value : {x : Noted} → Kept (value x) → x.warnings ≡ parts_at x.parts ++ name_at x.name
  kept-value (kept e) = e

  module _ (four : y.most ≤ 4) where
    finish-kept : (ps : List Piece) (n : Piece) → Rights ps → RightName n → Kept (finish y ps n)
    unfolding finish fitted
    finish-kept ps n r s =
        either Kept _
        (λ _. either Kept (ltb y.most (length ps)) (λ _. refused)
        (λ e. either Kept _ (λ _. kept (cuts_are ps n r s (omega (arith, ltb-false y.most (length ps) e)))) (λ _. refused)))
        (λ _. refused)

    message-kept : (at : ℕ) (m : List ℕ) → drop at w ≡ m → Kept (message y at m)
    unfolding message
    message-kept at m e =
        finish-kept _ _ (more (first-right at m e) (others-right at m e)) (name-right at (message_end y m + 4) m e)

    empty_right : (at : ℕ) → Right (piece at [])
    empty_right at h = absurd (omega arith)

    marked-kept : (at : ℕ) (t : List ℕ) → drop at w ≡ t → Kept (marked y at t)
    unfolding marked
    marked-kept at t e =
        either Kept _
        (λ _. finish-kept _ _ (more (empty_right at) none) (name-right at 3 t e))
        (λ _. either Kept _ (λ _. message-kept (at + 3) (drop 3 t) (sym (drop-drop 3 at w) ∙ ap (drop 3) e)) (λ _. either Kept _ (λ _. message-kept at t e) (λ _. refused)))

    pub text-kept : (at : ℕ) (t : List ℕ) → drop at w ≡ t → Kept (read_text y at t)
    unfolding read_text
    text-kept at t e =
        either Kept _
        (λ _. either Kept _ (λ _. either Kept _ (λ _. marked-kept at t e) (λ _. refused)) (λ _. message-kept at t e))
        (λ _. refused)
