-- What `read_text` accepts, a batch may hold and the sheet can carry. Assumes nothing.
use mathlib.Core.Path.{◌≡◌, refl, sym, ap, ◌∙◌}
use mathlib.Core.Bool.{true, false}
use mathlib.Core.Logic.{◌⊎◌, inl, inr}
use mathlib.Core.List.{List, [], ◌∷◌, map}
use Prim.Native.Nat.{ℕ, ◌+◌, ◌≤◌}
use native.Mathlib.Omega.{arith}
use lib.Dec.{ltb}
use lib.ListN.{length, take, drop, length-take, length-map, drop_of_length-le}
use borrow.Author.Tests.{ltb-false}
use Rattle.base.specs.Pick.{pick}
use Rattle.base.specs.Seek.{all, starts, seek, before, Free}
use Rattle.base.proofs.Cases.{either, by-test, pick-both, pick_true, pick-false}
use Rattle.base.proofs.Seek.{never, all_take, all_tail, all_drop, free-take, free-tail, free-before}
use Rattle.sheet.specs.declared.Style.{Style}
use Rattle.paper.specs.Read.{Field, value, fault}
use Rattle.paper.specs.Warnings.{Notice}
use Rattle.paper.specs.Bytes.{is_text, is_clean, av, np, bar, mark, null}
use Rattle.paper.specs.Texts.{Piece, piece, Noted, divide, cut, cuts, pad, opens, taken, parts_taken, fitted, finish, message_end, message, marked, read_text}
use Rattle.paper.proofs.Lists.{null-none}
use Rattle.text.specs.wording.Wording.{bytes_of, Sound}
use Rattle.text.proofs.wording.Parts.{Every, none, more, fill, bytes-pad, bytes_cut, bytes-cuts, every_map, every-fill, every-divide, length-fill}
use Rattle.text.proofs.Right.{none-taken}
use Rattle.text.proofs.wording.Fit.{Fit, proper-name, carried-name, fits-proper, fits-carried}

-- an accepted text is sound, a refused one has the number 4 or 14
abbrev pub Outcome : Style → Field Noted → Type 0
Outcome y (value x) = Sound y x
Outcome y (fault n) = (n ≡ 4) ⊎ (n ≡ 14)

module _ (y : Style) where
  -- a part before it is cut
  record Raw (p : List ℕ) : Type 0 where
    text : all is_text p ≡ true
    bars : Free bar p
    marks : y.names ≡ true → Free mark p

  -- .. of bytes that the sheet takes
  Good : List ℕ → Type 0
  Good p = Raw p × (taken y p ≡ true)

  taken-cut : (k : ℕ) (p : List ℕ) → taken y p ≡ true → taken y (take k p) ≡ true
  unfolding taken
  taken-cut k p h = by-test y.clean (λ e. pick_true _ _ e ∙ all_take is_clean k p (sym (pick_true _ _ e) ∙ h)) (λ e. pick-false _ _ e)

  raw-cut : (p : List ℕ) → Good p → Fit y (take 35 p)
  unfolding Good
  raw-cut p (r, t) =
      record {
        short = omega (arith, length-take 35 p);
        text = all_take is_text 35 p r.text;
        bars = free-take bar 35 p r.bars;
        marks = λ e. free-take mark 35 p (r.marks e);
        bytes = taken-cut 35 p t;
      }

  pub empty-fit : Fit y []
  unfolding all seek
  empty-fit = record { short = omega arith; text = refl; bars = refl; marks = λ e. refl; bytes = none-taken y }

  cut_parts : (ps : List Piece) → bytes_of (pad 4 (map cut ps)) ≡ fill 4 (map (take 35) (bytes_of ps))
  cut_parts ps = bytes-pad 4 (map cut ps) ∙ ap (fill 4) (bytes-cuts ps)

  cuts-only : (l : List Notice) → pick y.cuts true (null l) ≡ true → y.cuts ≡ false → l ≡ []
  cuts-only l h e = null-none l (sym (pick-false _ _ e) ∙ h)

  -- each part that was found is taken
  all-good : (ps : List Piece) → Every Raw (bytes_of ps) → parts_taken y ps ≡ true → Every Good (bytes_of ps)
  unfolding parts_taken Good
  all-good [] none k = none
  all-good (p ∷ ps) (more h t) k = let b = pick-both (taken y p.bytes) (parts_taken y ps) k in more (h, b.0) (all-good ps t b.1)

  fitted-sound : (ps : List Piece) (n : Piece) → Every Good (bytes_of ps) → all is_text n.bytes ≡ true → (y.names ≡ false → n.bytes ≡ []) → Outcome y (fitted y ps n)
  unfolding fitted
  fitted-sound ps n h t m =
      either (Outcome y) (ltb y.most (length ps)) (λ e. inr refl) (λ e.
      either (Outcome y) (pick y.cuts true (null (cuts ps n))) (λ f.
      record {
        sendable =
            record {
              four = ap length (cut_parts ps) ∙ length-fill 4 (map (take 35) (bytes_of ps));
              parts-proper = rw (cut_parts ps) (fits-proper y (every-fill (Fit y) empty-fit 4 fit));
              parts-carried = rw (cut_parts ps) (fits-carried y empty-fit 4 0 (few e) fit);
              name-proper = rw (bytes_cut n.place n.bytes) (proper-name (take 35 n.bytes) (omega (arith, length-take 35 n.bytes)) (all_take is_text 35 n.bytes t));
              name-carried = rw (bytes_cut n.place n.bytes) (carried-name y (take 35 n.bytes) (λ g. ap (take 35) (m g)));
            };
        uncut = cuts-only (cuts ps n) f;
      }) (λ f. inr refl))
    where
      fit : Every (Fit y) (map (take 35) (bytes_of ps))
      fit = every_map Good (Fit y) (take 35) raw-cut h

      few : ltb y.most (length ps) ≡ false → 0 + length (map (take 35) (bytes_of ps)) ≤ y.most
      few e =
          omega (arith, ltb-false y.most (length ps) e, length-map (bytes_of ps) (take 35), length-map ps (λ (p : Piece). p.bytes))

  finish-sound : (ps : List Piece) (n : Piece) → Every Raw (bytes_of ps) → all is_text n.bytes ≡ true → (y.names ≡ false → n.bytes ≡ []) → Outcome y (finish y ps n)
  unfolding finish
  finish-sound ps n h t m = either (Outcome y) (parts_taken y ps) (λ k. fitted-sound ps n (all-good ps h k) t m) (λ k. inr refl)

  empty-raw : Raw []
  unfolding all seek
  empty-raw = record { text = refl; bars = refl; marks = λ e. refl }

  Clean : List ℕ → Type 0
  Clean s = (all is_text s ≡ true) × (y.names ≡ true → Free mark s)

  clean-tail : (x : ℕ) (s : List ℕ) → Clean (x ∷ s) → Clean s
  unfolding Clean
  clean-tail x s h = (all_tail is_text x s h.0, λ e. free-tail mark x s (h.1 e))

  clean-first : (s : List ℕ) → Clean s → Raw (before bar s)
  unfolding Clean
  clean-first s h =
      record {
        text = all_take is_text (seek bar s) s h.0;
        bars = free-before bar s;
        marks = λ e. free-take mark (seek bar s) s (h.1 e);
      }

  message-sound : (at : ℕ) (m : List ℕ) → all is_text m ≡ true → Outcome y (message y at m)
  unfolding message message_end pick Clean
  message-sound at m t =
      finish-sound (divide at (take (message_end y m) m)) (piece (at + (message_end y m + 4)) (drop (message_end y m + 4) m))
      (every-divide Clean Raw clean-tail clean-first at (take (message_end y m) m) (all_take is_text (message_end y m) m t, λ e. rw e (free-before mark m)))
      (all_drop is_text (message_end y m + 4) m t)
      (λ e. let l : length m ≤ length m + 4 = omega arith in rw e (drop_of_length-le m l))

  marked-sound : (at : ℕ) (t : List ℕ) → all is_text t ≡ true → Outcome y (marked y at t)
  unfolding marked
  marked-sound at t h =
      either (Outcome y) (pick y.names (starts np t) false) (λ e.
      finish-sound (piece at [] ∷ []) (piece (at + 3) (drop 3 t)) (more empty-raw none) (all_drop is_text 3 t h)
      (λ g. never (sym (pick-both y.names (starts np t) e).0 ∙ g))
      ) (λ e.
      either (Outcome y) (starts av t) (λ f. message-sound (at + 3) (drop 3 t) (all_drop is_text 3 t h)) (λ f.
      either (Outcome y) y.may (λ g. message-sound at t h) (λ g. inr refl)))

  pub outcome : (at : ℕ) (t : List ℕ) → Outcome y (read_text y at t)
  unfolding read_text
  outcome at t =
      either (Outcome y) (all is_text t) (λ h.
      either (Outcome y) y.av (λ f.
      either (Outcome y) (opens t) (λ g. marked-sound at t h) (λ g. inl refl))
      (λ f. message-sound at t h))
      (λ e. inl refl)
