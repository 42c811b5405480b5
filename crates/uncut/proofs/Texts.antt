-- A text: what the narrower style reads, of what is let through, the wider one reads alike. Assumes nothing.
use mathlib.Core.Path.{◌≡◌, refl, sym, ap, subst, ◌∙◌}
use mathlib.Core.Bool.{Bool, true, false}
use mathlib.Core.List.{List, [], ◌∷◌, ◌++◌, map, append-eq-nil_iff}
use Prim.Native.Nat.{ℕ, ◌+◌, ◌≤◌}
use native.Mathlib.Omega.{arith}
use lib.Dec.{eqb, ltb}
use lib.ListN.{length, take, drop}
use lib.Seq.{take-length}
use borrow.Author.Tests.{eqb-true, ne_eqb, ltb-false, le-ltb}
use Rattle.base.specs.Pick.{pick}
use Rattle.base.specs.Seek.{starts, seek, Free}
use Rattle.base.proofs.Cases.{by-test, either_way, pick_same, pick_true, pick-false, pick-both, both-pick}
use Rattle.base.proofs.Seek.{never}
use Rattle.sheet.specs.declared.Style.{Style}
use Rattle.paper.specs.Read.{Field, value, fault}
use Rattle.paper.specs.Warnings.{long_name, Notice}
use Rattle.paper.specs.Bytes.{mark, np, av, null}
use Rattle.paper.specs.Texts.{Piece, piece, Noted, divide, cut, over, overs, cuts, pad, taken, parts_taken, fitted, finish, message_end, message, marked, read_text}
use Rattle.paper.specs.ItemLine.{part_bytes}
use Rattle.paper.proofs.Lists.{null-none}
use Rattle.uncut.specs.Unmarked.{Unmarked}
use Rattle.uncut.specs.Wider.{Names, named_alike, named_more, WiderStyle}
use Rattle.uncut.proofs.Tests.{same_test, easier, besides}
use Rattle.uncut.proofs.Takes.{TakesOn, refused}
use Rattle.uncut.proofs.Unmarked.{pieces-free}

-- ---- parts and name as found

-- the texts that they make
abbrev pub made : List Piece → Piece → Noted
made ps n = record { parts = pad 4 (map cut ps); name = cut n; warnings = cuts ps n }

-- a style takes them, as these texts
pub record Finished (y : Style) (ps : List Piece) (n : Piece) (t : Noted) : Type 0 where
  pub bytes : parts_taken y ps ≡ true
  pub few : length ps ≤ y.most
  pub fits : pick y.cuts true (null (cuts ps n)) ≡ true
  pub is : made ps n ≡ t

module _ (y : Style) (ps : List Piece) (n : Piece) (t : Noted) where
  pub finish-only : finish y ps n ≡ value t → Finished y ps n t
  unfolding finish fitted pick
  finish-only e =
      by-test (parts_taken y ps)
      (λ bytes. by-test (ltb y.most (length ps))
      (λ many. absurd (let q : fault 14 ≡ value t = rw (bytes, many) at e in let z : ◌≡◌ {A = ℕ} 0 1 = cc in omega arith))
      (λ few. by-test (pick y.cuts true (null (cuts ps n)))
      (λ fits. let q : value (made ps n) ≡ value t = rw (bytes, few, fits) at e in record { bytes = bytes; few = ltb-false y.most (length ps) few; fits = fits; is = cc })
      (λ long. absurd (let q : fault 14 ≡ value t = rw (bytes, few, long) at e in let z : ◌≡◌ {A = ℕ} 0 1 = cc in omega arith))))
      (λ other. absurd (let q : fault 14 ≡ value t = rw other at e in let z : ◌≡◌ {A = ℕ} 0 1 = cc in omega arith))

  pub finish-also : Finished y ps n t → finish y ps n ≡ value t
  unfolding finish fitted
  finish-also f =
      pick_true _ _ f.bytes ∙ pick-false _ _ (le-ltb y.most (length ps) f.few) ∙ pick_true _ _ f.fits ∙ ap (λ (x : Noted). value x) f.is

-- a text that is too long is taken where it is cut, or where it is not too long
fits-too : (may may' : Bool) (l : List Notice) → (may ≡ true → may' ≡ false → l ≡ []) → pick may true (null l) ≡ true → pick may' true (null l) ≡ true
unfolding pick null
fits-too may true l h e = refl
fits-too true false l h e = rw (h refl refl)
fits-too false false l h e = e

-- the wider style takes the bytes that the narrower one takes
module _ (y z : Style) (h : z.clean ≡ true → y.clean ≡ true) where
  part-too : (p : List ℕ) → taken y p ≡ true → taken z p ≡ true
  unfolding taken
  part-too p t = by-test z.clean (λ c. pick_true _ _ c ∙ sym (pick_true _ _ (h c)) ∙ t) (λ c. pick-false _ _ c)

  bytes-too : (ps : List Piece) → parts_taken y ps ≡ true → parts_taken z ps ≡ true
  unfolding parts_taken
  bytes-too [] e = refl
  bytes-too (p ∷ ps) e =
      let b = pick-both (taken y p.bytes) (parts_taken y ps) e in
      both-pick (taken z p.bytes) (parts_taken z ps) (part-too p.bytes b.0) (bytes-too ps b.1)

-- a name alone is no message
np-not-av : (t : List ℕ) → starts np t ≡ true → starts av t ≡ false
unfolding starts pick
np-not-av [] e = refl
np-not-av (x ∷ t) e =
    by-test (eqb x 78) (λ n. let same = eqb-true x 78 n in pick-false _ _ (ne_eqb x 65 (λ q. omega arith))) (λ n. never (sym (rw n at e)))

-- ---- the readings of two styles

module _ (On : Noted → Type 0) where
  abbrev Reads : Field Noted → Field Noted → Type 0
  Reads = TakesOn On

  -- a text that begins `NP:`, where a message begins `AV:`
  not-begun : (t : List ℕ) → starts np t ≡ true → (may : Bool) → may ≡ false → (x w : Field Noted) {r : Field Noted}
      → Reads (pick (starts av t) x (pick may w (fault 14))) r
  unfolding pick
  not-begun t e may off x w = rw (np-not-av t e, off) refused

  module _ (y z : Style) (wider : WiderStyle On y z) where
    finish-takes : (ps : List Piece) (n : Piece) → Reads (finish y ps n) (finish z ps n)
    finish-takes ps n =
        record {
          takes =
              λ t on e.
              let f = finish-only y ps n t e in
              finish-also z ps n t
              (record {
                bytes = bytes-too y z wider.clean ps f.bytes;
                few = omega (arith, f.few, wider.most);
                fits = fits-too y.cuts z.cuts _ (λ c d. ap (λ (x : Noted). x.warnings) f.is ∙ wider.cuts t on c d) f.fits;
                is = f.is;
              });
        }

    module _ (at : ℕ) (m : List ℕ) where
      ends-takes : message_end y m ≡ message_end z m → Reads (message y at m) (message z at m)
      unfolding message
      ends-takes e = rw e (finish-takes _ _)

      -- the parts are let through, so the message ends where the line does on both sheets
      no_name : y.names ≡ false → y.cuts ≡ false → y.most ≤ 4 → (t : Noted) → Unmarked (part_bytes t) → message y at m ≡ value t
          → message_end y m ≡ message_end z m
      unfolding message message_end
      no_name names uncut most t u e =
          let end : message_end y m ≡ length m = pick-false _ _ names in
          let front = take (message_end y m) m in
          let f = finish-only y (divide at front) _ t e in
          let few : length (divide at front) ≤ 4 = omega (arith, f.few) in
          let name = over long_name (piece (at + (message_end y m + 4)) (drop (message_end y m + 4) m)) in
          let none : overs (divide at front) ++ name ≡ [] = null-none _ (sym (pick-false _ _ uncut) ∙ f.fits) in
          let free : Free mark front = pieces-free at front 4 few ((append-eq-nil_iff {p = overs (divide at front)} {q = name}).0 none).0 (subst (λ (x : Noted). Unmarked (part_bytes x)) (sym f.is) u) in
          let all : front ≡ m = ap (λ (k : ℕ). take k m) end ∙ take-length m in
          let sought : seek mark m ≡ length m = rw all at free in
          end ∙ sym (ap (λ (k : ℕ). pick z.names k (length m)) sought ∙ pick_same z.names (length m))

      message-takes : Names On y z → Reads (message y at m) (message z at m)
      unfolding message_end
      message-takes (named_alike n) = ends-takes (ap (λ (names : Bool). pick names (seek mark m) (length m)) n)
      message-takes (named_more names _ _ cuts most u) = record { takes = λ t on e. (ends-takes (no_name names cuts most t (u t on) e)).takes t on e }

    -- a message that begins `AV:`, or may lack it
    begun-takes : (at : ℕ) (t : List ℕ)
        → Reads (pick (starts av t) (message y (at + 3) (drop 3 t)) (pick y.may (message y at t) (fault 14)))
        (pick (starts av t) (message z (at + 3) (drop 3 t)) (pick z.may (message z at t) (fault 14)))
    begun-takes at t =
        either_way Reads _ (message-takes _ _ wider.names)
        (easier Reads y.may z.may _ wider.may (message-takes at t wider.names) (λ r. refused))

    marked-takes : Names On y z → (at : ℕ) (t : List ℕ) → Reads (marked y at t) (marked z at t)
    unfolding marked
    marked-takes (named_alike n) at t =
        same_test Reads _ _ (ap (λ (names : Bool). pick names (starts np t) false) n) (finish-takes _ _) (begun-takes at t)
    marked-takes (named_more off on may _ _ _) at t =
        besides Reads y.names z.names (starts np t) (λ _. on) (finish-takes _ _) (begun-takes at t)
        (λ e. not-begun t e y.may may _ _)

    pub text-takes : (at : ℕ) (s : List ℕ) (t : Noted) → On t → read_text y at s ≡ value t → read_text z at s ≡ value t
    unfolding read_text
    text-takes at s =
        (either_way Reads _
        (same_test Reads _ _ wider.av (either_way Reads _ (marked-takes wider.names at s) refused) (message-takes at s wider.names))
        refused
        ).takes
