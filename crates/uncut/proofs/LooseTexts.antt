-- A text: what one style reads a looser one reads too, though perhaps otherwise. Assumes nothing.
use mathlib.Core.Path.{◌≡◌, refl, sym}
use mathlib.Core.Bool.{Bool, true, false}
use mathlib.Core.List.{List, [], ◌∷◌}
use Prim.Native.Nat.{ℕ, zero, suc, ◌+◌, ◌≤◌}
use native.Mathlib.Omega.{arith}
use lib.Dec.{eqb}
use lib.ListN.{length, take, drop}
use Rattle.base.specs.Pick.{pick}
use Rattle.base.specs.Seek.{starts, seek}
use Rattle.base.proofs.Cases.{by-test, either, either_way, pick_true, pick-false, both-pick}
use Rattle.base.proofs.Seek.{never, seek-le}
use Rattle.sheet.specs.declared.Style.{Style}
use Rattle.paper.specs.Read.{Field, value, fault}
use Rattle.paper.specs.Bytes.{mark, np, av}
use Rattle.paper.specs.Texts.{Piece, Noted, others, divide, taken, parts_taken, finish, message_end, message, marked, read_text}
use Rattle.uncut.specs.Looser.{Looser}
use Rattle.uncut.proofs.Tests.{same_test, easier, besides}
use Rattle.uncut.proofs.Texts.{made, finish-only, finish-also}

-- the second reading has a value, if the first one has
pub record Some (x q : Field Noted) : Type 0 where
  pub somes : (t : Noted) → x ≡ value t → (u : Noted) × (q ≡ value u)

none : {n : ℕ} {q : Field Noted} → Some (fault n) q
none = record { somes = λ t e. absurd (let z : ◌≡◌ {A = ℕ} 0 1 = cc in omega arith) }

-- ---- a message that ends sooner

-- it has no more parts
others-fewer : (at k j : ℕ) (m : List ℕ) → k ≤ j → length (others at (take k m)) ≤ length (others at (take j m))
unfolding others pick
others-fewer at zero j m l = omega arith
others-fewer at (suc k) zero m l = absurd (omega arith)
others-fewer at (suc k) (suc j) [] l = omega arith
others-fewer at (suc k) (suc j) (x ∷ m) l =
    let fewer = others-fewer (at + 1) k j m (omega arith) in
    by-test (eqb x 124) (λ e. rw e (omega (arith, fewer))) (λ e. rw e fewer)

pick_less : (t u : Bool) (k n : ℕ) → (t ≡ true → u ≡ true) → k ≤ n → pick u k n ≤ pick t k n
unfolding pick
pick_less true true k n h l = omega arith
pick_less true false k n h l = never (sym (h refl))
pick_less false true k n h l = l
pick_less false false k n h l = omega arith

-- ---- the readings of two styles

module _ (y z : Style) (looser : Looser y z) where
  all-taken : (ps : List Piece) → parts_taken z ps ≡ true
  unfolding parts_taken taken
  all-taken [] = refl
  all-taken (p ∷ ps) = both-pick _ _ (pick-false _ _ looser.clean) (all-taken ps)

  -- the looser style takes whatever has few parts
  finished : (ps : List Piece) (n : Piece) → length ps ≤ z.most → (u : Noted) × (finish z ps n ≡ value u)
  finished ps n few =
      (made ps n, finish-also z ps n (made ps n) (record { bytes = all-taken ps; few = few; fits = pick_true _ _ looser.cuts; is = refl }))

  finish-some : (ps qs : List Piece) (n o : Piece) → length qs ≤ length ps → Some (finish y ps n) (finish z qs o)
  finish-some ps qs n o l = record { somes = λ t e. finished qs o (omega (arith, l, (finish-only y ps n t e).few, looser.most)) }

  ends-sooner : (m : List ℕ) → message_end z m ≤ message_end y m
  unfolding message_end
  ends-sooner m = pick_less y.names z.names (seek mark m) (length m) looser.names (seek-le mark m)

  module _ (at : ℕ) (m : List ℕ) where
    message-some : Some (message y at m) (message z at m)
    unfolding message
    message-some =
        let fewer = others-fewer at (message_end z m) (message_end y m) m (ends-sooner m) in
        finish-some (divide at (take (message_end y m) m)) (divide at (take (message_end z m) m)) _ _ (omega (arith, fewer))

    -- one part is no more than a message has
    message-one : (p n : Piece) → Some (message y at m) (finish z (p ∷ []) n)
    unfolding message
    message-one p n = finish-some (divide at (take (message_end y m) m)) (p ∷ []) _ n (omega arith)

  module _ (at : ℕ) (t : List ℕ) where
    -- a message that begins `AV:`, or may lack it
    begun-some : Some (pick (starts av t) (message y (at + 3) (drop 3 t)) (pick y.may (message y at t) (fault 14)))
        (pick (starts av t) (message z (at + 3) (drop 3 t)) (pick z.may (message z at t) (fault 14)))
    begun-some =
        either_way Some _ (message-some _ _) (easier Some y.may z.may _ looser.may (message-some at t) (λ r. none))

    -- .. where the looser style reads a name alone
    begun-one : (p n : Piece)
        → Some (pick (starts av t) (message y (at + 3) (drop 3 t)) (pick y.may (message y at t) (fault 14))) (finish z (p ∷ []) n)
    begun-one p n =
        let S : Field Noted → Type 0 = λ x. Some x (finish z (p ∷ []) n) in
        either S _ (λ _. message-one _ _ p n) (λ _. either S _ (λ _. message-one at t p n) (λ _. none))

    marked-some : Some (marked y at t) (marked z at t)
    unfolding marked
    marked-some =
        besides Some y.names z.names (starts np t) looser.names (finish-some _ _ _ _ (omega arith)) begun-some (λ _. begun-one _ _)

    pub text-some : Some (read_text y at t) (read_text z at t)
    unfolding read_text
    text-some = either_way Some _ (same_test Some _ _ looser.av (either_way Some _ marked-some none) (message-some at t)) none
