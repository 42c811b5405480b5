-- The texts of a line that says something, by their places. Assumes nothing.
use mathlib.Core.Path.{◌≡◌, refl, sym, ap, ◌∙◌}
use mathlib.Core.Bool.{Bool, true, false}
use mathlib.Core.List.{List, [], map}
use Prim.Native.Nat.{ℕ, ◌+◌, ◌≤◌}
use native.Mathlib.Omega.{arith}
use lib.Dec.{ltb}
use lib.ListN.{length, drop, drop_of_length-le, length-drop}
use lib.Seq.{take-length, drop-drop}
use borrow.Author.Tests.{ltb-false}
use Rattle.base.specs.Pick.{pick}
use Rattle.base.specs.Seek.{all, starts, seek}
use Rattle.base.proofs.Cases.{by-test, pick_true, pick-false}
use Rattle.base.proofs.Seek.{never, starts-long}
use Rattle.sheet.specs.declared.Style.{Style}
use Rattle.paper.specs.Read.{Field, value, fault}
use Rattle.paper.specs.Bytes.{is_text, av, np, mark, null}
use Rattle.paper.specs.Texts.{Piece, piece, Noted, divide, cut, over, cuts, pad, opens, parts_taken, fitted, finish, message_end, message, marked, read_text}
use Rattle.paper.specs.ItemLine.{is_value}
use Rattle.text.specs.declared.span.Spans.{Spans}
use Rattle.text.specs.span.Held.{texts_at, Held}
use Rattle.text.specs.span.Places.{four_from}
use Rattle.text.specs.Told.{count_text}
use Rattle.text.proofs.span.Right.{found_right, found-held}

-- ---- a value came through a test

module _ {A : Type 0} (t : Bool) (n : ℕ) (x : Field A) where
  pub past-yes : is_value (pick t x (fault n)) ≡ true → (t ≡ true) × (pick t x (fault n) ≡ x)
  unfolding pick is_value
  past-yes h = by-test t (λ e. (e, rw e)) (λ e. never (sym (simp e at h)))

  pub past-not : is_value (pick t (fault n) x) ≡ true → (t ≡ false) × (pick t (fault n) x ≡ x)
  unfolding pick is_value
  past-not h = by-test t (λ e. never (sym (simp e at h))) (λ e. (e, rw e))

pub value_as : {A : Type 0} (x z : Field A) → is_value x ≡ true → x ≡ z → is_value z ≡ true
value_as x z h e = rw e at h

-- ---- parts and name

abbrev done : List Piece → Piece → Noted
done ps n = record { parts = pad 4 (map cut ps); name = cut n; warnings = cuts ps n }

module _ (y : Style) (ps : List Piece) (n : Piece) (h : is_value (finish y ps n) ≡ true) where
  inner : Field Noted
  inner = pick (pick y.cuts true (null (cuts ps n))) (value (done ps n)) (fault 14)

  to-fitted : finish y ps n ≡ fitted y ps n
  unfolding finish
  to-fitted = (past-yes (parts_taken y ps) 14 (fitted y ps n) h).1

  fits : is_value (fitted y ps n) ≡ true
  fits = value_as _ _ h to-fitted

  few : length ps ≤ y.most
  unfolding fitted inner
  few = ltb-false y.most (length ps) (past-not (ltb y.most (length ps)) 14 inner fits).0

  finished : finish y ps n ≡ value (done ps n)
  unfolding fitted inner
  finished =
      let e = (past-not (ltb y.most (length ps)) 14 inner fits).1 in
      to-fitted ∙ e ∙ (past-yes (pick y.cuts true (null (cuts ps n))) 14 (value (done ps n)) (value_as _ _ fits e)).1

-- a message with no name behind it
module _ (y : Style) (small : y.most ≤ 4) (nameless : y.names ≡ false) (s : List ℕ) (from : ℕ) (l : from ≤ length s)
    (h : is_value (message y from (drop from s)) ≡ true) where
  no_name : Piece
  no_name = piece (from + (length (drop from s) + 4)) []

  ends : message y from (drop from s) ≡ finish y (divide from (drop from s)) no_name
  unfolding message message_end no_name
  ends =
      let e : pick y.names (seek mark (drop from s)) (length (drop from s)) ≡ length (drop from s) = pick-false _ _ nameless in
      let n : length (drop from s) ≤ length (drop from s) + 4 = omega arith in
      rw (e, take-length, drop_of_length-le (drop from s) n)

  pub message-is : value (texts_at s (four_from s from 0 0)) ≡ count_text (message y from (drop from s))
  unfolding cut over null pick no_name count_text
  message-is =
      let g = value_as _ _ h ends in
      let c : length (divide from (drop from s)) ≤ 4 = omega (arith, few y (divide from (drop from s)) no_name g) in
      let r = found_right s s (length s) (sym (take-length s)) from l 0 0 (omega arith) c in
      ap value r ∙ ap count_text (sym (ends ∙ finished y (divide from (drop from s)) no_name g))

pub parts_held : (s : List ℕ) (from : ℕ) (f : Spans) → from ≤ length s → f ≡ four_from s from 0 0 → Held s f
parts_held s from f l e = rw e (found-held s s (length s) (sym (take-length s)) from l 0 0 (omega arith))

-- ---- a text with no name, which begins `AV:` where the sheet has it

module _ (y : Style) (s : List ℕ) (from : ℕ) (l : from ≤ length s) (plain : pick y.names true y.may ≡ false)
    (h : is_value (read_text y from (drop from s)) ≡ true) where
  abbrev t : List ℕ
  t = drop from s

  pub nameless : y.names ≡ false
  unfolding pick
  nameless = by-test y.names (λ e. never (sym (pick_true _ _ e) ∙ plain)) (λ e. e)

  must : y.may ≡ false
  must = sym (pick-false _ _ nameless) ∙ plain

  body : Field Noted
  body = pick y.av (pick (opens t) (marked y from t) (fault 4)) (message y from t)

  text-body : read_text y from t ≡ body
  unfolding read_text body
  text-body = (past-yes (all is_text t) 4 body h).1

  -- with `AV:`
  module _ (a : y.av ≡ true) where
    opened : is_value (pick (opens t) (marked y from t) (fault 4)) ≡ true
    unfolding body
    opened = value_as _ _ h (text-body ∙ pick_true _ _ a)

    to-marked : read_text y from t ≡ marked y from t
    unfolding body
    to-marked = text-body ∙ (pick_true _ _ a ∙ (past-yes (opens t) 4 (marked y from t) opened).1)

    to-av : marked y from t ≡ pick (starts av t) (message y (from + 3) (drop 3 t)) (fault 14)
    unfolding marked
    to-av =
        let n : pick y.names (starts np t) false ≡ false = pick-false _ _ nameless in
        pick-false _ _ n ∙ ap (λ (x : Field Noted). pick (starts av t) (message y (from + 3) (drop 3 t)) x) (pick-false _ _ must)

    av-there : (starts av t ≡ true) × (pick (starts av t) (message y (from + 3) (drop 3 t)) (fault 14) ≡ message y (from + 3) (drop 3 t))
    av-there = past-yes (starts av t) 14 (message y (from + 3) (drop 3 t)) (value_as _ _ h (to-marked ∙ to-av))

    av-within : from + 3 ≤ length s
    av-within = omega (arith, starts-long av t av-there.0, length-drop from s)

    text-av : read_text y from t ≡ message y (from + 3) (drop (from + 3) s)
    text-av = to-marked ∙ (to-av ∙ (av-there.1 ∙ rw drop-drop))

  text-bare : y.av ≡ false → read_text y from t ≡ message y from t
  unfolding body
  text-bare a = text-body ∙ pick-false _ _ a

  -- m is where the message begins
  module _ (m : ℕ) (g : m ≡ pick y.av (from + 3) from) where
    begins : (b : Bool) → y.av ≡ b → (m ≤ length s) × (read_text y from t ≡ message y m (drop m s))
    begins true a = let e : m ≡ from + 3 = g ∙ pick_true _ _ a in rw e (av-within a, text-av a)
    begins false a = let e : m ≡ from = g ∙ pick-false _ _ a in rw e (l, text-bare a)

    pub start-within : m ≤ length s
    start-within = (begins y.av refl).0

    pub text-at : read_text y from (drop from s) ≡ message y m (drop m s)
    text-at = (begins y.av refl).1

pub varied-not : (y : Style) (t : Bool) → t ≡ pick y.names true y.may → t ≡ false → pick y.names true y.may ≡ false
varied-not y t g e = sym g ∙ e
