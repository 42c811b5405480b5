-- A text's reader and its rules agree. Assumes nothing.
use mathlib.Core.Path.{◌≡◌, refl, sym, ap, ◌∙◌}
use mathlib.Core.Bool.{Bool, true, false, not}
use mathlib.Core.List.{List, [], ◌∷◌, ◌++◌}
use Prim.Native.Nat.{ℕ, suc, ◌+◌, ◌<◌}
use native.Mathlib.Omega.{arith}
use lib.Dec.{ltb, leb}
use lib.ListN.{length, take, drop, drop_of_length-le}
use lib.Seq.{take-length}
use borrow.Author.Tests.{eq-eqb, ne_eqb, lt-ltb, le-ltb, le-leb, lt-leb}
use Rattle.base.specs.Pick.{pick}
use Rattle.base.specs.Seek.{all, starts, seek, before}
use Rattle.base.proofs.Cases.{by-test, by-lt, by-eq, pick_true, pick-false, pick_same}
use Rattle.base.proofs.Seek.{seek-le}
use Rattle.sheet.specs.declared.Style.{Style}
use Rattle.paper.specs.Read.{Field, fault}
use Rattle.paper.specs.Warnings.{Warning, long_part, long_name}
use Rattle.paper.specs.Bytes.{is_text, bar, av, null}
use Rattle.paper.specs.Texts.{Piece, piece, Noted, divide, over, overs, cuts, opens, taken, parts_taken, fitted, finish, message_end, message, marked, read_text, lacks}
use Rattle.text.specs.wording.Wording.{bytes_of}
use Rattle.text.proofs.wording.Parts.{others-free, others-anywhere}
use Rattle.text.proofs.span.Turns.{others-some}
use Rattle.why.specs.Rule.{Rule, kept, broke, first_broken}
use Rattle.why.specs.Texts.{is_message, is_name, begins, unmarked, parts_of, name_of, are_short, are_few, are_taken, is_short, marked_rules, plain_rules, text_rules}
use Rattle.why.proofs.Agrees.{Agrees, takes, refuses, next_both, breaks}

-- ---- where parts stand does not matter, but their bytes alone

pub null-both : {A : Type 0} (a b : List A) → null (a ++ b) ≡ pick (null a) (null b) false
unfolding null pick
null-both [] b = refl
null-both (x ∷ a) b = refl

-- a piece that is not too long
abbrev pub short : List ℕ → Bool
short b = not (ltb 35 (length b))

pub null-over : (w : Warning) (p : Piece) → null (over w p) ≡ short p.bytes
unfolding over null pick
null-over w p = by-test (ltb 35 (length p.bytes)) (λ e. rw e) (λ e. rw e)

abbrev pub short_parts : List (List ℕ) → Bool
short_parts [] = true
short_parts (b ∷ bs) = pick (short b) (short_parts bs) false

pub overs-short : (ps : List Piece) → null (overs ps) ≡ short_parts (bytes_of ps)
unfolding overs null
overs-short [] = refl
overs-short (p ∷ ps) = null-both (over long_part p) (overs ps) ∙ rw (null-over long_part p, overs-short ps)

pub cuts-short : (ps : List Piece) (n : Piece) → null (cuts ps n) ≡ pick (short_parts (bytes_of ps)) (short n.bytes) false
cuts-short ps n = null-both (overs ps) (over long_name n) ∙ rw (overs-short ps, null-over long_name n)

count-parts : (ps : List Piece) → length ps ≡ length (bytes_of ps)
count-parts [] = refl
count-parts (p ∷ ps) = ap suc (count-parts ps)

module _ (y : Style) where
  abbrev taken_parts : List (List ℕ) → Bool
  taken_parts [] = true
  taken_parts (b ∷ bs) = pick (taken y b) (taken_parts bs) false

  parts-taken : (ps : List Piece) → parts_taken y ps ≡ taken_parts (bytes_of ps)
  unfolding parts_taken
  parts-taken [] = refl
  parts-taken (p ∷ ps) = rw (parts-taken ps)

  -- ---- a text with marks

  divide-anywhere : (a b : ℕ) (s : List ℕ) → bytes_of (divide a s) ≡ bytes_of (divide b s)
  divide-anywhere a b s = ap (λ (l : List (List ℕ)). before bar s ∷ l) (others-anywhere a b s)

  -- parts and name that have these bytes: by how many there are, how long they are, and their bytes
  finish-agrees : (t : List ℕ) (ps : List Piece) (n : Piece) → begins y t ≡ true → bytes_of ps ≡ bytes_of (parts_of y t) → n.bytes ≡ (name_of y t).bytes
      → Agrees (finish y ps n) (first_broken (marked_rules y) t)
  unfolding finish fitted first_broken are_short are_few are_taken pick
  finish-agrees t ps n b a e =
      let i : length (parts_of y t) ≡ length ps = count-parts (parts_of y t) ∙ (ap length (sym a) ∙ sym (count-parts ps)) in
      let j : null (cuts (parts_of y t) (name_of y t)) ≡ null (cuts ps n) = cuts-short (parts_of y t) (name_of y t) ∙ (rw (← a, ← e) (sym (cuts-short ps n))) in
      let k : parts_taken y (parts_of y t) ≡ parts_taken y ps = parts-taken (parts_of y t) ∙ (ap taken_parts (sym a) ∙ sym (parts-taken ps)) in
      rw (b, i, j, k)
      (by-lt y.most (length ps)
      (λ l. by-test (parts_taken y ps)
      (λ o. rw (o, lt-ltb y.most (length ps) l, lt-leb (length ps) y.most l) (refuses refl))
      (λ o. rw (o, lt-leb (length ps) y.most l) (refuses refl)))
      (λ l. by-test (pick y.cuts true (null (cuts ps n)))
      (λ o. by-test (parts_taken y ps)
      (λ q. rw (q, le-ltb y.most (length ps) l, le-leb (length ps) y.most l, o) takes)
      (λ q. rw (q, le-leb (length ps) y.most l, o) (refuses refl)))
      (λ o. by-test (parts_taken y ps)
      (λ q. rw (q, le-ltb y.most (length ps) l, le-leb (length ps) y.most l, o) (refuses refl))
      (λ q. rw (q, le-leb (length ps) y.most l, o) (refuses refl)))))

  -- a message m, whatever stands before it
  message-agrees : (at : ℕ) (t m : List ℕ) → is_name y t ≡ false → unmarked t ≡ m → begins y t ≡ true → Agrees (message y at m) (first_broken (marked_rules y) t)
  unfolding message parts_of name_of
  message-agrees at t m e u b =
      finish-agrees t _ _ b
      (rw (pick-false _ _ e, u) (divide-anywhere at 0 (take (message_end y m) m)))
      (rw (pick-false _ _ e, u))

  -- what is read: a name alone, a message behind `AV:`, or one without it
  module _ (at : ℕ) (t : List ℕ) where
    named-is : is_name y t ≡ true → marked y at t ≡ finish y (piece at [] ∷ []) (piece (at + 3) (drop 3 t))
    unfolding marked is_name
    named-is e = pick_true _ _ e

    led-is : is_name y t ≡ false → starts av t ≡ true → marked y at t ≡ message y (at + 3) (drop 3 t)
    unfolding marked is_name
    led-is e f = pick-false _ _ e ∙ pick_true _ _ f

    bare-is : is_name y t ≡ false → starts av t ≡ false → marked y at t ≡ pick y.may (message y at t) (fault 14)
    unfolding marked is_name
    bare-is e f = pick-false _ _ e ∙ pick-false _ _ f

    -- without `AV:`, where that may be
    bare-agrees : is_name y t ≡ false → starts av t ≡ false → Agrees (pick y.may (message y at t) (fault 14)) (first_broken (marked_rules y) t)
    unfolding begins unmarked
    bare-agrees e f =
        by-test y.may
        (λ g. rw (pick_true (message y at t) (fault 14) g) (message-agrees at t t e (pick-false _ _ f) (pick-false _ _ e ∙ (pick-false _ _ f ∙ g))))
        (λ g. rw (pick-false (message y at t) (fault 14) g) (breaks _ _ t 14 refl (pick-false _ _ e ∙ (pick-false _ _ f ∙ g))))

    marked-agrees : Agrees (marked y at t) (first_broken (marked_rules y) t)
    unfolding begins unmarked parts_of name_of
    marked-agrees =
        by-test (is_name y t)
        (λ e. rw (named-is e) (finish-agrees t _ _ (pick_true _ _ e) (rw (pick_true _ _ e)) (rw (pick_true _ _ e))))
        (λ e. by-test (starts av t)
        (λ f. rw (led-is e f) (message-agrees (at + 3) t (drop 3 t) e (pick_true _ _ f) (pick-false _ _ e ∙ pick_true _ _ f)))
        (λ f. rw (bare-is e f) (bare-agrees e f)))

  -- ---- a text that is one part as it stands

  module _ (names : y.names ≡ false) (one : y.most ≡ 1) (at : ℕ) (t : List ℕ) where
    -- all of it is the message
    plain-is : message y at t ≡ finish y (divide at t) (piece (at + (length t + 4)) [])
    unfolding message message_end
    plain-is = rw (pick-false _ _ names, take-length t, drop_of_length-le t {i = length t + 4} (omega arith))

    -- with no `|` it is one part
    free-is : seek bar t ≡ length t → divide at t ≡ piece at t ∷ []
    free-is e = rw (e, take-length t, others-free at t e)

    -- with one there are more, which is too many
    barred : (seek bar t ≡ length t → ⊥) → (n : Piece) → finish y (divide at t) n ≡ fault 14
    unfolding finish fitted
    barred e n =
        let l : seek bar t < length t = omega (arith, seek-le bar t) in
        let m : y.most < length (divide at t) = omega (arith, one, others-some at t l) in
        ap (λ (x : Field Noted). pick (parts_taken y (divide at t)) x (fault 14)) (pick_true _ _ (lt-ltb y.most (length (divide at t)) m)) ∙ pick_same _ _

    -- one part, by its length and its bytes
    whole_is : (k : ℕ) → null (cuts (piece at t ∷ []) (piece k [])) ≡ leb (length t) 35
    unfolding pick
    whole_is k =
        cuts-short (piece at t ∷ []) (piece k [])
        ∙ by-lt 35 (length t) (λ l. rw (lt-ltb 35 (length t) l, lt-leb (length t) 35 l)) (λ l. rw (le-ltb 35 (length t) l, le-leb (length t) 35 l))

    single : (k : ℕ) (u v : Rule) → u.number ≡ 14 → v.number ≡ 14
        → Agrees (finish y (piece at t ∷ []) (piece k [])) (pick (pick y.cuts true (leb (length t) 35)) (pick (taken y t) kept (broke v)) (broke u))
    unfolding finish fitted parts_taken pick
    single k u v i j =
        let m : ltb y.most (length (piece at t ∷ [])) ≡ false = le-ltb y.most 1 (omega (arith, one)) in
        let c : pick y.cuts true (null (cuts (piece at t ∷ []) (piece k []))) ≡ pick y.cuts true (leb (length t) 35) = ap (pick y.cuts true) (whole_is k) in
        by-test (pick y.cuts true (leb (length t) 35))
        (λ g. by-test (taken y t) (λ f. rw (f, m, c, g) takes) (λ f. rw (f, g) (refuses j)))
        (λ g. by-test (taken y t) (λ f. rw (f, m, c, g) (refuses i)) (λ f. rw (f, g) (refuses i)))

    plain-agrees : Agrees (message y at t) (first_broken (plain_rules y) t)
    unfolding lacks first_broken is_short pick
    plain-agrees =
        by-eq (seek bar t) (length t)
        (λ e. rw (plain-is, free-is e, eq-eqb (seek bar t) (length t) e) (single _ _ _ refl refl))
        (λ e. rw (plain-is, barred e _, ne_eqb (seek bar t) (length t) e)
        (by-test (pick y.cuts true (leb (length t) 35)) (λ f. rw f (refuses refl)) (λ f. rw f (refuses refl))))

  -- ---- any text

  pub text-agrees : (y.av ≡ false → y.names ≡ false) → (y.av ≡ false → y.most ≡ 1) → (at : ℕ) (t : List ℕ) → Agrees (read_text y at t) (first_broken (text_rules y) t)
  unfolding read_text is_message first_broken
  text-agrees n m at t =
      by-test y.av
      (λ f.
      let r : pick y.av (marked_rules y) (plain_rules y) ≡ marked_rules y = pick_true _ _ f in
      rw (r, pick_true (opens t) true f, pick_true (pick (opens t) (marked y at t) (fault 4)) (message y at t) f)
      (next_both (all is_text t) (opens t) _ 4 refl (marked-agrees at t)))
      (λ f.
      let r : pick y.av (marked_rules y) (plain_rules y) ≡ plain_rules y = pick-false _ _ f in
      rw (r, pick-false (opens t) true f, pick-false (pick (opens t) (marked y at t) (fault 4)) (message y at t) f, ← (pick_true (message y at t) (fault 4) refl))
      (next_both (all is_text t) true _ 4 refl (plain-agrees (n f) (m f) at t)))
