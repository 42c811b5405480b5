-- The ways out of the functions that read a text. Assumes nothing.
use mathlib.Core.Path.{◌≡◌, refl, sym, ap, ◌∙◌}
use mathlib.Core.Bool.{Bool, true, false}
use mathlib.Core.List.{List, []}
use Prim.Native.Nat.{ℕ, ◌+◌, ◌-◌, ◌≤◌, ◌<◌}
use native.Mathlib.Nat.{sub-zero}
use native.Mathlib.Omega.{arith}
use borrow.Author.Tests.{le-leb, lt-leb}
use lib.ListN.{length, take, drop, drop_of_length-le, length-take, length-drop}
use lib.Seq.{drop-drop, take_all}
use Rattle.std.proofs.Common.{Result, Ok, Err}
use Rattle.refusal.specs.declared.Refusal.{Refusal}
use Rattle.refusal.specs.declared.Refusal.TheVariants.{BadField, BadText}
use Rattle.refusal.specs.Numbers.{number_of}
use Rattle.base.specs.Pick.{pick}
use Rattle.base.specs.Seek.{all, starts, seek}
use Rattle.base.proofs.Cases.{by-lt, either, pick-both, pick_true, pick-false}
use Rattle.base.proofs.Seek.{seek-le, starts-long}
use Rattle.base.proofs.Lists.{drop-take}
use Rattle.sheet.specs.declared.Style.{Style}
use Rattle.paper.specs.Read.{Field, fault}
use Rattle.paper.specs.Bytes.{is_text, av, np, mark, null}
use Rattle.paper.specs.Texts.{Piece, piece, Noted, others, divide, cut, over, opens, fitted, finish, message_end, message, marked, read_text}
use Rattle.text.specs.Told.{count_text, told, Inside, Tells}
use Rattle.text.specs.Begun.{of_text, meant, Begins}
use Rattle.text.specs.Finish.{fitted_one, finish_at, name_at}
use Rattle.text.specs.declared.Begun.{Begun}
use Rattle.text.specs.declared.Begun.TheVariants as begun
use Rattle.text.specs.declared.span.Spans.{Spans}
use Rattle.text.specs.declared.span.Span.{Span}
use Rattle.text.proofs.Right.{tells-same, nothing-taken, finish-right}
use Rattle.text.proofs.Turns.{finish-alone}

-- an absent name may have any place
finish-empty : (y : Style) (ps : List Piece) (a b : ℕ) → finish y ps (piece a []) ≡ finish y ps (piece b [])
unfolding finish fitted cut over null pick
finish-empty y ps a b = refl

-- a message from `from` to `from + k`
module _ (y : Style) (small : y.most ≤ 4) (s : List ℕ) (from k : ℕ) (l : from + k ≤ length s) where
  same-part : drop from (take (from + k) s) ≡ take k (drop from s)
  same-part = let e : from + k - from ≡ k = omega arith in drop-take from (from + k) s ∙ rw e

  begins : from ≤ length (take (from + k) s)
  begins = omega (arith, length-take (from + k) s)

  without : length s - (from + k) ≤ 4
      → Tells s (finish_at y (take (from + k) s) from 0 0) (finish y (divide from (take k (drop from s))) (piece (from + (k + 4)) (drop (k + 4) (drop from s))))
  without h =
      let n : length (drop from s) ≤ k + 4 = omega (arith, length-drop from s) in
      tells-same refl
      (rw (same-part, drop_of_length-le (drop from s) n) (finish-empty y (divide from (take k (drop from s))) 0 (from + (k + 4))))
      (finish-right y small s (take (from + k) s) (from + k) refl from begins 0 0 (omega arith))

  behind : 4 < length s - (from + k)
      → Tells s (finish_at y (take (from + k) s) from (from + k + 4) (length s - (from + k) - 4))
      (finish y (divide from (take k (drop from s))) (piece (from + (k + 4)) (drop (k + 4) (drop from s))))
  behind h =
      let e : from + k + 4 ≡ from + (k + 4) = omega arith in
      let n : length (drop (from + (k + 4)) s) ≤ length s - (from + k) - 4 = omega (arith, length-drop (from + (k + 4)) s) in
      tells-same refl
      (rw (same-part, e, drop-drop (k + 4) from s, take_all (length s - (from + k) - 4) (drop (from + (k + 4)) s) n))
      (finish-right y small s (take (from + k) s) (from + k) refl from begins (from + k + 4) (length s - (from + k) - 4) (omega arith))

end-le : (y : Style) (d : List ℕ) → message_end y d ≤ length d
unfolding message_end
end-le y d = either (λ (k : ℕ). k ≤ length d) y.names (λ e. seek-le mark d) (λ e. omega arith)

-- read_message: e is what message_end answered, p what name_at did
module _ (y : Style) (s : List ℕ) (from e : ℕ) (h : from ≤ length s) (g : e ≡ from + message_end y (drop from s)) where
  pub end-within : e ≤ length s
  end-within = omega (arith, end-le y (drop from s), length-drop from s)

  pub end_after : from ≤ length (take (e - 0) s)
  end_after = omega (arith, end-within, length-take (e - 0) s)

  pub message-read : y.most ≤ 4 → (p : Span) (r : Result Spans Refusal) → p ≡ name_at e (length s) → r ≡ finish_at y (take (e - 0) s) from p.at p.len
      → Tells s r (message y from (drop from s))
  unfolding message name_at pick
  message-read small p r n k =
      by-lt 4 (length s - e)
      (λ l.
      tells-same (k ∙ rw (n, lt-leb (length s - e) 4 l, sub-zero e, g)) refl
      (behind y small s from (message_end y (drop from s)) (omega (arith, end-within)) (omega arith)))
      (λ l.
      tells-same (k ∙ rw (n, le-leb (length s - e) 4 l, sub-zero e, g)) refl
      (without y small s from (message_end y (drop from s)) (omega (arith, end-within)) (omega arith)))

pub ruleset messages = (end-within, end_after, message-read)

-- begin_marked: b is what only_name answered, c what starts_at did
module _ (y : Style) (s : List ℕ) (from : ℕ) (h : from ≤ length s) (b : Bool) (g : b ≡ pick y.names (starts np (drop from s)) false) where
  pub begun-name : b ≡ true → Begins y s from (Ok begun.Name) (marked y from (drop from s))
  unfolding marked
  begun-name e =
      record {
        means = rw (drop-drop 3 from s) (sym (pick_true _ _ (sym g ∙ e)));
        room = omega (arith, starts-long np (drop from s) (pick-both y.names (starts np (drop from s)) (sym g ∙ e)).1, length-drop from s);
      }

  module _ (n : b ≡ false) (c : Bool) (f : c ≡ starts av (drop from s)) where
    pub av-long : c ≡ true → from + 3 ≤ length s
    av-long e = omega (arith, starts-long av (drop from s) (sym f ∙ e), length-drop from s)

    pub begun-av : c ≡ true → Begins y s from (Ok (begun.Message (from + 3))) (marked y from (drop from s))
    unfolding marked
    begun-av e =
        record {
          means = rw (← (drop-drop 3 from s)) (sym (pick-false _ _ (sym g ∙ n) ∙ pick_true _ _ (sym f ∙ e)));
          room = av-long e;
        }

    module _ (e : c ≡ false) where
      pub begun-may : y.may ≡ true → Begins y s from (Ok (begun.Message from)) (marked y from (drop from s))
      unfolding marked
      begun-may m = record { means = sym (pick-false _ _ (sym g ∙ n) ∙ (pick-false _ _ (sym f ∙ e) ∙ pick_true _ _ m)); room = h }

      pub begun-none : y.may ≡ false → Begins y s from (Err BadText) (marked y from (drop from s))
      unfolding marked
      begun-none m = record { means = sym (pick-false _ _ (sym g ∙ n) ∙ (pick-false _ _ (sym f ∙ e) ∙ pick-false _ _ m)); room = tt }

-- begin_text: c is what opens_at answered
module _ (y : Style) (s : List ℕ) (from : ℕ) where
  pub begun-plain : from ≤ length s → y.av ≡ false → Begins y s from (Ok (begun.Message from)) (of_text y from (drop from s))
  begun-plain h f = record { means = sym (pick-false _ _ f); room = h }

  module _ (f : y.av ≡ true) (c : Bool) (k : c ≡ opens (drop from s)) where
    pub begun-open : (r : Result Begun Refusal) → c ≡ true → Begins y s from r (marked y from (drop from s)) → Begins y s from r (of_text y from (drop from s))
    begun-open r o t = record { means = t.means ∙ sym (pick_true _ _ f ∙ pick_true _ _ (sym k ∙ o)); room = t.room }

    pub begun-shut : c ≡ false → Begins y s from (Err BadField) (of_text y from (drop from s))
    begun-shut o = record { means = sym (pick_true _ _ f ∙ pick-false _ _ (sym k ∙ o)); room = tt }

pub ruleset beginnings = (begun-name, av-long, begun-av, begun-may, begun-none, begun-plain, begun-open, begun-shut)

-- read_text: b is what all_text answered, q what begin_text did
module _ (y : Style) (s : List ℕ) (from : ℕ) (h : from ≤ length s) (b : Bool) (g : b ≡ all is_text (drop from s)) where
  pub read-bytes : b ≡ false → fault 4 ≡ count_text (read_text y from (drop from s))
  unfolding read_text count_text
  read-bytes e = ap count_text (sym (pick-false _ (fault 4) (sym g ∙ e)))

  module _ (e : b ≡ true) (q : Result Begun Refusal) (t : Begins y s from q (of_text y from (drop from s))) where
    begun-read : meant y s from q ≡ read_text y from (drop from s)
    unfolding read_text
    begun-read = t.means ∙ sym (pick_true _ _ (sym g ∙ e))

    pub read-refused : (n : Refusal) → q ≡ Err n → fault (number_of n) ≡ count_text (read_text y from (drop from s))
    unfolding count_text
    read-refused n k = ap count_text (rw k at begun-read)

    module _ (o : Begun) (j : q ≡ Ok o) where
      pub message-within : (at : ℕ) → o ≡ begun.Message at → at ≤ length s
      message-within at k = rw (j, k) at t.room

      pub read-message : (at : ℕ) (r : Result Spans Refusal) → o ≡ begun.Message at → Tells s r (message y at (drop at s)) → told s r ≡ count_text (read_text y from (drop from s))
      read-message at r k u = u.says ∙ ap count_text (rw (j, k) at begun-read)

    module _ (o : Begun) (j : q ≡ Ok o) (k : o ≡ begun.Name) where
      pub name-within : from + 3 ≤ length s
      name-within = rw (j, k) at t.room

      pub name-long : 3 ≤ length s - from
      name-long = omega (arith, name-within)

      name-tells : y.most ≤ 4 → (r : Result Spans Refusal) → r ≡ fitted_one y from 0 (from + 3) (length s - from - 3) → Tells s r (read_text y from (drop from s))
      unfolding others seek
      name-tells small r w =
          let z : from - from ≡ 0 = omega arith in
          let m : drop from (take from s) ≡ [] = drop-take from from s ∙ rw z in
          let l : length (take from s) ≡ from = omega (arith, length-take from s) in
          let n : length (drop (from + 3) s) ≤ length s - from - 3 = omega (arith, length-drop (from + 3) s) in
          let x = finish-alone y (take from s) from (from + 3) (length s - from - 3) from (rw m (omega arith)) (omega arith) (omega arith) r (rw z w) in
          tells-same (x ∙ nothing-taken y (take from s) from (from + 3) (length s - from - 3) m)
          (rw (m, take_all (length s - from - 3) (drop (from + 3) s) n) (rw (j, k) at begun-read))
          (finish-right y small s (take from s) from refl from (omega arith) (from + 3) (length s - from - 3) (omega (arith, name-within)))

      pub read_name : y.most ≤ 4 → (r : Result Spans Refusal) → r ≡ fitted_one y from 0 (from + 3) (length s - from - 3) → told s r ≡ count_text (read_text y from (drop from s))
      read_name small r w = (name-tells small r w).says

      pub inside-name : y.most ≤ 4 → (r : Result Spans Refusal) → r ≡ fitted_one y from 0 (from + 3) (length s - from - 3) → Inside s r
      inside-name small r w = (name-tells small r w).inside

pub tells-inside : (s : List ℕ) (r : Result Spans Refusal) (x : Field Noted) → Tells s r x → Inside s r
tells-inside s r x t = t.inside

pub ruleset outs = (read-bytes, read-refused, message-within, read-message, name-within, name-long, read_name, inside-name, tells-inside)
