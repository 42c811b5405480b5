-- The rules of a text with marks, by what the code asks: where its message begins and ends, and a name alone. Assumes nothing.
use mathlib.Core.Path.{◌≡◌, refl, sym, ap, ◌∙◌}
use mathlib.Core.Bool.{Bool, true, false, not}
use mathlib.Core.List.{List, [], ◌∷◌}
use Prim.Native.Nat.{ℕ, ◌+◌, ◌-◌, ◌≤◌, ◌<◌}
use native.Mathlib.Omega.{arith}
use lib.Dec.{ltb, leb}
use lib.ListN.{length, take, drop, length-drop}
use borrow.Author.Tests.{lt-ltb, le-ltb, le-leb, lt-leb}
use Rattle.std.proofs.Common.{Ok, Err}
use Rattle.base.specs.Pick.{pick}
use Rattle.base.specs.Seek.{starts, seek}
use Rattle.base.proofs.Cases.{by-lt, pick_true, pick-false, pick-both}
use Rattle.base.proofs.Seek.{seek-le, starts-long}
use Rattle.base.proofs.Lists.{drop-none}
use Rattle.sheet.specs.declared.Style.{Style}
use Rattle.paper.specs.Warnings.{long_name}
use Rattle.paper.specs.Bytes.{av, np, mark, null}
use Rattle.paper.specs.Texts.{piece, divide, over, overs, taken, parts_taken, message_end}
use Rattle.text.proofs.Right.{none-taken, divide-taken}
use Rattle.why.specs.Rule.{within, first_broken}
use Rattle.why.specs.Texts.{unmarked, is_name, begins, parts_of, name_of, are_short, are_taken, marked_rules}
use Rattle.why.proofs.Texts.{null-both, null-over}
use Rattle.fault.specs.field.Ruled.{Ruling, broken, ruling}
use Rattle.fault.proofs.field.Rulings.{is-broken, first-broke}
use Rattle.fault.proofs.texts.Rules.{marked-many, marked-long, marked-kept, marked-unclean}

by_flag : (t : Bool) (a b : ℕ) → a ≤ b → pick t a b ≤ b
unfolding pick
by_flag true a b h = h
by_flag false a b h = omega arith

-- a message ends within its text
end-le : (y : Style) (m : List ℕ) → message_end y m ≤ length m
unfolding message_end
end-le y m = by_flag y.names (seek mark m) (length m) (seek-le mark m)

pub end-in : (y : Style) (s : List ℕ) (from end : ℕ) → from ≤ length s → end ≡ from + message_end y (drop from s) → end ≤ length s
end-in y s from end low e = omega (arith, end-le y (drop from s), length-drop from s)

-- n bytes are not more than 35 behind k others
few-behind : (n k m : ℕ) → n ≡ m - k → not (ltb 35 n) ≡ leb m (k + 35)
few-behind n k m e =
    by-lt 35 n
    (λ l. ap not (lt-ltb 35 n l) ∙ sym (lt-leb m (k + 35) (omega arith)))
    (λ l. ap not (le-ltb 35 n l) ∙ sym (le-leb m (k + 35) (omega arith)))

-- ---- a message from `from` to `end`

module _ (x : Ruling) (y : Style) (s : List ℕ) (b : begins y s ≡ true) (n : is_name y s ≡ false) (from : ℕ) (u : unmarked s ≡ drop from s) (low : from ≤ length s)
    (end : ℕ) (e : end ≡ from + message_end y (drop from s)) where
  abbrev Message : List ℕ
  Message = take (end - from) (drop from s)

  size : message_end y (drop from s) ≡ end - from
  size = omega arith

  parts-are : parts_of y s ≡ divide 0 Message
  unfolding parts_of
  parts-are = pick-false _ _ n ∙ rw (u, size)

  name-is : name_of y s ≡ piece 0 (drop (end - from + 4) (drop from s))
  unfolding name_of
  name-is = pick-false _ _ n ∙ rw (u, size)

  taken-are : are_taken y s ≡ taken y Message
  unfolding are_taken
  taken-are = ap (parts_taken y) parts-are ∙ divide-taken y 0 Message

  name-short : null (over long_name (piece 0 (drop (end - from + 4) (drop from s)))) ≡ leb (length s - end) 39
  name-short =
      null-over long_name (piece 0 (drop (end - from + 4) (drop from s)))
      ∙ few-behind (length (drop (end - from + 4) (drop from s))) 4 (length s - end) (omega (arith, length-drop from s, length-drop (end - from + 4) (drop from s)))

  short-are : (p : Bool) → p ≡ null (overs (divide 0 Message)) → are_short y s ≡ pick y.cuts true (pick p (leb (length s - end) 39) false)
  unfolding are_short
  short-are p h =
      ap (pick y.cuts true)
      (rw (parts-are, name-is) (null-both (overs (divide 0 Message)) (over long_name (piece 0 (drop (end - from + 4) (drop from s)))) ∙ rw (← h, name-short)))

  module _ (count : ℕ) (c : count ≡ length (divide 0 Message)) where
    counted : length (parts_of y s) ≡ count
    counted = ap length parts-are ∙ sym c

    pub message-many : y.most < count → x ≡ Err (broken 14 141 y.most 35) → x ≡ ruling (first_broken (marked_rules y) s)
    message-many l h = marked-many x y s b count counted l h

    module _ (l : count ≤ y.most) (p : Bool) (q : p ≡ null (overs (divide 0 Message))) (k : Bool) (r : k ≡ pick y.cuts true (pick p (leb (length s - end) 39) false)) where
      pub message-long : k ≡ false → x ≡ Err (broken 14 142 y.most 35) → x ≡ ruling (first_broken (marked_rules y) s)
      message-long f h = marked-long x y s b count counted l k (short-are p q ∙ sym r) f h

      module _ (g : k ≡ true) (j : Bool) (t : j ≡ taken y (drop 0 Message)) where
        taken_is : are_taken y s ≡ j
        taken_is = taken-are ∙ (ap (taken y) (sym (drop-none Message)) ∙ sym t)

        pub message-kept : j ≡ true → x ≡ Ok tt → x ≡ ruling (first_broken (marked_rules y) s)
        message-kept f h = marked-kept x y s b count counted l k (short-are p q ∙ sym r) g j taken_is f h

        pub message-unclean : j ≡ false → x ≡ Err (broken 14 144 y.most 35) → x ≡ ruling (first_broken (marked_rules y) s)
        message-unclean f h = marked-unclean x y s b count counted l k (short-are p q ∙ sym r) g j taken_is f h

pub ruleset messages = (is-broken, end-in, message-many, message-long, message-kept, message-unclean)

-- ---- a name alone

module _ (x : Ruling) (y : Style) (s : List ℕ) (n : is_name y s ≡ true) where
  opens : begins y s ≡ true
  unfolding begins
  opens = pick_true _ _ n

  one-part : parts_of y s ≡ piece 0 [] ∷ []
  unfolding parts_of
  one-part = pick_true _ _ n

  the-name : name_of y s ≡ piece 0 (drop 3 s)
  unfolding name_of
  the-name = pick_true _ _ n

  named : starts np s ≡ true
  unfolding is_name
  named = both_true y.names (starts np s) n
    where
      both_true : (a c : Bool) → pick a c false ≡ true → c ≡ true
      both_true a c h = (pick-both a c h).1

  short-is : are_short y s ≡ pick y.cuts true (leb (length s) 38)
  unfolding are_short overs over pick null
  short-is =
      ap (pick y.cuts true)
      (rw (one-part, the-name)
      (null-over long_name (piece 0 (drop 3 s)) ∙ few-behind (length (drop 3 s)) 3 (length s) (omega (arith, starts-long np s named, length-drop 3 s))))

  empty-taken : are_taken y s ≡ true
  unfolding are_taken parts_taken
  empty-taken = rw one-part (pick_true _ _ (none-taken y))

  pub named-many : y.most < 1 → x ≡ Err (broken 14 141 y.most 35) → x ≡ ruling (first_broken (marked_rules y) s)
  named-many l h = marked-many x y s opens 1 (ap length one-part) l h

  module _ (l : 1 ≤ y.most) (k : Bool) (r : k ≡ pick y.cuts true (leb (length s) 38)) where
    pub named-long : k ≡ false → x ≡ Err (broken 14 142 y.most 35) → x ≡ ruling (first_broken (marked_rules y) s)
    named-long f h = marked-long x y s opens 1 (ap length one-part) l k (short-is ∙ sym r) f h

    pub named-kept : k ≡ true → x ≡ Ok tt → x ≡ ruling (first_broken (marked_rules y) s)
    named-kept f h = marked-kept x y s opens 1 (ap length one-part) l k (short-is ∙ sym r) f true empty-taken refl h

pub ruleset names = (is-broken, named-many, named-long, named-kept)

-- ---- how it begins

module _ (y : Style) (s : List ℕ) (k : Bool) (q : k ≡ pick y.names (starts np (drop 0 s)) false) where
  name-known : is_name y s ≡ k
  unfolding is_name
  name-known = ap (λ (t : List ℕ). pick y.names (starts np t) false) (sym (drop-none s)) ∙ sym q

  pub is-name : k ≡ true → is_name y s ≡ true
  is-name e = name-known ∙ e

  module _ (e : k ≡ false) where
    pub no_name : is_name y s ≡ false
    no_name = name-known ∙ e

    module _ (j : Bool) (r : j ≡ starts av (drop 0 s)) where
      led : starts av s ≡ j
      led = ap (starts av) (sym (drop-none s)) ∙ sym r

      pub led-begins : j ≡ true → begins y s ≡ true
      unfolding begins
      led-begins f = pick-false _ _ no_name ∙ pick_true _ _ (led ∙ f)

      pub led-unmarked : j ≡ true → unmarked s ≡ drop 3 s
      unfolding unmarked
      led-unmarked f = pick_true _ _ (led ∙ f)

      pub led-long : j ≡ true → 3 ≤ length s
      led-long f = starts-long av s (led ∙ f)

      module _ (f : j ≡ false) where
        pub bare-begins : y.may ≡ true → begins y s ≡ true
        unfolding begins
        bare-begins m = pick-false _ _ no_name ∙ (pick-false _ _ (led ∙ f) ∙ m)

        pub bare-unmarked : unmarked s ≡ s
        unfolding unmarked
        bare-unmarked = pick-false _ _ (led ∙ f)

        pub not-begun : (x : Ruling) → y.may ≡ false → x ≡ Err (broken 14 140 y.most 35) → x ≡ ruling (first_broken (marked_rules y) s)
        unfolding begins
        not-begun x m h = first-broke x s (within 14 140 y.most 35 (begins y)) _ (pick-false _ _ no_name ∙ (pick-false _ _ (led ∙ f) ∙ m)) h

pub from-start : (s : List ℕ) → 0 ≤ length s
from-start s = omega arith

pub ruleset begun = (is-broken, from-start, is-name, no_name, led-begins, led-unmarked, led-long, bare-begins, bare-unmarked, not-begun)
