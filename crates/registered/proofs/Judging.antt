-- The judging of a file against a loaded register: the date, a refusal told apart, and what an accepted file leaves. Assumes nothing.
use Rattle.std.proofs.Common.{Result, Ok, Err}
use Prim.Native.Nat.{ℕ}
use mathlib.Core.Path.{◌≡◌, refl, sym, ◌∙◌, fun_ext}
use mathlib.Core.Bool.{Bool, true, false, not, ◌&&◌}
use mathlib.Core.List.{List, [], ◌∷◌, ◌++◌}
use lib.Dec.{eqb}
use borrow.Author.Rules.{rules}
use Rattle.base.specs.Pick.{pick}
use Rattle.base.proofs.Cases.{by-test}
use denote.Enum.Bare.{sameb, false_same, differs_true, differs_false}
use Rattle.refusal.specs.contracts.Refusal.{the_type}
use Rattle.refusal.specs.declared.Refusal.{Refusal}
use Rattle.refusal.specs.declared.Refusal.TheVariants.{BadSheet, BadToday, BadOrder, BadField, BadAccount, BadAmount, BadKind, BadPayerBank, BadNumber, BadTotal, BadDay, BadPayeeBank, BadDigit, BadText, TooMany, NoRoom, NotABatch, NotCarried, NumberUsed, BadRegister, NotTaken, BadRecord, BadValue, BadTurnover, BadBalance}
use Rattle.refusal.specs.Numbers.{number_of}
use Rattle.paper.specs.Batch.{AccountFile, Batch}
use Rattle.paper.specs.FileLine.{member, series}
use Rattle.paper.specs.Judge.{rev_on, seen, is}
use Rattle.fileline.specs.seen.Bits.{bit, Holds}
use Rattle.tally.specs.Short.{Brief, No}
use Rattle.register.specs.Marks.{with}
use Rattle.judge.specs.declared.file.Accepted.{Accepted}
use Rattle.judge.specs.declared.refused.Refused.{Refused}
use Rattle.judge.specs.file.Answer.{told}
use Rattle.against.specs.Turned.{is_nine, turned}

-- ---- a refusal told apart: own is the file's own judgement

-- a refusal is compared with a bad number by its number
nine : (r : Refusal) → sameb the_type BadNumber r ≡ eqb (number_of r) 9
nine BadSheet = refl
nine BadToday = refl
nine BadOrder = refl
nine BadField = refl
nine BadAccount = refl
nine BadAmount = refl
nine BadKind = refl
nine BadPayerBank = refl
nine BadNumber = refl
nine BadTotal = refl
nine BadDay = refl
nine BadPayeeBank = refl
nine BadDigit = refl
nine BadText = refl
nine TooMany = refl
nine NoRoom = refl
nine NotABatch = refl
nine NotCarried = refl
nine NumberUsed = refl
nine BadRegister = refl
nine NotTaken = refl
nine BadRecord = refl
nine BadValue = refl
nine BadTurnover = refl
nine BadBalance = refl

ands : (a b c : Bool) → pick a (pick b c false) false ≡ (a && (b && c))
unfolding pick
ands true true c = refl
ands true false c = refl
ands false b c = refl

-- t says whether r is for another rule than that of numbers
module _ (f : List ℕ) (own : Brief) (r : Refused) (t : Bool) (g : t ≡ not (sameb the_type r.refusal BadNumber)) where
  pub apart_other : t ≡ true → told f (Err r) ≡ turned own (told f (Err r))
  unfolding turned pick
  apart_other e =
      let other : eqb (number_of r.refusal) 9 ≡ false = sym (nine r.refusal) ∙ false_same the_type (search rules) BadNumber r.refusal (λ q. differs_true the_type r.refusal BadNumber (sym g ∙ e) (sym q)) in
      rw other

  -- j is what the file was judged to be
  module _ (e : t ≡ false) (j : Result Accepted Refused) (h : told f j ≡ own) where
    number_is : r.refusal ≡ BadNumber
    number_is = differs_false the_type (search rules) r.refusal BadNumber (sym g ∙ e)

    pub apart-accepted : (x : Accepted) → j ≡ Ok x → No 22 r.line r.byte ≡ turned own (told f (Err r))
    unfolding turned is_nine pick
    apart-accepted x q = rw (← h, q, number_is)

    -- s says whether it is the same as the file's own, o
    module _ (o : Refused) (q : j ≡ Err o) (s : Bool) (k : s ≡ (sameb the_type r.refusal o.refusal && (eqb r.line o.line && eqb r.byte o.byte))) where
      same-nine : is_nine r.line r.byte (told f (Err o)) ≡ s
      unfolding is_nine
      same-nine = rw (← nine o.refusal) (ands (sameb the_type BadNumber o.refusal) (eqb r.line o.line) (eqb r.byte o.byte)) ∙ rw number_is at (sym k)

      pub apart-same : s ≡ true → told f (Err r) ≡ turned own (told f (Err r))
      unfolding turned pick
      apart-same y = rw (← h, q, same-nine, y, number_is)

      pub apart-different : s ≡ false → No 22 r.line r.byte ≡ turned own (told f (Err r))
      unfolding turned pick
      apart-different y = rw (← h, q, same-nine, y, number_is)

pub ruleset aparts = (apart_other, apart-accepted, apart-same, apart-different)

-- ---- what is marked: the batch's numbers, in whatever order, besides those that were

member-both : (x : ℕ) (l u : List ℕ) → member x (l ++ u) ≡ pick (member x l) true (member x u)
unfolding member pick
member-both x [] u = refl
member-both x (y ∷ l) u = by-test (eqb x y) (λ e. simp e) (λ e. simp e (member-both x l u))

in-front : (a b c : Bool) → pick a true (pick b true c) ≡ pick (pick b true a) true c
unfolding pick
in-front true true c = refl
in-front true false c = refl
in-front false true c = refl
in-front false false c = refl

seen-rev : (x : ℕ) (a m : List AccountFile) → member x (seen (rev_on a m)) ≡ pick (member x (seen a)) true (member x (seen m))
unfolding member seen pick
seen-rev x [] m = refl
seen-rev x (f ∷ a) m = seen-rev x a (f ∷ m) ∙ in-front (member x (seen a)) (eqb x (series f.number)) (member x (seen m))

none_more : (t : Bool) → pick t true false ≡ t
unfolding pick
none_more true = refl
none_more false = refl

pub words-hold : (words m u : List ℕ) (b : Batch) (p : ℕ → Bool) → Holds words m → m ≡ seen (rev_on b []) ++ u → ((n : ℕ) → p n ≡ member n u) → bit words ≡ with (seen b) p
unfolding with member seen
words-hold words m u b p holds e is =
    fun_ext λ (n : ℕ).
    holds n ∙ rw (e, member-both n (seen (rev_on b [])) u, seen-rev n b [], none_more (member n (seen b)), is n)
