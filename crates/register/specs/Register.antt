-- The day's numbers in lent bytes, what is asked of them, a day's start and a number given back. Request W-207; the layout is that of
-- docs/ROWS.md. Assumes nothing.
use Rattle.std.specs.Prelude.{ℕ, zero, suc, ◌+◌, ◌*◌, Bool, false, List, [], ◌∷◌, ◌++◌, eqb, ltb, leb, length, take, drop}
use Rattle.base.specs.Pick.{pick}
use Rattle.paper.specs.Days.{real_day}
use Rattle.paper.specs.Words.{word_of, words, words_bytes}
use Rattle.fileline.specs.seen.Bits.{bit}
use Rattle.register.specs.Marks.{Marks, none, without, taken, free, lowest}

-- what lent bytes say: for which creation date the register is, and which numbers are marked; or that they are not laid out as one
pub data Register : Type 0 where
  malformed : Register
  of : ℕ → Marks → Register

-- ---- the layout: 17 words; word 0 is the date, and number n is bit n mod 64 of word 1 + n div 64

abbrev pub register_size : ℕ
register_size = 136

-- the date
unfoldable pub date_in : List ℕ → ℕ
date_in lent = word_of (take 8 lent)

-- the numbers; the words have room for 1,024
unfoldable pub marks_in : List ℕ → Marks
marks_in lent = bit (words 16 (drop 8 lent))

-- none of 1,000 to 1,023 is marked
unfoldable pub none_above : Marks → Bool
none_above p = eqb (taken (λ j. p (1000 + j)) 24) 0

-- 136 bytes or more, a real day, no number above 999
unfoldable pub is_laid : List ℕ → Bool
is_laid lent = pick (leb register_size (length lent)) (pick (real_day (date_in lent)) (none_above (marks_in lent)) false) false

-- what lent bytes say; those behind the first 136 say nothing
unfoldable pub register_of : List ℕ → Register
register_of lent = pick (is_laid lent) (of (date_in lent) (marks_in lent)) malformed

-- is it for this day? A malformed one is for none.
unfoldable pub fits : Register → ℕ → Bool
fits malformed d = false
fits (of date p) d = eqb d date

-- is this number marked?
unfoldable pub used : Register → Marks
used malformed = none
used (of date p) = p

-- k numbers from n on as a word: the first is worth 1, each next one twice as much
unfoldable pub word_from : Marks → ℕ → ℕ → ℕ
word_from p n zero = 0
word_from p n (suc k) = pick (p n) 1 0 + 2 * word_from p (suc n) k

-- m words of 64 numbers each
unfoldable pub words_from : Marks → ℕ → ℕ → List ℕ
words_from p n zero = []
words_from p n (suc m) = word_from p n 64 ∷ words_from p (n + 64) m

-- a date and marks as bytes
unfoldable pub register_bytes : ℕ → Marks → List ℕ
register_bytes date p = words_bytes (date ∷ words_from p 0 16)

-- they are put in front of what was lent behind the register
unfoldable pub laid_in : List ℕ → ℕ → Marks → List ℕ
laid_in lent date p = register_bytes date p ++ drop register_size lent

-- ---- the calls: an answer is a number, and a value where one is named, else 0

pub record RegisterAnswer : Type 0 where
  pub number : ℕ
  pub value : ℕ

-- these two
abbrev pub answer : ℕ → ℕ → RegisterAnswer
answer n v = record { number = n; value = v }

-- a day is started: 2 for a day that is not real, then 16 with the bytes needed; what stood there is not looked at
unfoldable pub start_answer : ℕ → List ℕ → RegisterAnswer
start_answer date lent = pick (real_day date) (pick (leb register_size (length lent)) (answer 0 0) (answer 16 register_size)) (answer 2 0)

-- nothing is marked then
unfoldable pub start_after : ℕ → List ℕ → List ℕ
start_after date lent = pick (real_day date) (pick (leb register_size (length lent)) (laid_in lent date none) lent) lent

-- the lowest free number, 1,000 if none is; 23 for a malformed register
unfoldable pub lowest_in : Register → RegisterAnswer
lowest_in malformed = answer 23 0
lowest_in (of date p) = answer 0 (lowest p 1000)

-- how many numbers are free
unfoldable pub free_in : Register → RegisterAnswer
free_in malformed = answer 23 0
free_in (of date p) = answer 0 (free p 1000)

-- may n be given back? It is at most 999, and marked
unfoldable pub is_given : Marks → ℕ → Bool
is_given p n = pick (ltb n 1000) (p n) false

-- n is given back: 24 where it may not be
unfoldable pub give_in : Register → ℕ → RegisterAnswer
give_in malformed n = answer 23 0
give_in (of date p) n = pick (is_given p n) (answer 0 0) (answer 24 0)

-- it is marked no more
unfoldable pub given_bytes : List ℕ → Register → ℕ → List ℕ
given_bytes lent malformed n = lent
given_bytes lent (of date p) n = pick (is_given p n) (laid_in lent date (without n p)) lent

-- the same of lent bytes
unfoldable pub lowest_answer : List ℕ → RegisterAnswer
lowest_answer lent = lowest_in (register_of lent)

unfoldable pub free_answer : List ℕ → RegisterAnswer
free_answer lent = free_in (register_of lent)

unfoldable pub give_answer : List ℕ → ℕ → RegisterAnswer
give_answer lent n = give_in (register_of lent) n

unfoldable pub give_after : List ℕ → ℕ → List ℕ
give_after lent n = given_bytes lent (register_of lent) n
