-- The internal form of an account: its sixteen digits in another order, how a record's field of them is read, and how it is spelled.
-- Document 02, W-204. Assumes nothing.
use Rattle.std.specs.Prelude.{ℕ, List, [], ◌∷◌, ◌++◌, get_or, take, drop}
use Rattle.paper.specs.Read.{Field, value, given}
use Rattle.paper.specs.Numerals.{digits, fixed}
use Rattle.paper.specs.Accounts.{Account, account}
use Rattle.gpc.specs.Parts.{or51}

-- the elements of d at these places, one after the other
unfoldable pub taken : List ℕ → List ℕ → List ℕ
taken [] d = []
taken (p ∷ ps) d = get_or d p 0 ∷ taken ps d

-- Where each internal digit stands among the edited ones, P1 to P6 (places 0 to 5) and C1 to C10 (6 to 15):
-- C10 C8 C9 C6 C1 C2 C3 C4 C5 C7 P1 P2 P3 P4 P5 P6
abbrev pub inside : List ℕ
inside = 15 ∷ 13 ∷ 14 ∷ 11 ∷ 6 ∷ 7 ∷ 8 ∷ 9 ∷ 10 ∷ 12 ∷ 0 ∷ 1 ∷ 2 ∷ 3 ∷ 4 ∷ 5 ∷ []

-- where each edited digit stands among the internal ones
abbrev pub outside : List ℕ
outside = 10 ∷ 11 ∷ 12 ∷ 13 ∷ 14 ∷ 15 ∷ 4 ∷ 5 ∷ 6 ∷ 7 ∷ 8 ∷ 3 ∷ 9 ∷ 1 ∷ 2 ∷ 0 ∷ []

-- edited digits, the prefix's six and the base's ten, in the internal order
unfoldable pub internal : List ℕ → List ℕ
internal d = taken inside d

-- internal digits in the edited order
unfoldable pub edited : List ℕ → List ℕ
edited d = taken outside d

-- the account of sixteen edited digits: the first six are its prefix, the last ten its base
unfoldable pub account_of : List ℕ → Field Account
account_of e = given (digits 6 6 (take 6 e)) λ prefix. given (digits 10 10 (drop 6 e)) λ base. value (account prefix base)

-- sixteen digits and nothing else, which are the account of their edited order; that it keeps the rule of accounts is not asked
unfoldable pub read_internal : List ℕ → Field Account
read_internal s = or51 (given (digits 16 16 s) λ _. account_of (edited s))

-- the prefix in six digits and the base in ten, in the internal order
unfoldable pub spell_internal : Account → List ℕ
spell_internal a = internal (fixed 6 a.prefix ++ fixed 10 a.base)
