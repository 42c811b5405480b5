-- The words for fields, refusals and what was due, by their numbers. Document 02, W-205. Assumes nothing.
use Rattle.std.specs.Prelude.{ℕ, List, [], ◌∷◌, eqb}
use Prim.Native.String.{String}
use Rattle.base.specs.Pick.{pick}
use Rattle.paper.specs.Bytes.{bytes}

-- a number and its words
pub record Phrase : Type 0 where
  pub number : ℕ
  pub words : List ℕ

-- of a text
abbrev pub phrase : ℕ → String → Phrase
phrase n s = record { number = n; words = bytes s }

-- the words of a number, none where it has none
unfoldable pub said : List Phrase → ℕ → List ℕ
said [] n = []
said (p ∷ ps) n = pick (eqb n p.number) p.words (said ps n)

-- the fields, by `Names.field_number`
abbrev pub fields : List Phrase
fields =
    phrase 0 "the line"
    ∷ phrase 1 "the creation date"
    ∷ phrase 2 "the name"
    ∷ phrase 3 "the client number"
    ∷ phrase 4 "the interval's start"
    ∷ phrase 5 "the interval's end"
    ∷ phrase 6 "the rest"
    ∷ phrase 10 "the kind"
    ∷ phrase 11 "the number"
    ∷ phrase 12 "the bank"
    ∷ phrase 20 "the payer's account"
    ∷ phrase 21 "the total"
    ∷ phrase 22 "the due date"
    ∷ phrase 30 "the payer's account"
    ∷ phrase 31 "the payee's account"
    ∷ phrase 32 "the amount"
    ∷ phrase 33 "the variable symbol"
    ∷ phrase 34 "the bank field"
    ∷ phrase 35 "the specific symbol"
    ∷ phrase 36 "the text"
    ∷ phrase 37 "message part 1"
    ∷ phrase 38 "message part 2"
    ∷ phrase 39 "message part 3"
    ∷ phrase 40 "message part 4"
    ∷ phrase 41 "the name"
    ∷ phrase 50 "the group's end"
    ∷ phrase 51 "the account file's end"
    ∷ []

-- the rules, by the refusal's number
abbrev pub rules : List Phrase
rules =
    phrase 3 "another line is due"
    ∷ phrase 4 "the field is not spelled as it must be"
    ∷ phrase 5 "the account is not valid"
    ∷ phrase 6 "the amount is not allowed"
    ∷ phrase 7 "the kind is not on the sheet"
    ∷ phrase 8 "the payer's bank is not the sheet's"
    ∷ phrase 9 "the interval or the number is not allowed"
    ∷ phrase 10 "the total is not the sum"
    ∷ phrase 11 "the day is not allowed"
    ∷ phrase 12 "the payee's bank is 0000"
    ∷ phrase 13 "a leading digit is not allowed"
    ∷ phrase 14 "the text breaks the sheet"
    ∷ phrase 15 "there are too many"
    ∷ []

-- what was allowed, by the cause, where that needs no more than words
abbrev pub plainly : List Phrase
plainly =
    phrase 30 "a first line, UHL1"
    ∷ phrase 31 "an account file, 1"
    ∷ phrase 32 "a group, 2"
    ∷ phrase 33 "an item"
    ∷ phrase 34 "an item or the group's end, 3 +"
    ∷ phrase 35 "a group, 2, or the account file's end, 5 +"
    ∷ phrase 36 "an account file, 1, or the end of the file"
    ∷ phrase 42 "the end of the line"
    ∷ phrase 50 "a prefix whose weighted digits add up to a multiple of 11"
    ∷ phrase 51 "a base whose weighted digits add up to a multiple of 11"
    ∷ phrase 52 "a base with two digits or more that are not zero"
    ∷ phrase 92 "first three digits that no account file before has"
    ∷ phrase 110 "a real day of 2000 to 2099"
    ∷ phrase 120 "0001 to 9999"
    ∷ phrase 130 "0 as the ninth digit from the right"
    ∷ phrase 131 "0 as the tenth digit from the right"
    ∷ phrase 140 "a text that begins with AV:"
    ∷ phrase 143 "no bar"
    ∷ phrase 144 "no # and no ~"
    ∷ []
