-- What was allowed, in words, by the parameters of the sheet that the rule itself goes by. Document 02, W-205. Assumes nothing.
use Rattle.std.specs.Prelude.{ℕ, Bool, List, [], ◌∷◌, ◌++◌, eqb}
use Rattle.base.specs.Pick.{pick}
use Rattle.sheet.specs.declared.Sheet.{Sheet}
use Rattle.paper.specs.Bytes.{bytes}
use Rattle.paper.specs.Numerals.{decimal, fixed}
use Rattle.paper.specs.Days.{year_of, month_of, day_of}
use Rattle.sentences.specs.Phrases.{Phrase, phrase, said, fields, plainly}

-- a day as YYYY-MM-DD
unfoldable pub dated : ℕ → List ℕ
dated d = fixed 4 (year_of d) ++ (bytes "-" ++ (fixed 2 (month_of d) ++ (bytes "-" ++ fixed 2 (day_of d))))

-- a number, or a range of them
unfoldable pub ranged : ℕ → ℕ → List ℕ
ranged a b = pick (eqb a b) (decimal a) (decimal a ++ (bytes " to " ++ decimal b))

-- `a to b digits`
unfoldable pub some_digits : ℕ → ℕ → List ℕ
some_digits a b = decimal a ++ (bytes " to " ++ (decimal b ++ bytes " digits"))

-- ---- 4, cause 40: how a field is spelled

-- those whose spelling is the same on every sheet
abbrev pub spellings : List Phrase
spellings =
    phrase 1 "six digits, DDMMRR"
    ∷ phrase 2 "20 bytes of text"
    ∷ phrase 3 "ten digits"
    ∷ phrase 4 "three digits"
    ∷ phrase 5 "three digits"
    ∷ phrase 10 "four digits"
    ∷ phrase 11 "six digits"
    ∷ phrase 12 "four digits"
    ∷ phrase 33 "1 to 10 digits"
    ∷ phrase 34 "8 to 10 digits"
    ∷ []

-- 2 to 10 digits on K, 1 to 16 where they may be joined, or with a prefix
unfoldable pub spelled_account : Sheet → List ℕ
spelled_account sh =
    some_digits sh.basemin (pick sh.joined 16 10) ++ (bytes ", or 1 to 6 digits, a dash and " ++ some_digits sh.basemin 10)

-- what makes a group single, by what the sheet takes: nothing, zeros alone
unfoldable pub single_words : Bool → Bool → List ℕ
single_words empty zeros =
    pick empty
    (pick zeros (bytes "; nothing or zeros alone for a single group") (bytes "; nothing for a single group"))
    (pick zeros (bytes "; zeros alone for a single group") [])

-- an account, and what makes a group single
unfoldable pub spelled_payer : Sheet → List ℕ
spelled_payer sh = spelled_account sh ++ single_words sh.emptypayer sh.zeropayer

-- up to `most` digits, with a comma where the sheet takes one
unfoldable pub spelled_amount : Sheet → ℕ → List ℕ
spelled_amount sh most =
    pick sh.comma
    (bytes "1 to 14 bytes: digits, and where there is a comma, two digits behind it and one or more before it")
    (some_digits 1 most)

-- text bytes; off S one or more; on C also a symbol, where the text stands behind the bank field
unfoldable pub spelled_text : Sheet → List ℕ
spelled_text sh =
    pick sh.bare (bytes "1 to 10 digits, or text bytes, 32 to 255 but 127, the first no space")
    (pick sh.text.av (bytes "text bytes, 32 to 255 but 127, one or more, the first no space") (bytes "text bytes, 32 to 255 but 127"))

-- the rest of the first line, which some sheets take shorter
unfoldable pub spelled_rest : Bool → List ℕ
spelled_rest short = pick short (bytes "0 or 6 or 12 bytes of text") (bytes "12 bytes of text")

-- a due date, which some sheets take longer
unfoldable pub spelled_due : Bool → List ℕ
spelled_due long = bytes "six digits, DDMMRR" ++ pick long (bytes ", or eight, RRRRMMDD") []

-- by the field
unfoldable pub spelled_as : Sheet → ℕ → List ℕ
spelled_as sh field =
    pick (eqb field 6) (spelled_rest sh.short)
    (pick (eqb field 20) (spelled_payer sh)
    (pick (eqb field 21) (spelled_amount sh 14)
    (pick (eqb field 22) (spelled_due sh.longdate)
    (pick (eqb field 30) (spelled_account sh)
    (pick (eqb field 31) (spelled_account sh)
    (pick (eqb field 32) (spelled_amount sh sh.itemdigits)
    (pick (eqb field 35) (some_digits (pick sh.fixedtail 0 1) 10)
    (pick (eqb field 36) (spelled_text sh) (said spellings field)))))))))

-- ---- the other causes

-- the lines that close: `3 +` or `5 +`, near where the sheet takes that
unfoldable pub closing_words : Bool → ℕ → List ℕ
closing_words near field =
    pick (eqb field 50)
    (bytes "3 +" ++ pick near (bytes " or 3+") [])
    (bytes "5 +" ++ pick near (bytes " or 5+") [])

-- three digits of account files' numbers, from a to b
unfoldable pub numbered : ℕ → ℕ → List ℕ
numbered a b = fixed 3 a ++ (bytes " to " ++ fixed 3 b)

-- from a day on
unfoldable pub from_day : ℕ → List ℕ
from_day d = bytes "from " ++ (dated d ++ bytes " on")

-- at most n of what `unit` says
unfoldable pub at_most : ℕ → List ℕ → List ℕ
at_most n unit = bytes "at most " ++ (decimal n ++ unit)

-- 141 to 152: how many; any other cause in words alone
unfoldable pub allowed_count : ℕ → ℕ → ℕ → List ℕ
allowed_count cause a b =
    pick (eqb cause 141) (at_most a (bytes " parts"))
    (pick (eqb cause 142) (at_most b (bytes " bytes in a part"))
    (pick (eqb cause 150) (at_most b (bytes " account files"))
    (pick (eqb cause 151) (at_most b (bytes " items in an account file"))
    (pick (eqb cause 152) (at_most b (bytes " items in a file")) (said plainly cause)))))

-- 111 to 114: which days; any other cause as above
unfoldable pub allowed_day : ℕ → ℕ → ℕ → ℕ → List ℕ
allowed_day today cause a b =
    pick (eqb cause 111) (from_day today)
    (pick (eqb cause 112) (at_most b (bytes " days after " ++ dated today))
    (pick (eqb cause 113) (pick (eqb b 0) (from_day today) (bytes "after " ++ dated today))
    (pick (eqb cause 114) (bytes "at most one month after " ++ dated today) (allowed_count cause a b))))

-- 60 to 101: which numbers and sums; any other cause as above
unfoldable pub allowed_number : ℕ → ℕ → ℕ → ℕ → List ℕ
allowed_number today cause a b =
    pick (eqb cause 60) (ranged a b)
    (pick (eqb cause 61) (ranged a b)
    (pick (eqb cause 70) (ranged a b)
    (pick (eqb cause 80) (fixed 4 a)
    (pick (eqb cause 90) (numbered a b)
    (pick (eqb cause 91) (bytes "first three digits " ++ numbered a b)
    (pick (eqb cause 100) (bytes "the sum of the items, " ++ decimal a)
    (pick (eqb cause 101) (bytes "a sum of at most " ++ decimal b) (allowed_day today cause a b))))))))

-- what was allowed on a sheet on a day, by cause and field, from `a` to `b`
unfoldable pub allowed : Sheet → ℕ → ℕ → ℕ → ℕ → ℕ → List ℕ
allowed sh today cause field a b =
    pick (eqb cause 40) (spelled_as sh field)
    (pick (eqb cause 41) (bytes "a space and " ++ (said fields field ++ bytes " behind it"))
    (pick (eqb cause 43) (closing_words sh.near field) (allowed_number today cause a b)))
