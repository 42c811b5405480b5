-- What is left of a first line to read, field by field. Document 01, "Lines", first line. Assumes nothing.
use Rattle.std.specs.Prelude.{ℕ, Bool, false, List, length, take, drop}
use Rattle.base.specs.Pick.{pick}
use Rattle.base.specs.Seek.{all}
use Rattle.paper.specs.Bytes.{is_text}
use Rattle.paper.specs.Numerals.{digits}
use Rattle.paper.specs.Days.{short_day}
use Rattle.paper.specs.Entries.{head, Listed, plain, place, to_end}
use Rattle.paper.specs.FirstLine.{text_field, read_to, rest_length, read_rest}

-- the name: the 20 bytes of the line s behind `UHL1` and the date
abbrev pub name_in : List ℕ → List ℕ
name_in s = take 20 (drop 10 s)

-- a rest that is taken: of a length that the sheet allows, and text bytes only
unfoldable pub rest_taken : Bool → List ℕ → Bool
rest_taken short s = pick (rest_length short (length s)) (all is_text s) false

-- Of the line, s is left from `at` on, and the fields before are known: from the interval's end on ..
unfoldable pub on_to : Bool → Bool → ℕ → List ℕ → ℕ → ℕ → ℕ → List ℕ → Listed
on_to ordered short date name client from at s =
    place 3 (read_to ordered from) at s λ to a5 s5.
    to_end (read_rest short) a5 s5 λ rest.
    plain (head (record { date = date; name = name; client = client; from = from; to = to }))

-- .. from the interval's start on ..
unfoldable pub on_from : Bool → Bool → ℕ → List ℕ → ℕ → ℕ → List ℕ → Listed
on_from ordered short date name client at s = place 3 (digits 3 3) at s λ from. on_to ordered short date name client from

-- .. from the client number on ..
unfoldable pub on_client : Bool → Bool → ℕ → List ℕ → ℕ → List ℕ → Listed
on_client ordered short date name at s = place 10 (digits 10 10) at s λ client. on_from ordered short date name client

-- .. from the name on ..
unfoldable pub on_name : Bool → Bool → ℕ → ℕ → List ℕ → Listed
on_name ordered short date at s = place 20 text_field at s λ name. on_client ordered short date name

-- .. from the date on
unfoldable pub on_date : Bool → Bool → ℕ → List ℕ → Listed
on_date ordered short at s = place 6 short_day at s λ date. on_name ordered short date
