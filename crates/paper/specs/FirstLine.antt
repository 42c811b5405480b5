-- The first line. Document 01, "Lines", first line. Assumes nothing.
use Rattle.std.specs.Prelude.{ℕ, Bool, true, false, List, ◌++◌, eqb, ltb, length, drop}
use Rattle.base.specs.Pick.{pick}
use Rattle.base.specs.Seek.{all}
use Rattle.sheet.specs.declared.Sheet.{Sheet}
use Rattle.paper.specs.Read.{Field, value, fault, given}
use Rattle.paper.specs.Bytes.{bytes, is_text}
use Rattle.paper.specs.Numerals.{digits, fixed}
use Rattle.paper.specs.Days.{short_day, spell_day}
use Rattle.paper.specs.Batch.{Header, no_header}
use Rattle.paper.specs.Entries.{head, Listed, plain, place, to_end}

-- text bytes: 4 otherwise
unfoldable pub text_field : List ℕ → Field (List ℕ)
text_field s = pick (all is_text s) (value s) (fault 4)

-- the interval's end: on K (`ordered`) 9 where it is below the start
unfoldable pub read_to : Bool → ℕ → List ℕ → Field ℕ
read_to ordered from s = given (digits 3 3 s) λ to. pick (pick ordered (ltb to from) false) (fault 9) (value to)

-- the rest: twelve bytes, on K (`short`) also six or none, so that the line has 58, 52 or 46
unfoldable pub rest_length : Bool → ℕ → Bool
rest_length short n = pick (eqb n 12) true (pick short (pick (eqb n 6) true (eqb n 0)) false)

-- .. of any text bytes, which say nothing
unfoldable pub read_rest : Bool → List ℕ → Field (List ℕ)
read_rest short s = pick (rest_length short (length s)) (text_field s) (fault 4)

-- K, S, E and P: `UHL1`, date DDMMRR, name 20, client number 10, interval start and end 3 and 3, the rest. C: `UHL1` and anything.
unfoldable pub read_first : Sheet → List ℕ → Listed
read_first sh s =
    pick sh.header
    (place 6 short_day 4 (drop 4 s) λ date a1 s1.
    place 20 text_field a1 s1 λ name a2 s2.
    place 10 (digits 10 10) a2 s2 λ client a3 s3.
    place 3 (digits 3 3) a3 s3 λ from a4 s4.
    place 3 (read_to sh.interval from) a4 s4 λ to a5 s5.
    to_end (read_rest sh.short) a5 s5 λ rest.
    plain (head (record { date = date; name = name; client = client; from = from; to = to })))
    (plain (head no_header))

-- "Canonical spelling": 58 bytes with twelve zeros at the end; on C `UHL1` alone
unfoldable pub spell_first : Sheet → Header → List ℕ
spell_first sh h =
    pick sh.header
    (bytes "UHL1" ++ (spell_day h.date ++ (h.name ++ (fixed 10 h.client ++ (fixed 3 h.from ++ (fixed 3 h.to ++ fixed 12 0))))))
    (bytes "UHL1")
