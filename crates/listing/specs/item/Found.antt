-- Where an item's bank field stands, and what its digit, each part and the name give by their places in the line. Document 01, "Lines", item;
-- document 02, W-205. Assumes nothing.
use Rattle.std.specs.Prelude.{ℕ, ◌+◌, ◌/◌, Bool, List, [], ◌∷◌, ◌++◌, ltb, length, drop}
use Rattle.base.specs.Pick.{pick}
use Rattle.base.specs.Seek.{seek}
use Rattle.sheet.specs.declared.Style.{Style}
use Rattle.paper.specs.Bytes.{space, field_of}
use Rattle.paper.specs.Lines.{Line}
use Rattle.text.specs.declared.span.Span.{Span}
use Rattle.text.specs.declared.span.Spans.{Spans}
use Rattle.why.specs.declared.Finding.{Finding}
use Rattle.why.specs.Forms.{spelled}
use Rattle.why.specs.Names.{bank_field, payee_name, field_number}
use Rattle.why.specs.Finding.{finding}
use Rattle.why.specs.Warned.{part_name, part_from}

-- behind the field of the line s that begins at `at`, and behind its space; the line's end where there is none
unfoldable pub behind : List ℕ → ℕ → ℕ
behind s at = pick (ltb (at + seek space (drop at s)) (length s)) (at + seek space (drop at s) + 1) (length s)

-- behind two fields
abbrev pub behind_two : List ℕ → ℕ → ℕ
behind_two s at = behind s (behind s at)

-- the bank field stands behind payee, amount and variable symbol, with the payer before them where the group is single
unfoldable pub bank_place : Bool → List ℕ → ℕ
bank_place single s = behind s (behind_two s (pick single (behind s 0) 0))

-- the priority digit d of a bank field of n bytes at the byte b, in line k: 1 and 2 are read as 5
unfoldable pub digit_warned : ℕ → ℕ → ℕ → ℕ → List Finding
digit_warned k b n d = pick (ltb d 1) [] (pick (ltb d 3) (finding 0 1014 k b n bank_field d 5 ∷ []) [])

-- .. of the bank field of the line t at `at`: its ninth digit from the right
unfoldable pub priority_warned : ℕ → Line → ℕ → List Finding
priority_warned k t at =
    digit_warned k (t.start + at) (length (field_of (drop at t.bytes))) (spelled (field_of (drop at t.bytes)) / 100000000)

-- a text of n bytes at the byte b, which is field m of line k: what is longer than 35 is cut
unfoldable pub cut_warned : ℕ → ℕ → ℕ → ℕ → ℕ → List Finding
cut_warned why k b n m =
    pick (ltb 35 n)
    (record { number = 0; cause = why; line = k; byte = b; length = n; field = m; least = 0; most = 35 } ∷ [])
    []

-- a part that has 35 bytes when it is cut may have more in the line t, whose parts begin at ps
unfoldable pub part_warned : Style → ℕ → Line → List ℕ → Span → List Finding
part_warned y k t ps x =
    pick (ltb x.len 35) []
    (cut_warned 1012 k (t.start + x.at) (length (part_from y (drop x.at t.bytes))) (field_number (part_name x.at ps)))

-- so may the name
unfoldable pub name_warned : ℕ → Line → Span → List Finding
name_warned k t x =
    pick (ltb x.len 35) []
    (cut_warned 1013 k (t.start + x.at) (length (drop x.at t.bytes)) (field_number payee_name))

-- where the four parts begin
abbrev pub part_places : Spans → List ℕ
part_places x = x.part1.at ∷ x.part2.at ∷ x.part3.at ∷ x.part4.at ∷ []

-- the four parts, one after the other
unfoldable pub parts_warned : Style → ℕ → Line → Spans → List Finding
parts_warned y k t x =
    part_warned y k t (part_places x) x.part1
    ++ (part_warned y k t (part_places x) x.part2
    ++ (part_warned y k t (part_places x) x.part3
    ++ part_warned y k t (part_places x) x.part4))

-- .. and the name
unfoldable pub texts_warned : Style → ℕ → Line → Spans → List Finding
texts_warned y k t x = parts_warned y k t x ++ name_warned k t x.name
