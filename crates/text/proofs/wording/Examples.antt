-- Cases of document 01, "Cases at the edges" and "Lines", tail; and where ` NP:` is looked for. Assumes nothing.
use mathlib.Core.Path.{◌≡◌, refl, sym, ap, ◌∙◌}
use mathlib.Core.Bool.{true, false}
use mathlib.Core.List.{List, [], ◌∷◌, ◌++◌}
use Prim.Native.Nat.{ℕ, ◌+◌}
use native.Mathlib.Omega.{arith}
use lib.Dec.{eqb}
use lib.ListN.{drop, length, replicate}
use borrow.Author.Tests.{eqb-true}
use Rattle.base.specs.Pick.{pick}
use Rattle.base.specs.Seek.{all, starts, seek}
use Rattle.base.proofs.Cases.{by-test}
use Rattle.base.proofs.Seek.{never}
use Rattle.sheet.specs.Sheets.{style_ke, style_s, style_c, style_p}
use Rattle.paper.specs.Read.{Field, value, fault}
use Rattle.paper.specs.Warnings.{long_part, long_name, Notice, notice}
use Rattle.paper.specs.Bytes.{is_text, is_clean, av, mark, null}
use Rattle.paper.specs.Texts.{Piece, piece, Noted, others, cut, over, overs, pad, opens, taken, parts_taken, fitted, finish, message_end, message, marked, read_text, lacks, words_carried, part_carried, keep, trim, join_on, joined, spell_name, spell_marked, spell_text}

abbrev empty : Piece
empty = piece 0 []

abbrev read : List Piece → Piece → List Notice → Field Noted
read ps n w = value (record { parts = ps; name = n; warnings = w })

-- `AV: NP:Jan`, `AV:NP:J`, `NP:J`, `led`, ` x`, all at the place 20 of their line; and 36 bytes as a part or a name
cases :
    (read_text style_c 20 (65 ∷ 86 ∷ 58 ∷ 32 ∷ 78 ∷ 80 ∷ 58 ∷ 74 ∷ 97 ∷ 110 ∷ []) ≡ read (empty ∷ empty ∷ empty ∷ empty ∷ []) (piece 27 (74 ∷ 97 ∷ 110 ∷ [])) [])
    × (read_text style_c 20 (65 ∷ 86 ∷ 58 ∷ 78 ∷ 80 ∷ 58 ∷ 74 ∷ []) ≡ read (piece 23 (78 ∷ 80 ∷ 58 ∷ 74 ∷ []) ∷ empty ∷ empty ∷ empty ∷ []) empty [])
    × (read_text style_c 20 (78 ∷ 80 ∷ 58 ∷ 74 ∷ []) ≡ read (empty ∷ empty ∷ empty ∷ empty ∷ []) (piece 23 (74 ∷ [])) [])
    × (read_text style_c 20 (108 ∷ 101 ∷ 100 ∷ []) ≡ read (piece 20 (108 ∷ 101 ∷ 100 ∷ []) ∷ empty ∷ empty ∷ empty ∷ []) empty [])
    × (read_text style_c 20 (32 ∷ 120 ∷ []) ≡ fault 4)
    × (finish style_ke (piece 23 (replicate 36 120) ∷ []) empty ≡ fault 14)
    × (finish style_c (piece 23 (replicate 36 120) ∷ []) empty ≡ read (piece 23 (replicate 35 120) ∷ empty ∷ empty ∷ empty ∷ []) empty (notice long_part 23 ∷ []))
    × (finish style_c (empty ∷ []) (piece 23 (replicate 36 120)) ≡ read (empty ∷ empty ∷ empty ∷ empty ∷ []) (piece 23 (replicate 35 120)) (notice long_name 23 ∷ []))
    × (finish style_c (piece 23 (replicate 36 120) ∷ piece 60 (replicate 35 120) ∷ piece 96 (replicate 36 120) ∷ []) (piece 136 (replicate 36 120))
    ≡ read (piece 23 (replicate 35 120) ∷ piece 60 (replicate 35 120) ∷ piece 96 (replicate 35 120) ∷ empty ∷ []) (piece 136 (replicate 35 120))
    (notice long_part 23 ∷ notice long_part 96 ∷ notice long_name 136 ∷ []))
    × (read_text style_ke 20 (65 ∷ 86 ∷ 58 ∷ 120 ∷ 124 ∷ 124 ∷ 120 ∷ []) ≡ read (piece 23 (120 ∷ []) ∷ empty ∷ piece 26 (120 ∷ []) ∷ empty ∷ []) empty [])
    × (read_text style_ke 20 (65 ∷ 86 ∷ 58 ∷ []) ≡ read (empty ∷ empty ∷ empty ∷ empty ∷ []) empty [])
    × (read_text style_ke 20 (65 ∷ 86 ∷ 58 ∷ replicate 4 124) ≡ fault 14)
    × (read_text style_ke 20 (108 ∷ 101 ∷ 100 ∷ []) ≡ fault 14)
    × (read_text style_s 20 (32 ∷ 120 ∷ []) ≡ read (piece 20 (32 ∷ 120 ∷ []) ∷ empty ∷ empty ∷ empty ∷ []) empty [])
    × (read_text style_s 20 (120 ∷ 124 ∷ []) ≡ fault 14)
    × (read_text style_s 20 [] ≡ read (empty ∷ empty ∷ empty ∷ empty ∷ []) empty [])
    × (spell_text style_c ((108 ∷ []) ∷ [] ∷ (100 ∷ []) ∷ [] ∷ []) (74 ∷ []) ≡ 65 ∷ 86 ∷ 58 ∷ 108 ∷ 124 ∷ 124 ∷ 100 ∷ 32 ∷ 78 ∷ 80 ∷ 58 ∷ 74 ∷ [])
    × (spell_text style_c ([] ∷ [] ∷ [] ∷ [] ∷ []) (74 ∷ []) ≡ 78 ∷ 80 ∷ 58 ∷ 74 ∷ [])
unfolding read_text spell_text spell_marked spell_name joined join_on trim keep opens marked message message_end taken parts_taken fitted finish pad cut over overs others all starts seek pick is_text null
cases = (refl, refl, refl, refl, refl, refl, refl, refl, refl, refl, refl, refl, refl, refl, refl, refl, refl, refl)

-- On P: `AV:#`, `AV:a|b~`, `AV:a|b`, `AV:a NP:b` and `AV:#` with a byte 31 behind it; the same texts in K's style, which takes both; and what is carried
cleaned :
    (read_text style_p 20 (65 ∷ 86 ∷ 58 ∷ 35 ∷ []) ≡ fault 14)
    × (read_text style_p 20 (65 ∷ 86 ∷ 58 ∷ 97 ∷ 124 ∷ 98 ∷ 126 ∷ []) ≡ fault 14)
    × (read_text style_p 20 (65 ∷ 86 ∷ 58 ∷ 97 ∷ 124 ∷ 98 ∷ []) ≡ read (piece 23 (97 ∷ []) ∷ piece 25 (98 ∷ []) ∷ empty ∷ empty ∷ []) empty [])
    × (read_text style_p 20 (65 ∷ 86 ∷ 58 ∷ 97 ∷ 32 ∷ 78 ∷ 80 ∷ 58 ∷ 98 ∷ []) ≡ read (piece 23 (97 ∷ 32 ∷ 78 ∷ 80 ∷ 58 ∷ 98 ∷ []) ∷ empty ∷ empty ∷ empty ∷ []) empty [])
    × (read_text style_p 20 (65 ∷ 86 ∷ 58 ∷ 35 ∷ 31 ∷ []) ≡ fault 4)
    × (read_text style_ke 20 (65 ∷ 86 ∷ 58 ∷ 35 ∷ 124 ∷ 126 ∷ []) ≡ read (piece 23 (35 ∷ []) ∷ piece 25 (126 ∷ []) ∷ empty ∷ empty ∷ []) empty [])
    × (part_carried style_p 3 (97 ∷ 35 ∷ []) ≡ false)
    × (part_carried style_p 3 (97 ∷ 126 ∷ []) ≡ false)
    × (part_carried style_p 3 (97 ∷ 36 ∷ []) ≡ true)
    × (part_carried style_ke 3 (35 ∷ 126 ∷ []) ≡ true)
unfolding read_text opens marked message message_end taken parts_taken fitted finish words_carried part_carried lacks pad cut over overs others all starts seek pick is_text is_clean null
cleaned = (refl, refl, refl, refl, refl, refl, refl, refl, refl, refl)

-- a text that begins with a pattern is the pattern and a rest
starts-split : (ps s : List ℕ) → starts ps s ≡ true → s ≡ ps ++ drop (length ps) s
unfolding starts pick
starts-split [] s h = refl
starts-split (p ∷ ps) [] h = never (sym h)
starts-split (p ∷ ps) (x ∷ s) h =
    by-test (eqb x p)
    (λ e. rw (eqb-true x p e) (ap (λ (l : List ℕ). p ∷ l) (starts-split ps s (simp e at h))))
    (λ e. never (sym (simp e at h)))

-- the first ` NP:` of the whole text: `AV:` dropped or not, it stands at the same place
pub same-mark : (t : List ℕ) → starts av t ≡ true → seek mark t ≡ 3 + seek mark (drop 3 t)
unfolding seek starts pick
same-mark t h = ap (seek mark) (starts-split av t h) ∙ omega arith
