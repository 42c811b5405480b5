-- Worked examples of document 01's "Warnings are counted": what a line warns of, and at which of its bytes; computed over the definitions.
-- Assumes nothing.
use mathlib.Core.Path.{◌≡◌, refl}
use mathlib.Core.Bool.{true, false}
use mathlib.Core.List.{[], ◌∷◌}
use Rattle.sheet.specs.Sheets.{sheet_k as K, sheet_c as C, sheet_e as E}
use Rattle.paper.specs.Warnings.{past_day, low_priority, long_name, notice}
use Rattle.paper.specs.Entries.{group_line, item_line}
use Rattle.cases.specs.Asked.{judged, warned_of}

-- A past day is warned of at the date, on C alone.
pub days :
    (warned_of C false group_line "2 19-19 5001 311217" ≡ notice past_day 13 ∷ [])
    × (warned_of C false group_line "2 5001 20171231" ≡ notice past_day 7 ∷ [])
    × (warned_of C false group_line "2 19-19 5001 010118" ≡ [])
    × (warned_of E false group_line "2 19-19 5001 311217" ≡ [])
unfolding judged warned_of
days = (refl, refl, refl, refl)

-- K's priority digit is warned of at the bank field, wherever that begins.
pub priorities :
    (warned_of K false item_line "705 5001 42 0103000558" ≡ notice low_priority 12 ∷ [])
    × (warned_of K false item_line "705 5001 42 203000558" ≡ notice low_priority 12 ∷ [])
    × (warned_of K true item_line "19-19 705 5001 42 0103000558" ≡ notice low_priority 18 ∷ [])
    × (warned_of K false item_line "705 5001 42 0003000558" ≡ [])
    × (warned_of K false item_line "705 5001 42 0303000558" ≡ [])
unfolding judged warned_of
priorities = (refl, refl, refl, refl, refl)

-- What C cuts is warned of at its first byte; 35 bytes are not cut. (Parts before the name: text::wording's examples.)
pub names :
    (warned_of C false item_line "705 5001 42 03000558 NP:123456789012345678901234567890123456" ≡ notice long_name 24 ∷ [])
    × (warned_of C false item_line "705 5001 42 03000558 NP:12345678901234567890123456789012345" ≡ [])
unfolding judged warned_of
names = (refl, refl)
