-- Where a group's due day is judged, by the kind of its account file: a payment's at its own field, a collection's for each item. Document 01,
-- "Lines", due date; document 02, W-202. Assumes nothing.
use Rattle.std.specs.Prelude.{ℕ, Bool, true, false, eqb}
use Rattle.base.specs.Pick.{pick}
use Rattle.sheet.specs.declared.Sheet.{Sheet}
use Rattle.paper.specs.Days.{collect_allowed}

-- kind 1502 is a collection; this one has its days judged for each item, where the sheet does so (C and P)
unfoldable pub collection : Sheet → ℕ → Bool
collection sh kind = pick (eqb kind 1502) sh.collects false

-- Is a group's day judged at its own field? On C and P not in a collection, nor where no kind is given (0): there the lines are accepted already.
unfoldable pub day_here : Sheet → ℕ → Bool
day_here sh kind = pick sh.collects (pick (eqb kind 1502) false (pick (eqb kind 0) false true)) true

-- May an item of that payee bank stand in a group that is due on that day, in an account file of that kind? In such a collection by its day, in
-- any other always. The own bank is the sheet's: 0300.
unfoldable pub bank_due : Sheet → ℕ → ℕ → ℕ → ℕ → Bool
bank_due sh today kind date bank = pick (collection sh kind) (collect_allowed (eqb bank sh.bank) today date) true
