-- What one sheet can carry of a batch and a header on a day, and where it first cannot: refusal 21, with row and field. Document 01,
-- "Numbers returned". The batch is as "The batch" says; 20 is tested before. Assumes nothing.
use Rattle.std.specs.Prelude.{ℕ, suc, ◌+◌, Bool, true, List, [], ◌∷◌, ltb, leb}
use Rattle.base.specs.Pick.{pick}
use Rattle.sheet.specs.declared.Sheet.{Sheet}
use Rattle.sheet.specs.declared.Style.{Style}
use Rattle.sheet.specs.Sheets.{kind_allowed}
use Rattle.paper.specs.Days.{due_allowed}
use Rattle.paper.specs.Terms.{day_here, bank_due}
use Rattle.paper.specs.Amounts.{amount_proper}
use Rattle.paper.specs.BankField.{priority_carried}
use Rattle.paper.specs.Texts.{part_carried, name_carried}
use Rattle.paper.specs.Batch.{Item, Header, Thing, a_file, a_group, an_item, misnumbered, strange}
use Rattle.paper.specs.FileLine.{series, number_allowed}
use Rattle.paper.specs.Proper.{Verdict, fine, wrong, check}

-- K: the interval's start is not above its end
unfoldable pub header_carried : Bool → Header → Verdict
header_carried ordered h = check 0 5 (pick ordered (leb h.from h.to) true) fine

-- parts, the first of which is part i and field n
unfoldable pub parts_carried_from : Style → ℕ → ℕ → ℕ → List (List ℕ) → Verdict → Verdict
parts_carried_from y k n i [] rest = rest
parts_carried_from y k n i (p ∷ ps) rest = check k n (part_carried y i p) (parts_carried_from y k (n + 2) (suc i) ps rest)

-- an item's fields that a sheet may not carry: amount, priority, parts, name
unfoldable pub item_carried : Sheet → ℕ → Item → Verdict → Verdict
item_carried sh k x rest =
    check k 6 (amount_proper sh.itemmax x.amount)
    (check k 10 (priority_carried sh.priority x.priority)
    (parts_carried_from sh.text k 11 0 x.parts
    (check k 19 (name_carried sh.text x.name) rest)))

-- where rows stand: how many items are before them in the file, the first three digits of account files' numbers before them, and the kind and
-- the due date of the account file and the group at hand, 0 where there is none
pub record Place : Type 0 where
  pub items : ℕ
  pub seen : List ℕ
  pub kind : ℕ
  pub date : ℕ

-- before the first row
abbrev pub at_start : Place
at_start = record { items = 0; seen = []; kind = 0; date = 0 }

-- behind an account file's row, a group's and an item's
abbrev pub behind_file : Place → ℕ → ℕ → Place
behind_file p kind number = record { items = p.items; seen = series number ∷ p.seen; kind = kind; date = 0 }

abbrev pub behind_group : Place → ℕ → Place
behind_group p date = record { items = p.items; seen = p.seen; kind = p.kind; date = date }

abbrev pub behind_item : Place → Place
behind_item p = record { items = suc p.items; seen = p.seen; kind = p.kind; date = p.date }

-- The rows from row k on, which stand at p. An account file's kind and number; a group's due day; item 1,001 of S at its kind, and of an item the
-- payee bank by the group's day, amount, priority, parts and name.
unfoldable pub rows_carried : Sheet → ℕ → Header → ℕ → Place → List Thing → Verdict
rows_carried sh today h k p [] = fine
rows_carried sh today h k p (a_file kind number ∷ ts) =
    check k 1 (kind_allowed sh kind)
    (check k 2 (number_allowed sh.interval h p.seen number)
    (rows_carried sh today h (suc k) (behind_file p kind number) ts))
rows_carried sh today h k p (a_group date payer ∷ ts) =
    check k 1 (due_allowed (day_here sh p.kind) sh.early sh.ahead today date)
    (rows_carried sh today h (suc k) (behind_group p date) ts)
rows_carried sh today h k p (an_item x ∷ ts) =
    check k 0 (ltb p.items sh.fileitems)
    (check k 5 (bank_due sh today p.kind p.date x.bank)
    (item_carried sh k x (rows_carried sh today h (suc k) (behind_item p) ts)))
rows_carried sh today h k p (misnumbered x ∷ ts) = wrong k 21
rows_carried sh today h k p (strange ∷ ts) = wrong k 0

-- the whole batch from row 1 on
unfoldable pub batch_carried : Sheet → ℕ → Header → List Thing → Verdict
batch_carried sh today h ts = rows_carried sh today h 1 at_start ts
