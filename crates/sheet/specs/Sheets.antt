-- The sheets as records of what their banks ask, and which number or letter names which. Document 01, "What the library handles",
-- with each sheet's answers to the questions that "Accounts" and "Lines" put, and document 02, W-201. Assumes nothing.
use Rattle.std.specs.Prelude.{ℕ, ◌≡◌, Bool, true, false, List, [], ◌∷◌, leb, eqb, ltb, Option, Some, None}
use Rattle.base.specs.Pick.{pick}
use Rattle.sheet.specs.declared.Style.{Style}
use Rattle.sheet.specs.declared.Sheet.{Sheet}
use Rattle.sheet.specs.declared.Kinds.{Kinds}
use Rattle.sheet.specs.declared.Limits.{Limits}

-- "Tail": on K and E a text begins `AV:`, has up to four parts and no name, and nothing in it is cut
abbrev pub style_ke : Style
style_ke = record { av = true; may = false; names = false; cuts = false; clean = false; most = 4 }

-- on S it is one part as it stands
abbrev pub style_s : Style
style_s = record { av = false; may = false; names = false; cuts = false; clean = false; most = 1 }

-- on C `AV:` may be missing, a name may follow, and what is too long is cut
abbrev pub style_c : Style
style_c = record { av = true; may = true; names = true; cuts = true; clean = false; most = 4 }

-- on P, document 02, W-201: as on K, but no part holds `#` or `~`
abbrev pub style_p : Style
style_p = record { av = true; may = false; names = false; cuts = false; clean = true; most = 4 }

-- as many days as 2000 to 2099 have, so that no day is too far ahead ("Due date": S and E)
abbrev pub any_day : ℕ
any_day = 36525

-- as many items as 1,000 account files of 99,999 have, so that no file has too many ("Numbers returned", 15: only S has a limit of its own)
abbrev pub any_items : ℕ
any_items = 99999000

-- source document 000
abbrev pub sheet_k : Sheet
sheet_k =
    record {
      number = 1;
      letter = 75;
      bank = 8100;
      anybank = false;
      lastkind = 1501;
      header = true;
      short = true;
      interval = true;
      joined = false;
      basemin = 2;
      emptypayer = false;
      zeropayer = true;
      longdate = false;
      ahead = 364;
      early = false;
      warnpast = false;
      collects = false;
      near = false;
      itemdigits = 14;
      itemmax = 99999999999999;
      comma = false;
      priority = true;
      fixedtail = false;
      bare = false;
      text = style_ke;
      strict = true;
      fileitems = any_items;
    }

-- source document 001
abbrev pub sheet_s : Sheet
sheet_s =
    record {
      number = 2;
      letter = 83;
      bank = 800;
      anybank = false;
      lastkind = 1502;
      header = true;
      short = false;
      interval = false;
      joined = false;
      basemin = 1;
      emptypayer = true;
      zeropayer = false;
      longdate = false;
      ahead = any_day;
      early = false;
      warnpast = false;
      collects = false;
      near = false;
      itemdigits = 12;
      itemmax = 999999999999;
      comma = false;
      priority = false;
      fixedtail = true;
      bare = false;
      text = style_s;
      strict = true;
      fileitems = 1000;
    }

-- source document 002
abbrev pub sheet_c : Sheet
sheet_c =
    record {
      number = 3;
      letter = 67;
      bank = 300;
      anybank = true;
      lastkind = 1504;
      header = false;
      short = false;
      interval = false;
      joined = true;
      basemin = 1;
      emptypayer = false;
      zeropayer = false;
      longdate = true;
      ahead = 365;
      early = true;
      warnpast = true;
      collects = true;
      near = true;
      itemdigits = 14;
      itemmax = 99999999999999;
      comma = false;
      priority = false;
      fixedtail = false;
      bare = true;
      text = style_c;
      strict = false;
      fileitems = any_items;
    }

-- source document 003
abbrev pub sheet_e : Sheet
sheet_e =
    record {
      number = 4;
      letter = 69;
      bank = 6100;
      anybank = false;
      lastkind = 1501;
      header = true;
      short = false;
      interval = false;
      joined = false;
      basemin = 1;
      emptypayer = true;
      zeropayer = true;
      longdate = false;
      ahead = any_day;
      early = true;
      warnpast = false;
      collects = false;
      near = true;
      itemdigits = 14;
      itemmax = 999999999999;
      comma = true;
      priority = false;
      fixedtail = false;
      bare = false;
      text = style_ke;
      strict = false;
      fileitems = any_items;
    }

-- document 02, W-201: source document 004, the edition before 002. Bank field, accounts, amounts and due days as on C, first line as on S, tail
-- as on K but for the priority, which it has not.
abbrev pub sheet_p : Sheet
sheet_p =
    record {
      number = 5;
      letter = 80;
      bank = 300;
      anybank = false;
      lastkind = 1502;
      header = true;
      short = false;
      interval = false;
      joined = true;
      basemin = 1;
      emptypayer = false;
      zeropayer = false;
      longdate = true;
      ahead = 365;
      early = true;
      warnpast = true;
      collects = true;
      near = false;
      itemdigits = 14;
      itemmax = 99999999999999;
      comma = false;
      priority = false;
      fixedtail = false;
      bare = false;
      text = style_p;
      strict = true;
      fileitems = any_items;
    }

-- "What the library handles": the known sheets. A new one is a line here.
abbrev pub sheets : List Sheet
sheets =
    sheet_k
    ∷ sheet_s
    ∷ sheet_c
    ∷ sheet_e
    ∷ sheet_p
    ∷ []

-- the first of the sheets whose name, that is its number or its letter, is n
abbrev pub first_named : (Sheet → ℕ) → ℕ → List Sheet → Option Sheet
first_named name n [] = None
first_named name n (sh ∷ shs) = pick (eqb n (name sh)) (Some sh) (first_named name n shs)

-- "What the library handles": the known sheet of that number, so 1 is K, 2 is S, 3 is C, 4 is E, 5 is P, and no other number names a sheet
unfoldable pub sheet_of : ℕ → Option Sheet
sheet_of n = first_named (λ (sh : Sheet). sh.number) n sheets

-- "A whole run": the same by letter
unfoldable pub sheet_by : ℕ → Option Sheet
sheet_by b = first_named (λ (sh : Sheet). sh.letter) b sheets

-- "Lines", KIND: K and E 1501, S and P 1501 and 1502, C 1501 to 1504
unfoldable pub kind_allowed : Sheet → ℕ → Bool
kind_allowed sh kind = pick (ltb kind 1501) false (leb kind sh.lastkind)

-- the first and the last of them
pub record KindsOf (sh : Sheet) (k : Kinds) : Type 0 where
  pub first : k.first ≡ 1501
  pub last : k.last ≡ sh.lastkind

-- "Numbers returned", 15; "Lines", amounts and due date: items of a file, digits and amount of an item, days ahead
pub record LimitsOf (sh : Sheet) (l : Limits) : Type 0 where
  pub items : l.items ≡ sh.fileitems
  pub digits : l.digits ≡ sh.itemdigits
  pub amount : l.amount ≡ sh.itemmax
  pub ahead : l.ahead ≡ sh.ahead

-- "Lines", BANK: the sheet's own; C takes any
unfoldable pub bank_allowed : Sheet → ℕ → Bool
bank_allowed sh code = pick sh.anybank true (eqb code sh.bank)
