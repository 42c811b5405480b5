-- A line of each kind: it is read, or refused with a number of its own, inside it. Assumes nothing.
use mathlib.Core.Path.{refl}
use mathlib.Core.List.{List}
use Prim.Native.Nat.{ℕ, ◌≤◌}
use lib.ListN.{length}
use Rattle.sheet.specs.declared.Sheet.{Sheet}
use Rattle.paper.specs.Entries.{Listed, counted, Kind, kind_of}
use Rattle.paper.specs.Spells.{Context, read_line}
use Rattle.paper.proofs.Starts.{least, kind-long}
use Rattle.paper.proofs.LineSays as lines
use Rattle.paper.proofs.LineSays.{Asked, Blamed, LineSays}
use Rattle.exact.specs.named.Numbers.{Own}
use Rattle.exact.proofs.named.Fields.{own4, own-number, digits-named, symbol-named, account-named, payer-named, total-named, item-amount-named, kind-named, Tests, number-named, number-tests, code-named, text-field-named, to_named, rest-named, short-named, due-named, due-bank-named, text-named}
use Rattle.exact.proofs.named.Named.{Named, says, refuses}

module _ (sh : Sheet) where
  own : {today : ℕ} {a : Asked} {n : ℕ} → Tests a.number → Blamed sh today a n → Own n
  own g lines.form = own4
  own g (lines.by_digits few most f) = own-number (digits-named few most f.0) f.1
  own g (lines.by_day f) = own-number (short-named f.0) f.1
  own g (lines.by_name f) = own-number (text-field-named f.0) f.1
  own g (lines.by_to from f) = own-number (to_named sh.interval from f.0) f.1
  own g (lines.by_rest f) = own-number (rest-named sh.short f.0) f.1
  own g (lines.by_kind f) = own-number (kind-named sh f.0) f.1
  own g (lines.by_number f) = own-number (number-named g f.0) f.1
  own g (lines.by_code f) = own-number (code-named sh f.0) f.1
  own g (lines.by_payer f) = own-number (payer-named sh.emptypayer sh.zeropayer sh.joined sh.basemin f.0) f.1
  own g (lines.by_total f) = own-number (total-named sh.comma f.0) f.1
  own {today} {a} g (lines.by_due f) = own-number (due-named sh.longdate a.here sh.early sh.ahead today f.0) f.1
  own g (lines.by_account f) = own-number (account-named sh.joined sh.basemin f.0) f.1
  own g (lines.by_amount f) = own-number (item-amount-named sh.comma sh.itemdigits sh.itemmax f.0) f.1
  own {a} g (lines.by_bank f) = own-number (due-bank-named sh.priority a.due f.0) f.1
  own g (lines.by_symbol f) = own-number (symbol-named f.0) f.1
  own g (lines.by_text at f) = own-number (text-named sh.text at f.0) f.1

  name : {today : ℕ} {a : Asked} {w : List ℕ} {kind : Kind} {r : Listed} → Tests a.number → LineSays sh today a w kind r
      → least kind ≤ length w → Named (length w) (counted r)
  unfolding counted
  name g (lines.no-header _) h = says tt
  name g (lines.a_header _ _ _ _ _ _ _) h = says tt
  name g (lines.a-file _ _ _ _) h = says tt
  name g (lines.a-group _ _ _ _ _ l) h = says (l h)
  name g (lines.an-item _ _ _ _ _ _ _ _ _) h = says tt
  name g lines.a_group_end h = says tt
  name g lines.a_file_end h = says tt
  name g (lines.refused b l) h = refuses (own g b) (l h)

  pub any-named : (today : ℕ) (c : Context) (s : List ℕ) → Named (length s) (read_line sh today c s)
  unfolding read_line
  any-named today c s = name (number-tests sh c.numbers) (lines.says sh today c (kind_of s) s) (kind-long s (kind_of s) refl)
