-- How `kind_allowed` and `bank_allowed` end, by the kinds and the bank code that they are given. Assumes nothing.
use mathlib.Core.Path.{◌≡◌}
use mathlib.Core.Bool.{true, false}
use Prim.Native.Nat.{ℕ, ◌≤◌, ◌<◌}
use native.Mathlib.Omega.{arith}
use lib.Dec.{eqb, leb}
use borrow.Author.Tests.{lt-ltb, le-ltb}
use Rattle.base.specs.Pick.{pick}
use Rattle.sheet.specs.declared.Sheet.{Sheet}
use Rattle.sheet.specs.declared.Kinds.{Kinds}
use Rattle.sheet.specs.Sheets.{kind_allowed, KindsOf, bank_allowed}

module _ (sh : Sheet) where
  module _ (k : Kinds) (of : KindsOf sh k) (kind : ℕ) where
    pub kind-below : kind < k.first → false ≡ kind_allowed sh kind
    unfolding kind_allowed pick
    kind-below l = rw (lt-ltb kind 1501 (omega (arith, of.first)))

    pub kind-behind : k.first ≤ kind → leb kind k.last ≡ kind_allowed sh kind
    unfolding kind_allowed pick
    kind-behind l = rw (of.last, le-ltb kind 1501 (omega (arith, of.first)))

  pub any-bank : (code : ℕ) → sh.anybank ≡ true → true ≡ bank_allowed sh code
  unfolding bank_allowed pick
  any-bank code e = rw e

  pub own-bank : (code own : ℕ) → own ≡ sh.bank → sh.anybank ≡ false → eqb code own ≡ bank_allowed sh code
  unfolding bank_allowed pick
  own-bank code own g e = rw (e, g)

pub ruleset allowances = (kind-below, kind-behind, any-bank, own-bank)
