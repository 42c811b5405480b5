-- The words of a head and of a movement against their digits, one after the other: rules for a search. Assumes nothing.
use mathlib.Core.Path.{◌≡◌, sym, ◌∙◌}
use mathlib.Core.Bool.{Bool, true, false}
use mathlib.Core.List.{List}
use Prim.Native.Nat.{ℕ, ◌<◌, ◌≤◌}
use native.Mathlib.Omega.{arith}
use borrow.Author.Tests.{lt-ltb, le-ltb, le-leb, lt-leb}
use Rattle.base.specs.Pick.{pick}
use Rattle.paper.specs.Accounts.{account}
use Rattle.paper.specs.Batch.{most14}
use Rattle.paper.specs.Entries.{got, no}
use Rattle.gpc.specs.Signed.{Signed as Number}
use Rattle.gpc.specs.Turnovers.{is_code, most12}
use Rattle.gpc.specs.Records.{Head, Movement}
use Rattle.gpc.specs.StatementRows.{test, account_test, signed_test, head_tested, movement_tested}

-- ---- `head_tested`: the account's numbers are p and b

module _ (before behind : List ℕ) (p b : ℕ) (old new debit credit : Number) where
  abbrev head : Head
  head = record { account = account p b; before = before; old = old; new = new; debit = debit; credit = credit; behind = behind }

  pub head-1 : 999999 < p → no 51 1 ≡ head_tested head
  unfolding head_tested account_test test pick
  head-1 h = simp (le-ltb p 1000000 (omega arith))

  module _ (h1 : p ≤ 999999) where
    pub head-2 : 9999999999 < b → no 51 2 ≡ head_tested head
    unfolding head_tested account_test test pick
    head-2 h = simp (lt-ltb p 1000000 (omega arith), le-ltb b 10000000000 (omega arith))

    module _ (h2 : b ≤ 9999999999) where
      pub head-3 : most14 < old.size → no 51 3 ≡ head_tested head
      unfolding head_tested account_test signed_test test pick
      head-3 h = simp (lt-ltb p 1000000 (omega arith), lt-ltb b 10000000000 (omega arith), lt-leb old.size most14 h)

      module _ (h3 : old.size ≤ most14) where
        pub head-4 : most14 < new.size → no 51 4 ≡ head_tested head
        unfolding head_tested account_test signed_test test pick
        head-4 h = simp (lt-ltb p 1000000 (omega arith), lt-ltb b 10000000000 (omega arith), le-leb old.size most14 h3, lt-leb new.size most14 h)

        module _ (h4 : new.size ≤ most14) where
          pub head-5 : most14 < debit.size → no 51 5 ≡ head_tested head
          unfolding head_tested account_test signed_test test pick
          head-5 h =
              simp (
                lt-ltb p 1000000 (omega arith),
                lt-ltb b 10000000000 (omega arith),
                le-leb old.size most14 h3,
                le-leb new.size most14 h4,
                lt-leb debit.size most14 h,
              )

          module _ (h5 : debit.size ≤ most14) where
            pub head-6 : most14 < credit.size → no 51 6 ≡ head_tested head
            unfolding head_tested account_test signed_test test pick
            head-6 h =
                simp (
                  lt-ltb p 1000000 (omega arith),
                  lt-ltb b 10000000000 (omega arith),
                  le-leb old.size most14 h3,
                  le-leb new.size most14 h4,
                  le-leb debit.size most14 h5,
                  lt-leb credit.size most14 h,
                )

            pub head-passes : credit.size ≤ most14 → got head ≡ head_tested head
            unfolding head_tested account_test signed_test test pick
            head-passes h6 =
                simp (
                  lt-ltb p 1000000 (omega arith),
                  lt-ltb b 10000000000 (omega arith),
                  le-leb old.size most14 h3,
                  le-leb new.size most14 h4,
                  le-leb debit.size most14 h5,
                  le-leb credit.size most14 h6,
                )

pub ruleset head-tests = (head-1, head-2, head-3, head-4, head-5, head-6, head-passes)

-- ---- `movement_tested`: the other account's numbers are q and c; t is what the test of the code answered

module _ (before behind : List ℕ) (p b q c amount code variable : ℕ) where
  abbrev movement : Movement
  movement =
      record {
        account = account p b;
        other = account q c;
        before = before;
        amount = amount;
        code = code;
        variable = variable;
        behind = behind;
      }

  pub movement-1 : 999999 < p → no 51 1 ≡ movement_tested movement
  unfolding movement_tested account_test test pick
  movement-1 h = simp (le-ltb p 1000000 (omega arith))

  module _ (h1 : p ≤ 999999) where
    pub movement-2 : 9999999999 < b → no 51 2 ≡ movement_tested movement
    unfolding movement_tested account_test test pick
    movement-2 h = simp (lt-ltb p 1000000 (omega arith), le-ltb b 10000000000 (omega arith))

    module _ (h2 : b ≤ 9999999999) where
      pub movement-3 : 999999 < q → no 51 3 ≡ movement_tested movement
      unfolding movement_tested account_test test pick
      movement-3 h = simp (lt-ltb p 1000000 (omega arith), lt-ltb b 10000000000 (omega arith), le-ltb q 1000000 (omega arith))

      module _ (h3 : q ≤ 999999) where
        pub movement-4 : 9999999999 < c → no 51 4 ≡ movement_tested movement
        unfolding movement_tested account_test test pick
        movement-4 h =
            simp (
              lt-ltb p 1000000 (omega arith),
              lt-ltb b 10000000000 (omega arith),
              lt-ltb q 1000000 (omega arith),
              le-ltb c 10000000000 (omega arith),
            )

        module _ (h4 : c ≤ 9999999999) where
          pub movement-5 : most12 < amount → no 51 5 ≡ movement_tested movement
          unfolding movement_tested account_test test pick
          movement-5 h =
              simp (
                lt-ltb p 1000000 (omega arith),
                lt-ltb b 10000000000 (omega arith),
                lt-ltb q 1000000 (omega arith),
                lt-ltb c 10000000000 (omega arith),
                lt-leb amount most12 h,
              )

          module _ (h5 : amount ≤ most12) (t : Bool) (g : t ≡ is_code code) where
            pub movement-6 : t ≡ false → no 51 6 ≡ movement_tested movement
            unfolding movement_tested account_test test pick
            movement-6 h =
                let is : is_code code ≡ false = sym g ∙ h in
                simp (
                  lt-ltb p 1000000 (omega arith),
                  lt-ltb b 10000000000 (omega arith),
                  lt-ltb q 1000000 (omega arith),
                  lt-ltb c 10000000000 (omega arith),
                  le-leb amount most12 h5,
                  is,
                )

            module _ (h6 : t ≡ true) where
              pub movement-7 : 9999999999 < variable → no 51 7 ≡ movement_tested movement
              unfolding movement_tested account_test test pick
              movement-7 h =
                  let is : is_code code ≡ true = sym g ∙ h6 in
                  simp (
                    lt-ltb p 1000000 (omega arith),
                    lt-ltb b 10000000000 (omega arith),
                    lt-ltb q 1000000 (omega arith),
                    lt-ltb c 10000000000 (omega arith),
                    le-leb amount most12 h5,
                    is,
                    le-ltb variable 10000000000 (omega arith),
                  )

              pub movement-passes : variable ≤ 9999999999 → got movement ≡ movement_tested movement
              unfolding movement_tested account_test test pick
              movement-passes h7 =
                  let is : is_code code ≡ true = sym g ∙ h6 in
                  simp (
                    lt-ltb p 1000000 (omega arith),
                    lt-ltb b 10000000000 (omega arith),
                    lt-ltb q 1000000 (omega arith),
                    lt-ltb c 10000000000 (omega arith),
                    le-leb amount most12 h5,
                    is,
                    lt-ltb variable 10000000000 (omega arith),
                  )

pub ruleset movement-tests = (movement-1, movement-2, movement-3, movement-4, movement-5, movement-6, movement-7, movement-passes)
