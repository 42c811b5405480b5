-- A head's and a movement's bytes, field after field, and a whole record: rules for a search. Assumes nothing.
use mathlib.Core.Path.{◌≡◌, refl, sym, ap, ◌∙◌}
use mathlib.Core.List.{List}
use Prim.Native.Nat.{ℕ, ◌≤◌}
use native.Mathlib.Omega.{arith}
use Rattle.std.specs.Prelude.{Option, Some, None, Result, Ok, Err}
use Rattle.refusal.specs.declared.Refusal.{Refusal}
use Rattle.refusal.specs.declared.Flaw.{Flaw}
use Rattle.refusal.specs.Numbers.{number_of}
use Rattle.refusal.specs.Placed.{placed}
use Rattle.refusal.proofs.Places.{was-ok, was-err}
use Rattle.paper.specs.Read.{Field, value}
use Rattle.paper.specs.Numerals.{digits}
use Rattle.paper.specs.Accounts.{account}
use Rattle.paper.specs.Batch.{most14}
use Rattle.paper.specs.Entries.{Said, got, no, on_field}
use Rattle.numeral.specs.Told.{told as told_number}
use Rattle.numeral.proofs.Sound.{digits-sound}
use Rattle.internal.specs.Told.{told as told_account}
use Rattle.internal.specs.declared.AccountParts.{AccountParts}
use Rattle.gpc.specs.Parts.{slice, or51}
use Rattle.gpc.specs.Internal.{read_internal}
use Rattle.gpc.specs.Signed.{Signed as Number, read_digits, balance_plus, turnover_plus}
use Rattle.gpc.specs.Turnovers.{most12}
use Rattle.gpc.specs.Records.{head_is, movement_is, no_record, read_code, read_head, read_movement, read_record}
use Rattle.turnover.specs.signed.Told.{said}
use Rattle.record.specs.declared.HeadFields.{HeadFields}
use Rattle.record.specs.declared.MovementFields.{MovementFields}
use Rattle.record.specs.declared.file.Pair.{Pair}
use Rattle.record.specs.declared.file.Kind.{Kind}
use Rattle.record.specs.declared.file.Kind.TheVariants as kind
use Rattle.record.specs.Told.{in_file, told_head, told_movement}
use Rattle.record.specs.file.Told.{pair_at, told_pair, SmallPair, read_as}
use Rattle.record.proofs.file.Signs.{on_pair, pair_goes, pair-stays}

-- ---- a field's answer n, whose refusal takes its place along as m

module _ {X A : Type 0} (told : Result X Refusal → Field A) (n : Result X Refusal) (f : Field A) (g : told n ≡ f) (at : ℕ) (m : Result X Flaw) (h : m ≡ placed n at) where
  said-ok : (x : X) → m ≡ Ok x → f ≡ told (Ok x)
  said-ok x e = sym g ∙ ap told (was-ok n at x (sym h ∙ e))

  said-err : (x : Flaw) → m ≡ Err x → (f ≡ told (Err x.0)) × (at ≡ x.1)
  said-err x e = let w = was-err n at x (sym h ∙ e) in (sym g ∙ ap told w.0, w.1)

-- ---- `read_head`: a is what the account's field says

module _ (s : List ℕ) (a : Result AccountParts Refusal) (ea : told_account a ≡ read_internal (slice 3 16 s)) (m : Result AccountParts Flaw) (em : m ≡ placed a 3) where
  pub head-account : (x : Flaw) → m ≡ Err x → no (number_of x.0) x.1 ≡ read_head s
  unfolding read_head on_field
  head-account x e = let w = said-err told_account a (read_internal (slice 3 16 s)) ea 3 m em x e in rw (w.0, ← w.1) refl

  module _ (p : AccountParts) (e : m ≡ Ok p) where
    ra : read_internal (slice 3 16 s) ≡ value (account p.prefix p.base)
    ra = said-ok told_account a (read_internal (slice 3 16 s)) ea 3 m em p e

    module _ (b : Result Pair Flaw) (g : told_pair b ≡ pair_at balance_plus 45 s) where
      pub head-balances : (x : Flaw) → b ≡ Err x → no (number_of x.0) x.1 ≡ read_head s
      unfolding read_head on_field
      head-balances x h = rw ra (sym (pair-stays balance_plus 45 s _ (number_of x.0) x.1 (rw h at g)))

      module _ (d : Pair) (h : b ≡ Ok d) (w : Result Pair Flaw) (k : told_pair w ≡ pair_at turnover_plus 75 s) where
        balances : {B : Type 0} (f : Number → Number → Said B) → on_pair balance_plus 45 s f ≡ f (said d.first) (said d.second)
        balances f = pair_goes balance_plus 45 s f (said d.first) (said d.second) (rw h at g)

        pub head-turnovers : (x : Flaw) → w ≡ Err x → no (number_of x.0) x.1 ≡ read_head s
        unfolding read_head on_field
        head-turnovers x l = rw ra (sym (balances _ ∙ pair-stays turnover_plus 75 s _ (number_of x.0) x.1 (rw l at k)))

        pub head-read : (t : Pair) → w ≡ Ok t
            → got (record { account = account p.prefix p.base; before = slice 19 26 s; old = said d.first; new = said d.second; debit = said t.first; credit = said t.second; behind = slice 105 23 s }) ≡ read_head s
        unfolding read_head on_field
        head-read t l = rw ra (sym (balances _ ∙ pair_goes turnover_plus 75 s _ (said t.first) (said t.second) (rw l at k)))

pub pair_small : (m : Result Pair Flaw) (d : Pair) → SmallPair m → m ≡ Ok d → (d.first.size ≤ most14) × (d.second.size ≤ most14)
pair_small m d h e = rw e at h

pub first_small : (m : Result Pair Flaw) (d : Pair) → SmallPair m → m ≡ Ok d → d.first.size ≤ most14
first_small m d h e = (pair_small m d h e).0

pub second-small : (m : Result Pair Flaw) (d : Pair) → SmallPair m → m ≡ Ok d → d.second.size ≤ most14
second-small m d h e = (pair_small m d h e).1

pub ruleset heads = (head-account, head-balances, head-turnovers, head-read, first_small, second-small)

-- ---- `read_movement`

module _ (s : List ℕ) (a : Result AccountParts Refusal) (ea : told_account a ≡ read_internal (slice 3 16 s)) (m : Result AccountParts Flaw) (em : m ≡ placed a 3) where
  pub movement-account : (x : Flaw) → m ≡ Err x → no (number_of x.0) x.1 ≡ read_movement s
  unfolding read_movement on_field
  movement-account x e = let w = said-err told_account a (read_internal (slice 3 16 s)) ea 3 m em x e in rw (w.0, ← w.1) refl

  module _ (p : AccountParts) (e : m ≡ Ok p)
      (o : Result AccountParts Refusal) (eo : told_account o ≡ read_internal (slice 19 16 s)) (u : Result AccountParts Flaw) (eu : u ≡ placed o 19) where
    r1 : read_internal (slice 3 16 s) ≡ value (account p.prefix p.base)
    r1 = said-ok told_account a (read_internal (slice 3 16 s)) ea 3 m em p e

    pub movement-other : (x : Flaw) → u ≡ Err x → no (number_of x.0) x.1 ≡ read_movement s
    unfolding read_movement on_field
    movement-other x f = let w = said-err told_account o (read_internal (slice 19 16 s)) eo 19 u eu x f in rw (r1, w.0, ← w.1) refl

    module _ (q : AccountParts) (f : u ≡ Ok q) (n : Result ℕ Refusal) (en : told_number n ≡ digits 12 12 (slice 48 12 s)) where
      r2 : read_internal (slice 19 16 s) ≡ value (account q.prefix q.base)
      r2 = said-ok told_account o (read_internal (slice 19 16 s)) eo 19 u eu q f

      pub movement-amount : (x : Refusal) → n ≡ Err x → no 51 48 ≡ read_movement s
      unfolding read_movement on_field read_digits or51
      movement-amount x g = rw (r1, r2, ← en, g) refl

      module _ (amount : ℕ) (g : n ≡ Ok amount) (k : Result ℕ Refusal) (ek : told_number k ≡ read_code (slice 60 1 s)) (c : Result ℕ Flaw) (ec : c ≡ placed k 60) where
        r3 : digits 12 12 (slice 48 12 s) ≡ value amount
        r3 = sym en ∙ ap told_number g

        pub movement-code : (x : Flaw) → c ≡ Err x → no (number_of x.0) x.1 ≡ read_movement s
        unfolding read_movement on_field read_digits or51
        movement-code x h = let w = said-err told_number k (read_code (slice 60 1 s)) ek 60 c ec x h in rw (r1, r2, r3, w.0, ← w.1) refl

        module _ (code : ℕ) (h : c ≡ Ok code) (v : Result ℕ Refusal) (ev : told_number v ≡ digits 10 10 (slice 61 10 s)) where
          r4 : read_code (slice 60 1 s) ≡ value code
          r4 = said-ok told_number k (read_code (slice 60 1 s)) ek 60 c ec code h

          pub movement-variable : (x : Refusal) → v ≡ Err x → no 51 61 ≡ read_movement s
          unfolding read_movement on_field read_digits or51
          movement-variable x l = rw (r1, r2, r3, r4, ← ev, l) refl

          pub movement-read : (variable : ℕ) → v ≡ Ok variable
              → got (record { account = account p.prefix p.base; other = account q.prefix q.base; before = slice 35 13 s; amount = amount; code = code; variable = variable; behind = slice 71 57 s }) ≡ read_movement s
          unfolding read_movement on_field read_digits or51
          movement-read variable l = rw (r1, r2, r3, r4, ← ev, l) refl

-- the amount's digits are twelve
pub amount-small : (m : Result ℕ Refusal) (t : List ℕ) (n : ℕ) → told_number m ≡ digits 12 12 t → m ≡ Ok n → n ≤ most12
amount-small m t n e f = omega (arith, digits-sound 12 12 t n (sym e ∙ ap told_number f))

pub ruleset movements = (movement-account, movement-other, movement-amount, movement-code, movement-variable, movement-read, amount-small)

-- ---- `read_record`: k is the type, as which the bytes are read

module _ (s : List ℕ) (k : Option Kind) (e : read_as k s ≡ read_record s) where
  pub head-found : (m : Result HeadFields Flaw) → (t : Kind) → k ≡ Some t → t ≡ kind.Head → told_head (in_file s) m ≡ read_head s → head_is (told_head (in_file s) m) ≡ read_record s
  unfolding read_as
  head-found m t is type g = ap head_is g ∙ rw (is, type) at e

  pub movement-found : (m : Result MovementFields Flaw) → (t : Kind) → k ≡ Some t → t ≡ kind.Movement → told_movement (in_file s) m ≡ read_movement s → movement_is (told_movement (in_file s) m) ≡ read_record s
  unfolding read_as
  movement-found m t is type g = ap movement_is g ∙ rw (is, type) at e

  pub nothing-found : k ≡ None → no_record ≡ read_record s
  unfolding read_as
  nothing-found is = rw is at e

pub ruleset records = (head-found, movement-found, nothing-found)
