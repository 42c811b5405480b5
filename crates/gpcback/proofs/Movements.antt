-- The record of a movement that can be written: its segments, and it is read back. Assumes nothing.
use mathlib.Core.Path.{◌≡◌, refl, ap, ◌∙◌}
use mathlib.Core.Bool.{true, false}
use mathlib.Core.List.{List, [], ◌∷◌}
use Prim.Native.Nat.{ℕ, ◌<◌}
use native.Mathlib.Omega.{arith}
use lib.ListN.{length, drop, get_or}
use Rattle.base.specs.Pick.{pick}
use Rattle.base.specs.Seek.{starts}
use Rattle.base.proofs.Seek.{starts-self}
use Rattle.paper.specs.Bytes.{bytes}
use Rattle.paper.specs.Numerals.{fixed}
use Rattle.paper.specs.Entries.{got}
use Rattle.numeral.proofs.Fixed.{fixed-length}
use Rattle.paper.proofs.Fields.{on-back}
use Rattle.internal.proofs.Laws.{account-length, back}
use Rattle.gpc.specs.Parts.{slice}
use Rattle.gpc.specs.Internal.{read_internal, spell_internal}
use Rattle.gpc.specs.Signed.{read_digits}
use Rattle.gpc.specs.Records.{Movement, read_code, read_movement, crlf, spell_movement}
use Rattle.gpcback.specs.Proper.{ProperMovement}
use Rattle.gpcback.proofs.Segments.{joined, Sized, start_of, segment, joined-rest, joined_length}
use Rattle.gpcback.proofs.Fields.{digits-back, code-back}

-- its segments: type, both accounts, what is kept, amount, code, variable symbol, what is kept
abbrev pub movement_sizes : List ℕ
movement_sizes = 3 ∷ 16 ∷ 16 ∷ 13 ∷ 12 ∷ 1 ∷ 10 ∷ 57 ∷ []

abbrev pub movement_parts : Movement → List (List ℕ)
movement_parts m =
    bytes "075"
    ∷ spell_internal m.account
    ∷ spell_internal m.other
    ∷ m.before
    ∷ fixed 12 m.amount
    ∷ fixed 1 m.code
    ∷ fixed 10 m.variable
    ∷ m.behind
    ∷ []

pub movement-joined : (m : Movement) → spell_movement m ≡ joined (movement_parts m) crlf
unfolding spell_movement
movement-joined m = refl

module _ (m : Movement) where
  pub movement-starts : starts (bytes "075") (spell_movement m) ≡ true
  unfolding spell_movement
  movement-starts = starts-self (bytes "075") _

  pub movement-no-head : starts (bytes "074") (spell_movement m) ≡ false
  unfolding spell_movement starts pick
  movement-no-head = refl

module _ (m : Movement) (p : ProperMovement m) where
  sized : Sized movement_sizes (movement_parts m)
  sized = (
    refl,
    (
      account-length m.account,
      (
        account-length m.other,
        (p.before, (fixed-length 12 m.amount, (fixed-length 1 m.code, (fixed-length 10 m.variable, (p.behind, tt))))),
      ),
    ),
  )

  -- segment k is there, by its place
  pub movement-part : (k : ℕ) → k < 8 → slice (start_of movement_sizes k) (get_or movement_sizes k 0) (spell_movement m) ≡ get_or (movement_parts m) k []
  unfolding spell_movement
  movement-part k l = segment crlf movement_sizes (movement_parts m) sized k l

  pub movement-end : drop 128 (spell_movement m) ≡ crlf
  unfolding spell_movement
  movement-end = joined-rest crlf movement_sizes (movement_parts m) sized

  pub movement-length : length (spell_movement m) ≡ 130
  unfolding spell_movement
  movement-length = joined_length crlf movement_sizes (movement_parts m) sized

  pub movement-back : read_movement (spell_movement m) ≡ got m
  unfolding read_movement
  movement-back =
      on-back 3 _ m.account _ (ap read_internal (movement-part 1 (omega arith)) ∙ back m.account p.account.prefix p.account.base)
      ∙ on-back 19 _ m.other _ (ap read_internal (movement-part 2 (omega arith)) ∙ back m.other p.other.prefix p.other.base)
      ∙ on-back 48 _ m.amount _ (ap (read_digits 12) (movement-part 4 (omega arith)) ∙ digits-back 12 m.amount (omega (arith, p.amount)))
      ∙ on-back 60 _ m.code _ (ap read_code (movement-part 5 (omega arith)) ∙ code-back m.code p.code)
      ∙ on-back 61 _ m.variable _ (ap (read_digits 10) (movement-part 6 (omega arith)) ∙ digits-back 10 m.variable (omega (arith, p.variable)))
      ∙ rw (movement-part 3 (omega arith), movement-part 7 (omega arith)) refl
