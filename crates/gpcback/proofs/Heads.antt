-- The record of a head that can be written: its segments, and it is read back. Assumes nothing.
use mathlib.Core.Path.{◌≡◌, refl, ap, ◌∙◌}
use mathlib.Core.Bool.{true}
use mathlib.Core.List.{List, [], ◌∷◌}
use Prim.Native.Nat.{ℕ, ◌<◌}
use native.Mathlib.Omega.{arith}
use lib.ListN.{length, drop, get_or}
use Rattle.base.specs.Seek.{starts}
use Rattle.base.proofs.Seek.{starts-self}
use Rattle.paper.specs.Bytes.{bytes}
use Rattle.paper.specs.Entries.{got}
use Rattle.paper.proofs.Fields.{on-back}
use Rattle.internal.proofs.Laws.{account-length, back}
use Rattle.turnover.proofs.Laws.{signed-length}
use Rattle.gpc.specs.Parts.{slice}
use Rattle.gpc.specs.Internal.{read_internal, spell_internal}
use Rattle.gpc.specs.Signed.{balance_plus, turnover_plus, spell_signed}
use Rattle.gpc.specs.Records.{Head, read_head, crlf, spell_head}
use Rattle.gpcback.specs.Proper.{ProperHead}
use Rattle.gpcback.proofs.Segments.{joined, Sized, start_of, segment, joined-rest, joined_length}
use Rattle.gpcback.proofs.Fields.{signed_back}

-- its segments: type, account, what is kept, two balances, two turnovers, what is kept
abbrev pub head_sizes : List ℕ
head_sizes = 3 ∷ 16 ∷ 26 ∷ 15 ∷ 15 ∷ 15 ∷ 15 ∷ 23 ∷ []

-- .. with these balances and turnovers
abbrev pub head_with : Head → List ℕ → List ℕ → List ℕ → List ℕ → List (List ℕ)
head_with h old new debit credit = bytes "074" ∷ spell_internal h.account ∷ h.before ∷ old ∷ new ∷ debit ∷ credit ∷ h.behind ∷ []

-- its balances and turnovers
abbrev pub old_of : Head → List ℕ
old_of h = spell_signed balance_plus h.old

abbrev pub new_of : Head → List ℕ
new_of h = spell_signed balance_plus h.new

abbrev pub debit_of : Head → List ℕ
debit_of h = spell_signed turnover_plus h.debit

abbrev pub credit_of : Head → List ℕ
credit_of h = spell_signed turnover_plus h.credit

abbrev pub head_parts : Head → List (List ℕ)
head_parts h = head_with h (old_of h) (new_of h) (debit_of h) (credit_of h)

pub head-joined : (h : Head) → spell_head h ≡ joined (head_parts h) crlf
unfolding spell_head
head-joined h = refl

pub head-starts : (h : Head) → starts (bytes "074") (spell_head h) ≡ true
unfolding spell_head
head-starts h = starts-self (bytes "074") _

module _ (h : Head) (p : ProperHead h) where
  pub sized-with : (old new debit credit : List ℕ) → length old ≡ 15 → length new ≡ 15 → length debit ≡ 15 → length credit ≡ 15
      → Sized head_sizes (head_with h old new debit credit)
  sized-with old new debit credit o n d c = (refl, (account-length h.account, (p.before, (o, (n, (d, (c, (p.behind, tt))))))))

  sized : Sized head_sizes (head_parts h)
  sized =
      sized-with (old_of h) (new_of h) (debit_of h) (credit_of h) (signed-length balance_plus h.old) (signed-length balance_plus h.new)
      (signed-length turnover_plus h.debit) (signed-length turnover_plus h.credit)

  -- segment k is there, by its place
  pub head-part : (k : ℕ) → k < 8 → slice (start_of head_sizes k) (get_or head_sizes k 0) (spell_head h) ≡ get_or (head_parts h) k []
  unfolding spell_head
  head-part k l = segment crlf head_sizes (head_parts h) sized k l

  pub head-end : drop 128 (spell_head h) ≡ crlf
  unfolding spell_head
  head-end = joined-rest crlf head_sizes (head_parts h) sized

  pub head-length : length (spell_head h) ≡ 130
  unfolding spell_head
  head-length = joined_length crlf head_sizes (head_parts h) sized

  pub head-back : read_head (spell_head h) ≡ got h
  unfolding read_head
  head-back =
      on-back 3 _ h.account _ (ap read_internal (head-part 1 (omega arith)) ∙ back h.account p.account.prefix p.account.base)
      ∙ signed_back balance_plus 45 (spell_head h) _ h.old p.old (λ e. omega arith) (head-part 3 (omega arith))
      ∙ signed_back balance_plus 60 (spell_head h) _ h.new p.new (λ e. omega arith) (head-part 4 (omega arith))
      ∙ signed_back turnover_plus 75 (spell_head h) _ h.debit p.debit (λ e. omega arith) (head-part 5 (omega arith))
      ∙ signed_back turnover_plus 90 (spell_head h) _ h.credit p.credit (λ e. omega arith) (head-part 6 (omega arith))
      ∙ rw (head-part 2 (omega arith), head-part 7 (omega arith)) refl
