-- What is read is written as it stood, but for a minus before zero. Assumes nothing.
use mathlib.Core.Path.{◌≡◌, sym, ap, subst, ◌∙◌}
use mathlib.Core.List.{List}
use Prim.Native.Nat.{ℕ, ◌*◌, ◌/◌, ◌≤◌}
use lib.ListN.{length, take}
use Rattle.paper.specs.Writing.{drafted}
use Rattle.gpc.specs.Statements.{Statement, things}
use Rattle.gpc.specs.Spelled.{Spells}
use Rattle.gpc.specs.Canonical.{canon, plain, kept}
use Rattle.gpc.specs.StatementRows.{statement_row}
use Rattle.gpc.specs.Answers.{row_count, statement_rows, statement_draft}
use Rattle.gpcback.proofs.ManySound.{things-known}
use Rattle.gpcback.proofs.ManyAgain.{records-again, records-kept, plain-length}
use Rattle.gpcwhole.specs.Outcomes.{Hold}
use Rattle.gpcwhole.proofs.Judged.{canon-spells}
use Rattle.gpcwhole.proofs.Reading.{one-reading, reads}
use Rattle.gpcwhole.proofs.Writing.{drafts-held}

module _ (f : List ℕ) (ss : List Statement) (s : Spells f ss) where
  -- The canonical file of what a file spells is that file with no minus before zero,
  pub again : canon ss ≡ plain f
  unfolding canon
  again = records-again f (things ss) s.read (things-known ss)

  -- and just that is drafted of rows that hold it,
  pub rewritten : (rows : List ℕ) → Hold rows ss → statement_draft rows ≡ drafted (plain f)
  rewritten rows held = drafts-held rows f ss held s ∙ ap drafted again

  -- as the rows do that reading leaves.
  pub read-then-written : (lent : List ℕ) → row_count ss ≤ length lent / statement_row
      → statement_draft (take (statement_row * row_count ss) (statement_rows f lent)) ≡ drafted (plain f)
  read-then-written lent l = rewritten (take (statement_row * row_count ss) (statement_rows f lent)) ((reads f lent ss l).1 s).holds

  -- Every kept byte stays,
  pub kept-bytes : kept (canon ss) ≡ kept f
  unfolding canon
  kept-bytes = records-kept f (things ss) s.read (things-known ss)

  -- so does the length,
  pub same_length : length (plain f) ≡ length f
  same_length = plain-length f (things ss) s.read (things-known ss)

  -- and so do the statements.
  pub plain-again : Spells (plain f) ss
  plain-again = subst (λ (g : List ℕ). Spells g ss) again (canon-spells f ss s)

-- Files that spell the same statements differ in a minus before zero only,
pub one-spelling : (f f' : List ℕ) (ss : List Statement) → Spells f ss → Spells f' ss → plain f ≡ plain f'
one-spelling f f' ss s t = sym (again f ss s) ∙ again f' ss t

-- and statements that files spell have one canonical file only if they are the same.
pub one-to-one : (f f' : List ℕ) (ss ss' : List Statement) → Spells f ss → Spells f' ss' → canon ss ≡ canon ss' → ss ≡ ss'
one-to-one f f' ss ss' s t e =
    one-reading (canon ss') ss ss' (subst (λ (g : List ℕ). Spells g ss) e (canon-spells f ss s)) (canon-spells f' ss' t)
