-- What the judge makes of things that were read: of movements, and of statements whose sums agree. Assumes nothing.
use mathlib.Core.Path.{◌≡◌, refl, ap, ◌∙◌}
use mathlib.Core.List.{List, [], ◌∷◌, ◌++◌, append-nil}
use Prim.Native.Nat.{ℕ, suc, ◌+◌}
use native.Mathlib.Nat.{add-zero}
use native.Mathlib.Omega.{arith}
use lib.ListN.{length}
use lib.Seq.{append_snoc}
use Rattle.gpc.specs.Records.{Head, Movement, Thing, Record, said, saids}
use Rattle.gpc.specs.Statements.{Statement, statement, movement_things, things, Agrees, Spots, Judged, accepted, refused, on_said, with, top, within, judge_on}
use Rattle.gpc.specs.Spelled.{AllAgree}
use Rattle.gpc.specs.FirstFault.{Over, ends, goes}
use Rattle.gpcexact.proofs.Things.{movements-length}
use Rattle.gpcexact.proofs.Closing.{agrees-closed}

-- several statements more, in front
unfoldable pub withs : List Statement → Judged → Judged
withs [] a = a
withs (s ∷ ss) a = with s (withs ss a)

pub withs-accepted : (ss ts : List Statement) → withs ss (accepted ts) ≡ accepted (ss ++ ts)
unfolding withs with
withs-accepted [] ts = refl
withs-accepted (s ∷ ss) ts = ap (with s) (withs-accepted ss ts)

pub withs-refused : (ss : List Statement) (n k off : ℕ) → withs ss (refused n k off) ≡ refused n k off
unfolding withs with
withs-refused [] n k off = refl
withs-refused (s ∷ ss) n k off = ap (with s) (withs-refused ss n k off)

pub withs-more : (ss : List Statement) (s : Statement) (a : Judged) → withs (ss ++ (s ∷ [])) a ≡ withs ss (with s a)
unfolding withs
withs-more [] s a = refl
withs-more (t ∷ ss) s a = ap (with t) (withs-more ss s a)

module _ (p : Spots) where
  -- behind a statement: nothing more, or what begins with its first record
  unfoldable pub behind : ℕ → List Record → Judged
  behind k [] = accepted []
  behind k (r ∷ rs) = judge_on p k top (r ∷ rs)

  -- movements are read one after the other
  pub over-movements : (more : List Movement) (r : List Thing) (after : List Record) (k j : ℕ) (h : Head) (ms : List Movement)
      → judge_on p k (within j h ms) (saids (movement_things more r) ++ after)
      ≡ judge_on p (k + length more) (within j h (ms ++ more)) (saids r ++ after)
  unfolding judge_on on_said saids said movement_things
  over-movements [] r after k j h ms = rw (add-zero k, append-nil ms)
  over-movements (m ∷ more) r after k j h ms =
      let e : suc k + length more ≡ k + suc (length more) = omega arith in
      over-movements more r after (suc k) j h (ms ++ (m ∷ [])) ∙ rw (e, append_snoc ms m more)

  -- a statement that is over is taken
  pub over-end : (k j : ℕ) (h : Head) (ms : List Movement) {rs : List Record} → Agrees (statement h ms) → Over rs
      → judge_on p k (within j h ms) rs ≡ with (statement h ms) (behind k rs)
  unfolding judge_on on_said with behind
  over-end k j h ms a ends = rw (agrees-closed p h ms a)
  over-end k j h ms a goes = rw (agrees-closed p h ms a)

  -- where a statement is over, more of them may follow
  over-statements-next : (ss : List Statement) (rs : List Record) → Over rs → Over (saids (things ss) ++ rs)
  unfolding saids things said
  over-statements-next [] rs o = o
  over-statements-next (s ∷ ss) rs o = goes

  -- statements are taken one after the other
  pub over-statements : (ss : List Statement) (rs : List Record) (k : ℕ) → AllAgree ss → Over rs
      → behind k (saids (things ss) ++ rs) ≡ withs ss (behind (k + length (things ss)) rs)
  unfolding behind withs judge_on on_said saids things said
  over-statements [] rs k a o = rw (add-zero k)
  over-statements (s ∷ ss) rs k (a, b) o =
      let e : suc k + length s.movements + length (things ss) ≡ k + suc (length (movement_things s.movements (things ss)))
      = omega (arith, movements-length s.movements (things ss)) in
      over-movements s.movements (things ss) rs (suc k) k s.head []
      ∙ over-end (suc k + length s.movements) k s.head s.movements a (over-statements-next ss rs o)
      ∙ ap (with s) (over-statements ss rs (suc k + length s.movements) b o)
      ∙ rw e
