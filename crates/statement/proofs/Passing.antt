-- The judging of bytes, piece by piece, in either form. Assumes nothing.
use mathlib.Core.Path.{◌≡◌, refl, ap, ◌∙◌}
use mathlib.Core.List.{List, [], ◌∷◌}
use Prim.Native.Nat.{ℕ, ◌+◌, ◌*◌, ◌≤◌, ◌<◌}
use native.Mathlib.Nat.{mul-suc}
use native.Mathlib.Numerals.{add-one}
use native.Mathlib.Omega.{arith}
use lib.ListN.{length, take, drop}
use Rattle.std.specs.Prelude.{Option, Some, Result, Ok, Err}
use Rattle.base.proofs.Lists.{drop-none}
use Rattle.gpc.specs.Records.{Record, no_record}
use Rattle.gpc.specs.Statements.{Spots as Places, Stage, top, within, judge, judge_on}
use Rattle.record.specs.declared.Entry.{Entry}
use Rattle.record.specs.Told.{Kept, told}
use Rattle.statement.specs.declared.run.Open.{Open}
use Rattle.statement.specs.declared.run.Fault.{Fault}
use Rattle.statement.specs.Forms.{Form, read_all, Passed}
use Rattle.statement.specs.run.Follows.{Follows, Stood, wrong, wrong_as, outcome, Steps, Leads, Tells, Finishes}
use Rattle.statement.proofs.Pieces.{from_one, from-none, from-short}

module _ (F : Form) (some : 0 < F.size) (p : Places) (s : List ℕ) where
  pub passed_first : (x : Option Open) → Follows x top → Passed F p s x 0 0
  unfolding judge
  passed_first x f =
      record {
        inside = omega arith;
        place = omega arith;
        stage = top;
        going = record { follows = f; few = tt };
        same = rw (drop-none s) refl;
        count = rw (drop-none s) (omega arith);
      }

  module _ (x : Option Open) (at k : ℕ) (d : Passed F p s x at k) where
    pub passed-stood : Stood x k
    passed-stood = record { stage = d.stage; going = d.going }

    -- e is what the next piece is read as, and m what it leads to
    module _ (inside : at + F.size ≤ length s) (κ : Kept) (e : Entry) (q : told κ e ≡ F.read (take F.size (drop at s))) (m : Result Open Fault) (v : Leads p x e k m) where
      next : read_all F (drop at s) ≡ told κ e ∷ read_all F (drop (at + F.size) s)
      next = from_one F some s at inside ∙ rw q refl

      pub passed-refused : (f : Fault) → m ≡ Err f → outcome (judge p (read_all F s)) ≡ wrong_as f
      passed-refused f r =
          let t : Steps p (told κ e) k d.stage (Err f) = rw r at (v.by κ d.stage d.going) in
          d.same ∙ ap (λ (l : List Record). outcome (judge_on p k d.stage l)) next ∙ t (read_all F (drop (at + F.size) s))

      pub passed_on : (y : Open) → m ≡ Ok y → Passed F p s (Some y) (at + F.size) (k + 1)
      passed_on y r =
          let (st, g, t) = on r in
          record {
            inside = inside;
            place = omega (arith, d.place, mul_next);
            stage = st;
            going = rw (add-one k) g;
            same = rw (add-one k) (d.same ∙ ap (λ (l : List Record). outcome (judge_on p k d.stage l)) next ∙ t (read_all F (drop (at + F.size) s)));
            count = omega (arith, d.count, ap (λ (l : List Record). length l) next);
          }
        where
          on : m ≡ Ok y → Steps p (told κ e) k d.stage (Ok y)
          on r = rw r at (v.by κ d.stage d.going)

          mul_next : F.size * (k + 1) ≡ F.size * k + F.size
          mul_next = rw (add-one k) (mul-suc F.size k)

    -- bytes are left over
    pub passed-left : at < length s → length s < at + F.size → ((t : List ℕ) → length t < F.size → F.read t ≡ no_record)
        → outcome (judge p (read_all F s)) ≡ wrong 50 k 0
    unfolding judge_on outcome
    passed-left l h short = d.same ∙ rw (from-short F some s at l h short) (stray d.stage)
      where
        stray : (st : Stage) → outcome (judge_on p k st (no_record ∷ [])) ≡ wrong 50 k 0
        stray top = refl
        stray (within j h ms) = refl

    -- none are
    tells-same : (r : Result ℕ Fault) → length s ≤ at → Tells k (judge_on p k d.stage []) r → Tells (length (read_all F s)) (judge p (read_all F s)) r
    tells-same (Ok n) h (a, b) =
        (omega (arith, a, d.count, ap (λ (l : List Record). length l) (from-none F some s at h)), d.same ∙ rw (from-none F some s at h) b)
    tells-same (Err f) h b = d.same ∙ rw (from-none F some s at h) b

    pub passed-end : (r : Result ℕ Fault) → length s ≤ at → Finishes p x k r → Tells (length (read_all F s)) (judge p (read_all F s)) r
    passed-end r h f = tells-same r h (f.by d.stage d.going.follows)
