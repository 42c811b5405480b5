-- The answer of writing is a file exactly where every test passes; and the rows of lent bytes have four parts. Assumes nothing.
use Rattle.std.proofs.Common.{Some}
use mathlib.Core.Path.{◌≡◌, refl, sym, ◌∙◌}
use mathlib.Core.Bool.{true}
use mathlib.Core.List.{List, [], ◌∷◌}
use Prim.Native.Nat.{ℕ}
use native.Mathlib.Omega.{arith}
use lib.Dec.{eqb}
use Rattle.base.specs.Pick.{pick}
use Rattle.base.proofs.Cases.{by-test, pick_true}
use Rattle.sheet.specs.declared.Sheet.{Sheet}
use Rattle.sheet.specs.Sheets.{sheet_of}
use Rattle.paper.specs.Days.{real_day}
use Rattle.paper.specs.Batch.{Batch, Header, Thing, things, batch_of}
use Rattle.paper.specs.Proper.{Verdict, fine, wrong, header_proper, batch_proper}
use Rattle.paper.specs.Words.{word}
use Rattle.paper.specs.Rows.{rows_in, reference_proper, thing_in, things_in}
use Rattle.paper.specs.Carried.{header_carried, batch_carried}
use Rattle.paper.specs.Canonical.{canon}
use Rattle.paper.specs.Writing.{Draft, drafted, refusal, Refuses, on_verdict, draft_of, draft_with, draft}
use Rattle.paper.proofs.Trees.{batch-things}
use Rattle.roundtrip.specs.whole.Carries.{FourParts, Passes, Carries}

-- ---- a file, or a refusal

pub by-draft : {P : Type 0} (d : Draft) → ((s : List ℕ) → d ≡ drafted s → P) → (Refuses d → P) → P
by-draft (drafted s) f g = f s refl
by-draft (refusal n row field) f g = g (n, row, field, refl)

pub not-both : {A : Type 0} (d : Draft) (s : List ℕ) → d ≡ drafted s → Refuses d → A
not-both d s e (n, row, field, r) = absurd (let y : drafted s ≡ refusal n row field = sym e ∙ r in let z : ◌≡◌ {A = ℕ} 0 1 = cc in omega arith)

same-file : (s t : List ℕ) → drafted s ≡ drafted t → t ≡ s
same-file s t e = cc

-- ---- by the tests

verdict-only : (n : ℕ) (v : Verdict) (rest : Draft) (s : List ℕ) → on_verdict n v rest ≡ drafted s → (v ≡ fine) × (rest ≡ drafted s)
unfolding on_verdict
verdict-only n fine rest s e = (refl, e)
verdict-only n (wrong row field) rest s e = absurd (let z : ◌≡◌ {A = ℕ} 0 1 = cc in omega arith)

verdict-also : (n : ℕ) (v : Verdict) (rest : Draft) → v ≡ fine → on_verdict n v rest ≡ rest
unfolding on_verdict
verdict-also n v rest e = rw e refl

module _ (sh : Sheet) (today : ℕ) (h : Header) where
  pub draft-only : (ts : List Thing) → FourParts ts → (s : List ℕ) → draft_of sh today h ts ≡ drafted s → Passes sh today h ts × (s ≡ canon sh h (batch_of ts))
  unfolding draft_of
  draft-only ts four s e =
      let (p0, e0) = verdict-only 20 (pick sh.header (header_proper h) fine) _ s e in
      let (p1, e1) = verdict-only 20 (batch_proper ts) _ s e0 in
      let (p2, e2) = verdict-only 21 (pick sh.header (header_carried sh.interval h) fine) _ s e1 in
      let (p3, e3) = verdict-only 21 (batch_carried sh today h ts) _ s e2 in
      (record { header-proper = p0; rows-proper = p1; header-carried = p2; rows-carried = p3; four_parts = four }, same-file _ s e3)

  pub draft-also : (ts : List Thing) → Passes sh today h ts → draft_of sh today h ts ≡ drafted (canon sh h (batch_of ts))
  unfolding draft_of
  draft-also ts p =
      verdict-also 20 _ _ p.header-proper
      ∙ verdict-also 20 _ _ p.rows-proper
      ∙ verdict-also 21 _ _ p.header-carried
      ∙ verdict-also 21 _ _ p.rows-carried

  pub draft-batch : (b : Batch) → Carries sh today h b → draft_of sh today h (things b) ≡ drafted (canon sh h b)
  draft-batch b p = rw (batch-things b) at (draft-also (things b) p)

-- ---- lent rows

pub rows_four : (t : List ℕ) (rs : List (List ℕ)) → FourParts (things_in t rs)
unfolding things_in thing_in pick
rows_four t [] = tt
rows_four t (r ∷ rs) =
    let i = rows_four t rs in
    by-test (eqb (word r 0) 1) (λ e. rw e i)
    (λ e.
    by-test (eqb (word r 0) 2) (λ f. rw (e, f) i)
    (λ f.
    by-test (eqb (word r 0) 3)
    (λ g. by-test (reference_proper (word r 21)) (λ n. rw (e, f, g, n) (refl, i)) (λ n. rw (e, f, g, n) i))
    (λ g. rw (e, f, g) i)))

-- 1 and 2 are not given
pub draft-known : (sheet : ℕ) (sh : Sheet) → sheet_of sheet ≡ Some sh → (today : ℕ) → real_day today ≡ true → (h : Header) (rows texts : List ℕ)
    → draft sheet today h rows texts ≡ draft_of sh today h (things_in texts (rows_in rows))
unfolding draft draft_with
draft-known sheet sh e today day h rows texts = rw e (pick_true _ _ day)
