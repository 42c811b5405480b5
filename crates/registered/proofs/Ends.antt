-- How the judging of a file against a loaded register ends: early, at the date, with a refusal that is told apart, or accepted. Assumes nothing.
use Rattle.std.proofs.Common.{Result, Ok, Err}
use Prim.Native.Nat.{ℕ, ◌-◌}
use mathlib.Core.Path.{◌≡◌, refl, sym, ap, subst, ◌∙◌}
use mathlib.Core.Bool.{Bool, true, false}
use mathlib.Core.List.{List, [], ◌∷◌}
use native.Mathlib.Omega.{arith}
use lib.ListN.{length, take, drop}
use Rattle.base.specs.Pick.{pick}
use Rattle.base.proofs.Cases.{pick_true, pick-false}
use Rattle.refusal.specs.declared.Refusal.TheVariants.{BadOrder, BadRegister}
use Rattle.sheet.specs.declared.Sheet.{Sheet}
use Rattle.paper.specs.Lines.{Line, line, lines_of, lines_from}
use Rattle.paper.specs.Entries.{head_line, kind_of}
use Rattle.paper.specs.FileLine.{member}
use Rattle.paper.specs.Judge.{Refused, at_first, stop, is, is_due, end_of}
use Rattle.scan.specs.declared.line.Cut.{Cut}
use Rattle.scan.specs.line.Cutting.{Cuts}
use Rattle.scan.specs.declared.kind.LineKind.{LineKind}
use Rattle.scan.specs.declared.kind.LineKind.TheVariants as kind
use Rattle.scan.specs.kind.Told as kinds
use Rattle.fileline.specs.seen.Bits.{Holds}
use Rattle.tally.specs.Tally.{seeded}
use Rattle.tally.specs.Tally as numbers
use Rattle.tally.specs.Short.{short, brief, tally}
use Rattle.judge.specs.declared.file.Ended.{Ended}
use Rattle.judge.specs.declared.refused.Refused.{Refused as Rejected}
use Rattle.judge.specs.file.Answer.{told, Concluded, KeptEnd}
use Rattle.register.specs.declared.Loaded.{Loaded}
use Rattle.register.specs.Register.{Register, used}
use Rattle.register.specs.Told.{told as told_register, Sound}
use Rattle.against.specs.Against.{day_of, is_other, line_on, step_on, run_on, judge_on}
use Rattle.against.specs.Turned.{struck, turned}
use Rattle.against.proofs.Outcome.{stopped-on}
use Rattle.against.proofs.Answers.{strikes, turned-is, grown, marks-list}
use Rattle.registered.specs.Judged.{told_end, Numbered, Judged}
use Rattle.registered.proofs.Judging.{words-hold}

-- a line's bytes in the file
abbrev top : List ℕ → Cut → List ℕ
top f cut = take (cut.stop - 0) (drop 0 f)

-- what was judged tells the answer
tells : (f : List ℕ) (a : numbers.Brief) (j : Result Ended Rejected) → Concluded f a j → short a ≡ told_end f j
unfolding short
tells f a (Ok e) c = ap short c.2
tells f a (Err y) c = ap short c

-- ---- the machine stops

no_lines : (reg : Register) (sh : Sheet) (today : ℕ) (f : List ℕ) → length f ≡ 0 → run_on reg sh today (length f) 1 (lines_of 0 f) at_first ≡ Refused 3 1 0
unfolding run_on lines_of end_of
no_lines reg sh today [] e = refl
no_lines reg sh today (x ∷ f) e = absurd (omega arith)

module _ (reg : Loaded) (sh : Sheet) (i : sh.interval ≡ true) (today : ℕ) (f : List ℕ) where
  abbrev r : Register
  r = told_register reg

  -- a refusal has no numbers
  refused : (y : Rejected) → told f (Err y) ≡ brief (judge_on r sh today f) → Judged r sh today f (Err y)
  refused y e = record { same = e; kept = tt; numbered = λ _ q. absurd (let z : ◌≡◌ {A = ℕ} 0 1 = cc in omega arith) }

  abbrev out_of_turn : Rejected
  out_of_turn = record { refusal = BadOrder; line = 1; byte = 0 }

  on-empty : length f ≡ 0 → judge_on r sh today f ≡ Refused 3 1 0
  unfolding judge_on
  on-empty e = pick_true _ _ i ∙ no_lines r sh today f e

  -- the file is empty
  pub ends-empty : length f ≡ 0 → Judged r sh today f (Err out_of_turn)
  unfolding brief
  ends-empty e = refused out_of_turn (rw (on-empty e))

  module _ (cut : Cut) (cuts : Cuts f 0 cut) where
    first_step : is head_line (kind_of (top f cut)) ≡ false → step_on r sh today 1 (line 0 (top f cut)) at_first ≡ stop (Refused 3 1 0)
    unfolding step_on line_on is_due
    first_step e = pick-false _ _ e

    first_stops : is head_line (kind_of (top f cut)) ≡ false → run_on r sh today (length f) 1 (line 0 (top f cut) ∷ lines_from f cut.next) at_first ≡ Refused 3 1 0
    unfolding run_on
    first_stops e = ap (run_on r sh today (length f) 2 (lines_from f cut.next)) (first_step e) ∙ stopped-on r sh today (length f) 2 (lines_from f cut.next) (Refused 3 1 0)

    on-other : is head_line (kind_of (top f cut)) ≡ false → judge_on r sh today f ≡ Refused 3 1 0
    unfolding judge_on lines_from
    on-other e = pick_true _ _ i ∙ (ap (λ (ls : List Line). run_on r sh today (length f) 1 ls at_first) cuts.lines ∙ first_stops e)

    other_kind : (k : LineKind) → (k ≡ kind.Head → ⊥) → is head_line (kinds.told k) ≡ false
    other_kind kind.Head i = absurd (i refl)
    other_kind kind.File i = refl
    other_kind kind.Group i = refl
    other_kind kind.Item i = refl
    other_kind kind.GroupEnd i = refl
    other_kind kind.FileEnd i = refl

    -- k is the kind that was found
    pub ends-other : (k : LineKind) → kinds.told k ≡ kind_of (top f cut) → (k ≡ kind.Head → ⊥) → Judged r sh today f (Err out_of_turn)
    unfolding brief
    ends-other k t d = refused out_of_turn (rw (on-other (rw (← t) (other_kind k d))))

    module _ (first : kind_of (top f cut) ≡ head_line) (t : Bool) (g : t ≡ is_other r (day_of (top f cut))) where
      struck-is : struck r (lines_of 0 f) ≡ t
      unfolding struck lines_from pick
      struck-is = rw (cuts.lines, first) (sym g)

      -- 23: t says whether the date is another than the register's
      pub ends-struck : t ≡ true → Judged r sh today f (Err (record { refusal = BadRegister; line = 1; byte = 4 }))
      unfolding brief
      ends-struck e = refused (record { refusal = BadRegister; line = 1; byte = 4 }) (rw (strikes r sh today f i (struck-is ∙ e)))

      module _ (not : t ≡ false) (sound : Sound reg) (j : Result Ended Rejected)
          (concluded : (u : List ℕ) → Holds reg.set.words u → Concluded f (seeded u sh today f) j) where
        abbrev u : List ℕ
        u = (marks-list reg.set.words).0

        held : Holds reg.set.words u
        held = (marks-list reg.set.words).1

        is-used : (n : ℕ) → used r n ≡ member n u
        is-used n = ap (λ (p : ℕ → Bool). p n) (sym sound) ∙ held n

        answer : (x : Result Ended Rejected) → j ≡ x → turned (tally sh today f) (told_end f x) ≡ brief (judge_on r sh today f)
        answer x e = rw (← e) (sym (turned-is r sh today f i u is-used (struck-is ∙ not) ∙ ap (turned (tally sh today f)) (tells f _ j (concluded u held))))

        -- refused, and told apart as x
        pub ends-apart : (y : Rejected) → j ≡ Err y → (x : Rejected) → told f (Err x) ≡ turned (tally sh today f) (told f (Err y)) → Judged r sh today f (Err x)
        ends-apart y e x a = refused x (a ∙ answer (Err y) e)

        -- accepted: what it has seen is what was marked, and its own numbers
        pub ends-accepted : KeptEnd f j → (x : Ended) → j ≡ Ok x → Judged r sh today f (Ok x)
        unfolding turned
        ends-accepted kept x e = record { same = answer (Ok x) e; kept = subst (KeptEnd f) e kept; numbered = λ z q. numbers-of z (e ∙ q) }
          where
            numbers-of : (z : Ended) → j ≡ Ok z → Numbered r sh today f z
            numbers-of z q =
                let c : Concluded f (seeded u sh today f) (Ok z) = rw q at (concluded u held) in
                let (b, alone, against, all, own) = grown r sh today f i u is-used (struck-is ∙ not) _ c.0 _ _ c.2 in
                record { batch = b; alone = alone; against = against; rows_all = all; holds = words-hold z.seen.words c.0 u b (used r) c.1 own is-used }

pub ruleset ends = (ends-empty, ends-other, ends-struck, ends-apart, ends-accepted)
