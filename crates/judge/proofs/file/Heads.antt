-- The first line: the file's answer from behind it. Assumes nothing.
use mathlib.Core.Path.{◌≡◌, refl, sym, ap, subst, ◌∙◌}
use mathlib.Core.Bool.{false}
use mathlib.Core.List.{List, [], ◌∷◌}
use Prim.Native.Nat.{ℕ, ◌+◌, ◌-◌, ◌≤◌}
use native.Mathlib.Omega.{arith}
use lib.ListN.{length, take, drop, length-take}
use lib.Seq.{take-take}
use Rattle.std.proofs.Common.{Option, Some, None, Result, Ok, Err}
use Rattle.base.specs.Pick.{pick}
use Rattle.base.proofs.Lists.{drop-take}
use Rattle.refusal.specs.declared.Flaw.{Flaw}
use Rattle.refusal.specs.Numbers.{number_of}
use Rattle.sheet.specs.declared.Sheet.{Sheet}
use Rattle.paper.specs.Batch.{no_header}
use Rattle.paper.specs.Lines.{lines_of, lines_from}
use Rattle.paper.specs.Entries.{counted, head_line, kind_of, on_head, on_entry}
use Rattle.paper.specs.FirstLine.{read_first}
use Rattle.paper.specs.Spells.{read_as}
use Rattle.paper.proofs.Starts.{kind-long}
use Rattle.scan.specs.declared.line.Cut.{Cut}
use Rattle.scan.specs.line.Cutting.{Cuts}
use Rattle.scan.specs.declared.kind.LineKind.{LineKind}
use Rattle.scan.specs.declared.kind.LineKind.TheVariants as line
use Rattle.scan.specs.kind.Told as kinds
use Rattle.fileline.specs.seen.Bits.{Holds}
use Rattle.firstline.specs.declared.Header.{Header}
use Rattle.firstline.specs.Stages.{name_in}
use Rattle.firstline.specs.Told as firsts
use Rattle.tally.specs.Tally.{Brief, Tally, t_first, t_file, t_stop, new_book, is_due, is_full, meet, on_said, end_of, step, run, seed, seeded_run, seeded}
use Rattle.tally.specs.Tally as numbers
use Rattle.tally.specs.Short.{No, short, tally}
use Rattle.tally.proofs.Seeds.{seeded-none}
use Rattle.judge.specs.group.Stands.{line_in}
use Rattle.judge.proofs.group.Steps.{not-due, by-fields}
use Rattle.judge.proofs.group.Going.{run-stop, run-stops}
use Rattle.judge.specs.declared.refused.Refused.{Refused}
use Rattle.judge.specs.refused.Lined.{Within, lined}
use Rattle.judge.proofs.refused.Places.{was-ok, was-err}
use Rattle.judge.specs.declared.file.Ended.{Ended}
use Rattle.judge.specs.file.Answer.{from_seen, told, NameIn, Concluded}

-- a line's bytes in the file
abbrev top : List ℕ → Cut → List ℕ
top f cut = take (cut.stop - 0) (drop 0 f)

-- an empty file has no line
pub no-line : (sh : Sheet) (today : ℕ) (f : List ℕ) → length f ≡ 0 → No 3 1 0 ≡ tally sh today f
unfolding tally numbers.tally lines_of run end_of short
no-line sh today [] e = refl
no-line sh today (x ∷ f) e = absurd (omega arith)

-- ---- the name

-- in the line, and in the file
name-same : (f : List ℕ) (cut : Cut) → 46 ≤ length (top f cut) → name_in (top f cut) ≡ take 20 (drop 10 f)
name-same f cut h =
    let n : 46 ≤ cut.stop - 0 = omega (arith, length-take (cut.stop - 0) f) in
    ap (take 20) (drop-take 10 (cut.stop - 0) f) ∙ take-take 20 (cut.stop - 0 - 10) (drop 10 f) (omega arith)

-- a header that was read stands in the file: m is what was read, r, with the line's number
module _ (f : List ℕ) (cut : Cut) (r : Result (Option Header) Flaw) (sound : firsts.Sound (top f cut) r) where
  header-long : (h : Header) → r ≡ Ok (Some h) → 46 ≤ length (top f cut)
  header-long h e = let x : firsts.Sound (top f cut) (Ok (Some h)) = rw e at sound in x.0

  named : (head : Option Header) → r ≡ Ok head → NameIn f head
  named (Some h) e = omega (arith, length-take (cut.stop - 0) f, header-long h e)
  named None e = tt

  pub head-named : (k at : ℕ) (m : Result (Option Header) Refused) → m ≡ lined r k at → (head : Option Header) → m ≡ Ok head → NameIn f head
  head-named k at m n head e = named head (was-ok k at r head (sym n ∙ e))

  -- a refusal's place lies in the line
  pub head-within : Cuts f 0 cut → kind_of (top f cut) ≡ head_line → Within r 0 cut.stop
  head-within cuts e = inside r sound
    where
      inside : (r : Result (Option Header) Flaw) → firsts.Sound (top f cut) r → Within r 0 cut.stop
      inside (Ok h) s = tt
      inside (Err x) s = omega (arith, s (kind-long (top f cut) head_line e), length-take (cut.stop - 0) f)

-- ---- the line

-- line 2 starts behind byte 1
pub head-long : (f : List ℕ) (cut : Cut) → Cuts f 0 cut → kind_of (top f cut) ≡ head_line → 2 ≤ cut.next
head-long f cut cuts e =
    omega
    (arith, kind-long (top f cut) head_line e, length-take (cut.stop - 0) f, cuts.to)

module _ (sh : Sheet) (today : ℕ) (f : List ℕ) (cut : Cut) (cuts : Cuts f 0 cut) where
  undue : (r : LineKind) → (r ≡ line.Head → ⊥) → is_due t_first (kinds.told r) ≡ false
  unfolding is_due
  undue line.Head i = absurd (i refl)
  undue line.File i = refl
  undue line.Group i = refl
  undue line.Item i = refl
  undue line.GroupEnd i = refl
  undue line.FileEnd i = refl

  -- out of turn: r is the kind that was found
  pub head-other : (r : LineKind) → kinds.told r ≡ kind_of (top f cut) → (r ≡ line.Head → ⊥) → No 3 1 0 ≡ tally sh today f
  unfolding step tally numbers.tally short lines_from
  head-other r t i =
      ap short
      (run-stops sh today (length f) 1 f 0 cut cuts t_first (numbers.No 3 1 0)
      (not-due sh today 1 (line_in f 0 cut.stop) t_first refl (kinds.told r) (sym t) (undue r i)))

  -- it leads to c, and u counts as seen
  module _ (u : List ℕ) where
    leads : (c : Tally) → c ≡ step sh today 1 (line_in f 0 cut.stop) t_first → run sh today (length f) 2 (lines_from f cut.next) (seed u c) ≡ seeded u sh today f
    unfolding seeded seeded_run lines_from
    leads c e = rw (cuts.lines, e)

    stops : (n byte : ℕ) → t_stop (numbers.No n 1 byte) ≡ step sh today 1 (line_in f 0 cut.stop) t_first → numbers.No n 1 byte ≡ seeded u sh today f
    unfolding seed
    stops n byte e = sym (run-stop sh today (length f) 2 (lines_from f cut.next) (numbers.No n 1 byte)) ∙ leads (t_stop (numbers.No n 1 byte)) e

  -- its fields: r is what was read, v the variant that this was found to be, x the answer from behind it
  module _ (e : kind_of (top f cut) ≡ head_line) (r : Result (Option Header) Flaw) (t : firsts.told (top f cut) r ≡ read_first sh (top f cut)) where
    said : (v : Result (Option Header) Flaw) → r ≡ v → on_said sh 1 0 (counted (firsts.told (top f cut) v)) t_first ≡ step sh today 1 (line_in f 0 cut.stop) t_first
    unfolding step is_due is_full read_as
    said v q = by-fields sh today 1 (line_in f 0 cut.stop) t_first refl head_line e refl refl _ (ap counted (rw q at t))

    -- m is the same with the line's number
    module _ (m : Result (Option Header) Refused) (n : m ≡ lined r 1 0) (words : List ℕ) where
      pub head-refused : (y : Refused) → m ≡ Err y → (u : List ℕ) → Holds words u → Concluded f (seeded u sh today f) (Err y)
      unfolding on_said counted
      head-refused y q u _ =
          let w = was-err 1 0 r y (sym n ∙ q) in
          rw w.2 (sym (stops u (number_of w.0.0) (0 + w.0.1) (said (Err w.0) w.1)))

      head-leads : firsts.Sound (top f cut) r → (head : Option Header) → r ≡ Ok head → (u : List ℕ) → from_seen u sh today f cut.next head ≡ seeded u sh today f
      unfolding from_seen on_said meet on_entry on_head pick counted seed
      head-leads sound (Some h) q u = rw (← (name-same f cut (header-long f cut r sound h q))) (leads u _ (said (Ok (Some h)) q))
      head-leads sound None q u = leads u (t_file (new_book no_header 0)) (said (Ok None) q)

      -- j is what everything behind it comes to
      pub head-fields : firsts.Sound (top f cut) r → (head : Option Header) → m ≡ Ok head → (j : Result Ended Refused)
          → ((u : List ℕ) → Holds words u → Concluded f (from_seen u sh today f cut.next head) j)
          → (u : List ℕ) → Holds words u → Concluded f (seeded u sh today f) j
      head-fields sound head q j a u held =
          subst (λ (x : Brief). Concluded f x j) (head-leads sound head (was-ok 1 0 r head (sym n ∙ q)) u) (a u held)

-- with nothing seen before it is the file's own answer
pub none_seen : (sh : Sheet) (today : ℕ) (f : List ℕ) (j : Result Ended Refused) (set : List ℕ) → Holds set []
    → ((u : List ℕ) → Holds set u → Concluded f (seeded u sh today f) j)
    → ((e : Ended) → j ≡ Ok e → told f (Ok e.accepted) ≡ tally sh today f) × ((y : Refused) → j ≡ Err y → ◌≡◌ (told f (Err y)) (tally sh today f))
unfolding tally short
none_seen sh today f j set empty ended = (
  λ e q. let x : Concluded f (seeded [] sh today f) (Ok e) = rw q at (ended [] empty) in ap short (sym x.2 ∙ seeded-none sh today f),
  λ y q. let x : Concluded f (seeded [] sh today f) (Err y) = rw q at (ended [] empty) in ap short (sym x ∙ seeded-none sh today f),
)

pub ruleset heads = (no-line, head-other, head-long, head-refused, head-fields, head-named, head-within)
