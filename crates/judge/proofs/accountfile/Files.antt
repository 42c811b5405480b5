-- The line of an account file, and the file's end: where reading stands behind it. Assumes nothing.
use mathlib.Core.Path.{◌≡◌, refl, ap, ◌∙◌}
use mathlib.Core.Bool.{false}
use mathlib.Core.List.{List, ◌∷◌}
use Prim.Native.Nat.{ℕ, ◌+◌, ◌/◌, ◌≤◌, ◌<◌}
use native.Mathlib.Omega.{arith}
use lib.ListN.{length}
use borrow.Author.Tests.{le-leb, lt-leb, eq-eqb, ne_eqb}
use Rattle.std.proofs.Common.{sym, Result, Ok, Err}
use Rattle.base.specs.Pick.{pick}
use Rattle.refusal.specs.declared.Refusal.{Refusal}
use Rattle.refusal.specs.declared.Refusal.TheVariants.{BadOrder, TooMany}
use Rattle.refusal.specs.declared.Flaw.{Flaw}
use Rattle.refusal.specs.Numbers.{number_of}
use Rattle.sheet.specs.declared.Sheet.{Sheet}
use Rattle.paper.specs.Batch.{Header}
use Rattle.paper.specs.Entries.{file, Places, plain, said, no, counted, Kind, file_line, kind_of, on_file, on_entry}
use Rattle.paper.specs.Warnings.{Notice}
use Rattle.paper.specs.Spells.{number_test, read_as}
use Rattle.paper.specs.FileLine.{series, number_fault, read_file}
use Rattle.paper.proofs.LineSays.{Asked, asking_number, LineSays, a-file, file-says, refusal-in}
use Rattle.paper.proofs.Starts.{kind-long}
use Rattle.numeral.proofs.given.Sound.{number-tested}
use Rattle.scan.specs.declared.line.Cut.{Cut}
use Rattle.scan.specs.line.Cutting.{Cuts}
use Rattle.scan.proofs.line.Lines.{at-end}
use Rattle.scan.specs.declared.kind.LineKind.{LineKind}
use Rattle.scan.specs.declared.kind.LineKind.TheVariants as line
use Rattle.scan.specs.kind.Told as kinds
use Rattle.fileline.specs.seen.Bits.{Holds}
use Rattle.fileline.specs.declared.AccountFile.{AccountFile}
use Rattle.fileline.specs.Fault.{fault_in}
use Rattle.fileline.specs.Told as files
use Rattle.fileline.proofs.Set.{same-fault}
use Rattle.tally.specs.Tally.{No, t_file, t_stop, context_of, is_due, is_full, meet, on_said, end_of, step, run}
use Rattle.tally.proofs.Small.{file-limits}
use Rattle.judge.specs.declared.group.Counts.{Counts}
use Rattle.judge.specs.declared.group.Shelf.{Shelf}
use Rattle.judge.specs.group.Stands.{book_of, line_in}
use Rattle.judge.proofs.group.Steps.{not-due, no_room, by-fields}
use Rattle.judge.proofs.group.Turns.{cut as cut_of, known-long, within}
use Rattle.judge.proofs.group.Going.{run-stops, run-on}
use Rattle.judge.specs.declared.refused.Refused.{Refused}
use Rattle.judge.specs.refused.Lined.{refused, Within, lined}
use Rattle.judge.proofs.refused.Places.{was-ok, was-err}
use Rattle.judge.specs.declared.accountfile.Left.{Left}
use Rattle.judge.specs.declared.accountfile.Left.TheVariants as left
use Rattle.judge.specs.accountfile.Resume.{resume, AtFile, file_more, new_shelf, Moved, Ends, Stepped}

-- a line's end lies in the file
pub cut_inside : (f : List ℕ) (at : ℕ) (cut : Cut) → Cuts f at cut → cut.stop ≤ length f
cut_inside f at cut cuts = omega (arith, cuts.to, cuts.inside)

-- ---- a number has six digits

low_of : {sh : Sheet} {today : ℕ} {a : Asked} {w : List ℕ} {kind : Kind} {k n : ℕ} {v : List Notice} {p : Places}
    → LineSays sh today a w kind (said (file k n) v p) → n < 1000000
low_of {a = a} (a-file {number = n} _ g _ _) = (number-tested a.number g.0 n g.1).0

-- the first three digits of a number that was read: m is what was read with the line's number
pub series-low : (sh : Sheet) (test : ℕ → ℕ) (s : List ℕ) (r : Result AccountFile Flaw) → files.told r ≡ read_file sh test s → (k at : ℕ) (m : Result AccountFile Refused) → m ≡ lined r k at
    → (d : AccountFile) → m ≡ Ok d → d.number / 1000 < 1000
series-low sh test s r t k at m n d e =
    let u : plain (file d.kind d.number) ≡ read_file sh test s = rw (was-ok k at r d (sym n ∙ e)) at t in
    omega (arith, low_of (rw (← u) at (file-says sh 0 (asking_number test) s)))

pub file-within : (sh : Sheet) (test : ℕ → ℕ) (f : List ℕ) (at : ℕ) (cut : Cut) → Cuts f at cut → kind_of (cut_of f at cut.stop) ≡ file_line
    → (r : Result AccountFile Flaw) → files.told r ≡ read_file sh test (cut_of f at cut.stop) → Within r at cut.stop
file-within sh test f at cut cuts e (Ok d) t = tt
file-within sh test f at cut cuts e (Err x) t =
    let s = cut_of f at cut.stop in
    let u : no (number_of x.0) x.1 ≡ read_file sh test s = t in
    within f at cut.stop x.1 cuts.from (cut_inside f at cut cuts)
    (refusal-in (rw (← u) at (file-says sh 0 (asking_number test) s)) (kind-long s file_line e))

-- ---- where reading stands

-- nothing happened to the words
moved-stepped : (sh : Sheet) (from to : ℕ) (f : List ℕ) (o r : Result Left Refused) (words : List ℕ) → ((today : ℕ) → Moved sh today f o r) → Stepped sh from to f o words words r
moved-stepped sh from to f o r words m =
    record { same = λ today h p q l held. (l, held, (m today).same h l); good = (m 0).good; less = (m 0).less }

-- the file ends: early before the first account file, else it is accepted
module _ (at k : ℕ) (c : Counts) where
  pub end-early : c.files ≡ 0 → Ends at k c (refused BadOrder k at)
  unfolding resume run end_of pick
  end-early z sh today f e good =
      let w : at ≡ length f = omega (arith, good.inside) in
      record { same = λ h l. rw (at-end f at e) (simp (eq-eqb c.files 0 z, w)); good = tt; less = omega arith }

  pub end-accepted : (c.files ≡ 0 → ⊥) → Ends at k c (Ok (left.Accepted c.rows c.warnings))
  unfolding resume run end_of pick
  end-accepted some sh today f e good =
      let limits = file-limits _ good.low in
      record { same = λ h l. rw (at-end f at e) (simp (ne_eqb c.files 0 some)); good = (limits.rows, limits.warnings); less = omega arith }

  pub file-ends : (sh : Sheet) (f : List ℕ) → AtFile f at k c → length f ≤ at → (r : Result Left Refused) → Ends at k c r
      → (from to : ℕ) (words : List ℕ) → Stepped sh from to f (Ok (left.File at k c)) words words r
  file-ends sh f good e r ends from to words = moved-stepped sh from to f (Ok (left.File at k c)) r words (λ today. ends sh today f e good)

pub ruleset endings = (end-early, end-accepted)

module _ (sh : Sheet) (f : List ℕ) (at k : ℕ) (c : Counts) (cut : Cut) (cuts : Cuts f at cut) where
  module _ (from to : ℕ) (words : List ℕ) where
    -- it is refused
    stops : (r : Refusal) (byte : ℕ)
        → ((today : ℕ) (h : Header) → h.from ≡ from → h.to ≡ to → (l : List ℕ) → Holds words l → t_stop (No (number_of r) k byte) ≡ step sh today k (line_in f at cut.stop) (t_file (book_of h l c)))
        → Stepped sh from to f (Ok (left.File at k c)) words words (refused r k byte)
    unfolding resume
    stops r byte e =
        record {
          same = λ today h p q l held.
              (l, held, run-stops sh today (length f) k f at cut cuts (t_file (book_of h l c)) (No (number_of r) k byte) (e today h p q l held));
          good = tt;
          less = omega arith;
        }

    undue : (h : Header) (l : List ℕ) (r : LineKind) → (r ≡ line.File → ⊥) → is_due (t_file (book_of h l c)) (kinds.told r) ≡ false
    unfolding is_due
    undue h l line.Head i = refl
    undue h l line.File i = absurd (i refl)
    undue h l line.Group i = refl
    undue h l line.Item i = refl
    undue h l line.GroupEnd i = refl
    undue h l line.FileEnd i = refl

    -- out of turn: r is the kind that was found
    pub file-other : (r : LineKind) → kinds.told r ≡ kind_of (cut_of f at cut.stop) → (r ≡ line.File → ⊥)
        → Stepped sh from to f (Ok (left.File at k c)) words words (refused BadOrder k at)
    unfolding step
    file-other r t i =
        stops BadOrder at λ today h p q l held.
        not-due sh today k (line_in f at cut.stop) (t_file (book_of h l c)) refl (kinds.told r) (sym t) (undue h l r i)

    -- the line of an account file
    module _ (e : kind_of (cut_of f at cut.stop) ≡ file_line) where
      pub file-15 : 1000 ≤ c.files → Stepped sh from to f (Ok (left.File at k c)) words words (refused TooMany k at)
      unfolding step is_due is_full
      file-15 full =
          stops TooMany at λ today h p q l held.
          no_room sh today k (line_in f at cut.stop) (t_file (book_of h l c)) refl file_line e refl (le-leb _ _ full)

      module _ (room : c.files < 1000) (r : Result AccountFile Flaw) (t : files.told r ≡ read_file sh (fault_in sh.interval from to words) (cut_of f at cut.stop)) where
        -- r was found to be v; the header and the words say which numbers are allowed
        pub says : (v : Result AccountFile Flaw) → r ≡ v → (today : ℕ) (h : Header) → h.from ≡ from → h.to ≡ to → (l : List ℕ) → Holds words l
            → on_said sh k at (counted (files.told v)) (t_file (book_of h l c)) ≡ step sh today k (line_in f at cut.stop) (t_file (book_of h l c))
        unfolding step is_due is_full context_of read_as number_test
        says v x today h p q l held =
            let free : fault_in sh.interval from to words ≡ number_fault sh.interval h l = rw (← p, ← q) (same-fault sh.interval h words l held) in
            let u : files.told v ≡ read_file sh (number_fault sh.interval h l) (cut_of f at cut.stop) = (rw x at t) ∙ ap (λ (test : ℕ → ℕ). read_file sh test (cut_of f at cut.stop)) free in
            by-fields sh today k (line_in f at cut.stop) (t_file (book_of h l c)) refl file_line e refl (lt-leb _ _ room) _ (ap counted u)

        -- m is the same with the line's number and the byte in the file
        module _ (m : Result AccountFile Refused) (n : m ≡ lined r k at) where
          pub file-refused : (y : Refused) → m ≡ Err y → Stepped sh from to f (Ok (left.File at k c)) words words (Err y)
          unfolding on_said counted
          file-refused y x = let w = was-err k at r y (sym n ∙ x) in rw w.2 (stops w.0.0 (at + w.0.1) (says (Err w.0) w.1))

        -- the words have the number's first three digits besides
        module _ (good : AtFile f at k c) (m : Result AccountFile Refused) (n : m ≡ lined r k at) (d : AccountFile) (x : m ≡ Ok d) (after : List ℕ)
            (marks : (l : List ℕ) → Holds words l → Holds after (series d.number ∷ l)) where
          opened-same : (today : ℕ) (h : Header) → h.from ≡ from → h.to ≡ to → (l : List ℕ) → Holds words l
              → resume sh today f h (series d.number ∷ l) (Ok (left.Group cut.next (k + 1) (file_more c) (new_shelf d.kind)))
              ≡ resume sh today f h l (Ok (left.File at k c))
          unfolding resume on_said meet on_entry on_file counted
          opened-same today h p q l held =
              let z : c.warnings + 0 ≡ c.warnings = omega arith in
              run-on sh today (length f) k f at cut cuts (t_file (book_of h l c)) _ (rw z at (says (Ok d) (was-ok k at r d (sym n ∙ x)) today h p q l held))

          pub file-opened : (more : Counts) → more ≡ file_more c → (new : Shelf) → new ≡ new_shelf d.kind
              → Stepped sh from to f (Ok (left.File at k c)) words after (Ok (left.Group cut.next (k + 1) more new))
          file-opened more y new z =
              rw (y, z)
              (record {
                same = λ today h p q l held. (series d.number ∷ l, marks l held, opened-same today h p q l held);
                good = record {
                  inside = cuts.inside;
                  lines = omega (arith, good.lines, cuts.ahead);
                  low = record {
                    files = omega (arith, good.low.files);
                    items = omega (arith, good.low.items);
                    rows = omega (arith, good.low.rows);
                    warnings = omega (arith, good.low.warnings);
                    shelf = omega arith;
                    groups = omega arith;
                  };
                };
                less = omega (arith, cuts.ahead, cuts.inside);
              })

pub ruleset file-places = (series-low, file-within, known-long)

pub ruleset file-lines = (file-ends, file-other, file-15, file-refused, file-opened)
