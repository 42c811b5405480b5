-- From P to C, the two editions of one bank's sheet. Document 02, W-201. Assumes nothing.
use mathlib.Core.Path.{◌≡◌, refl, sym}
use mathlib.Core.Bool.{true, false}
use mathlib.Core.List.{List}
use mathlib.Core.Logic.{◌↔◌}
use Prim.Native.Nat.{ℕ, ◌+◌, ◌/◌}
use native.Mathlib.Omega.{arith}
use lib.Dec.{ltb}
use lib.ListN.{length}
use Rattle.base.specs.Pick.{pick}
use Rattle.base.proofs.Cases.{either_way}
use Rattle.base.proofs.Seek.{never}
use Rattle.sheet.specs.declared.Style.{Style}
use Rattle.sheet.specs.Sheets.{style_c, style_p, sheet_c, sheet_p, sheet_of, bank_allowed}
use Rattle.sheet.proofs.Laws as sheets
use Rattle.paper.specs.Days.{real_day}
use Rattle.paper.specs.Accounts.{Account}
use Rattle.paper.specs.Batch.{Batch, Header, no_header}
use Rattle.paper.specs.Entries.{Entry, group}
use Rattle.paper.specs.Spells.{differs}
use Rattle.paper.specs.Judge.{Accepted, judge}
use Rattle.paper.specs.Rows.{row_size}
use Rattle.paper.specs.Reading.{row_count, answered, needs, accepted_as, read_with, read_answer, filled, rows_with, rows_after}
use Rattle.roundtrip.specs.whole.Carries.{Carries, head_read}
use Rattle.uncut.specs.Wider.{read_none, named_alike, named_more, WiderStyle, TextsOf, Wider}
use Rattle.uncut.specs.Severe.{restyled}
use Rattle.uncut.specs.Looser.{Looser}
use Rattle.uncut.proofs.Main.{Any}
use Rattle.moving.specs.Marks.{BatchUnmarked, unnamed, headless}
use Rattle.moving.proofs.Marks.{named-unmarked}
use Rattle.moving.proofs.Moving.{Plain, moved, moved-rows, moved-anyhow, carried-too}

-- C reads no header
abbrev turn : Header → Header
turn h = no_header

-- C with texts of any style that takes what P's takes is wider than P
edition-wider : (Only : Entry → ℕ → Type 0) (y : Style) → WiderStyle (TextsOf Only) style_p y
    → ((payer : Account) (total exact date v : ℕ) → Only (group payer exact date) (v + differs total exact) → Only (group payer total date) v)
    → Wider Only turn sheet_p (restyled sheet_c y false)
unfolding bank_allowed pick
edition-wider Only y texts groups =
    record {
      heads = read_none (λ h. refl) refl refl;
      kinds = omega arith;
      banks = λ code e. refl;
      joined = λ e. refl;
      base = omega arith;
      empty = refl;
      zero = refl;
      long = λ e. refl;
      early = λ e. refl;
      ahead = omega arith;
      past = refl;
      collects = refl;
      own = refl;
      comma = λ e. e;
      digits = omega arith;
      amount = omega arith;
      priority = refl;
      fixed = refl;
      bare = λ e. refl;
      texts = texts;
      near = λ e. refl;
      totals = λ payer total exact date v o. (groups payer total exact date v o, λ same _. same refl);
      items = omega arith;
    }

-- with its own texts, where no part holds ` NP:`
plain-wider : Wider Plain turn sheet_p sheet_c
plain-wider =
    edition-wider Plain style_c
    (record {
      av = refl;
      may = λ e. refl;
      names = named_more refl refl refl refl (omega arith) (λ t on. rw (← on.parts) on.only);
      most = omega arith;
      cuts = λ t on c _. never (sym c);
      clean = λ e. refl;
    })
    (λ payer total exact date v o. tt)

-- without names, whatever the parts hold
any-wider : Wider Any turn sheet_p (restyled sheet_c (unnamed style_c) false)
any-wider =
    edition-wider Any (unnamed style_c)
    (record { av = refl; may = λ e. refl; names = named_alike refl; most = omega arith; cuts = λ t on c _. never (sym c); clean = λ e. refl })
    (λ payer total exact date v o. tt)

names-looser : Looser (unnamed style_c) style_c
names-looser = record { av = refl; may = λ e. e; names = λ e. refl; most = omega arith; cuts = refl; clean = refl }

sane-p : sheets.Sane sheet_p
unfolding sheet_of pick
sane-p = sheets.sane 5 sheet_p refl

sane-c : sheets.Sane sheet_c
unfolding sheet_of pick
sane-c = sheets.sane 3 sheet_c refl

module _ (today : ℕ) where
  module _ (f : List ℕ) (h : Header) (b : Batch) (w : ℕ) (accepted : judge sheet_p today f ≡ Accepted h b w) where
    -- Whatever P accepts C accepts that day,
    pub moves-accepted : (c : Batch) × (v : ℕ) × (judge sheet_c today f ≡ Accepted no_header c v)
    moves-accepted = moved-anyhow turn today sheet_p sheet_c (unnamed style_c) any-wider names-looser f h b w accepted

    -- as the same batch, with as many warnings, where no part holds ` NP:`,
    pub moves-alike : BatchUnmarked b → judge sheet_c today f ≡ Accepted no_header b w
    moves-alike u = moved turn today sheet_p sheet_c plain-wider f h b w u accepted

    -- and only there.
    pub moves : ((g : Header) × (v : ℕ) × (judge sheet_c today f ≡ Accepted g b v)) ↔ BatchUnmarked b
    moves = (λ (g, v, e). named-unmarked sheet_c refl today sane-c f g b v e, λ u. (no_header, w, moves-alike u))

    -- The request's own sentence: a file that both accept on a day, with no ` NP:` in any text, is read as the same batch.
    pub moves-same : (g : Header) (c : Batch) (v : ℕ) → judge sheet_c today f ≡ Accepted g c v → BatchUnmarked b → c ≡ b
    moves-same g c v e u = let s = moves-alike u in cc

    -- So abo_read answers alike but for the header, which C has not,
    module _ (plain : BatchUnmarked b) (real : real_day today ≡ true) (lent : List ℕ) where
      pub moves-answer : read_answer 3 today f lent ≡ headless (read_answer 5 today f lent)
      unfolding read_answer read_with sheet_of answered needs accepted_as pick
      moves-answer =
          rw (real, accepted, moves-alike plain)
          (either_way (λ x y. x ≡ headless y) (ltb (length lent / row_size) (row_count b)) refl refl)

      -- and leaves the same rows.
      pub moves-rows : rows_after 3 today f lent ≡ rows_after 5 today f lent
      unfolding rows_after rows_with sheet_of filled pick
      moves-rows = rw (real, accepted, moves-alike plain, moved-rows turn today sheet_p sheet_c plain-wider f h b w plain accepted)

  -- What P carries with no ` NP:` in any part C carries, with whatever header.
  pub moves-carried : (h g : Header) (b : Batch) → BatchUnmarked b → Carries sheet_p today h b → Carries sheet_c today g b
  unfolding head_read pick
  moves-carried h g b u c = carried-too turn today sheet_p sheet_c sane-p sane-c plain-wider h g refl b u c
