-- One line's row, put: what each way through `fill_line` leaves, and the room that it has. Assumes nothing.
use mathlib.Core.Path.{◌≡◌, refl, sym, ap, ◌∙◌}
use mathlib.Core.Bool.{Bool, true}
use mathlib.Core.List.{List, [], ◌∷◌, ◌++◌, append-nil}
use Prim.Native.Nat.{ℕ, ◌+◌, ◌≤◌, ◌<◌}
use native.Mathlib.Omega.{arith}
use lib.ListN.{length}
use Rattle.base.specs.Put.{Wrote}
use Rattle.sheet.specs.declared.Sheet.{Sheet}
use Rattle.paper.specs.Accounts.{Account, account, is_nobody}
use Rattle.paper.specs.Entries.{file, group, item, nowhere, Counted, said, plain, counted, kind_of}
use Rattle.paper.specs.FileLine.{read_file}
use Rattle.paper.specs.Terms.{day_here}
use Rattle.paper.specs.GroupLine.{read_group}
use Rattle.paper.specs.ItemLine.{places, read_item}
use Rattle.paper.specs.Spells.{read_line}
use Rattle.paper.specs.Words.{blanks, words_bytes, rows_bytes}
use Rattle.paper.specs.Rows.{accepted, file_row, group_row, item_row, text_spots, entry_row, line_row, single_after, single_behind}
use Rattle.out.proofs.put.Room.{wrote_none}
use Rattle.out.proofs.word.Laws.{words-length}
use Rattle.text.specs.span.Held.{texts_at, Held}
use Rattle.scan.specs.declared.kind.LineKind.{LineKind}
use Rattle.scan.specs.declared.kind.LineKind.TheVariants as kind
use Rattle.scan.specs.kind.Told as kinds
use Rattle.itemline.specs.declared.Fields.{Fields}
use Rattle.itemline.specs.Told as item-told
use Rattle.fileline.specs.declared.take.File.{File}
use Rattle.groupline.specs.declared.take.Group.{Group}
use Rattle.fileline.specs.take.Any.{any_number}
use Rattle.itemline.specs.Walk.{any_bank}
use Rattle.groupline.specs.take.Taken.{Opens}
use Rattle.numeral.specs.placed.Said.{is_said}
use Rattle.numeral.proofs.placed.Goes.{said-counted}
use Rattle.fill.specs.itemrow.Place.{Reached}
use Rattle.fill.proofs.itemrow.Texts.{item-length, reached}
use Rattle.fill.specs.declared.file.Step.{Step}
use Rattle.fill.specs.file.Stepped.{Stepped}
use Rattle.fill.proofs.file.Said.{Quiet, said-file, said-group, said-item, head-quiet, group-end-quiet, file-end-quiet}

abbrev step : ℕ → Bool → Step
step n b = record { next = n; single = b }

-- a row is put alone
one-row : (o o1 : List ℕ) (next p : ℕ) (row : List ℕ) → Wrote o next (words_bytes row) o1 p → Wrote o next (rows_bytes (row ∷ [])) o1 p
unfolding rows_bytes
one-row o o1 next p row w = rw (append-nil (words_bytes row)) w

-- it takes 192 bytes
row_room : (row : List ℕ) (next m : ℕ) → length row ≡ 24 → next + length (rows_bytes (row ∷ [])) ≤ m → next + 192 ≤ m
unfolding rows_bytes
row_room row next m e h = let z : length (words_bytes row ++ []) ≡ length (words_bytes row) = ap length (append-nil (words_bytes row)) in omega (arith, words-length row)

module _ (o : List ℕ) (next at : ℕ) (single : Bool) where
  -- a line that has no row
  quiet_step : (r : Counted) → next ≤ length o → Quiet at single r → Stepped o next single at r o (step next single)
  unfolding rows_bytes
  quiet_step r h q = record { wrote = rw q.rows (wrote_none o next h); after = sym q.same }

module _ (sh : Sheet) (today : ℕ) (single : Bool) (s : List ℕ) (k : LineKind) (g : kinds.told k ≡ kind_of s) (o : List ℕ) (next at : ℕ)
    (room : next + length (rows_bytes (line_row at (read_line sh today (accepted single) s))) ≤ length o) where
  pub step-head : k ≡ kind.Head → Stepped o next single at (read_line sh today (accepted single) s) o (step next single)
  step-head e = quiet_step o next at single _ (omega arith) (head-quiet at single sh today s k g e)

  pub step-group-end : k ≡ kind.GroupEnd → Stepped o next single at (read_line sh today (accepted single) s) o (step next single)
  step-group-end e = quiet_step o next at single _ (omega arith) (group-end-quiet at single sh today s k g e)

  pub step-file-end : k ≡ kind.FileEnd → Stepped o next single at (read_line sh today (accepted single) s) o (step next single)
  step-file-end e = quiet_step o next at single _ (omega arith) (file-end-quiet at single sh today s k g e)

  module _ (e : k ≡ kind.File) where
    pub judged-file : is_said (read_line sh today (accepted single) s) ≡ true → is_said (read_file sh any_number s) ≡ true
    judged-file h = sym (said-counted (read_file sh any_number s)) ∙ (rw (said-file sh today single s k g e) at h)

    module _ (x : File) (f : plain (file x.kind x.number) ≡ read_file sh any_number s) where
      file-says : read_line sh today (accepted single) s ≡ said (file x.kind x.number) 0 nowhere
      unfolding counted
      file-says = said-file sh today single s k g e ∙ ap counted (sym f)

      pub room-file : next + 192 ≤ length o
      unfolding line_row entry_row file_row blanks
      room-file = row_room (file_row x.kind x.number) next (length o) refl (rw file-says at room)

      pub step-file : (o1 : List ℕ) (p : ℕ) → Wrote o next (words_bytes (file_row x.kind x.number)) o1 p
          → Stepped o next single at (read_line sh today (accepted single) s) o1 (step p single)
      unfolding line_row entry_row single_behind single_after
      step-file o1 p w = rw file-says (record { wrote = one-row o o1 next p (file_row x.kind x.number) w; after = refl })

  module _ (e : k ≡ kind.Group) where
    pub judged-group : is_said (read_line sh today (accepted single) s) ≡ true → is_said (read_group sh today (day_here sh 0) s) ≡ true
    judged-group h = sym (said-counted (read_group sh today (day_here sh 0) s)) ∙ (rw (said-group sh today single s k g e) at h)

    module _ (x : Group) (f : Opens (read_group sh today (day_here sh 0) s) x) where
      abbrev payer : Account
      payer = account x.prefix x.base

      group-says : read_line sh today (accepted single) s ≡ said (group payer f.total x.date) (length f.warnings) f.places
      unfolding counted
      group-says = said-group sh today single s k g e ∙ ap counted f.says

      pub room-group : next + 192 ≤ length o
      unfolding line_row entry_row group_row blanks
      room-group = row_room (group_row x.date payer) next (length o) refl (rw group-says at room)

      pub step-group : (o1 : List ℕ) (p : ℕ) (b : Bool) → Wrote o next (words_bytes (group_row x.date (account x.prefix x.base))) o1 p
          → b ≡ is_nobody (account x.prefix x.base) → Stepped o next single at (read_line sh today (accepted single) s) o1 (step p b)
      unfolding line_row entry_row single_behind single_after
      step-group o1 p b w n = rw group-says (record { wrote = one-row o o1 next p (group_row x.date payer) w; after = n })

  module _ (e : k ≡ kind.Item) where
    pub judged-item : is_said (read_line sh today (accepted single) s) ≡ true → is_said (read_item sh any_bank single s) ≡ true
    judged-item h = sym (said-counted (read_item sh any_bank single s)) ∙ (rw (said-item sh today single s k g e) at h)

    module _ (x : Fields) (f : item-told.told s x ≡ counted (read_item sh any_bank single s)) (t : item-told.Sound s x) where
      item-says : read_line sh today (accepted single) s ≡ said (item (item-told.item_at s x)) x.warnings (places (texts_at s x.texts))
      item-says = said-item sh today single s k g e ∙ sym f

      item-held : Held s x.texts
      item-held = t.held

      pub room-item : next + 192 ≤ length o
      unfolding line_row entry_row
      room-item = row_room (item_row at (text_spots (places (texts_at s x.texts))) (item-told.item_at s x)) next (length o) (item-length at x s item-held) (rw item-says at room)

      pub reach-item : at + length s < 18446744073709551616 → Reached at x.texts
      reach-item h = reached at s x.texts item-held h

      pub step-item : (o1 : List ℕ) (p : ℕ)
          → ((u : List ℕ) → Held u x.texts → Wrote o next (words_bytes (item_row at (text_spots (places (texts_at u x.texts))) (item-told.item_at u x))) o1 p)
          → Stepped o next single at (read_line sh today (accepted single) s) o1 (step p single)
      unfolding line_row entry_row single_behind single_after
      step-item o1 p w = rw item-says (record { wrote = one-row o o1 next p (item_row at (text_spots (places (texts_at s x.texts))) (item-told.item_at s x)) (w s item-held); after = refl })
