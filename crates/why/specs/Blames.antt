-- What it is that a file's finding is true, declared: the lines before it are lawful, what is found breaks the rule that is named, and nothing
-- earlier in the testing order does. Document 02, W-205. Assumes nothing.
use Rattle.std.specs.Prelude.{ℕ, suc, ◌+◌, ◌≡◌, true, false, List, [], ◌∷◌, length, take, drop}
use Rattle.sheet.specs.declared.Sheet.{Sheet}
use Rattle.paper.specs.Bytes.{null}
use Rattle.paper.specs.Batch.{sum}
use Rattle.paper.specs.Lines.{Line, lines_of}
use Rattle.paper.specs.Entries.{close_group, kind_of}
use Rattle.paper.specs.Judge.{rev_on, Between, InFile, InGroup, State, at_first, at_file, at_group, at_item, context_of, is_due, is_full, items_of, total_broken}
use Rattle.paper.specs.FirstFault.{Lawful, Follows}
use Rattle.why.specs.Rule.{Rule, broke, first_broken}
use Rattle.why.specs.Names.{Name}
use Rattle.why.specs.Fields.{rules_of}
use Rattle.why.specs.Walk.{mark}
use Rattle.why.specs.Told.{Clear, Malformed}
use Rattle.why.specs.declared.Finding.{Finding}
use Rattle.why.specs.Finding.{finding, early, not_due, too_many, total_found}

module _ (sh : Sheet) (today : ℕ) (f : List ℕ) where
  -- The rules that line k, the first of the lines, may break where st is reached, as FirstFault has them, each with what is found.
  pub data Blames (k : ℕ) : State → List Line → Finding → Type 0 where
    -- 3: the file ends early
    ends_first : Blames k at_first [] (early (length f) k at_first)
    ends_none : {x : Between} → null x.files ≡ true → Blames k (at_file x) [] (early (length f) k (at_file x))
    ends_file : {x : InFile} → Blames k (at_group x) [] (early (length f) k (at_group x))
    ends_group : {x : InGroup} → Blames k (at_item x) [] (early (length f) k (at_item x))
    -- 3: another kind of line is due
    not-due : {st : State} {t : Line} {ts : List Line} → is_due st (kind_of t.bytes) ≡ false → Blames k st (t ∷ ts) (not_due k t st)
    -- 15: one too many
    full : {st : State} {t : Line} {ts : List Line}
        → is_due st (kind_of t.bytes) ≡ true
        → is_full sh st (kind_of t.bytes) ≡ true
        → Blames k st (t ∷ ts) (too_many sh k t st)
    -- 4 to 9 and 11 to 14: the fields before it are clear, and of this one's rules the first that these n bytes break is r
    in_field : {st : State} {t : Line} {ts : List Line} {at : ℕ} (n : ℕ) (name : Name) {r : Rule}
        → is_due st (kind_of t.bytes) ≡ true
        → is_full sh st (kind_of t.bytes) ≡ false
        → Clear sh today (context_of st) t.bytes (mark (kind_of t.bytes)) at
        → first_broken (rules_of sh today (context_of st) t.bytes name) (take n (drop at t.bytes)) ≡ broke r
        → Blames k st (t ∷ ts) (finding r.number r.cause k (t.start + at) n name r.least r.most)
    -- 4: the fields before it are clear, and the line's form is broken
    in_form : {st : State} {t : Line} {ts : List Line} {why at n : ℕ} (name : Name)
        → is_due st (kind_of t.bytes) ≡ true
        → is_full sh st (kind_of t.bytes) ≡ false
        → Clear sh today (context_of st) t.bytes (mark (kind_of t.bytes)) at
        → Malformed sh today (context_of st) t.bytes why at n
        → Blames k st (t ∷ ts) (finding 4 why k (t.start + at) n name 0 0)
    -- 10: the closing line has passed, and the total is refused, at its own place
    total : {x : InGroup} {v : ℕ} {t : Line} {ts : List Line}
        → null x.items ≡ false
        → Follows sh today t (at_item x) close_group v
        → total_broken sh.strict x.head.total (sum (items_of x)) ≡ true
        → Blames k (at_item x) (t ∷ ts) (total_found f x (sum (items_of x)))

  -- the finding is of the file's first fault
  pub record TrueOf (x : Finding) : Type 0 where
    pub before : List Line
    pub after : List Line
    pub split : lines_of 0 f ≡ rev_on before after
    pub so_far : State
    pub lawful : Lawful sh today before so_far
    pub blames : Blames (suc (length before)) so_far after x

-- the finding has this number, and this line and byte
pub record Names (x : Finding) (n l b : ℕ) : Type 0 where
  pub number : x.number ≡ n
  pub line : x.line ≡ l
  pub byte : x.byte ≡ b
