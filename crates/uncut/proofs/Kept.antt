-- What one reading of a line says another one says too: one law for each way to read on. Assumes nothing.
use mathlib.Core.Path.{◌≡◌, refl, sym, ap, ◌∙◌}
use mathlib.Core.List.{List, [], ◌∷◌}
use Prim.Native.Nat.{ℕ}
use native.Mathlib.Omega.{arith}
use lib.ListN.{length}
use Rattle.base.proofs.Cases.{either}
use Rattle.paper.specs.Read.{Field, value, fault}
use Rattle.paper.specs.Warnings.{Notice}
use Rattle.paper.specs.Batch.{Header}
use Rattle.paper.specs.Entries.{Entry, head, file, group, item, close_group, close_file, Places, Listed, got, said, no, counted, on_field, field, place, gap, line_end}
use Rattle.paper.proofs.Passing.{same_parts}
use Rattle.uncut.proofs.Takes.{Takes}

-- what becomes of an entry: a header is turned, all else stays
abbrev pub turned : (Header → Header) → Entry → Entry
turned turn (head h) = head (turn h)
turned turn (file k n) = file k n
turned turn (group p t d) = group p t d
turned turn (item x) = item x
turned turn close_group = close_group
turned turn close_file = close_file

-- what the first reading says and is let through, the second one says, with the same warnings and places
pub record Kept (Only : Entry → ℕ → Type 0) (turn : Header → Header) (r q : Listed) : Type 0 where
  pub keeps : (e : Entry) (w : List Notice) (p : Places) → Only e (length w) → r ≡ said e w p → q ≡ said (turned turn e) w p

module _ {Only : Entry → ℕ → Type 0} {turn : Header → Header} where
  pub said-kept : (e : Entry) {w v : List Notice} {p : Places} → w ≡ v → Kept Only turn (said e w p) (said (turned turn e) v p)
  said-kept e s = record { keeps = λ e' w' p' o q. let (a, b, c) = same_parts q in rw (← a, ← s, b, c) }

  pub refused-kept : {n off : ℕ} {q : Listed} → Kept Only turn (no n off) q
  refused-kept = record { keeps = λ e w p o q. absurd (let z : ◌≡◌ {A = ℕ} 0 1 = cc in omega arith) }

  -- where no header changes
  pub same_kept : {r : Listed} → ((h : Header) → turn h ≡ h) → Kept Only turn r r
  same_kept t = record { keeps = λ e w p o q. q ∙ ap (λ (x : Entry). said x w p) (same e) }
    where
      same : (e : Entry) → e ≡ turned turn e
      same (head h) = ap head (sym (t h))
      same (file k n) = refl
      same (group p s d) = refl
      same (item x) = refl
      same close_group = refl
      same close_file = refl

  module _ {A : Type 0} where
    pub on-kept : (at : ℕ) (x y : Field A) {k l : A → Listed} → Takes x y → ((v : A) → Kept Only turn (k v) (l v)) → Kept Only turn (on_field at x k) (on_field at y l)
    unfolding on_field
    on-kept at (value v) y r h = rw (r.takes v tt refl) (h v)
    on-kept at (fault n) y r h = refused-kept

    pub field-kept : (read also : List ℕ → Field A) → ((t : List ℕ) → Takes (read t) (also t)) → (at : ℕ) (s : List ℕ) {k l : A → ℕ → List ℕ → Listed}
        → ((v : A) (a : ℕ) (r : List ℕ) → Kept Only turn (k v a r) (l v a r)) → Kept Only turn (field read at s k) (field also at s l)
    unfolding field
    field-kept read also r at s h = on-kept at _ _ (r _) λ v. h v _ _

    -- a field that the second sheet does not read
    pub on-gone : (at : ℕ) (x : Field A) {k : A → Listed} {q : Listed} → ((v : A) → Kept Only turn (k v) q) → Kept Only turn (on_field at x k) q
    unfolding on_field
    on-gone at (value v) h = h v
    on-gone at (fault n) h = refused-kept

    -- .. and that is read by place
    pub place-gone : (n : ℕ) (read : List ℕ → Field A) (at : ℕ) (s : List ℕ) {k : A → ℕ → List ℕ → Listed} {q : Listed}
        → ((v : A) (a : ℕ) (r : List ℕ) → Kept Only turn (k v a r) q) → Kept Only turn (place n read at s k) q
    unfolding place
    place-gone n read at s {q = q} h = either (λ r. Kept Only turn r q) _ (λ _. refused-kept) (λ _. on-gone at _ λ v. h v _ _)

  pub gap-kept : (at : ℕ) (s : List ℕ) {k l : ℕ → List ℕ → Listed} → ((a : ℕ) (r : List ℕ) → Kept Only turn (k a r) (l a r)) → Kept Only turn (gap at s k) (gap at s l)
  unfolding gap
  gap-kept at [] h = refused-kept
  gap-kept at (x ∷ s) h = h _ _

  pub end_kept : (at : ℕ) (s : List ℕ) {r q : Listed} → Kept Only turn r q → Kept Only turn (line_end at s r) (line_end at s q)
  unfolding line_end
  end_kept at [] h = h
  end_kept at (x ∷ s) h = refused-kept

  -- .. and so with its warnings counted
  pub counted-kept : (r q : Listed) → Kept Only turn r q → (e : Entry) (w : ℕ) (p : Places) → Only e w → counted r ≡ said e w p → counted q ≡ said (turned turn e) w p
  unfolding counted
  counted-kept (got x) q k e w p o h =
      let (s, n, a) = same_parts {e = x.entry} {w = length x.warnings} {p = x.places} h in
      rw (k.keeps x.entry x.warnings x.places (rw (s, n) o) refl, s, n, a)
  counted-kept (no m off) q k e w p o h = absurd (let z : ◌≡◌ {A = ℕ} 0 1 = cc in omega arith)
