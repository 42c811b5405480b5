-- The items behind the line of a group in an accepted file: each is read where any bank may be due, and there they have the same sum.
-- Assumes nothing.
use mathlib.Core.Path.{◌≡◌, refl, sym, ◌∙◌}
use mathlib.Core.Bool.{true}
use mathlib.Core.List.{List, [], ◌∷◌}
use Prim.Native.Nat.{ℕ, suc, ◌≤◌}
use native.Mathlib.Omega.{arith}
use Rattle.base.proofs.Seek.{never}
use Rattle.sheet.specs.declared.Sheet.{Sheet}
use Rattle.paper.specs.Accounts.{is_nobody}
use Rattle.paper.specs.Batch.{Item, Batch, Header, most14}
use Rattle.paper.specs.Lines.{Line}
use Rattle.paper.specs.Entries.{item, Places, said, item_line}
use Rattle.paper.specs.ItemLine.{read_item}
use Rattle.paper.specs.Spells.{Context, read_as, read_line}
use Rattle.paper.specs.Rows.{accepted}
use Rattle.paper.specs.Judge.{Answer, Refused, Accepted, InGroup, State, at_item, stop, context_of, step, run}
use Rattle.numeral.specs.placed.Said.{is_said}
use Rattle.itemline.specs.Walk.{any_bank}
use Rattle.exact.proofs.Told.{told-line, kind-item, kind-group-end}
use Rattle.exact.proofs.Moves.{more, closes, Next, on, halted, next}
use Rattle.exact.proofs.faults.Found.{run-stop}
use Rattle.rowlaws.proofs.Within.{item-again, group-end-again}
use Rattle.why.specs.Finding.{accepts}
use Rattle.why.specs.Warned.{ahead}
use Rattle.why.proofs.Warned.{listed, ahead-item, ahead-end}
use Rattle.why.proofs.Ahead.{ahead-low}
use Rattle.listing.specs.group.Ahead.{ItemsSaid}
use Rattle.listing.proofs.item.Same.{item-ready}

-- an accepted file has a batch
accepted-as : (a : Answer) → accepts a ≡ true → (h : Header) × (b : Batch) × (w : ℕ) × (a ≡ Accepted h b w)
unfolding accepts
accepted-as (Refused n l p) e = never (sym e)
accepted-as (Accepted h b w) e = (h, b, w, refl)

-- .. and breaks no rule
pub unbroken : {A : Type 0} (sh : Sheet) (today size k : ℕ) (ts : List Line) (n l p : ℕ) → accepts (run sh today size k ts (stop (Refused n l p))) ≡ true → A
unfolding accepts
unbroken sh today size k ts n l p e = never (sym (rw (run-stop sh today size k ts (Refused n l p)) at e))

module _ (sh : Sheet) (today : ℕ) where
  -- an item that is read in its context is read where any bank may be due
  module _ (c : Context) (t : Line) {i : Item} {v : ℕ} {p : Places} (q : read_line sh today c t.bytes ≡ said (item i) v p) where
    pub read-as-item : is_said (read_as sh today c item_line t.bytes) ≡ true
    unfolding is_said
    read-as-item =
        let (ns, r, n) = listed sh today c t q in
        rw (rw (kind-item (told-line sh today c t.bytes _ q)) at r)

    pub read-item : is_said (read_item sh any_bank c.single t.bytes) ≡ true
    read-item = item-ready sh today c t.bytes read-as-item

  -- the lines ts follow in the group x
  pub record Follow (x : InGroup) (ts : List Line) : Type 0 where
    pub ready : ItemsSaid sh (is_nobody x.head.payer) ts
    pub same : ahead sh today (accepted (is_nobody x.head.payer)) ts ≡ ahead sh today (context_of (at_item x)) ts

  module _ (size : ℕ) where
    -- an item goes on with them, and the closing line ends them
    one_line : (t : Line) (ts : List Line) (k : ℕ) (x : InGroup) (new : State) → Next sh today size k t ts (at_item x) new
        → accepts (run sh today size (suc k) ts new) ≡ true → ((y : InGroup) → new ≡ at_item y → Follow y ts) → Follow x (t ∷ ts)
    unfolding context_of
    one_line t ts k x new (on (more {v = v} {i = i} free (p, q))) e later =
        let z = later _ refl in
        let again = item-again sh today _ (is_nobody x.head.payer) t.bytes v p i refl q in
        record {
          ready = λ kind. (read-item _ t q, z.ready);
          same = omega (arith, ahead-item sh today _ t ts again, ahead-item sh today _ t ts q, z.same);
        }
    one_line t ts k x new (on (closes {v = v} some (p, q) good)) e later =
        let again = group-end-again sh today _ (is_nobody x.head.payer) t.bytes v p q in
        record {
          ready = λ kind. absurd (let other = kind-group-end (told-line sh today _ t.bytes _ q) in let z : ◌≡◌ {A = ℕ} 0 1 = cc in omega arith);
          same = ahead-end sh today _ t ts again ∙ sym (ahead-end sh today _ t ts q);
        }
    one_line t ts k x new (halted {n = n} {l = l} {p = p} y) e later = unbroken sh today size (suc k) ts n l p e

    pub follow : (ts : List Line) (k : ℕ) (x : InGroup) → accepts (run sh today size k ts (at_item x)) ≡ true → Follow x ts
    unfolding run ahead
    follow [] k x e = record { ready = tt; same = refl }
    follow (t ∷ ts) k x e =
        one_line t ts k x (step sh today k t (at_item x)) (next sh today size k t ts (at_item x)) e λ y s. follow ts (suc k) y (rw s at e)

    -- their sum has at most 14 digits
    pub follow-low : (ts : List Line) (k : ℕ) (x : InGroup) → accepts (run sh today size k ts (at_item x)) ≡ true
        → ahead sh today (accepted (is_nobody x.head.payer)) ts ≤ most14
    follow-low ts k x e =
        let (h, b, w, run) = accepted-as _ e in
        omega (arith, (follow ts k x e).same, ahead-low sh today size k ts x run)
