-- The walk of an item's line from a field on, in any context that has what the field asks; and the turns that it takes. Assumes nothing.
use mathlib.Core.Path.{◌≡◌, sym, ap, ◌∙◌}
use mathlib.Core.Bool.{Bool, true, false}
use mathlib.Core.List.{List}
use Prim.Native.Nat.{ℕ, ◌+◌, ◌-◌, ◌≤◌, ◌<◌}
use native.Mathlib.Numerals.{add-one}
use native.Mathlib.Omega.{arith}
use lib.ListN.{length, take, drop, drop_of_length-le}
use lib.Seq.{drop-cons}
use Rattle.std.proofs.Common.{Ok, Err, is_err}
use Rattle.base.specs.Pick.{pick}
use Rattle.base.specs.Seek.{seek}
use Rattle.base.proofs.Cases.{by-test, pick_true, pick-false}
use Rattle.sheet.specs.declared.Sheet.{Sheet}
use Rattle.paper.specs.Bytes.{space, field_of}
use Rattle.paper.specs.Terms.{collection}
use Rattle.paper.specs.Spells.{Context}
use Rattle.why.specs.Rule.{first_broken}
use Rattle.why.specs.Forms.{are_digits}
use Rattle.why.specs.Names.{specific_symbol, field_number}
use Rattle.why.specs.Fields.{digit_rules, bank_rules}
use Rattle.why.specs.Walk.{why_fixed, why_behind, why_open, why_payee, why_item}
use Rattle.fault.specs.field.Ruled.{Ruling, ruling}
use Rattle.fault.specs.line.Walks.{Walk, walk, stop}
use Rattle.fault.specs.item.Stages.{from_text, from_symbol, from_fixed, from_tail, from_bank, from_variable, from_amount, from_single}
use Rattle.fault.proofs.line.Steps.{is-fault, gap-there, gap-missing}

module _ (sh : Sheet) (today : ℕ) (c : Context) (w : List ℕ) (x : Walk) where
  module _ (at : ℕ) where
    -- ---- whatever the context

    pub on-text : ((t : ℕ) (d : Context) → x ≡ walk (from_text sh t d w at (drop at w))) → x ≡ walk (from_text sh today c w at (drop at w))
    on-text f = f today c

    pub on-behind : ((t : ℕ) (d : Context) → x ≡ walk (why_behind sh t d w at (drop at w))) → x ≡ walk (why_behind sh today c w at (drop at w))
    on-behind f = f today c

    pub on-symbol : ((t : ℕ) (d : Context) → x ≡ walk (from_symbol sh t d w at (drop at w))) → x ≡ walk (from_symbol sh today c w at (drop at w))
    on-symbol f = f today c

    pub on-fixed : ((t : ℕ) (d : Context) → x ≡ walk (from_fixed sh t d w at (drop at w))) → x ≡ walk (from_fixed sh today c w at (drop at w))
    on-fixed f = f today c

    pub on-open : ((t : ℕ) (d : Context) → x ≡ walk (why_open sh t d w at (drop at w))) → x ≡ walk (why_open sh today c w at (drop at w))
    on-open f = f today c

    pub on-tail : ((t : ℕ) (d : Context) → x ≡ walk (from_tail sh t d w at (drop at w))) → x ≡ walk (from_tail sh today c w at (drop at w))
    on-tail f = f today c

    -- ---- by the kind of the account file and the group's date

    module _ (kind date : ℕ) where
      pub on-bank : ((d : Context) → d.kind ≡ kind → d.date ≡ date → x ≡ walk (from_bank sh today d w at (drop at w)))
          → c.kind ≡ kind → c.date ≡ date → x ≡ walk (from_bank sh today c w at (drop at w))
      on-bank f k l = f c k l

      pub on-variable : ((d : Context) → d.kind ≡ kind → d.date ≡ date → x ≡ walk (from_variable sh today d w at (drop at w)))
          → c.kind ≡ kind → c.date ≡ date → x ≡ walk (from_variable sh today c w at (drop at w))
      on-variable f k l = f c k l

      pub on-amount : ((d : Context) → d.kind ≡ kind → d.date ≡ date → x ≡ walk (from_amount sh today d w at (drop at w)))
          → c.kind ≡ kind → c.date ≡ date → x ≡ walk (from_amount sh today c w at (drop at w))
      on-amount f k l = f c k l

      pub on-payee : ((d : Context) → d.kind ≡ kind → d.date ≡ date → x ≡ walk (why_payee sh today d w at (drop at w)))
          → c.kind ≡ kind → c.date ≡ date → x ≡ walk (why_payee sh today c w at (drop at w))
      on-payee f k l = f c k l

    -- ---- behind a symbol

    pub behind-there : at < length w → x ≡ walk (from_text sh today c w (at + 1) (drop (at + 1) w)) → x ≡ walk (why_behind sh today c w at (drop at w))
    unfolding why_behind
    behind-there l h = h ∙ sym (ap walk (rw (drop-cons w at 0 l, ← (add-one at))))

    pub behind-end : length w ≤ at → x ≡ Ok tt → x ≡ walk (why_behind sh today c w at (drop at w))
    unfolding why_behind walk
    behind-end l h = h ∙ sym (rw (drop_of_length-le w l))

    -- ---- the tail

    module _ (k : Bool) (q : k ≡ pick sh.bare (pick (are_digits 1 10 (field_of (drop (at + 1) w))) false true) false) (l : at < length w) where
      pub open-bare : k ≡ true → x ≡ walk (from_text sh today c w (at + 1) (drop (at + 1) w)) → x ≡ walk (why_open sh today c w at (drop at w))
      unfolding why_open
      open-bare y h = h ∙ sym (ap walk (rw (drop-cons w at 0 l, ← (add-one at)) (pick_true _ _ (sym q ∙ y))))

      pub open-symbol : k ≡ false → x ≡ walk (from_symbol sh today c w (at + 1) (drop (at + 1) w)) → x ≡ walk (why_open sh today c w at (drop at w))
      unfolding why_open
      open-symbol y h = h ∙ sym (ap walk (rw (drop-cons w at 0 l, ← (add-one at)) (pick-false _ _ (sym q ∙ y))))

    pub open-end : length w ≤ at → x ≡ Ok tt → x ≡ walk (why_open sh today c w at (drop at w))
    unfolding why_open walk
    open-end l h = h ∙ sym (rw (drop_of_length-le w l))

    pub tail-fixed : sh.fixedtail ≡ true → at < length w → x ≡ walk (from_fixed sh today c w (at + 1) (drop (at + 1) w)) → x ≡ walk (from_tail sh today c w at (drop at w))
    unfolding why_fixed
    tail-fixed o l h = gap-there w x specific_symbol at (from_fixed sh today c w) l h ∙ sym (ap walk (pick_true _ _ o))

    pub tail-missing : sh.fixedtail ≡ true → length w ≤ at → x ≡ Err (stop 4 41 at 0 (field_number specific_symbol) 0 0) → x ≡ walk (from_tail sh today c w at (drop at w))
    unfolding why_fixed
    tail-missing o l h = gap-missing w x specific_symbol at (from_fixed sh today c w) l h ∙ sym (ap walk (pick_true _ _ o))

    pub tail-open : sh.fixedtail ≡ false → ((t : ℕ) (d : Context) → x ≡ walk (why_open sh t d w at (drop at w))) → x ≡ walk (from_tail sh today c w at (drop at w))
    tail-open o f = f today c ∙ sym (ap walk (pick-false _ _ o))

  -- ---- with the payer's account first, and without

  module _ (kind date : ℕ) (k : Bool) where
    pub item-single : k ≡ true → ((d : Context) → d.kind ≡ kind → d.date ≡ date → x ≡ walk (from_single sh today d w 0 w))
        → c.kind ≡ kind → c.date ≡ date → c.single ≡ k → x ≡ walk (why_item sh today c w)
    unfolding why_item
    item-single y f i j e = f c i j ∙ sym (ap walk (pick_true _ _ (e ∙ y)))

    pub item-other : k ≡ false → ((d : Context) → d.kind ≡ kind → d.date ≡ date → x ≡ walk (why_payee sh today d w 0 w))
        → c.kind ≡ kind → c.date ≡ date → c.single ≡ k → x ≡ walk (why_item sh today c w)
    unfolding why_item
    item-other y f i j e = f c i j ∙ sym (ap walk (pick-false _ _ (e ∙ y)))

-- ---- what a field asks of its context

module _ (sh : Sheet) (today kind : ℕ) (r : Ruling) (z : List ℕ) (c : Context) (k : c.kind ≡ kind) where
  pub bank-known : (date : ℕ) → c.date ≡ date → (here : Bool) → here ≡ collection sh kind → r ≡ ruling (first_broken (bank_rules sh.priority here sh.bank today date) z)
      → r ≡ ruling (first_broken (bank_rules sh.priority (collection sh c.kind) sh.bank today c.date) z)
  bank-known date l here e h = rw (k, l, ← e) h

-- ---- no symbol

module _ (x bare : Bool) (w : List ℕ) (at end : ℕ) where
  pub not-bare : bare ≡ false → x ≡ false → x ≡ pick bare (pick (are_digits 1 10 (field_of (drop at w))) false true) false
  not-bare o h = h ∙ sym (pick-false _ _ o)

  module _ (o : bare ≡ true) (e : end ≡ at + seek space (drop at w)) (r : Ruling) (q : r ≡ ruling (first_broken (digit_rules 1 10) (take (end - at) (drop at w)))) where
    bytes-are : take (end - at) (drop at w) ≡ field_of (drop at w)
    bytes-are = let n : end - at ≡ seek space (drop at w) = omega arith in ap (λ (m : ℕ). take m (drop at w)) n

    -- k is what was asked of what is told of its bytes
    pub no_digits : (k : Bool) → k ≡ is_err r → x ≡ k → x ≡ pick bare (pick (are_digits 1 10 (field_of (drop at w))) false true) false
    unfolding first_broken ruling pick
    no_digits k f h =
        let z : ruling (first_broken (digit_rules 1 10) (field_of (drop at w))) ≡ r = sym (q ∙ ap (λ (s : List ℕ). ruling (first_broken (digit_rules 1 10) s)) bytes-are) in
        h ∙ (f ∙ (ap (λ (y : Ruling). is_err y) (sym z) ∙ by-test (are_digits 1 10 (field_of (drop at w))) (λ d. rw (o, d)) (λ d. rw (o, d))))

pub ruleset turns = (item-single, item-other)

pub ruleset tails = (is-fault, on-text, on-behind, on-symbol, on-fixed, on-open, behind-there, behind-end, open-bare, open-symbol, open-end, tail-fixed, tail-missing, tail-open)

pub ruleset items = (on-tail, on-bank, on-variable, on-amount, on-payee, bank-known)

pub ruleset bares = (not-bare, no_digits)
