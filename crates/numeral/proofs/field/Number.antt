-- The answers of `number_at`, with what the code knows at each. Assumes nothing.
use Rattle.std.proofs.Common.{◌≡◌, ℕ, ◌+◌, ◌-◌, ◌^◌, ◌<◌, ◌≤◌, Bool, true, false, List, [], ◌∷◌, length, get_or, take, drop, sym, refl, ap, ◌∙◌, arith, length-drop, get_or-take, drop-drop}
use Rattle.base.specs.Pick.{pick}
use Rattle.base.specs.Seek.{all, seek}
use Rattle.base.proofs.Seek.{never, seek-le, seek-over}
use Rattle.paper.specs.Read.{Field, value, fault}
use Rattle.paper.specs.Bytes.{is_digit, space, field_of, null}
use Rattle.paper.specs.Numerals.{digits}
use Rattle.numeral.proofs.Digits.{in-range, too_short}
use Rattle.numeral.proofs.Sound.{read-on, digits-plain, digits-most, digits-sound, digits-fault}
use Rattle.numeral.specs.field.At.{found, missed, ending, field_at}
use Rattle.numeral.specs.field.Digits.{run}
use Rattle.numeral.proofs.field.Front.{run-digits, run-within, run-most, run_is, run-stop, all-at, field-ends, field-goes, field-long}

-- what is known of a run's number v and end e
module _ (s : List ℕ) (at most e v : ℕ) (h : e ≡ at + length (run most (drop at s))) where
  pub run-from : at ≤ e
  run-from = omega arith

  pub run-to : e ≤ at + most
  run-to = omega (arith, run-most most (drop at s))

  pub run_inside : at ≤ length s → e ≤ length s
  run_inside l = omega (arith, run-within most (drop at s), length-drop at s)

  pub run_small : digits 0 most (run most (drop at s)) ≡ value v → v < 10 ^ most
  run_small g = digits-sound 0 most (run most (drop at s)) v g

  -- the bytes of the run are digits, so a byte that is none stands behind them
  pub run-over : (b : ℕ) → is_digit b ≡ false → at + seek (b ∷ []) (drop at s) ≡ e + seek (b ∷ []) (drop e s)
  run-over b n =
      let d : drop (length (run most (drop at s))) (drop at s) ≡ drop e s = rw h (drop-drop (length (run most (drop at s))) at s) in
      let a : all is_digit (take (length (run most (drop at s))) (drop at s)) ≡ true = rw (← (run_is most (drop at s))) (run-digits most (drop at s)) in
      let o = seek-over is_digit b n (length (run most (drop at s))) (drop at s) (run-within most (drop at s)) a in
      let z = rw d at o in
      omega arith

-- a field that has no value is refused
by-fault : (e : ℕ) (x : Field ℕ) → ((w : ℕ) → x ≡ value w → ⊥) → ((n : ℕ) → x ≡ fault n → n ≡ 4) → missed 4 ≡ ending e x
unfolding ending
by-fault e (value w) a b = absurd (a w refl)
by-fault e (fault n) a b = ap missed (sym (b n refl))

-- a run, and whether its field ends with it
module _ (s : List ℕ) (at least most e v : ℕ) (h : e ≡ at + length (run most (drop at s))) (t : Bool) (k : t ≡ null (field_of (drop e s))) where
  -- it does: the field is the run
  module _ (y : t ≡ true) where
    pub run_ends : at + seek space (drop at s) ≡ e
    unfolding is_digit pick
    run_ends = run-over s at most e v h 32 refl ∙ omega (arith, field-ends (drop e s) (sym k ∙ y))

    pub run-field : field_of (drop at s) ≡ run most (drop at s)
    run-field =
        let z : seek space (drop at s) ≡ length (run most (drop at s)) = omega (arith, run_ends) in
        rw z (sym (run_is most (drop at s)))

    pub number-value : digits 0 most (run most (drop at s)) ≡ value v → least ≤ e - at → found v e ≡ field_at (digits least most) s at
    unfolding field_at ending
    number-value g l =
        let q : digits least most (run most (drop at s)) ≡ value v = in-range least most (run most (drop at s)) (omega arith) (run-most most (drop at s)) ∙ read-on 0 most (run most (drop at s)) v g in
        rw (run_ends, run-field, q)

    pub number_short : e - at < least → missed 4 ≡ field_at (digits least most) s at
    unfolding field_at ending
    number_short l = rw (run-field, ← (too_short least most (run most (drop at s)) (omega arith)))

  -- it does not: a byte that is no digit or one too many
  module _ (y : t ≡ false) where
    pub run-goes : length (run most (drop at s)) < seek space (drop at s)
    unfolding is_digit pick
    run-goes = omega (arith, run-over s at most e v h 32 refl, field-goes (drop e s) (sym k ∙ y))

    pub run-open : at ≤ length s → e < length s
    run-open l = omega (arith, field-goes (drop e s) (sym k ∙ y), seek-le space (drop e s), length-drop e s)

    pub number-other : (w : ℕ) → digits least most (field_of (drop at s)) ≡ value w → ⊥
    number-other w q =
        let n : ℕ = length (run most (drop at s)) in
        let l : n < length (field_of (drop at s)) = omega (arith, run-goes, field-long (drop at s)) in
        let d : is_digit (get_or (field_of (drop at s)) n 0) ≡ true = all-at is_digit (field_of (drop at s)) n (digits-plain least most (field_of (drop at s)) w q) l in
        let m : n < most = omega (arith, digits-most least most (field_of (drop at s)) w q) in
        let f : is_digit (get_or (drop at s) n 0) ≡ false = run-stop most (drop at s) m (omega (arith, run-goes, seek-le space (drop at s))) in
        never (sym d ∙ ap is_digit (get_or-take (seek space (drop at s)) (drop at s) n 0 run-goes) ∙ f)

    pub number-long : missed 4 ≡ field_at (digits least most) s at
    unfolding field_at
    number-long = by-fault (at + seek space (drop at s)) (digits least most (field_of (drop at s))) number-other (digits-fault least most (field_of (drop at s)))

pub ruleset numbers = (run-from, run-to, run_inside, run_small, run-open, number-value, number_short, number-long)
