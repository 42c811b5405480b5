-- The ways out of the calls, for `search`: what was loaded, and the answer and the bytes that each leaves. Assumes nothing.
use mathlib.Core.Path.{◌≡◌, refl, sym, ap, ◌∙◌, fun_ext}
use mathlib.Core.Bool.{Bool, true, false}
use mathlib.Core.List.{List, []}
use Prim.Native.Nat.{ℕ, ◌≤◌, ◌<◌}
use lib.Dec.{leb}
use lib.ListN.{length, take, drop}
use borrow.Author.Tests.{le-leb, lt-leb, lt-ltb, le-ltb}
use Rattle.base.specs.Pick.{pick}
use Rattle.base.proofs.Cases.{either, pick_true, pick-false, both-pick}
use Rattle.base.proofs.Lists.{drop-none}
use Rattle.paper.specs.Words.{word_of, words}
use Rattle.paper.specs.Days.{real_day}
use Rattle.paper.specs.FileLine.{member}
use Rattle.out.specs.word.Places.{word_here}
use Rattle.fileline.specs.declared.seen.Seen.{Seen}
use Rattle.fileline.specs.seen.Bits.{bit, Holds}
use Rattle.register.specs.declared.Loaded.{Loaded}
use Rattle.register.specs.Marks.{Marks, none, without, free, lowest}
use Rattle.register.specs.Register.{Register, malformed, of, used, register_size, date_in, marks_in, none_above, is_laid, register_of, laid_in, answer, start_after, lowest_in, free_in, is_given, give_in, given_bytes, lowest_answer, free_answer, give_answer, give_after}
use Rattle.register.specs.Told.{told, Sound}
use Rattle.register.proofs.Laid.{says}

-- ---- lent bytes loaded

date-here : (lent : List ℕ) (date : ℕ) → date ≡ word_here lent 0 → date_in lent ≡ date
unfolding date_in
date-here lent date e = sym (e ∙ ap (λ (s : List ℕ). word_of (take 8 s)) (drop-none lent))

marks-here : (lent : List ℕ) (set : Seen) → set.words ≡ words 16 (drop 8 lent) → marks_in lent ≡ bit set.words
unfolding marks_in
marks-here lent set e = ap bit (sym e)

-- they are not laid out as a register
module _ (lent : List ℕ) (r : Loaded) (unread : r.laid ≡ false) where
  unlaid : is_laid lent ≡ false → told r ≡ register_of lent
  unfolding register_of
  unlaid e = pick-false _ _ unread ∙ sym (pick-false _ _ e)

  pub load-short : length lent < register_size → told r ≡ register_of lent
  unfolding is_laid
  load-short l = unlaid (pick-false _ _ (lt-leb register_size (length lent) l))

  module _ (date : ℕ) (d : date ≡ word_here lent 0) (t : Bool) (g : t ≡ real_day date) where
    pub load-unreal : t ≡ false → told r ≡ register_of lent
    unfolding is_laid
    load-unreal f =
        unlaid (either (λ (b : Bool). b ≡ false) (leb register_size (length lent)) (λ _. pick-false _ _ (ap real_day (date-here lent date d) ∙ sym g ∙ f)) (λ _. refl))

  pub load-above : (set : Seen) → set.words ≡ words 16 (drop 8 lent) → (u : Bool) → u ≡ none_above (bit set.words) → u ≡ false → told r ≡ register_of lent
  unfolding is_laid
  load-above set s u g f =
      unlaid (either (λ (b : Bool). b ≡ false) (leb register_size (length lent))
      (λ _. either (λ (b : Bool). b ≡ false) (real_day (date_in lent)) (λ _. ap none_above (marks-here lent set s) ∙ sym g ∙ f) (λ _. refl))
      (λ _. refl))

-- they are
pub load-laid : (lent : List ℕ) → register_size ≤ length lent → (date : ℕ) → date ≡ word_here lent 0 → (t : Bool) → t ≡ real_day date → t ≡ true
    → (set : Seen) → set.words ≡ words 16 (drop 8 lent) → (u : Bool) → u ≡ none_above (bit set.words) → u ≡ true
    → told (record { laid = true; date = date; set = set }) ≡ register_of lent
unfolding register_of is_laid
load-laid lent long date d t g a set s u h b =
    let laid : is_laid lent ≡ true =
    both-pick _ _ (le-leb register_size (length lent) long)
    (both-pick _ _ (ap real_day (date-here lent date d) ∙ sym g ∙ a) (ap none_above (marks-here lent set s) ∙ sym h ∙ b)) in
    pick_true _ _ refl ∙ sym (pick_true _ _ laid ∙ (λ i. of (date-here lent date d i) (marks-here lent set s i)))

-- the words hold what is marked
pub laid-sound : (date : ℕ) (set : Seen) → Sound (record { laid = true; date = date; set = set })
unfolding used pick
laid-sound date set = refl

pub none-sound : (set : Seen) → Holds set.words [] → Sound (record { laid = false; date = 0; set = set })
unfolding used none member pick
none-sound set empty = fun_ext (λ (k : ℕ). empty k)

pub ruleset loads = (load-short, load-unreal, load-above, load-laid, laid-sound)

-- ---- what a loaded register answers

module _ (lent : List ℕ) (r : Loaded) (g : told r ≡ register_of lent) where
  module _ (e : r.laid ≡ true) where
    loaded : register_of lent ≡ of r.date (bit r.set.words)
    loaded = sym g ∙ pick_true _ _ e

    pub loaded-above : none_above (bit r.set.words) ≡ true
    loaded-above = (says lent r.date (bit r.set.words) loaded).above

    pub loaded-long : register_size ≤ length lent
    loaded-long = (says lent r.date (bit r.set.words) loaded).long

    pub lowest-said : (v : ℕ) → v ≡ lowest (bit r.set.words) 1000 → answer 0 v ≡ lowest_answer lent
    unfolding lowest_answer lowest_in
    lowest-said v f = ap (answer 0) f ∙ sym (ap lowest_in loaded)

    pub free-said : (v : ℕ) → v ≡ free (bit r.set.words) 1000 → answer 0 v ≡ free_answer lent
    unfolding free_answer free_in
    free-said v f = ap (answer 0) f ∙ sym (ap free_in loaded)

    module _ (n : ℕ) where
      -- n is given back, or is not
      module _ (may : is_given (bit r.set.words) n ≡ true) where
        gave : answer 0 0 ≡ give_answer lent n
        unfolding give_answer give_in
        gave = sym (ap (λ (x : Register). give_in x n) loaded ∙ pick_true _ _ may)

        gave-bytes : (q : Marks) → q ≡ without n (bit r.set.words) → (o : List ℕ) → o ≡ laid_in lent r.date q → o ≡ give_after lent n
        unfolding give_after given_bytes
        gave-bytes q f o s = s ∙ ap (laid_in lent r.date) f ∙ sym (ap (λ (x : Register). given_bytes lent x n) loaded ∙ pick_true _ _ may)

      module _ (not : is_given (bit r.set.words) n ≡ false) where
        refused : answer 24 0 ≡ give_answer lent n
        unfolding give_answer give_in
        refused = sym (ap (λ (x : Register). give_in x n) loaded ∙ pick-false _ _ not)

        refused-bytes : lent ≡ give_after lent n
        unfolding give_after given_bytes
        refused-bytes = sym (ap (λ (x : Register). given_bytes lent x n) loaded ∙ pick-false _ _ not)

      module _ (t : Bool) (h : t ≡ bit r.set.words n) (l : n < 1000) where
        -- it is marked
        is-given : t ≡ true → is_given (bit r.set.words) n ≡ true
        unfolding is_given
        is-given a = both-pick _ _ (lt-ltb n 1000 l) (sym h ∙ a)

        pub give-said : t ≡ true → answer 0 0 ≡ give_answer lent n
        give-said a = gave (is-given a)

        pub give-bytes : t ≡ true → (q : Marks) → q ≡ without n (bit r.set.words) → (o : List ℕ) → o ≡ laid_in lent r.date q → o ≡ give_after lent n
        give-bytes a = gave-bytes (is-given a)

        -- it is free
        is_free : t ≡ false → is_given (bit r.set.words) n ≡ false
        unfolding is_given
        is_free a = pick_true _ _ (lt-ltb n 1000 l) ∙ sym h ∙ a

        pub unmarked-said : t ≡ false → answer 24 0 ≡ give_answer lent n
        unmarked-said a = refused (is_free a)

        pub unmarked-bytes : t ≡ false → lent ≡ give_after lent n
        unmarked-bytes a = refused-bytes (is_free a)

      module _ (l : 1000 ≤ n) where
        -- it is no number of the register
        is-above : is_given (bit r.set.words) n ≡ false
        unfolding is_given
        is-above = pick-false _ _ (le-ltb n 1000 l)

        pub above-said : answer 24 0 ≡ give_answer lent n
        above-said = refused is-above

        pub above_bytes : lent ≡ give_after lent n
        above_bytes = refused-bytes is-above

  module _ (e : r.laid ≡ false) where
    unloaded : register_of lent ≡ malformed
    unloaded = sym g ∙ pick-false _ _ e

    pub lowest-malformed : answer 23 0 ≡ lowest_answer lent
    unfolding lowest_answer lowest_in
    lowest-malformed = sym (ap lowest_in unloaded)

    pub free-malformed : answer 23 0 ≡ free_answer lent
    unfolding free_answer free_in
    free-malformed = sym (ap free_in unloaded)

    pub give-malformed : (n : ℕ) → answer 23 0 ≡ give_answer lent n
    unfolding give_answer give_in
    give-malformed n = sym (ap (λ (x : Register). give_in x n) unloaded)

    pub malformed-bytes : (n : ℕ) → lent ≡ give_after lent n
    unfolding give_after given_bytes
    malformed-bytes n = sym (ap (λ (x : Register). given_bytes lent x n) unloaded)

pub ruleset asked = (loaded-above, loaded-long, lowest-said, free-said, lowest-malformed, free-malformed)

-- n is marked, as the set told
pub has-marked : (ws : List ℕ) (n : ℕ) (t : Bool) → t ≡ bit ws n → t ≡ true → bit ws n ≡ true
has-marked ws n t h a = sym h ∙ a

pub ruleset gives =
    (loaded-long, has-marked, give-said, give-bytes, unmarked-said, unmarked-bytes, above-said, above_bytes, give-malformed, malformed-bytes)

-- ---- a day started

none-held : (ws : List ℕ) → Holds ws [] → bit ws ≡ none
unfolding none member
none-held ws h = fun_ext (λ (k : ℕ). h k)

pub start-bytes : (lent : List ℕ) (date : ℕ) (t : Bool) → t ≡ real_day date → t ≡ true → register_size ≤ length lent → (ws : List ℕ) → Holds ws []
    → (o : List ℕ) → o ≡ laid_in lent date (bit ws) → o ≡ start_after date lent
unfolding start_after
start-bytes lent date t g a long ws h o s =
    s ∙ ap (laid_in lent date) (none-held ws h) ∙ sym (pick_true _ _ (sym g ∙ a) ∙ pick_true _ _ (le-leb register_size (length lent) long))
