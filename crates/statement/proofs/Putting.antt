-- The putting of what was judged, piece by piece, in either form. Assumes nothing.
use mathlib.Core.Path.{◌≡◌, refl, sym, ap, ◌∙◌}
use mathlib.Core.List.{List, [], ◌∷◌, ◌++◌, append-nil, append_assoc}
use Prim.Native.Nat.{ℕ, suc, ◌+◌, ◌*◌, ◌≤◌, ◌<◌}
use native.Mathlib.Nat.{mul-suc, mul-zero}
use native.Mathlib.Omega.{arith}
use lib.ListN.{length, take, drop, length-append}
use Rattle.std.specs.Prelude.{Ok, Err}
use Rattle.refusal.specs.declared.Flaw.{Flaw}
use Rattle.refusal.specs.Numbers.{number_of}
use Rattle.base.specs.Put.{put, Wrote}
use Rattle.base.proofs.Lists.{drop-none}
use Rattle.base.proofs.Cases.{by-lt}
use Rattle.base.proofs.Put.{put-seam, ◌then◌}
use Rattle.out.proofs.put.Room.{wrote-length, wrote_none}
use Rattle.paper.specs.Entries.{no}
use Rattle.gpc.specs.Records.{Thing, a_head, a_movement, strange, Record, no_record, head_is, movement_is, said, saids}
use Rattle.gpcback.specs.Proper.{Proper, AllProper}
use Rattle.record.specs.declared.HeadFields.{HeadFields}
use Rattle.record.specs.declared.MovementFields.{MovementFields}
use Rattle.record.specs.declared.Entry.{Entry}
use Rattle.record.specs.declared.Entry.TheVariants as entry
use Rattle.record.specs.Told.{Kept, head_of, movement_of, told}
use Rattle.statement.specs.Forms.{Form, read_all, puts, Puts, Putable, PutAll, Putting}
use Rattle.statement.proofs.Pieces.{from_one, from-none, from-short}

-- ---- what is said is one thing

no-record : {A : Type 0} (t : Thing) → Proper t → said t ≡ no_record → A
unfolding said
no-record (a_head h) p e = absurd (let z : ◌≡◌ {A = ℕ} 0 1 = cc in omega arith)
no-record (a_movement m) p e = absurd (let z : ◌≡◌ {A = ℕ} 0 1 = cc in omega arith)
no-record strange p e = absurd p

said_same : (t u : Thing) → said t ≡ said u → t ≡ u
unfolding said
said_same (a_head h) (a_head g) e = cc
said_same (a_head h) (a_movement n) e = absurd (let z : ◌≡◌ {A = ℕ} 0 1 = cc in omega arith)
said_same (a_head h) strange e = absurd (let z : ◌≡◌ {A = ℕ} 0 1 = cc in omega arith)
said_same (a_movement m) (a_head g) e = absurd (let z : ◌≡◌ {A = ℕ} 0 1 = cc in omega arith)
said_same (a_movement m) (a_movement n) e = cc
said_same (a_movement m) strange e = absurd (let z : ◌≡◌ {A = ℕ} 0 1 = cc in omega arith)
said_same strange (a_head g) e = absurd (let z : ◌≡◌ {A = ℕ} 0 1 = cc in omega arith)
said_same strange (a_movement n) e = absurd (let z : ◌≡◌ {A = ℕ} 0 1 = cc in omega arith)
said_same strange strange e = refl

-- what is refused is not said
never-head : (t : Thing) (n off : ℕ) → head_is (no n off) ≡ said t → ⊥
unfolding said
never-head (a_head h) n off e = let z : ◌≡◌ {A = ℕ} 0 1 = cc in omega arith
never-head (a_movement m) n off e = let z : ◌≡◌ {A = ℕ} 0 1 = cc in omega arith
never-head strange n off e = let z : ◌≡◌ {A = ℕ} 0 1 = cc in omega arith

never-movement : (t : Thing) (n off : ℕ) → movement_is (no n off) ≡ said t → ⊥
unfolding said
never-movement (a_head h) n off e = let z : ◌≡◌ {A = ℕ} 0 1 = cc in omega arith
never-movement (a_movement m) n off e = let z : ◌≡◌ {A = ℕ} 0 1 = cc in omega arith
never-movement strange n off e = let z : ◌≡◌ {A = ℕ} 0 1 = cc in omega arith

first-same : (r q : Record) (rs qs : List Record) → r ∷ rs ≡ q ∷ qs → (r ≡ q) × (rs ≡ qs)
first-same r q rs qs e = (cc, cc)

saids-same : (ts us : List Thing) → saids ts ≡ saids us → ts ≡ us
unfolding saids
saids-same [] [] e = refl
saids-same [] (u ∷ us) e = absurd (let z : ◌≡◌ {A = ℕ} 0 1 = cc in omega arith)
saids-same (t ∷ ts) [] e = absurd (let z : ◌≡◌ {A = ℕ} 0 1 = cc in omega arith)
saids-same (t ∷ ts) (u ∷ us) e =
    let (a, b) = first-same (said t) (said u) (saids ts) (saids us) e in
    rw (said_same t u a, saids-same ts us b) refl

-- ---- one piece: e is what it is read as

module _ (F : Form) (o : List ℕ) (at : ℕ) (s : List ℕ) (κ : Kept) (e : Entry) (q : told κ e ≡ F.read s) where
  puts-as : (t : Thing) → told κ e ≡ said t → (o1 : List ℕ) (r : ℕ) → Wrote o at (F.put t) o1 r → Puts F o at s o1 r
  puts-as t h o1 r w = record { by = λ u k. rw (← said_same t u (sym h ∙ q ∙ k)) w }

  puts-never : (o1 : List ℕ) (r : ℕ) → ((t : Thing) → told κ e ≡ said t → ⊥) → Puts F o at s o1 r
  puts-never o1 r n = record { by = λ u k. absurd (n u (q ∙ k)) }

  pub head_puts : (x : HeadFields) (o1 : List ℕ) (r : ℕ) → e ≡ entry.Head (Ok x) → Wrote o at (F.put (a_head (head_of κ x))) o1 r → Puts F o at s o1 r
  unfolding said
  head_puts x o1 r h w = puts-as (a_head (head_of κ x)) (ap (told κ) h) o1 r w

  pub movement-puts : (x : MovementFields) (o1 : List ℕ) (r : ℕ) → e ≡ entry.Movement (Ok x) → Wrote o at (F.put (a_movement (movement_of κ x))) o1 r
      → Puts F o at s o1 r
  unfolding said
  movement-puts x o1 r h w = puts-as (a_movement (movement_of κ x)) (ap (told κ) h) o1 r w

  pub nothing-puts : F.put strange ≡ [] → e ≡ entry.Nothing → at ≤ length o → Puts F o at s o at
  unfolding said
  nothing-puts g h l = puts-as strange (ap (told κ) h) o at (rw g (wrote_none o at l))

  pub refused-head-puts : (f : Flaw) → e ≡ entry.Head (Err f) → Puts F o at s o at
  refused-head-puts f h = puts-never o at (λ t k. never-head t (number_of f.0) f.1 (sym (ap (told κ) h) ∙ k))

  pub refused-movement-puts : (f : Flaw) → e ≡ entry.Movement (Err f) → Puts F o at s o at
  refused-movement-puts f h = puts-never o at (λ t k. never-movement t (number_of f.0) f.1 (sym (ap (told κ) h) ∙ k))

-- ---- puts one behind the other

puts-more : (F : Form) (ts : List Thing) (t : Thing) → puts F (ts ++ (t ∷ [])) ≡ puts F ts ++ F.put t
unfolding puts
puts-more F [] t = append-nil (F.put t)
puts-more F (u ∷ ts) t = rw (puts-more F ts t) (sym (append_assoc (F.put u) (puts F ts) (F.put t)))

-- a form whose pieces have bytes, whose short pieces are none, and whose things are put in as many bytes as it says
pub record Sane (F : Form) : Type 0 where
  pub some : 0 < F.size
  pub short : (s : List ℕ) → length s < F.size → F.read s ≡ no_record
  pub sized : (t : Thing) → Proper t → length (F.put t) ≡ F.length

module _ (F : Form) (sane : Sane F) (s o : List ℕ) where
  pub putting-first : Putable F s (length o) → Putting F s o 0 0 o
  unfolding puts
  putting-first h =
      record {
        inside = omega arith;
        done = [];
        rest = h.things;
        all = h.read;
        left = rw (drop-none s) h.read;
        proper = h.proper;
        wrote = wrote_none o 0 (omega arith);
        place = sym (mul-zero F.length);
        room = omega (arith, h.room);
      }

  module _ (at next : ℕ) (o1 : List ℕ) (d : Putting F s o at next o1) where
    pub putting-length : length o1 ≡ length o
    putting-length = wrote-length d.wrote

    -- the next piece: it is whole, and read as a thing that can be written
    pub record Next : Type 0 where
      pub thing : Thing
      pub more : List Thing
      pub rest : d.rest ≡ thing ∷ more
      pub inside : at + F.size ≤ length s
      pub read : F.read (take F.size (drop at s)) ≡ said thing
      pub left : read_all F (drop (at + F.size) s) ≡ saids more
      pub proper : Proper thing
      pub propers : AllProper more

    next_of : (ts : List Thing) → d.rest ≡ ts → read_all F (drop at s) ≡ saids ts → AllProper ts → at < length s → Next
    unfolding saids
    next_of [] q e p l =
        by-lt (length s) (at + F.size)
        (λ h. absurd (let t = sym (from-short F sane.some s at l h sane.short) ∙ e in let z : ◌≡◌ {A = ℕ} 0 1 = cc in omega arith))
        (λ h. absurd (let t = sym (from_one F sane.some s at h) ∙ e in let z : ◌≡◌ {A = ℕ} 0 1 = cc in omega arith))
    next_of (t ∷ ts) q e (p, ps) l =
        by-lt (length s) (at + F.size)
        (λ h.
        let (a, b) = first-same _ _ _ _ (sym (from-short F sane.some s at l h sane.short) ∙ e) in
        no-record t p (sym a))
        (λ h.
        let (a, b) = first-same _ _ _ _ (sym (from_one F sane.some s at h) ∙ e) in
        record { thing = t; more = ts; rest = q; inside = h; read = a; left = b; proper = p; propers = ps })

    module _ (l : at < length s) where
      n : Next
      n = next_of d.rest refl d.left d.proper l

      rest-length : F.length * length d.rest ≡ F.length + F.length * length n.more
      rest-length = ap (λ (ts : List Thing). F.length * length ts) n.rest ∙ mul-suc F.length (length n.more) ∙ omega arith

      done-length : F.length * length (d.done ++ (n.thing ∷ [])) ≡ F.length + F.length * length d.done
      done-length =
          let e : length (d.done ++ (n.thing ∷ [])) ≡ suc (length d.done) = omega (arith, length-append d.done (n.thing ∷ [])) in
          rw e (mul-suc F.length (length d.done) ∙ omega arith)

      pub putting-inside : at + F.size ≤ length s
      putting-inside = n.inside

      pub putting-room : next + F.length ≤ length o1
      putting-room = omega (arith, d.room, rest-length, putting-length)

      pub putting-on : (o2 : List ℕ) (r : ℕ) → Puts F o1 next (take F.size (drop at s)) o2 r → Putting F s o (at + F.size) r o2
      putting-on o2 r u =
          let t = n.thing in
          let w = u.by t n.read in
          record {
            inside = n.inside;
            done = d.done ++ (t ∷ []);
            rest = n.more;
            all =
                d.all ∙ ap saids (ap (λ (ts : List Thing). d.done ++ ts) n.rest ∙ sym (append_assoc d.done (t ∷ []) n.more));
            left = n.left;
            proper = n.propers;
            wrote = rw (puts-more F d.done t) (d.wrote then w);
            place = omega (arith, d.place, w.next, sane.sized t n.proper, done-length);
            room = omega (arith, d.room, rest-length, w.next, sane.sized t n.proper);
          }

    ended : (ts : List Thing) → length s ≤ at → d.rest ≡ ts → read_all F (drop at s) ≡ saids ts → ts ≡ []
    unfolding saids
    ended [] h q e = refl
    ended (t ∷ ts) h q e = absurd (let z = sym (from-none F sane.some s at h) ∙ e in let y : ◌≡◌ {A = ℕ} 0 1 = cc in omega arith)

    pub putting-end : length s ≤ at → PutAll F s o o1
    putting-end h =
        record {
          by =
              λ ts e.
              let all : ts ≡ d.done = saids-same ts d.done (sym e ∙ d.all ∙ ap saids (rw (ended d.rest h refl d.left) (append-nil d.done))) in
              rw all (d.wrote.left ∙ whole);
        }
      where
        long : length (puts F d.done) ≡ F.length * length d.done
        long = omega (arith, d.wrote.next, d.place)

        whole : put o 0 (puts F d.done) ≡ puts F d.done ++ drop (F.length * length d.done) o
        whole =
            put-seam [] o 0 (puts F d.done) refl
            ∙ ap (λ (m : ℕ). puts F d.done ++ drop m o) long
