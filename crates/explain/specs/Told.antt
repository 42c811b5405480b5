-- What the answer of explaining stands for. Document 01, "Numbers returned". Assumes nothing.
use Rattle.std.specs.Prelude.{ℕ}
use Rattle.paper.specs.Writing.{WriteAnswer}
use Rattle.explain.specs.declared.AboText.{AboText}

-- a number, and the bytes written or, with 16, needed
pub record TextAnswer : Type 0 where
  pub number : ℕ
  pub bytes : ℕ

-- of an answer of writing; a line of text has no rows, so that row and field are not asked for
abbrev pub text_answer : WriteAnswer → TextAnswer
text_answer a = record { number = a.number; bytes = a.bytes }

-- of the answer that a caller is given
abbrev pub told : AboText → TextAnswer
told a = record { number = a.number; bytes = a.bytes }
