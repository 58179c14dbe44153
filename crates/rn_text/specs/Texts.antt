-- Texts as lists of bytes: their order, and white space.
use Rattle.std.specs.Prelude.{ℕ, Bool, ◌||◌, ◌==◌, List, Option, IfSome}
use Rattle.std.specs.Borrow.{Bor}
use Rattle.std.specs.Str.{IsUtf8}
use Rattle.std.specs.declared.cmp.Ordering.{Ordering}
use Rattle.std.specs.Ordering.{nat_cmp}
use Rattle.std.specs.Cmp.Lexicographic.{slice_cmp}

-- a text is its UTF-8 bytes
abbrev pub Text : Type 0
Text = List ℕ

-- texts by their bytes
abbrev pub text_cmp : Text → Text → Ordering
text_cmp = slice_cmp nat_cmp

-- space, tab, line feed and carriage return (XML 1.0 Fifth Edition, 2.3, S)
abbrev pub is_white : ℕ → Bool
is_white c = c == 32 || c == 9 || c == 10 || c == 13

-- the text that is answered is UTF-8
abbrev pub AnswersUtf8 : Option (Bor Text) → Type 0
AnswersUtf8 answer = IfSome answer (λ text. IsUtf8 text.now)

-- the text that is left behind what is answered is UTF-8
abbrev pub LeavesUtf8 : {A : Type 0} → Option (A × Bor Text) → Type 0
LeavesUtf8 answer = IfSome answer (λ p. IsUtf8 p.1.now)
