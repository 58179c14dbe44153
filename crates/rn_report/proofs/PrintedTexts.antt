-- Lines of messages, one message after another; texts as they are printed, one character after another.
use Rattle.std.proofs.Common.{◌≡◌, ℕ, ◌+◌, ◌<◌, List, [], ◌∷◌, ◌++◌, length, take, get_or, ap, refl, subst, sym, ◌∙◌, append_assoc, IsUtf8}
use Rattle.std.specs.Char.{encode_utf8}
use Rattle.std.specs.List.{flat_map}
use Rattle.std.proofs.lemmas.List.{append-nil, nil_from_length, take_more}
use Rattle.std.proofs.lemmas.Str.{chars-nil, chars_past_char}
use Rattle.rn_report.specs.Messages.{AreMessageTexts, IsMessageText}
use Rattle.rn_report.specs.PrintedCharacters.{printed, printed_character}
use Rattle.rn_report.specs.declared.report.Colours.{Colours}
use Rattle.rn_report.specs.declared.report.Message.{Message}
use Rattle.rn_report.specs.declared.report.Page.{Page}

-- with the lines of the next message
pub one_text_more : (pages : List Page) (colours : Colours) (ms : List Message) (m : Message) (lines more : List ℕ)
    → AreMessageTexts pages colours ms lines → IsMessageText pages colours m more → AreMessageTexts pages colours (ms ++ (m ∷ [])) (lines ++ more)
one_text_more pages colours [] m lines more e h = (more, [], h, refl, ap (λ x. x ++ more) e ∙ sym (append-nil more))
one_text_more pages colours (n ∷ ms) m lines more e h = (
  e.0,
  e.1 ++ more,
  e.2,
  one_text_more pages colours ms m e.1 more e.3 h,
  ap (λ x. x ++ more) e.4 ∙ append_assoc e.0 e.1 more,
)

-- the lines of the first messages of a list, with those of the next one
pub next_text : (pages : List Page) (colours : Colours) (items held : List Message) (i : ℕ) (m : Message) (lines more after : List ℕ)
    → held ≡ items → i < length held → m ≡ get_or held i m → AreMessageTexts pages colours (take i items) lines
    → IsMessageText pages colours m more → after ≡ lines ++ more → AreMessageTexts pages colours (take (i + 1) items) after
next_text pages colours items held i m lines more after same within is texts text e =
    let P : List Message → Type 0 = λ xs. i < length xs in
    let T : List Message → Type 0 = λ ms. AreMessageTexts pages colours ms after in
    let B : List ℕ → Type 0 = λ bs. AreMessageTexts pages colours (take i items ++ (m ∷ [])) bs in
    let here : i < length items = subst P same within in
    let it : m ≡ get_or items i m = is ∙ ap (λ xs. get_or xs i m) same in
    let grown : take (i + 1) items ≡ take i items ++ (m ∷ []) = take_more items i m here ∙ ap (λ x. take i items ++ (x ∷ [])) (sym it) in
    subst T (sym grown) (subst B (sym e) (one_text_more pages colours (take i items) m lines more texts text))

-- nothing is printed of no text
pub printed_empty : (text : List ℕ) → length text ≡ 0 → printed text ≡ []
printed_empty text none = ap printed (nil_from_length text none) ∙ ap (λ cs. flat_map printed_character cs) chars-nil

-- a character, and then the rest
pub printed_step : (text rest : List ℕ) (c : ℕ) → IsUtf8 text → text ≡ encode_utf8 c ++ rest → printed text ≡ printed_character c ++ printed rest
printed_step text rest c utf8 parts = ap (λ cs. flat_map printed_character cs) (chars_past_char text rest c utf8 parts)
