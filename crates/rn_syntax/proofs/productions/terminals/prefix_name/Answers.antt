-- The prefix is the run of name characters.
use Rattle.std.proofs.Common.{◌≡◌, ℕ, List, ◌++◌, Option, Some, None, ◌≢◌, Bor, sym, ap, ◌∙◌}
use Rattle.std.specs.Str.{chars, encode_utf8_all}
use Rattle.std.specs.Option.{MatchOption, unwrap_or}
use Rattle.std.specs.Str.Pattern.{StripsSuffix, FindsTextSuffix}
use Rattle.std.proofs.lemmas.List.{append_cancel_right}
use Rattle.std.proofs.lemmas.Str.{encodes-append, encodes-chars}
use Rattle.rn_text.specs.Characters.{is_name_char}
use Rattle.rn_text.specs.Segments.{run_of, after_run}
use Rattle.rn_text.proofs.Words.CharacterRuns.{run_split}
use Rattle.rn_syntax.proofs.productions.terminals.prefix_name.Goals as goal

stripped : (r : Option (Bor (List ℕ))) (text : Bor (List ℕ)) (front behind : List ℕ) → text.now ≡ front ++ behind
    → MatchOption r ((f : List ℕ) → text.now ≢ f ++ behind) (λ p. StripsSuffix (FindsTextSuffix behind) text.now p.now) → (unwrap_or r text).now ≡ front
stripped None text front behind e h = absurd (h front e)
stripped (Some p) text front behind e (n, found, is, long) = is ∙ append_cancel_right _ front behind (sym found.1 ∙ e)

pub returns : goal.returns
returns c =
    let text = c.args.text.now in
    let cs = chars text in
    let front = encode_utf8_all (run_of is_name_char cs) in
    let behind : encode_utf8_all (after_run is_name_char cs) ≡ c.after_name_chars-behind.result.now
    = ap encode_utf8_all (sym c.after_name_chars-behind.ensures) ∙ encodes-chars _ c.after_name_chars-behind.utf8 in
    let split : text ≡ front ++ c.after_name_chars-behind.result.now
    = sym (encodes-chars text c.utf8.text) ∙ ap encode_utf8_all (sym (run_split is_name_char cs)) ∙ encodes-append (run_of is_name_char cs) (after_run is_name_char cs) ∙ ap (λ (l : List ℕ). front ++ l) behind in
    ap (λ r. r.now) c.unwrap_or.ensures ∙ stripped c.strip_suffix.result c.args.text front _ split c.strip_suffix.ensures.cases
