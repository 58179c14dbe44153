-- The text goes on with whole tokens.
use Rattle.std.proofs.Common.{◌≡◌, ℕ, zero, suc, false, ◌<◌, ◌++◌, arith, length, subst, sym, ap, ◌∙◌}
use Rattle.std.specs.Prelude.{◌==◌, string_bytes}
use Rattle.std.specs.Str.{chars}
use Rattle.std.proofs.lemmas.Str.{IsUtf8-string_bytes}
use Rattle.rn_text.specs.Tokens.{has_mark}
use Rattle.rn_translate.specs.Cuts.{HasParts, IsSpelledAs}
use Rattle.rn_translate.proofs.CutTexts.{mark_joined, parts_joined, tokens_joined}
use Rattle.rn_translate.proofs.draft.Draft.put.Goals as goal

positive : (n : ℕ) → (n == 0) ≡ false → 0 < n
positive zero e = absurd cc
positive (suc n) e = omega arith

pub invariant_of-self-2-clause-parts : goal.invariant_of-self-2-clause-parts
invariant_of-self-2-clause-parts c =
    let before = c.add_origin.new.self in
    let some : 0 < length c.args.text.now = positive (length c.args.text.now) (sym c.is_empty.ensures ∙ c.if-is_empty.false) in
    subst (HasParts c.args.is_open) (sym c.in_ok-push_str.ensures.bytes)
    (parts_joined before.parts c.requires.parts (λ e. c.requires.apart (sym c.add_origin.ensures.open ∙ e)) some)

pub invariant_of-self-2-clause-unmarked : goal.invariant_of-self-2-clause-unmarked
invariant_of-self-2-clause-unmarked c =
    let before = c.add_origin.new.self in
    ap (λ x. has_mark (chars x)) c.in_ok-push_str.ensures.bytes
    ∙ mark_joined (string_bytes before.text) c.args.text.now (IsUtf8-string_bytes before.text) before.unmarked
    (λ m. subst (λ t. 0 < length (string_bytes t)) (sym c.add_origin.ensures.text) (omega (arith, c.args.self.now.text.bytes.ok.0, c.requires.unmarked m)))

pub returns-clause-tokens : goal.returns-clause-tokens
returns-clause-tokens c = λ tokens is some before was.
    subst (λ x. IsSpelledAs c.args.is_open x (before ++ tokens)) (ap (λ t. string_bytes t ++ c.args.text.now) (sym c.add_origin.ensures.text) ∙ sym c.in_ok-push_str.ensures.bytes)
    (tokens_joined was is (λ e. c.requires.apart e) some)
