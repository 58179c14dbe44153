use Rattle.std.proofs.Common.{◌≡◌, ◌∷◌, [], length, nat_eq, false, rules, ap, ◌∙◌, subst}
use Rattle.std.proofs.lemmas.List.{length-map}
use Rattle.std.specs.Prelude.{string_bytes}
use Rattle.std.specs.Rc.{rc_str_bytes}
use Rattle.rn_simplify.specs.Spelling.{params_pieces, type_piece}
use Rattle.rn_simplify.specs.inside.Writes.{prefixes_view, Writes}
use Rattle.rn_pattern.specs.View.{parameters_view}
use Rattle.rn_simplify.proofs.Texts.PatternTexts.{writes_data}
use Rattle.rn_simplify.proofs.pattern_text.write_data.Goals as goal

pub returns-then-not-is_empty : goal.returns-then-not-is_empty
returns-then-not-is_empty c =
    let f = prefixes_view c.args.prefixes.now in
    let d = c.args.«data».now in
    let h : nat_eq (length d.params.items) 0 ≡ false = search rules in
    let e : nat_eq (length (parameters_view d.params.items)) 0 ≡ false = ap (λ n. nat_eq n 0) (length-map d.params.items _) ∙ h in
    let typed = subst (λ x. Writes (type_piece f (rc_str_bytes d.library) x ∷ []) c.args.writer.now c.write_type.new.writer) c.deref-2.ensures
    (subst (λ l. Writes (type_piece f l c.deref-2.result.now ∷ []) c.args.writer.now c.write_type.new.writer) c.deref.ensures.value c.write_type.ensures) in
    let params = subst (λ ps. Writes (params_pieces (parameters_view ps)) c.open_bracket.new.self c.write_params.new.writer) c.deref-then-not-is_empty.ensures.value c.write_params.ensures in
    writes_data f (rc_str_bytes d.library) (string_bytes d.type_name) (parameters_view d.params.items) e typed c.open_bracket.ensures params c.close_bracket.ensures
