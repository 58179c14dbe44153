use Rattle.std.proofs.Common.{◌≡◌, ◌∷◌, [], true, false, sym, ◌∙◌, subst}
use Rattle.std.specs.Prelude.{codes, bytes_eq, string_bytes, ◌&&◌}
use Rattle.std.specs.Rc.{rc_str_bytes}
use Rattle.rn_text.specs.Literals.{literal_bytes}
use Rattle.rn_simplify.specs.Spelling.{type_piece}
use Rattle.rn_simplify.specs.inside.Writes.{none, prefixes_view, Writes, WritesBytes}
use Rattle.rn_simplify.proofs.Texts.PatternTexts.{writes_token, writes_value}
use Rattle.rn_simplify.proofs.pattern_text.write_value.Goals as goal

pub returns-then-is_token : goal.returns-then-is_token
returns-then-is_token c =
    let v = c.args.value.now in
    let e : (bytes_eq (rc_str_bytes v.library) [] && bytes_eq (string_bytes v.type_name) (codes "token")) ≡ true =
    sym (c.is_token.ensures ∙ (λ i. bytes_eq (c.deref.ensures.value i) [] && bytes_eq (c.deref-2.ensures i) (codes "token"))) ∙ c.if-is_token.true in
    let node_text = subst (λ t. WritesBytes (literal_bytes t) none c.args.writer.now c.put_literal.new.self) c.deref-then-is_token.ensures c.put_literal.ensures in
    writes_token (prefixes_view c.args.prefixes.now) (rc_str_bytes v.library) (string_bytes v.type_name) (string_bytes v.text) e node_text

pub returns-else-is_token : goal.returns-else-is_token
returns-else-is_token c =
    let f = prefixes_view c.args.prefixes.now in
    let v = c.args.value.now in
    let e : (bytes_eq (rc_str_bytes v.library) [] && bytes_eq (string_bytes v.type_name) (codes "token")) ≡ false =
    sym (c.is_token.ensures ∙ (λ i. bytes_eq (c.deref.ensures.value i) [] && bytes_eq (c.deref-2.ensures i) (codes "token"))) ∙ c.if-is_token.false in
    let typed = subst (λ x. Writes (type_piece f (rc_str_bytes v.library) x ∷ []) c.args.writer.now c.write_type.new.writer) c.deref-else-is_token-2.ensures
    (subst (λ l. Writes (type_piece f l c.deref-else-is_token-2.result.now ∷ []) c.args.writer.now c.write_type.new.writer) c.deref-else-is_token.ensures.value c.write_type.ensures) in
    let node_text = subst (λ t. WritesBytes (literal_bytes t) none c.put.new.self c.put_literal-else-is_token.new.self) c.deref-else-is_token-3.ensures c.put_literal-else-is_token.ensures in
    writes_value f (rc_str_bytes v.library) (string_bytes v.type_name) (string_bytes v.text) e typed c.put.ensures node_text
