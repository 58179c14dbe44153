use Rattle.std.proofs.Common.{◌≡◌, ap, ◌∙◌}
use Rattle.std.specs.Prelude.{filter}
use Rattle.rn_pattern.specs.View.{pattern_view}
use Rattle.rn_assemble.specs.GrammarView.{definitions_view}
use Rattle.rn_syntax.specs.Places.{xml_uri, xsd_uri}
use Rattle.rn_simplify.specs.NormalView.{normal_view}
use Rattle.rn_simplify.specs.Spelling.{is_other}
use Rattle.rn_simplify.specs.inside.Gathers.{Gathered, gathered, mentions_view}
use Rattle.rn_simplify.proofs.declared_prefixes.Prefixes.of.Goals as goal

pub returns-clause-prefixes : goal.returns-clause-prefixes
returns-clause-prefixes c =
    let known : mentions_view c.in_ok-mentions.mentions ≡ gathered (normal_view c.args.normal.now) =
    c.in_ok-mentions.ensures ∙ ap (λ ds. gathered (record { start = pattern_view c.args.normal.now.start; definitions = definitions_view ds })) c.deref.ensures.value in
    let namespaces = c.in_ok-declared_texts.ensures ∙ ap (λ (g : Gathered). filter (is_other xml_uri) g.namespaces) known in
    let libraries = c.in_ok-declared_texts-2.ensures ∙ ap (λ (g : Gathered). filter (is_other xsd_uri) g.libraries) known in
    λ i. record { namespaces = namespaces i; libraries = libraries i }

pub returns-clause-empty : goal.returns-clause-empty
returns-clause-empty c =
    let known : mentions_view c.in_ok-mentions.mentions ≡ gathered (normal_view c.args.normal.now) =
    c.in_ok-mentions.ensures ∙ ap (λ ds. gathered (record { start = pattern_view c.args.normal.now.start; definitions = definitions_view ds })) c.deref.ensures.value in
    ap (λ (g : Gathered). g.has_empty_ns_name) known
