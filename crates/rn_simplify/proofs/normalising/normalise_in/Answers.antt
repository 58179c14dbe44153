use Rattle.std.proofs.Common.{sym, subst}
use Rattle.rn_assemble.specs.Firsts.{AreFirsts, joined_members}
use Rattle.rn_assemble.specs.GrammarView.{definitions_view, grammar_view}
use Rattle.rn_pattern.proofs.Matches.Pruned.{canonical_grammar_valid}
use Rattle.rn_pattern.specs.Reached.{IsCanonicalOf}
use Rattle.rn_pattern.specs.Tree.{Tree}
use Rattle.rn_pattern.specs.View.{pattern_view}
use Rattle.rn_simplify.specs.NormalParts.{parts_view}
use Rattle.rn_simplify.specs.inside.FormKinds.{becomes}
use Rattle.rn_simplify.proofs.Simplified.CanonicalParts.{canonical_of}
use Rattle.rn_simplify.proofs.Simplified.StoreIds.{then_kept}
use Rattle.rn_simplify.proofs.Simplified.WellFormed.{normal_well_formed}
use Rattle.rn_simplify.proofs.Texts.NormalSource.{has_source}
use Rattle.rn_simplify.proofs.normalising.normalise_in.Goals as goal

pub body_form-requires : goal.body_form-requires
body_form-requires g c = subst (λ (p : Tree). AreFirsts c.start_firsts.result.now (joined_members p)) (sym c.start.ensures) c.start_firsts.ensures

pub invariant_of-result : goal.invariant_of-result
invariant_of-result g c =
    let G = grammar_view c.args.grammar.now in
    let w = c.args.grammar.now.well_formed in
    let s = c.in_ok-settled.settled in
    let (rank, settling) = c.in_ok-settled.ensures.exact in
    let N = parts_view c.in_ok-start.start c.in_ok-defs.defs.items in
    let canonical : IsCanonicalOf G N = canonical_of G (becomes s) rank settling w (definitions_view c.in_ok-forms.forms.items) c.in_ok-forms.ensures.made
    _ (pattern_view c.in_ok-start.start) (definitions_view c.in_ok-defs.defs.items) c.start.ensures c.in_ok-start.ensures.made c.in_ok-defs.ensures in
    record { well_formed = normal_well_formed G N canonical w; source = has_source G N canonical w c.args.grammar.now.writable }

pub returns-clause-canonical : goal.returns-clause-canonical
returns-clause-canonical g c =
    let G = grammar_view c.args.grammar.now in
    let s = c.in_ok-settled.settled in
    let (rank, settling) = c.in_ok-settled.ensures.exact in
    canonical_of G (becomes s) rank settling c.args.grammar.now.well_formed (definitions_view c.in_ok-forms.forms.items) c.in_ok-forms.ensures.made
    _ (pattern_view c.in_ok-start.start) (definitions_view c.in_ok-defs.defs.items) c.start.ensures c.in_ok-start.ensures.made c.in_ok-defs.ensures

pub returns-clause-documents : goal.returns-clause-documents
returns-clause-documents g c = λ T doc.
    let G = grammar_view c.args.grammar.now in
    let w = c.args.grammar.now.well_formed in
    let s = c.in_ok-settled.settled in
    let (rank, settling) = c.in_ok-settled.ensures.exact in
    let N = parts_view c.in_ok-start.start c.in_ok-defs.defs.items in
    let canonical : IsCanonicalOf G N = canonical_of G (becomes s) rank settling w (definitions_view c.in_ok-forms.forms.items) c.in_ok-forms.ensures.made
    _ (pattern_view c.in_ok-start.start) (definitions_view c.in_ok-defs.defs.items) c.start.ensures c.in_ok-start.ensures.made c.in_ok-defs.ensures in
    canonical_grammar_valid G N canonical T w.start_excepts w.excepts doc

pub returns-clause-kept : goal.returns-clause-kept
returns-clause-kept g c = then_kept g.P.Patterns.knows g.P.Patterns.tree_of c.args.store.now c.body_form.new.store c.definition_forms.new.store c.body_form.ensures.kept c.definition_forms.ensures.kept
