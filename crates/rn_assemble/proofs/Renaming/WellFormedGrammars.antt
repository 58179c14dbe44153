-- Where a renamed grammar of known URIs is well-formed, so is the grammar; and its definitions have distinct names if those of the other have.
use Rattle.std.proofs.Common.{Option, subst}
use Rattle.std.specs.Prelude.{IfSome}
use Rattle.rn_text.specs.Texts.{Text}
use Rattle.rn_pattern.specs.Tree.{Tree, Trees, datum_but, list, attribute, element, one_or_more, group, interleave, choice, no_trees, more_trees}
use Rattle.rn_pattern.specs.Excepts.{HasExcepts, HaveExcepts}
use Rattle.rn_pattern.specs.Matching.{Grammar, definition_of}
use Rattle.rn_pattern.specs.NameRules.{KeepsNameRules}
use Rattle.rn_assemble.specs.Renamed.{renamed_tree, renamed_trees, renamed_grammar, HasKnownUris, IsOfKnownUris, IsRenaming}
use Rattle.rn_assemble.specs.WellFormed.{IsWellFormed}
use Rattle.rn_assemble.proofs.Renaming.RenamedReferences.{definition_of-renamed, IsUndefined-renamed, IsRecursive-renamed}
use Rattle.rn_assemble.proofs.Renaming.RenamedRules.{KeepsNameRules-renamed}
use Rattle.rn_assemble.proofs.Renaming.WritableGrammars.{definition_of-known, some_before}
use Rattle.rn_assemble.proofs.Renaming.WritablePatterns.{except_before}

module _ (named : Text → Text) where
  mutual
    has_excepts_before : (p : Tree) → HasExcepts (renamed_tree named p) → HasExcepts p
    has_excepts_before (datum_but l x ps p) h = except_before named p h
    has_excepts_before (list p) h = has_excepts_before p h
    has_excepts_before (attribute c p) h = has_excepts_before p h
    has_excepts_before (element c p) h = has_excepts_before p h
    has_excepts_before (one_or_more p) h = has_excepts_before p h
    has_excepts_before (group ps) h = have_excepts_before ps h
    has_excepts_before (interleave ps) h = have_excepts_before ps h
    has_excepts_before (choice ps) h = have_excepts_before ps h
    has_excepts_before p h = tt

    have_excepts_before : (ps : Trees) → HaveExcepts (renamed_trees named ps) → HaveExcepts ps
    have_excepts_before no_trees h = h
    have_excepts_before (more_trees p ps) h = (has_excepts_before p h.0, have_excepts_before ps h.1)

module _ {named : Text → Text} {Known : Text → Type 0} (r : IsRenaming named Known) (G : Grammar) (known : IsOfKnownUris Known G) where
  each : (P Q : Tree → Type 0) → ((p : Tree) → HasKnownUris Known p → P (renamed_tree named p) → Q p) → (x : Text) → IfSome (definition_of (renamed_grammar named G) x) P → IfSome (definition_of G x) Q
  each P Q f x h =
      some_before named P Q (HasKnownUris Known) f (definition_of G x) (definition_of-known Known G known x)
      (subst (λ (o : Option Tree). IfSome o P) (definition_of-renamed named G x) h)

  pub well_formed_before : IsWellFormed (renamed_grammar named G) → IsWellFormed G
  well_formed_before w = record {
    defined = λ x h. w.defined x ((IsUndefined-renamed named G x).1 h);
    loop_free = λ x h. w.loop_free x ((IsRecursive-renamed named G x).1 h);
    start_excepts = has_excepts_before named G.start w.start_excepts;
    excepts = λ x. each HasExcepts HasExcepts (λ p k h. has_excepts_before named p h) x (w.excepts x);
    start_names = (KeepsNameRules-renamed r G.start known.start).0 w.start_names;
    names = λ x. each KeepsNameRules KeepsNameRules (λ p k h. (KeepsNameRules-renamed r p k).0 h) x (w.names x);
  }
