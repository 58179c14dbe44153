-- Definitions of a grammar whose URIs have other texts.
use Rattle.std.proofs.Common.{◌≡◌, Option, Some, option_map, sym, ap, ◌∙◌, subst}
use Rattle.std.specs.Prelude.{IfSome}
use Rattle.rn_pattern.specs.Tree.{Tree}
use Rattle.rn_text.specs.Texts.{Text}
use Rattle.rn_pattern.specs.Matching.{Grammar, definition_of}
use Rattle.rn_assemble.specs.Renamed.{renamed_tree, renamed_grammar, HasKnownUris, IsOfKnownUris}
use Rattle.rn_assemble.proofs.Renaming.RenamedReferences.{definition_of-renamed, mapped_some}
use Rattle.rn_assemble.proofs.Renaming.WritableGrammars.{definition_of-known}

-- all URIs of each definition are known
pub known_definition : (Known : Text → Type 0) (G : Grammar) → IsOfKnownUris Known G → (x : Text) (p : Tree)
    → definition_of G x ≡ Some p → HasKnownUris Known p
known_definition Known G w x p e = subst (λ (o : Option Tree). IfSome o (HasKnownUris Known)) e (definition_of-known Known G w x)

module _ (named : Text → Text) (G : Grammar) where
  pub definition_renamed : (x : Text) (p : Tree) → definition_of G x ≡ Some p
      → definition_of (renamed_grammar named G) x ≡ Some (renamed_tree named p)
  definition_renamed x p e = definition_of-renamed named G x ∙ ap (option_map (renamed_tree named)) e

  pub definition_before : (x : Text) (p : Tree) → definition_of (renamed_grammar named G) x ≡ Some p
      → (q : Tree) × (definition_of G x ≡ Some q) × (renamed_tree named q ≡ p)
  definition_before x p e = mapped_some (renamed_tree named) (definition_of G x) p (sym (definition_of-renamed named G x) ∙ e)
