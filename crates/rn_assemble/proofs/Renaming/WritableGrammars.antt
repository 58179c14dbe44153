-- Where the texts of a renamed grammar of known URIs can be written, so can those of the grammar.
use Rattle.std.proofs.Common.{Option, Some, None, option_map, subst}
use Rattle.std.specs.Prelude.{bytes_eq, IfSome}
use Rattle.std.proofs.lemmas.List.Elements.{All-from_recursion}
use Rattle.std.proofs.lemmas.Map.Entries.{All-lookup}
use Rattle.rn_text.specs.Texts.{Text}
use Rattle.rn_pattern.specs.Tree.{Tree}
use Rattle.rn_pattern.specs.Matching.{Grammar, definition_of}
use Rattle.rn_assemble.specs.WritableTexts.{IsXml, IsWritable}
use Rattle.rn_assemble.specs.WellFormed.{HasWritableTexts}
use Rattle.rn_assemble.specs.Renamed.{renamed_tree, renamed_definition, renamed_grammar, HasKnownUris, IsOfKnownUris, IsRenaming}
use Rattle.rn_assemble.proofs.Referring.ListMembers.{map_contains}
use Rattle.rn_assemble.proofs.Renaming.RenamedReferences.{definition_of-renamed}
use Rattle.rn_assemble.proofs.Renaming.WritablePatterns.{IsWritable-before}

-- the definition of a name has known URIs
pub definition_of-known : (Known : Text → Type 0) (G : Grammar) → IsOfKnownUris Known G
    → (x : Text) → IfSome (definition_of G x) (HasKnownUris Known)
definition_of-known Known G k x =
    All-lookup (HasKnownUris Known) (bytes_eq x) G.definitions
    (All-from_recursion (λ (d : Text × Tree). HasKnownUris Known d.1) G.definitions k.definitions)

-- what holds of a definition that is there, of the one before it
pub some_before : (named : Text → Text) (P Q R : Tree → Type 0) → ((p : Tree) → R p → P (renamed_tree named p) → Q p)
    → (o : Option Tree) → IfSome o R → IfSome (option_map (renamed_tree named) o) P → IfSome o Q
some_before named P Q R f None k h = tt
some_before named P Q R f (Some p) k h = f p k h

module _ {named : Text → Text} {Known : Text → Type 0} (r : IsRenaming named Known)
    (xml : (u : Text) → Known u → IsXml (named u) → IsXml u) where
  pub writable_before : (G : Grammar) → IsOfKnownUris Known G → HasWritableTexts (renamed_grammar named G) → HasWritableTexts G
  writable_before G k h = record {
    start = IsWritable-before r xml G.start k.start h.start;
    definitions = λ x.
        some_before named IsWritable IsWritable (HasKnownUris Known) (IsWritable-before r xml) (definition_of G x) (definition_of-known Known G k x)
        (subst (λ (o : Option Tree). IfSome o IsWritable) (definition_of-renamed named G x) (h.definitions x));
    names = λ x p c. h.names x (renamed_tree named p) (map_contains (renamed_definition named) G.definitions (x, p) c);
  }
