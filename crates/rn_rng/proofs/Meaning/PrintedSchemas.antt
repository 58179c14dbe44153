-- The XML of a printed text has the documents of the modules that it was printed from.
use Rattle.std.proofs.Common.{◌≡◌, ◌↔◌, List, sym, subst}
use Rattle.std.specs.Prelude.{IsSomeAnd}
use Rattle.std.specs.Str.{chars}
use Rattle.rn_text.specs.Texts.{Text}
use Rattle.rn_text.proofs.TokenLists.OneTokenList.{one_token_list}
use Rattle.rn_pattern.specs.Document.{Item}
use Rattle.rn_pattern.specs.Datatype.{Table}
use Rattle.rn_pattern.specs.Matching.{Grammar, IsValid}
use Rattle.rn_modset.specs.Contributions.{Member}
use Rattle.rn_syntax.specs.Tree.{Module}
use Rattle.rn_syntax.specs.TokenTerminals.{terminals}
use Rattle.rn_syntax.specs.Beginnings.{HasTree}
use Rattle.rn_syntax.proofs.OneReading.OneTree.{one_tree}
use Rattle.rn_assemble.specs.Components.{set_components}
use Rattle.rn_assemble.specs.Combine.{IsCombination, module_grammar}
use Rattle.rn_assemble.specs.Refusal.{IsModuleOf}
use Rattle.rn_simplify.specs.Spelling.{spelling}
use Rattle.rn_simplify.specs.ReadBack.{IsReadBack}
use Rattle.rn_simplify.specs.ReadAgain.{IsReadAgain}
use Rattle.rn_rng.specs.Translation.{xml_of}
use Rattle.rn_rng.specs.PrintedSchemas.{IsValidBy}
use Rattle.rn_rng.proofs.Meaning.Modules.{module_meaning}

-- a text is read back as one module
one_reading : (N : Grammar) (r : IsReadBack N) (m : Module) → IsModuleOf (spelling N) m → m ≡ r.tree
one_reading N r m is =
    let tokens = one_token_list (chars (spelling N)) is.1.0 r.tokens is.1.1 r.has_tokens in
    one_tree (terminals r.tokens) m r.tree (subst (λ ts. HasTree (terminals ts) m) tokens is.1.2) r.has_tree

read_back_valid : (N : Grammar) (r : IsReadBack N) (T : Table) (doc : Item) → IsValid (module_grammar r.tree) T doc ↔ IsValidBy (xml_of r.tree) T doc
read_back_valid N r T doc =
    let means = module_meaning (chars (spelling N)) r.tokens r.tree r.has_tokens r.has_tree r.no_includes in
    subst (λ o. IsValid (module_grammar r.tree) T doc ↔ IsSomeAnd o (λ G. IsValid G T doc)) (sym means) (λ v. v, λ v. v)

pub printed_valid : (s : List Member) (text : Text) (r : IsReadAgain s text) (m : Module) → IsModuleOf text m → (C : Grammar) → IsCombination (set_components r.modules) C → (T : Table) (doc : Item) → IsValid C T doc ↔ IsValidBy (xml_of m) T doc
printed_valid s text r m is C c T doc =
    let same = one_reading r.normal r.read_back m (subst (λ t. IsModuleOf t m) r.text_is is) in
    let first = r.same_documents C c T doc in
    let second = read_back_valid r.normal r.read_back T doc in
    subst (λ n. IsValid C T doc ↔ IsValidBy (xml_of n) T doc) (sym same) (λ v. second.0 (first.0 v), λ v. first.1 (second.1 v))
