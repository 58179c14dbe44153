-- Modules with short texts in the place of URIs: the same refusals stand for them, and their grammar is that of the modules but for its URIs.
use Rattle.std.proofs.Common.{◌≡◌, ◌↔◌, List, [], ◌∷◌, map, Option, Some, None, refl, sym, ap, ◌∙◌, subst}
use Rattle.std.specs.Prelude.{MatchOption}
use Rattle.std.specs.List.{AllByRecursion}
use Rattle.std.specs.List.Sorted.{IsStrictlySortedBy}
use Rattle.rn_text.specs.Texts.{Text, text_cmp}
use Rattle.rn_pattern.specs.Matching.{Grammar}
use Rattle.rn_modset.specs.Contributions.{Member}
use Rattle.rn_assemble.specs.declared.reading.named_modules.NamedModule as code_module
use Rattle.rn_assemble.specs.declared.refusal.Refusal as code
use Rattle.rn_assemble.specs.declared.refusal.Refusal.TheVariants as r
use Rattle.rn_assemble.specs.Components.{NamedModule}
use Rattle.rn_assemble.specs.Refusal.{Refusal, AreModules, IsFirstFor, StandsFor, grammar_of}
use Rattle.rn_assemble.specs.Refused.{refusal_view}
use Rattle.rn_assemble.specs.Renamed.{IsOfKnownUris, IsRenaming}
use Rattle.rn_assemble.specs.inside.RenamedModules.{renamed_modules, DeclareKnown}
use Rattle.rn_assemble.specs.ShortTexts.{ShortTexts, IsKnown, IsShortened, IsTable, long_grammar, long_uri, short_texts_of}
use Rattle.rn_assemble.specs.WellFormed.{HasWritableTexts, IsWellFormed}
use Rattle.rn_assemble.specs.inside.Contained.{AreFlat}
use Rattle.rn_assemble.specs.inside.Views.{AreInOrder, module_names, modules_view}
use Rattle.rn_assemble.specs.inside.Checked.{IsFirstOfModules, IsGrammarOf, KeepsWellFormed}
use Rattle.rn_assemble.proofs.Answering.SetRefusal.{assembled_of_modules}
use Rattle.rn_assemble.proofs.Expansion.WantedNumbers.{names_seen}
use Rattle.rn_assemble.proofs.Renaming.SameRefusals.{grammar_renamed, known_grammar, same_first, same_refusals}
use Rattle.rn_assemble.proofs.Renaming.ShortTables.{table_renames, table_writable}
use Rattle.rn_assemble.proofs.Renaming.WellFormedGrammars.{well_formed_before}
use Rattle.rn_assemble.proofs.Renaming.WritableGrammars.{writable_before}

-- ---- what shortened modules keep

names_kept : (named : Text → Text) (ms : List NamedModule) → map (λ (m : NamedModule). m.name) (renamed_modules named ms) ≡ map (λ (m : NamedModule). m.name) ms
names_kept named [] = refl
names_kept named (m ∷ ms) = ap (λ xs. m.name ∷ xs) (names_kept named ms)

pub short_in_order : (named : Text → Text) (long short : List code_module.NamedModule) → renamed_modules named (modules_view short) ≡ modules_view long → AreInOrder long → AreInOrder short
short_in_order named long short same o =
    let names : module_names long ≡ module_names short =
    sym (names_seen long) ∙ ap (map (λ (m : NamedModule). m.name)) (sym same) ∙ names_kept named (modules_view short) ∙ names_seen short in
    subst (IsStrictlySortedBy text_cmp) names o

pub flat_before : (named : Text → Text) (ms : List NamedModule) → AllByRecursion (λ (m : NamedModule). AreFlat m.tree.items) (renamed_modules named ms) → AllByRecursion (λ (m : NamedModule). AreFlat m.tree.items) ms
flat_before named [] h = tt
flat_before named (m ∷ ms) h = (h.0, flat_before named ms h.1)

-- ---- refusals and the grammar

module _ (es : ShortTexts) (t : IsTable es) (ms short : List NamedModule) (same : renamed_modules (long_uri es) short ≡ ms) (known : DeclareKnown (IsKnown es) short) where
  renames : IsRenaming (long_uri es) (IsKnown es)
  renames = table_renames es t

  alike : (q : Refusal) → StandsFor ms q ↔ StandsFor short q
  alike q = subst (λ (ns : List NamedModule). StandsFor ns q ↔ StandsFor short q) same (same_refusals renames short known q)

  first_for : (q : Refusal) → IsFirstFor short q → IsFirstFor ms q
  first_for q h = subst (λ (ns : List NamedModule). IsFirstFor ns q) same ((same_first renames short known q).1 h)

  pub first_before : (q : code.Refusal) → IsFirstOfModules short q → IsFirstOfModules ms q
  first_before q h = of_view (refusal_view q) h
    where
      of_view : (o : Option Refusal) → MatchOption o (q ≡ r.Memory) (IsFirstFor short) → MatchOption o (q ≡ r.Memory) (IsFirstFor ms)
      of_view None m = m
      of_view (Some p) m = first_for p m

  pub kept_before : KeepsWellFormed ms → KeepsWellFormed short
  kept_before kept none =
      let (whole, written) = kept (λ q h. none q ((alike q).0 h)) in
      let g = grammar_of short in
      let is : long_grammar es g ≡ grammar_of ms = sym (grammar_renamed renames short) ∙ ap grammar_of same in
      let k = known_grammar renames short known in
      (well_formed_before renames g k (subst IsWellFormed (sym is) whole), writable_before renames (table_writable es t) g k (subst HasWritableTexts (sym is) written))

  pub shortened_of : es ≡ short_texts_of ms → (s : List Member) → AreModules s ms → (g : Grammar) → IsGrammarOf short g → IsShortened s es g
  shortened_of e s a g h = record {
    texts = (ms, a, e);
    table = t;
    assembled = assembled_of_modules s ms a (long_grammar es g) (λ q k. h.0 q ((alike q).0 k), ap (long_grammar es) h.1 ∙ sym (grammar_renamed renames short) ∙ ap grammar_of same);
    known = subst (IsOfKnownUris (IsKnown es)) (sym h.1) (known_grammar renames short known);
  }
