-- The text that is printed for a set is printed again for each set of which it is the one effective module.
use Rattle.std.proofs.Common.{◌≡◌, ⊎_elim, false, List, [], ◌∷◌, is_some, refl, sym, ap, ◌∙◌, subst, arith, Contains}
use Rattle.std.proofs.lemmas.Bool.{false≢true}
use Rattle.std.specs.Str.{chars}
use Rattle.rn_text.specs.Tokens.{Lexeme, HasTokens, lexemes}
use Rattle.rn_text.proofs.TokenLists.OneTokenList.{one_token_list}
use Rattle.rn_text.specs.Texts.{Text}
use Rattle.rn_pattern.specs.Matching.{Grammar}
use Rattle.rn_pattern.specs.Reached.{IsCanonicalOf}
use Rattle.rn_pattern.proofs.Ordered.InOrder.{contains_cases}
use Rattle.rn_modset.specs.Contributions.{Member}
use Rattle.rn_modset.specs.Modules.{AreEffective}
use Rattle.rn_modset.specs.Modules as effective
use Rattle.rn_syntax.specs.Grammar.{Tokens}
use Rattle.rn_syntax.specs.Tree as t
use Rattle.rn_syntax.specs.TokenTerminals.{terminals}
use Rattle.rn_syntax.specs.Beginnings.{HasTree}
use Rattle.rn_syntax.specs.Places.{deep}
use Rattle.rn_syntax.specs.Faults.{kind_places}
use Rattle.rn_syntax.specs.declared.fault.FaultKind.{FaultKind}
use Rattle.rn_syntax.specs.declared.fault.FaultKind.TheVariants as kind
use Rattle.rn_syntax.proofs.FaultPlaces.FaultKinds.{no_places}
use Rattle.rn_assemble.specs.Components.{NamedModule}
use Rattle.rn_assemble.specs.Combine.{joined_grammar, module_grammar}
use Rattle.rn_assemble.specs.WellFormed.{IsWellFormed}
use Rattle.rn_assemble.specs.Refusal.{Refusal, conflict, faulty, IsModuleOf, HasTextFault, StandsFor, AreModules, Stands, IsAssembled, grammar_of}
use Rattle.rn_assemble.proofs.Refusals.NoRefusal.{assembled_well_formed}
use Rattle.rn_assemble.proofs.Combined.OneModule.{one_module}
use Rattle.rn_assemble.proofs.Refusals.OneSet.{one_effective, one_module_of, one_modules}
use Rattle.rn_simplify.specs.ReadBack.{IsReadBack, is_too_deep}
use Rattle.rn_simplify.specs.Spelling.{spelling, spelling_pieces}
use Rattle.rn_simplify.specs.Verdict.{IsVerdict, prints}
use Rattle.rn_simplify.proofs.ReadBack.Binding.{spelling_is_cut, spelling_reads_back}
use Rattle.rn_simplify.proofs.ReadBack.ReadAgain.{read_canonical, none_stands}
use Rattle.rn_simplify.proofs.ReadBack.SpellableGrammars.{spellable}
use Rattle.rn_assemble.proofs.WellFormed.GoodComponents.{set_grammar_writable}

module _ (one_tree : (ts : Tokens) (m n : t.Module) → HasTree ts m → HasTree ts n → m ≡ n) where
  module _ (n : Grammar) (r : IsReadBack n) (cut : HasTokens (chars (spelling n)) (lexemes 0 (spelling_pieces n))) (shallow : is_too_deep n ≡ false) where
    is_module : IsModuleOf (spelling n) r.tree
    is_module = (r.utf8, (r.tokens, r.has_tokens, r.has_tree))

    same_tokens : (ts : List Lexeme) → HasTokens (chars (spelling n)) ts → ts ≡ r.tokens
    same_tokens ts h = one_token_list (chars (spelling n)) ts r.tokens h r.has_tokens

    same_tree : (m : t.Module) → IsModuleOf (spelling n) m → m ≡ r.tree
    same_tree m h = one_module_of one_tree (spelling n) m r.tree h is_module

    -- the text has no fault
    pub no_fault : (f : FaultKind) → ¬ HasTextFault (spelling n) f
    no_fault kind.Encoding h = h r.utf8
    no_fault kind.Lexical (u, h) = h r.tokens r.has_tokens
    no_fault kind.Deep (u, (ts, has, e)) =
        let same = one_token_list (chars (spelling n)) (lexemes 0 (spelling_pieces n)) ts cut has in
        false≢true (sym shallow ∙ ap (λ l. is_some (deep 0 (terminals l))) same ∙ e)
    no_fault kind.Syntax (u, (ts, has, none)) = none r.tree (subst (λ l. HasTree (terminals l) r.tree) (sym (same_tokens ts has)) r.has_tree)
    no_fault k h = h.2 (ap (kind_places k) (same_tree h.0 h.1) ∙ no_places r.tree r.no_prefix r.no_builtin r.no_context r.no_except k)

    module _ (x : Text) where
      abbrev texts : List effective.Module
      texts = (x, spelling n) ∷ []

      abbrev printed : List NamedModule
      printed = record { name = x; tree = r.tree } ∷ []

      faultless_at : (y text : Text) → Contains {X = Text × Text} texts (y, text) → (f : FaultKind) → ¬ HasTextFault text f
      faultless_at y text c f h =
          ⊎_elim (λ e. no_fault f (subst (λ s. HasTextFault s f) (sym (ap (λ (d : Text × Text). d.1) e)) h)) (λ (i, l, is). absurd (omega (arith, l))) (contains_cases {X = Text × Text} (x, spelling n) (y, text) [] c)

      module _ (s : List Member) (a : AreEffective s texts) where
        are_modules : AreModules s printed
        are_modules = record {
          texts = texts;
          are_effective = a;
          faultless = λ y (text, c, (f, h)). faultless_at y text c f h;
          trees = ((refl, is_module), tt);
        }

        module _ (G : Grammar) (c : IsCanonicalOf G n) (w : IsWellFormed G) where
          of_modules : (q : Refusal) → ¬ ((modules : List NamedModule) × AreModules s modules × StandsFor modules q)
          of_modules q (modules, b, h) = none_stands G n c w r x q (subst (λ (l : List NamedModule). StandsFor l q) (one_modules one_tree s modules printed b are_modules) h)

          no_refusal : (q : Refusal) → ¬ Stands s q
          no_refusal (conflict y k) h = a.agreed y k h.0
          no_refusal (faulty f y) (ys, b, least, (text, inside, first)) =
              faultless_at y text (subst (λ (l : List effective.Module). Contains {X = Text × Text} l (y, text)) (one_effective s ys texts b a) inside) f first.0
          no_refusal q h = of_modules q h

          same_grammar : grammar_of printed ≡ module_grammar r.tree
          same_grammar = ap joined_grammar (one_module x r.tree r.no_includes)

          assembled : IsAssembled s (grammar_of printed)
          assembled = (no_refusal, (printed, are_modules, refl))

          canonical : IsCanonicalOf (grammar_of printed) n
          canonical = subst (λ g. IsCanonicalOf g n) (sym same_grammar) (read_canonical n r G c)

  -- the text of a set is the verdict of each set of which it is the one effective module
  pub printed_again : (s : List Member) (text : Text) → IsVerdict s (prints text) → (u : List Member) (x : Text) → AreEffective u ((x, text) ∷ []) → IsVerdict u (prints text)
  printed_again s text (n, (g, (none, (modules, a, e)), c), (short, shallow, is)) u x effective =
      let k : IsCanonicalOf (grammar_of modules) n = subst (λ f. IsCanonicalOf f n) e c in
      let spelled = spellable (grammar_of modules) n k (set_grammar_writable s modules a) (omega (arith, short)) in
      let r = spelling_reads_back n spelled in
      let cut = spelling_is_cut n spelled in
      let w = assembled_well_formed s modules a none in
      let b : AreEffective u ((x, spelling n) ∷ []) = subst (λ y. AreEffective u ((x, y) ∷ [])) is effective in
      (n, (grammar_of (printed n r cut shallow x), assembled n r cut shallow x u b (grammar_of modules) k w, canonical n r cut shallow x u b (grammar_of modules) k w), (short, shallow, is))
