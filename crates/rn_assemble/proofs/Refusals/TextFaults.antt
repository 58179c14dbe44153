-- The first fault of a text, by what was read of it.
use Rattle.std.proofs.Common.{◌≡◌, ◌≢◌, ℕ, ◌+◌, ◌<◌, true, false, List, [], ◌∷◌, Option, Some, None, IfSome, MatchOption, is_some, map, refl, sym, ap, ◌∙◌, subst, arith}
use Rattle.std.specs.Str.{IsUtf8, chars}
use Rattle.rn_text.specs.Tokens.{Lexeme, HasTokens, IsLexicalPlace, lexeme_of}
use Rattle.rn_text.specs.declared.source.Token.{Token}
use Rattle.rn_text.proofs.TokenLists.OneFaultPlace.{list_or_place}
use Rattle.rn_text.proofs.TokenLists.OneTokenList.{one_token_list}
use Rattle.rn_text.specs.Texts.{Text}
use Rattle.rn_syntax.specs.declared.fault.FaultKind.{FaultKind}
use Rattle.rn_syntax.specs.declared.fault.FaultKind.TheVariants as kind
use Rattle.rn_syntax.specs.declared.fault.SyntaxFault.{SyntaxFault}
use Rattle.rn_syntax.specs.declared.fault.SyntaxFault.TheVariants as s
use Rattle.rn_syntax.specs.Tree.{Module}
use Rattle.rn_syntax.specs.Grammar.{Tokens}
use Rattle.rn_syntax.specs.TokenTerminals.{terminals}
use Rattle.rn_syntax.specs.Beginnings.{HasTree, Stops}
use Rattle.rn_syntax.specs.Faults.{kind_rank, kind_places, kind_and_place, HasNoFault, IsFirstOfKinds, IsFault}
use Rattle.rn_syntax.specs.Places.{deep, first}
use Rattle.rn_syntax.proofs.FaultPlaces.FaultKinds as of_kinds
use Rattle.rn_syntax.proofs.FaultPlaces.OneFault.{no_tree}
use Rattle.rn_syntax.proofs.OneReading.OneTree.{one_tree}
use Rattle.rn_syntax.proofs.TokenKinds.SourceTokens.{tokens_are_spelled}
use Rattle.rn_assemble.specs.declared.refusal.Refusal as code
use Rattle.rn_assemble.specs.declared.refusal.Refusal.TheVariants as r
use Rattle.rn_assemble.specs.Refusal.{Refusal, faulty, HasTextFault, IsFirstFault, IsModuleOf, TokensAre}
use Rattle.rn_assemble.specs.Refused.{refusal_view}
use Rattle.rn_assemble.specs.inside.ModuleTexts.{IsFaultOf, IsRead}
use Rattle.rn_assemble.proofs.Refusals.OneSet.{one_module_of}

none_there : (is : List ℕ) → first is ≡ None → is ≡ []
none_there [] e = refl
none_there (i ∷ is) e = cc

some_there : (is : List ℕ) (at : ℕ) → first is ≡ Some at → is ≢ []
some_there [] at e h = cc
some_there (i ∷ is) at e h = cc

nowhere : (at : ℕ) → ¬ (first [] ≡ Some at)
nowhere at e = cc

module _ (text : Text) where
  -- the text has none of the first n kinds of faults
  abbrev LacksFirst : ℕ → Type 0
  LacksFirst n = (g : FaultKind) → kind_rank g < n → ¬ HasTextFault text g

  one_more : (f : FaultKind) → LacksFirst (kind_rank f) → ¬ HasTextFault text f → LacksFirst (kind_rank f + 1)
  one_more = of_kinds.one_more (λ g. ¬ HasTextFault text g)

  module _ (utf8 : IsUtf8 text) where
    encoded : LacksFirst 1
    encoded = one_more kind.Encoding (λ g l. absurd (omega (arith, l))) (λ wrong. wrong utf8)

    pub first_lexical : (at : ℕ) → IsLexicalPlace (chars text) at → IsFirstFault text kind.Lexical
    first_lexical at place = ((utf8, λ ts has. list_or_place (chars text) ts at has place), encoded)

    module _ (ts : List Lexeme) (has : HasTokens (chars text) ts) where
      of_tokens : (P : List Lexeme → Type 0) → TokensAre text P → P ts
      of_tokens P (utf8', (us, has', is)) = subst P (one_token_list (chars text) us ts has' has) is

      cut : LacksFirst 2
      cut = one_more kind.Lexical encoded (λ wrong. wrong.1 ts has)

      first_deep : (at : ℕ) → deep 0 (terminals ts) ≡ Some at → IsFirstFault text kind.Deep
      first_deep at e = ((utf8, (ts, has, ap is_some e)), cut)

      module _ (shallow : deep 0 (terminals ts) ≡ None) where
        not_deep : ¬ HasTextFault text kind.Deep
        not_deep h =
            let some : is_some (deep 0 (terminals ts)) ≡ true = of_tokens (λ us. is_some (deep 0 (terminals us)) ≡ true) h in
            let none : is_some (deep 0 (terminals ts)) ≡ false = ap is_some shallow in
            cc

        closed : LacksFirst 3
        closed = one_more kind.Deep cut not_deep

        first_syntax : (bad : Tokens) → Stops (terminals ts) bad → IsFirstFault text kind.Syntax
        first_syntax bad stops = ((utf8, (ts, has, no_tree (terminals ts) bad stops)), closed)

        module _ (m : Module) (tree : HasTree (terminals ts) m) where
          module_is : IsModuleOf text m
          module_is = (utf8, (ts, has, tree))

          formed : LacksFirst 4
          formed = one_more kind.Syntax closed (λ none. of_tokens (λ us. (n : Module) → ¬ HasTree (terminals us) n) none m tree)

          -- the module of the text has no place of the kind, or has one
          lacks : (k : FaultKind) → first (kind_places k m) ≡ None → ¬ HasTextFault text k
          lacks kind.Encoding none = formed kind.Encoding (omega arith)
          lacks kind.Lexical none = formed kind.Lexical (omega arith)
          lacks kind.Deep none = formed kind.Deep (omega arith)
          lacks kind.Syntax none = formed kind.Syntax (omega arith)
          lacks k none = λ (n, is, some). some (ap (kind_places k) (one_module_of one_tree text n m is module_is) ∙ none_there (kind_places k m) none)

          has_fault : (k : FaultKind) (at : ℕ) → first (kind_places k m) ≡ Some at → HasTextFault text k
          has_fault kind.Encoding at e = absurd (nowhere at e)
          has_fault kind.Lexical at e = absurd (nowhere at e)
          has_fault kind.Deep at e = absurd (nowhere at e)
          has_fault kind.Syntax at e = absurd (nowhere at e)
          has_fault k at e = (m, module_is, some_there (kind_places k m) at e)

          first_of_tree : (k : FaultKind) (at : ℕ) → IsFirstOfKinds m k at → IsFirstFault text k
          first_of_tree k at h = (has_fault k at h.place, λ g l. lacks g (h.before g l))

          pub faultless : HasNoFault m → IsRead text m
          faultless none = record { is_module = module_is; faultless = λ k. lacks k (none k) }

  -- the first fault of the text is of the kind of this one of its tokens
  pub first_of_tokens : (xs : List Token) → IsUtf8 text → HasTokens (chars text) (map lexeme_of xs) → (fault : SyntaxFault) → IsFault xs fault → IfSome (kind_and_place fault) (λ k. IsFirstFault text k.0)
  first_of_tokens xs u has (s.Deep at) h = first_deep u (map lexeme_of xs) has at h
  first_of_tokens xs u has (s.Syntax at) h = let stops = h.1 (tokens_are_spelled (chars text) xs has) in first_syntax u (map lexeme_of xs) has h.0 stops.0 stops.1
  first_of_tokens xs u has s.Memory h = tt
  first_of_tokens xs u has fault h = let m = h.1 (tokens_are_spelled (chars text) xs has) in first_of_tree u (map lexeme_of xs) has h.0 m.0 m.1 _ _ m.2

-- a refusal of the kind of the first fault
pub of_refusal : (name text : Text) (q : code.Refusal) (k : FaultKind) → refusal_view q ≡ Some (faulty k name) → IsFirstFault text k → IsFaultOf name text q
of_refusal name text q k is h =
    subst (λ (o : Option Refusal). MatchOption o (q ≡ r.Memory) (λ w. (f : FaultKind) × (w ≡ faulty f name) × IsFirstFault text f)) (sym is) (k, refl, h)
