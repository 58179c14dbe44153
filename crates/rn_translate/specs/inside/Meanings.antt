-- What the signs, terms and layouts of the code mean, and what is added to them.
use Rattle.std.specs.Prelude.{◌≡◌, ◌==◌, Bool, not, ◌&&◌, if◌then◌else◌, List, [], ◌∷◌, ◌++◌, Option, Some, None, option_map, map, slice_get, codes}
use Rattle.std.specs.List.{flat_map}
use Rattle.rn_translate.specs.Terms.{Namespace, inherited, uri, Term, keyword, symbol, identifier, local, prefixed, any_of, prefix, datatype, literal, open_brace, close_brace, close_parenthesis, any_text}
use Rattle.rn_translate.specs.Layouts.{Layout, is_alone}
use Rattle.rn_translate.specs.declared.signs.Sign.{Sign}
use Rattle.rn_translate.specs.declared.signs.Sign.TheVariants as g
use Rattle.rn_translate.specs.declared.standing.Layout.{Layout as CodeLayout}
use Rattle.rn_translate.specs.declared.terms.Term.{Term as CodeTerm}
use Rattle.rn_translate.specs.declared.terms.Term.TheVariants as t
use Rattle.rn_translate.specs.declared.terms.Placed.{Placed}
use Rattle.rn_translate.specs.declared.uris.Uri.{Uri}
use Rattle.rn_translate.specs.declared.uris.Uris.{Uris}
use Rattle.rn_translate.specs.declared.translator.Open.{Open}
use Rattle.rn_translate.specs.declared.translator.Translator.{Translator}

-- the terms of a sign; white space has none
abbrev pub sign_terms : Sign → List Term
sign_terms g.Nothing = []
sign_terms g.Space = []
sign_terms g.LineEnd = []
sign_terms g.Comma = symbol (codes ",") ∷ []
sign_terms g.Ampersand = symbol (codes "&") ∷ []
sign_terms g.Bar = symbol (codes "|") ∷ []
sign_terms g.Minus = symbol (codes "-") ∷ []
sign_terms g.Equals = symbol (codes "=") ∷ []
sign_terms g.ChoiceEquals = symbol (codes "|=") ∷ []
sign_terms g.InterleaveEquals = symbol (codes "&=") ∷ []
sign_terms g.CloseParenthesis = close_parenthesis
sign_terms g.OpenBrace = open_brace
sign_terms g.OpenBraceLine = open_brace
sign_terms g.CloseBrace = close_brace
sign_terms g.CloseBraceAlone = close_brace
sign_terms g.CloseBraceLine = close_brace
sign_terms g.BracedText = any_text
sign_terms g.Question = symbol (codes "?") ∷ []
sign_terms g.Star = symbol (codes "*") ∷ []
sign_terms g.Plus = symbol (codes "+") ∷ []

-- what a URI of the table means
abbrev pub uri_meant : Uris → Uri → Option Namespace
uri_meant uris u = if u.index == 0 then Some inherited else option_map (λ text. uri text.now) (slice_get uris.texts.items u.index)

abbrev pub known : List Term → List (Option Term)
known ts = map (λ x. Some x) ts

-- the terms that a term of the code means; none where its URI is none of the table
abbrev pub term_meant : Uris → CodeTerm → List (Option Term)
term_meant uris (t.Sign sign) = known (sign_terms sign)
term_meant uris (t.Keyword word) = Some (keyword word) ∷ []
term_meant uris (t.Identifier name) = Some (identifier name.now) ∷ []
term_meant uris (t.Local name) = Some (local name.now) ∷ []
term_meant uris (t.Named u name) = option_map (λ n. prefixed n name.now) (uri_meant uris u) ∷ []
term_meant uris t.Parenthesis = Some (symbol (codes "(")) ∷ []
term_meant uris t.AnyName = Some (symbol (codes "*")) ∷ []
term_meant uris (t.AnyOf u) = option_map any_of (uri_meant uris u) ∷ []
term_meant uris (t.Prefix u) = option_map prefix (uri_meant uris u) ∷ []
term_meant uris (t.Datatype u name) = option_map (λ n. datatype n name.now) (uri_meant uris u) ∷ []
term_meant uris (t.Literal text) = Some (literal text.now) ∷ []

abbrev pub terms_meant : Uris → List Placed → List (Option Term)
terms_meant uris ps = flat_map (λ p. term_meant uris p.term) ps

-- only terms are added, and they mean these
pub record Adds (old new : Translator) (ts : List Term) : Type 0 where
  pub same : new ≡ record old { terms = new.terms }
  pub terms : terms_meant new.uris new.terms.items ≡ terms_meant old.uris old.terms.items ++ known ts

-- the same, and the declarations that the prefixes mean may change
pub record AddsInScope (old new : Translator) (ts : List Term) : Type 0 where
  pub same : new ≡ record old { terms = new.terms; scopes = new.scopes }
  pub terms : terms_meant new.uris new.terms.items ≡ terms_meant old.uris old.terms.items ++ known ts

-- what comes behind the first child, if that is a name class
abbrev pub class_meant : Sign → Option (List Term)
class_meant g.Nothing = None
class_meant sign = Some (sign_terms sign)

abbrev pub layout_meant : CodeLayout → Layout
layout_meant l = record {
  class = class_meant l.class;
  standing = l.standing;
  separator = sign_terms l.separator;
  behind = sign_terms l.inner ++ (sign_terms l.closing ++ sign_terms l.outer);
}

-- whether the except of the element needs parentheses
abbrev pub is_parted : Open → Bool
is_parted o = o.children.has_except && not (is_alone o.place.standing)
