-- The terms of a compact text: its tokens before prefixes are chosen (RELAX NG Compact Syntax, 3 and appendix A).
use Rattle.std.specs.Prelude.{List, [], ◌∷◌, codes}
use Rattle.rn_text.specs.Texts.{Text}
use Rattle.rn_text.specs.declared.keywords.Keyword.{Keyword}
use Rattle.rn_text.specs.declared.keywords.Keyword.TheVariants as w

-- a namespace (RELAX NG 2001, 4.9): the one that a schema inherits where it is included, as it gives none; or that of this name, which is
-- empty for none. A datatype library (4.3) is of the second kind
pub data Namespace : Type 0 where
  inherited : Namespace
  uri : Text → Namespace

pub data Term : Type 0 where
  keyword : Keyword → Term
  -- a bracket, an operator or another sign
  symbol : Text → Term
  -- the name of a definition
  identifier : Text → Term
  -- a name without prefix
  local : Text → Term
  -- a name with the prefix of its namespace
  prefixed : Namespace → Text → Term
  -- all names of a namespace
  any_of : Namespace → Term
  -- the prefix of a namespace, by itself
  prefix : Namespace → Term
  -- a datatype of a library
  datatype : (library : Namespace) → Text → Term
  -- the literal of a text
  literal : Text → Term

-- the terms `{`, `}`, `(`, `)`
abbrev pub open_brace : List Term
open_brace = symbol (codes "{") ∷ []

abbrev pub close_brace : List Term
close_brace = symbol (codes "}") ∷ []

abbrev pub open_parenthesis : List Term
open_parenthesis = symbol (codes "(") ∷ []

abbrev pub close_parenthesis : List Term
close_parenthesis = symbol (codes ")") ∷ []

-- the content of an attribute that gives none
abbrev pub any_text : List Term
any_text = symbol (codes "{") ∷ keyword w.Text ∷ symbol (codes "}") ∷ []
