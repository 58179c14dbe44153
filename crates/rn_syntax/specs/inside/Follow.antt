-- What may stand behind each production, told by its first token (compact syntax, section 2).
use Rattle.std.specs.Prelude.{◌≡◌, Bool, true, false, [], ◌∷◌, ⊤}
use Rattle.rn_text.specs.declared.keywords.Keyword.TheVariants as k
use Rattle.rn_syntax.specs.declared.tree.Postfix.TheVariants as p
use Rattle.rn_syntax.specs.Terminal.{Terminal, ◌#◌, any_of, ident, keyword, prefixed, segment, operator, postfix, minus, tilde, follow, left_brace, right_brace, left_bracket, other}
use Rattle.rn_syntax.specs.Grammar.{Tokens}

-- the first terminal passes, if there is one
abbrev pub Starts : (Terminal → Bool) → Tokens → Type 0
Starts test [] = ⊤
Starts test (x # i ∷ ts) = test x ≡ true

-- the first terminal; at the end, one that no production begins with
abbrev pub first_terminal : Tokens → Terminal
first_terminal [] = other
first_terminal (x # i ∷ ts) = x

-- any tokens, and none
abbrev pub Anything : Tokens → Type 0
Anything ts = ⊤

-- no annotation begins with the terminal
abbrev pub no_bracket : Terminal → Bool
no_bracket left_bracket = false
no_bracket x = true

abbrev pub no_follow : Terminal → Bool
no_follow follow = false
no_follow x = true

abbrev pub no_tilde : Terminal → Bool
no_tilde tilde = false
no_tilde x = true

abbrev pub no_brace : Terminal → Bool
no_brace left_brace = false
no_brace x = true

-- the terminal may stand behind a name in a name class
abbrev pub behind_name : Terminal → Bool
behind_name follow = false
behind_name minus = false
behind_name x = true

abbrev pub behind_class : Terminal → Bool
behind_class (operator o) = false
behind_class x = behind_name x

-- the terminal may stand behind the core of a primary
abbrev pub behind_core : Terminal → Bool
behind_core tilde = false
behind_core (segment s) = false
behind_core left_brace = false
behind_core x = true

abbrev pub behind_primary : Terminal → Bool
behind_primary follow = false
behind_primary tilde = false
behind_primary (segment s) = false
behind_primary left_brace = false
behind_primary minus = false
behind_primary x = true

abbrev pub behind_operand : Terminal → Bool
behind_operand (postfix s) = false
behind_operand x = behind_primary x

abbrev pub behind_pattern : Terminal → Bool
behind_pattern (operator o) = false
behind_pattern x = behind_operand x

-- the terminal may stand behind declarations and behind an item
abbrev pub behind_item : Terminal → Bool
behind_item (ident n) = true
behind_item (prefixed n l) = true
behind_item (keyword k.Start) = true
behind_item (keyword k.Div) = true
behind_item (keyword k.Include) = true
behind_item (keyword k.Grammar) = true
behind_item left_bracket = true
behind_item right_brace = true
behind_item x = false

-- the terminal may stand behind items
abbrev pub is_end : Terminal → Bool
is_end right_brace = true
is_end x = false

abbrev pub no_inherit : Terminal → Bool
no_inherit (keyword k.Inherit) = false
no_inherit x = true

abbrev pub no_declaration : Terminal → Bool
no_declaration (keyword k.Namespace) = false
no_declaration (keyword k.Default) = false
no_declaration (keyword k.Datatypes) = false
no_declaration x = true

-- a datatype begins with the terminal
abbrev pub begins_datatype : Terminal → Bool
begins_datatype (prefixed n l) = true
begins_datatype (keyword k.String) = true
begins_datatype (keyword k.Token) = true
begins_datatype x = false

-- `*`, or a name before `:*`, begins with the terminal
abbrev pub begins_any : Terminal → Bool
begins_any (postfix p.Star) = true
begins_any (any_of n) = true
begins_any x = false

abbrev pub no_word : Terminal → Bool
no_word (ident n) = false
no_word (keyword w) = false
no_word x = true

abbrev pub begins_declaration : Terminal → Bool
begins_declaration (keyword k.Namespace) = true
begins_declaration (keyword k.Default) = true
begins_declaration (keyword k.Datatypes) = true
begins_declaration x = false
