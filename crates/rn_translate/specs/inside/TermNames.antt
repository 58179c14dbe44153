-- The names in a term.
use Rattle.std.specs.Prelude.{Bool, true}
use Rattle.std.specs.Str.{chars}
use Rattle.rn_text.specs.Characters.{is_ncname}
use Rattle.rn_translate.specs.declared.terms.Term.{Term}
use Rattle.rn_translate.specs.declared.terms.Term.TheVariants as t

-- each name in the term is one, without a colon
abbrev pub has_names : Term → Bool
has_names (t.Identifier name) = is_ncname (chars name.now)
has_names (t.Local name) = is_ncname (chars name.now)
has_names (t.Named uri name) = is_ncname (chars name.now)
has_names (t.Datatype uri name) = is_ncname (chars name.now)
has_names _ = true
