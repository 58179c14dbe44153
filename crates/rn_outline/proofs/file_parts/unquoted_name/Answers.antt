use Rattle.std.proofs.Common.{Some, None, sym, ap, arith}
use Rattle.std.proofs.lemmas.Str.Pattern.{strip_prefix_char}
use Rattle.rn_outline.specs.TokenNames.{unquoted_name}
use Rattle.rn_outline.proofs.Backslashes.{unquoted_none}
use Rattle.rn_outline.proofs.file_parts.unquoted_name.Goals as goal

pub returns-in-Some : goal.returns-in-Some
returns-in-Some c = sym (ap unquoted_name (strip_prefix_char 92 c.args.token.now (Some c.in-Some.name) c.in-Some.ensures.cases (omega arith)))

pub returns : goal.returns
returns c = unquoted_none c.args.token.now (strip_prefix_char 92 c.args.token.now None c.in_default.ensures.cases (omega arith))
