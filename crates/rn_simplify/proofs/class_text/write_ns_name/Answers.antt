use Rattle.rn_simplify.specs.Spelling.{namespace_prefix}
use Rattle.rn_simplify.specs.inside.Writes.{prefixes_view}
use Rattle.rn_simplify.proofs.Texts.PartTexts.{writes_any_of}
use Rattle.rn_simplify.proofs.class_text.write_ns_name.Goals as goal

pub returns : goal.returns
returns c = writes_any_of (namespace_prefix (prefixes_view c.args.prefixes.now) c.args.uri.now) c.write_namespace.ensures c.put.ensures
