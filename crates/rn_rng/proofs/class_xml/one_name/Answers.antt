use Rattle.std.proofs.Common.{refl, ap, ◌∙◌, rules}
use Rattle.rn_syntax.specs.Tree as tree
use Rattle.rn_syntax.specs.View.{class_view, name_view}
use Rattle.rn_rng.proofs.Views.{view-Local, view-Prefixed}
use Rattle.rn_rng.proofs.class_xml.one_name.Goals as goal

pub returns-in-Local : goal.returns-in-Local
returns-in-Local c = (tree.local c.in-Local.local.now, ap class_view c.in-Local.is ∙ view-Local c.in-Local.local, refl, refl)

pub returns-in-Prefixed : goal.returns-in-Prefixed
returns-in-Prefixed c = (name_view c.in-Prefixed.name.value, ap class_view c.in-Prefixed.is ∙ view-Prefixed c.in-Prefixed.name, search rules, search rules)
