-- Where none is in it, it ends behind itself.
use Rattle.std.proofs.Common.{◌≡◌, Bor, Some, None}
use Rattle.std.specs.Prelude.{Option, IfNone, option_map}
use Rattle.rn_xml.specs.declared.document.XmlElement.{XmlElement}
use Rattle.rn_translate.proofs.ChildCounts.{none_counted, none_left}
use Rattle.rn_translate.proofs.document_parts.element_inside.Goals as goal

if_none : {P : Type 0} (o : Option (Bor XmlElement)) (found : Option XmlElement) → option_map (λ (x : Bor XmlElement). x.now) o ≡ found → (None ≡ found → P) → IfNone o P
if_none None found is so = so is
if_none (Some x) found is so = tt

pub returns : goal.returns
returns c = λ t after k are. if_none c.child_at.result _ c.child_at.ensures.child (none_left (none_counted are))
